use Rattle.std.proofs.Common.{◌≡◌, false}
use Rattle.fsm_sections.specs.Sections.{decode}
use Rattle.fsm_sections.specs.Pages.{split}
use Rattle.fsm_sections.specs.Runs.{ends_above, any_wide}
use Rattle.fsm_sections.specs.RunSteps.{regions_left}
use Rattle.fsm_plan.proofs.pieces.wide_pieces.Given as goal

abbrev pub invariant-loop-region : goal.invariant-loop-region
invariant-loop-region l =
    let left = regions_left l.region-iterator in
    (ends_above left ≡ false) × (any_wide l.o (split l.page left) ≡ any_wide l.o (split l.page (decode l.count l.sections)))
