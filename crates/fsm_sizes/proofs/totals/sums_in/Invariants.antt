use Rattle.std.proofs.Common.{◌≡◌, ◌+◌, ◌≤◌, length}
use Rattle.fields.specs.Ranges.{top}
use Rattle.fsm_sections.specs.Sections.{decode, space}
use Rattle.fsm_sections.specs.RunSteps.{regions_left}
use Rattle.fsm_sizes.proofs.TotalLaws.{sections}
use Rattle.fsm_sizes.proofs.totals.sums_in.Given as goal

abbrev pub invariant-loop-region : goal.invariant-loop-region
invariant-loop-region l =
    let all = sections l.part l.page (decode l.count l.run) in
    let more = sections l.part l.page (regions_left l.region-iterator) in
    (l.n + length more ≡ l.initial.n + length all) × (l.sum + space more ≡ l.initial.sum + space all) × (l.n ≤ top) × (l.sum ≤ top)
