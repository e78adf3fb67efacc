use Rattle.std.proofs.Common.{List, ap, ◌∙◌}
use Rattle.fsm_sections.specs.declared.FreeSection.{FreeSection}
use Rattle.fsm_sections.specs.Pages.{split}
use Rattle.fsm_sections.specs.Runs.{ends_above, any_wide}
use Rattle.fsm_sections.specs.RunSteps.{regions_left}
use Rattle.fsm_sections.proofs.RunLaws.{fits-first}
use Rattle.fsm_plan.proofs.AllPiecesLaws.{any_wide-found, any_wide_step, any_wide-end}
use Rattle.fsm_plan.proofs.pieces.wide_pieces.Goals as goal

pub loop-region-init : goal.loop-region-init
loop-region-init c =
    let a = c.args in
    let e = ap regions_left c.into_iter-region-iterator.ensures.into_iter_gives ∙ c.new-region-items.ensures in
    (ap ends_above e ∙ c.requires.fits, ap (λ (l : List FreeSection). any_wide a.o (split a.page l)) e)

pub wide_piece-requires : goal.wide_piece-requires
wide_piece-requires c = (c.requires.page, (fits-first _ _ _ c.in-Some.ensures.steps c.loop-region.invariant.0).0)

pub returns-then-wide_piece : goal.returns-then-wide_piece
returns-then-wide_piece c =
    let a = c.args in
    any_wide-found a.page a.o _ _ c.loop-region.invariant.1 _ _ c.in-Some.ensures.steps _ c.wide_piece.ensures c.if-wide_piece.true

pub loop-region-preserved : goal.loop-region-preserved
loop-region-preserved c =
    let a = c.args in
    let l = c.loop-region in
    let e = c.in-Some.ensures.steps in
    ((fits-first _ _ _ e l.invariant.0).1, any_wide_step a.page a.o _ _ l.invariant.1 _ _ e _ c.wide_piece.ensures c.if-wide_piece.false)

pub returns : goal.returns
returns c = let a = c.args in any_wide-end a.page a.o _ _ c.loop-region.invariant.1 c.in-None.ensures.steps.0
