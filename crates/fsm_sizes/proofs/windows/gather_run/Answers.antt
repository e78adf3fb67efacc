use Rattle.std.proofs.Common.{◌+◌, ltb, refl, ap, ◌∙◌, arith}
use Rattle.fsm_sections.specs.RunSteps.{rows_left}
use Rattle.fsm_sizes.proofs.NoteLaws.{of_one, stands_alike, stands_then, stands-over-by}
use Rattle.fsm_sizes.proofs.SourceSizesLaws.{seen_none, seen_row, seen_all}
use Rattle.fsm_sizes.proofs.windows.gather_run.Goals as goal

pub loop-r-init : goal.loop-r-init
loop-r-init c =
    ((λ x. 0), seen_none _ c.into_iter-r-iterator.result (ap rows_left c.into_iter-r-iterator.ensures.into_iter_gives ∙ c.new-r-items.ensures), c.requires.room.2, c.requires.stands)

pub note-requires : goal.note-requires
note-requires c =
    let i = c.loop-r.invariant in
    let t = i.3 in
    record { room = (t.room, omega (arith, i.2, t.same), c.requires.room.1); table = t.table i.2 }

pub returns-in_err-found : goal.returns-in_err-found
returns-in_err-found c =
    let a = c.args in
    let i = c.loop-r.invariant in
    let r = c.in-Some.r in
    rw c.from_residual.ensures (stands-over-by a.w.from a.w.reach _ _ _ _ _ _ _ _ i.3 i.2 (of_one r.size r.count) _ _ _ c.in_err-found.ensures)

pub loop-r-preserved : goal.loop-r-preserved
loop-r-preserved c =
    let a = c.args in
    let i = c.loop-r.invariant in
    let r = c.in-Some.r in
    let e = c.in_ok-found.ensures in (
      (λ x. i.0 x + of_one r.size r.count x),
      seen_row _ c.loop-r.r-iterator c.next.new.self i.0 i.1 r c.in-Some.ensures.steps,
      omega (arith, e.0, i.3.same),
      stands_then a.w.from a.w.reach _ _ _ _ _ _ _ _ i.3 i.2 (of_one r.size r.count) _ _ _ _ e.1 (λ x. refl),
    )

pub returns : goal.returns
returns c =
    let a = c.args in
    let i = c.loop-r.invariant in
    (i.2, stands_alike a.w.from a.w.reach _ _ _ _ _ _ _ _ i.3 (λ x. ap (ltb 0) (seen_all _ c.loop-r.r-iterator c.next.new.self i.0 i.1 c.in-None.ensures.steps x)))
