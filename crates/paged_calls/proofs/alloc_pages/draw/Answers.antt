use mathlib.Core.Path.{refl, ap, ◌∙◌}
use native.Mathlib.Omega.{arith}
use Prim.Native.Nat.{◌/◌}
use Rattle.std.specs.Prelude.{Ok, Some}
use Rattle.std.proofs.lemmas.Result.{err_from_is_err_and}
use Rattle.free_lists.specs.Lists.{list_in}
use Rattle.paged_calls.specs.Decisions.{Refused, Nothing, Drawn, carried_in}
use Rattle.paged_calls.proofs.DrawLaws.{draw_refused, draw_nothing, draw_fits, draw_made}
use Rattle.paged_calls.proofs.CarryLaws.{in_list_lem}
use Rattle.paged_calls.proofs.alloc_pages.draw.Goals as goal

pub returns-in_err-drawn : goal.returns-in_err-drawn
returns-in_err-drawn c =
    let p = err_from_is_err_and c.from_residual.result c.from_residual.ensures.1 in
    rw (p.1, p.2) (Refused _, draw_refused _ _ _ _ _ _ c.decide_whole_units-pages.ensures _ c.in_err-drawn.was, refl, (refl, (refl, refl)))

pub returns-in_default : goal.returns-in_default
returns-in_default c =
    (Nothing, draw_nothing _ _ _ _ _ _ c.decide_whole_units-pages.ensures (c.in_ok-drawn.was ∙ ap Ok c.in_default.is), refl, (refl, (refl, refl)))

pub overflow_add-drawn : goal.overflow_add-drawn
overflow_add-drawn c =
    let a = c.args in
    let shared = list_in a.shared.now a.lists.shared in
    let f = draw_fits a.page a.len a.width shared shared _ c.decide_whole_units-pages.ensures _ (c.in_ok-drawn.was ∙ ap Ok c.in-Some.is) in
    let h = c.requires in
    omega arith

pub returns-in_err-rest : goal.returns-in_err-rest
returns-in_err-rest c =
    let p = err_from_is_err_and c.from_residual-in_err-rest.result c.from_residual-in_err-rest.ensures.1 in
    rw (p.1, p.2) (
      Refused _,
      draw_made _ _ _ _ _ _ c.decide_whole_units-pages.ensures _ (c.in_ok-drawn.was ∙ ap Ok c.in-Some.is) c.decide_free-rest.result
          c.decide_free-rest.ensures.decided c.in_err-rest.was,
      refl,
      (refl, (refl, refl)),
    )

pub returns : goal.returns
returns c =
    let a = c.args in
    let g = c.in-Some.drawn in
    let pages = c.in_ok-drawn.was ∙ ap Ok c.in-Some.is in (
      Drawn g.addr (Ok (Some g)) (Ok c.in_ok-rest.field-0) (g.addr / a.page) (a.width / a.page),
      draw_made _ _ _ _ _ _ c.decide_whole_units-pages.ensures _ pages c.decide_free-rest.result c.decide_free-rest.ensures.decided c.in_ok-rest.was,
      refl,
      (
        in_list_lem a.own.now _ a.lists.own _ c.decide_free-rest.result c.carry_out-joined.ensures ∙ ap (carried_in (list_in a.own.now a.lists.own)) c.in_ok-rest.was,
        (
          in_list_lem a.shared.now _ a.lists.shared _ c.decide_whole_units-pages.result c.carry_out-taken.ensures
              ∙ ap (carried_in (list_in a.shared.now a.lists.shared)) pages,
          c.set_marks.ensures ∙ rw (c.quotient.ensures, c.quotient-2.ensures, c.mark_of.ensures) refl,
        ),
      ),
    )
