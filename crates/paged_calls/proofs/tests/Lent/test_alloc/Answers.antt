use mathlib.Core.Path.{refl, sym, ap, ◌∙◌}
use mathlib.Core.Bool.{not}
use Rattle.std.proofs.lemmas.Result.{err_from_is_err_and}
use Rattle.paged_calls.proofs.NumberLaws.{compared}
use Rattle.paged_calls.proofs.AllocLaws.{test_unsound, test_over, test_shared, test_past}
use Rattle.paged_calls.proofs.tests.Lent.test_alloc.Goals as goal

pub returns-in_err-test_sound : goal.returns-in_err-test_sound
returns-in_err-test_sound c =
    let p = err_from_is_err_and c.from_residual.result c.from_residual.ensures.1 in
    rw (p.1, p.2) (test_unsound _ _ _ _ c.in_err-test_sound.ensures)

pub returns-in_err-width : goal.returns-in_err-width
returns-in_err-width c =
    let p = err_from_is_err_and c.from_residual-in_err-width.result c.from_residual-in_err-width.ensures.1 in
    rw (p.1, p.2) (test_over _ _ _ c.in_ok-test_sound.ensures _ c.in_err-width.ensures)

pub returns-then-eq : goal.returns-then-eq
returns-then-eq c =
    let sound = c.in_ok-test_sound.ensures in
    test_shared _ _ _ sound _ c.in_ok-width.ensures (sym (c.if-eq.ensures ∙ (compared _).2 ∙ c.requires.is_five (ap not sound.1) refl))

pub returns : goal.returns
returns c =
    let sound = c.in_ok-test_sound.ensures in
    test_past _ _ _ sound _ c.in_ok-width.ensures (sym (c.if-eq.ensures ∙ (compared _).2 ∙ c.requires.is_five (ap not sound.1) refl))
