use mathlib.Core.Path.{sym, ap, ◌∙◌}
use mathlib.Core.Bool.{not}
use Rattle.std.proofs.lemmas.Result.{err_from_is_err_and}
use Rattle.paged_calls.proofs.NumberLaws.{compared}
use Rattle.paged_calls.proofs.FreeLaws.{free-unsound, free-over, free-shared, free-past}
use Rattle.paged_calls.proofs.tests.Lent.test_free.Goals as goal

pub returns-in_err-test_sound : goal.returns-in_err-test_sound
returns-in_err-test_sound c =
    let p = err_from_is_err_and c.from_residual.result c.from_residual.ensures.1 in
    rw (p.1, p.2) (free-unsound _ _ _ _ _ c.in_err-test_sound.ensures)

pub returns-then-eq : goal.returns-then-eq
returns-then-eq c =
    let sound = c.in_ok-test_sound.ensures in
    free-over _ _ _ _ sound (sym (c.if-eq.ensures ∙ (compared _).1 ∙ c.requires.is_four (ap not sound.1)))

pub returns-then-eq-2 : goal.returns-then-eq-2
returns-then-eq-2 c =
    let sound = c.in_ok-test_sound.ensures in
    let fits = sym (c.if-eq.ensures ∙ (compared _).1 ∙ c.requires.is_four (ap not sound.1)) in
    free-shared _ _ _ _ sound fits (sym (c.if-eq-2.ensures ∙ (compared _).2 ∙ c.requires.is_five (ap not sound.1) fits))

pub returns : goal.returns
returns c =
    let sound = c.in_ok-test_sound.ensures in
    let fits = sym (c.if-eq.ensures ∙ (compared _).1 ∙ c.requires.is_four (ap not sound.1)) in
    free-past _ _ _ _ sound fits (sym (c.if-eq-2.ensures ∙ (compared _).2 ∙ c.requires.is_five (ap not sound.1) fits))
