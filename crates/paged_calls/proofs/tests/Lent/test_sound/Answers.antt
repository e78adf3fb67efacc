use mathlib.Core.Path.{sym, ◌∙◌}
use native.Mathlib.Omega.{arith}
use borrow.Author.Tests.{not-false}
use Rattle.free_lists.specs.Lists.{are_lists}
use Rattle.paged_calls.specs.Decisions.{state_of}
use Rattle.paged_calls.proofs.NumberLaws.{compared}
use Rattle.paged_calls.proofs.SoundLaws.{no_lists, not-marked, lists-marked, wrong_mark, no_mark, all-marks, sound-page, sound-not}
use Rattle.paged_calls.proofs.tests.Lent.test_sound.Goals as goal

pub returns-then-page-eq0 : goal.returns-then-page-eq0
returns-then-page-eq0 c =
    let a = c.args in
    sound-page a.page (state_of a.self.now) c.if-page-eq0.true

pub returns-then-eq : goal.returns-then-eq
returns-then-eq c =
    let a = c.args in
    let s = state_of a.self.now in
    sound-not a.page s c.if-page-eq0.false (no_lists a.page s (sym (c.if-eq.ensures ∙ (compared _).0 ∙ c.requires)))

pub returns-then-not-marks_fit : goal.returns-then-not-marks_fit
returns-then-not-marks_fit c =
    let a = c.args in
    let s = state_of a.self.now in
    let ok = not-false (are_lists s.lists) (sym (c.if-eq.ensures ∙ (compared _).0 ∙ c.requires)) in
    sound-not a.page s c.if-page-eq0.false (not-marked a.page s ok (wrong_mark a.page s c.marks_fit.ensures c.if-not-marks_fit.true))

pub highest_end-end-requires : goal.highest_end-end-requires
highest_end-end-requires c = not-false _ (sym (c.if-eq.ensures ∙ (compared _).0 ∙ c.requires))

pub returns-then-not-has_mark : goal.returns-then-not-has_mark
returns-then-not-has_mark c =
    let a = c.args in
    let s = state_of a.self.now in
    let ok = not-false (are_lists s.lists) (sym (c.if-eq.ensures ∙ (compared _).0 ∙ c.requires)) in
    sound-not a.page s c.if-page-eq0.false (not-marked a.page s ok
    (no_mark a.page s c.marks_fit.ensures c.if-not-marks_fit.false c.highest_end-end.result c.highest_end-end.ensures (omega (arith, c.if-page-eq0.false)) c.has_mark.ensures c.if-not-has_mark.true))

pub returns : goal.returns
returns c =
    let a = c.args in
    let s = state_of a.self.now in
    let ok = not-false (are_lists s.lists) (sym (c.if-eq.ensures ∙ (compared _).0 ∙ c.requires)) in (
      c.if-page-eq0.false,
      ok,
      lists-marked a.page s ok
          (all-marks a.page s c.marks_fit.ensures c.if-not-marks_fit.false c.highest_end-end.result c.highest_end-end.ensures (omega (arith, c.if-page-eq0.false)) c.has_mark.ensures c.if-not-has_mark.false),
    )
