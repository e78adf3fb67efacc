-- Refusal 3 of a paged call, by the lists and then by the marks. Assumes nothing.
--   are_marked   no mark is above 2, and no listed page is without one
use mathlib.Core.Path.{◌≡◌, sym, ◌∙◌}
use mathlib.Core.Bool.{Bool, true, false, ◌&&◌, not}
use Prim.Native.Nat.{ℕ, ◌<◌}
use borrow.Author.Tests.{not-true, eq-eqb, ne_eqb}
use lib.ListN.{length}
use Rattle.std.specs.Prelude.{Err}
use Rattle.error.specs.declared.Refusal.TheVariants.{Page, NotAList}
use Rattle.error.proofs.OutcomeLaws.{first_holds, first_passes}
use Rattle.free_lists.specs.declared.calls.Which.{Which}
use Rattle.free_lists.specs.declared.calls.Which.TheVariants.{Metadata, Raw, Unclassified}
use Rattle.free_lists.specs.Lists.{regions_of, are_lists}
use Rattle.paged_lists.specs.Pages.{marks_fit, pages_fit}
use Rattle.paged_lists.specs.PagedCalls.{PagedLists, unsound}
use Rattle.paged_calls.specs.Decisions.{end_fits, ReachesAll, SoundTested}

module _ (page : ℕ) (s : PagedLists) where
  abbrev pub are_marked : Bool
  are_marked =
      let fit : Which → Bool = λ i. pages_fit page (length s.marks) (regions_of (s.lists i)) in
      marks_fit s.marks && (fit Metadata && (fit Raw && fit Unclassified))

  pub no_lists : not (are_lists s.lists) ≡ true → unsound page s ≡ true
  no_lists h = rw (not-true (are_lists s.lists) h)

  pub not-marked : are_lists s.lists ≡ true → are_marked ≡ false → unsound page s ≡ true
  not-marked ok m = rw (ok, m)

  pub lists-marked : are_lists s.lists ≡ true → are_marked ≡ true → unsound page s ≡ false
  lists-marked ok m = rw (ok, m)

  pub sound-page : page ≡ 0 → SoundTested page s (Err Page)
  sound-page z cs x = first_holds _ _ _ _ (eq-eqb page 0 z)

  pub sound-not : (page ≡ 0 → ⊥) → unsound page s ≡ true → SoundTested page s (Err NotAList)
  sound-not n u cs x = first_passes _ _ _ _ (ne_eqb page 0 n) ∙ first_holds _ _ _ _ u

  -- by the flags of the code, of the marks and of the highest end
  module _ {b : Bool} (marks : b ≡ marks_fit s.marks) where
    pub wrong_mark : b ≡ false → are_marked ≡ false
    wrong_mark h = rw (sym marks ∙ h)

    module _ (fine : b ≡ true) {t : Bool} (e : ℕ) (reaches : ReachesAll e s.lists) (pos : 0 < page) (pages : t ≡ end_fits page (length s.marks) e) where
      pub no_mark : t ≡ false → are_marked ≡ false
      no_mark h = rw (sym marks ∙ fine) (sym (reaches page (length s.marks) pos) ∙ sym pages ∙ h)

      pub all-marks : t ≡ true → are_marked ≡ true
      all-marks h = rw (sym marks ∙ fine) (sym (reaches page (length s.marks) pos) ∙ sym pages ∙ h)
