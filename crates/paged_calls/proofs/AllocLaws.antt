-- A paged `alloc` at each of its ends, and what the tests of the code tell. Assumes nothing.
--   body      what comes after the tests
--   Decides   a decision on one of three lists that are given together
use mathlib.Core.Path.{◌≡◌, sym, ap, ◌∙◌, subst}
use mathlib.Core.Bool.{true, false, cond, not}
use mathlib.Core.List.{[], ◌∷◌}
use Prim.Native.Nat.{ℕ, ◌≤◌}
use native.Mathlib.Omega.{arith}
use borrow.Author.Tests.{eq-eqb, ne_eqb}
use lib.Dec.{eqb, ltb}
use Rattle.std.specs.Prelude.{Ok, Err}
use Rattle.free_space.specs.Splices.{Decision}
use Rattle.error.specs.declared.Refusal.{Refusal}
use Rattle.error.specs.declared.Refusal.TheVariants.{Overflow, SharedAddress}
use Rattle.error.specs.Outcome.{Outcome, answer, nothing, refused, when, first_of}
use Rattle.error.proofs.OutcomeLaws.{first_holds, first_passes, first_pass, first_answers, first-append, first_refuses}
use Rattle.fields.specs.Ranges.{top, first_multiple, aligned_up}
use Rattle.fields.proofs.RangeLaws.{first_ge}
use Rattle.free_space.specs.Decisions.{Gives}
use Rattle.free_lists.specs.declared.calls.Which.{Which}
use Rattle.free_lists.specs.Lists.{Lists, regions_in, are_lists, shared_byte, apart}
use Rattle.free_lists.specs.Decided.{allocated_together}
use Rattle.paged_lists.specs.declared.PageType.{PageType}
use Rattle.paged_lists.specs.declared.PageType.TheVariants.{Meta}
use Rattle.paged_lists.specs.Kinds.{list_of}
use Rattle.paged_lists.specs.PagedCalls.{PagedLists, Made, unsound, paged_alloc}
use Rattle.paged_calls.specs.Decisions.{SoundTested, Serves, served, AllocPast}
use Rattle.paged_calls.proofs.NumberLaws.{each-list}

-- ---- the ends of the call

module _ (page : ℕ) (k : PageType) (len : ℕ) (s : PagedLists) where
  module _ (n : page ≡ 0 → ⊥) where
    module _ (sound : unsound page s ≡ false) where
      abbrev body : Outcome Made
      body = cond (eqb len 0) nothing (served page k len (first_multiple len page) s)

      -- refusals 4 and 5 are left
      past : paged_alloc page k len s
          ≡ first_of (when (ltb top (first_multiple len page)) Overflow ∷ []) (first_of (when (shared_byte (regions_in s.lists)) SharedAddress ∷ []) body)
      unfolding paged_alloc
      past =
          first_passes _ _ _ _ (ne_eqb page 0 n) ∙ first_passes _ _ _ _ sound
          ∙ first-append (when (ltb top (first_multiple len page)) Overflow ∷ []) (when (shared_byte (regions_in s.lists)) SharedAddress ∷ []) body

      rounded : aligned_up len page ≡ first_of (when (ltb top (first_multiple len page)) Overflow ∷ []) (answer (first_multiple len page))
      unfolding aligned_up
      rounded = first_passes _ _ _ _ (ne_eqb page 0 n)

      pub alloc-over : (r : Refusal) → refused r ≡ aligned_up len page → paged_alloc page k len s ≡ refused r
      alloc-over r e = past ∙ sym (first_refuses _ (first_multiple len page) r _ (e ∙ rounded))

      module _ (w : ℕ) (e : answer w ≡ aligned_up len page) where
        width : first_multiple len page ≡ w
        width = (first_answers _ _ _ (sym (e ∙ rounded))).1

        fitting : paged_alloc page k len s ≡ first_of (when (shared_byte (regions_in s.lists)) SharedAddress ∷ []) body
        fitting = past ∙ first_pass _ _ (first_answers _ _ _ (sym (e ∙ rounded))).0

        pub alloc-wide : len ≤ w
        alloc-wide = omega (arith, width, first_ge len page (omega arith))

        pub alloc-shared : shared_byte (regions_in s.lists) ≡ true → paged_alloc page k len s ≡ refused SharedAddress
        alloc-shared h = fitting ∙ first_holds _ _ _ _ h

        module _ (fresh : shared_byte (regions_in s.lists) ≡ false) where
          tested : paged_alloc page k len s ≡ body
          tested = fitting ∙ first_pass _ _ (fresh, tt)

          pub alloc-none : len ≡ 0 → paged_alloc page k len s ≡ nothing
          alloc-none z = tested ∙ rw (eq-eqb len 0 z)

          pub alloc-served : (len ≡ 0 → ⊥) → paged_alloc page k len s ≡ served page k len w s
          alloc-served z = tested ∙ rw (ne_eqb len 0 z) (ap (λ (x : ℕ). served page k len x s) width)

-- ---- what the tests of the code tell

module _ (page len : ℕ) (s : PagedLists) where
  pub test_unsound : (r : Refusal) → SoundTested page s (Err r) → (k : PageType) → paged_alloc page k len s ≡ refused r
  unfolding paged_alloc
  test_unsound r t k = t _ _

  module _ (sound : SoundTested page s (Ok tt)) where
    pub test_over : (r : Refusal) → refused r ≡ aligned_up len page → (k : PageType) → paged_alloc page k len s ≡ refused r
    test_over r e k = alloc-over page k len s sound.0 sound.2 r e

    module _ (w : ℕ) (e : answer w ≡ aligned_up len page) where
      pub test_shared : shared_byte (regions_in s.lists) ≡ true → (k : PageType) → paged_alloc page k len s ≡ refused SharedAddress
      test_shared h k = alloc-shared page k len s sound.0 sound.2 w e h

      pub test_past : shared_byte (regions_in s.lists) ≡ false → AllocPast page len s w
      test_past fresh = record {
        wide = alloc-wide page Meta len s sound.0 sound.2 w e;
        are_lists = sound.1;
        apart = fresh;
        none = λ k. alloc-none page k len s sound.0 sound.2 w e fresh;
        some = λ k. alloc-served page k len s sound.0 sound.2 w e fresh;
      }

-- ---- past refusals 3 and 5 a decision on one of the lists is that of its list alone

module _ (page : ℕ) (k : PageType) (len : ℕ) (ls : Lists) (own : Decision) where
  abbrev Decides : Which → ℕ → Type 0
  Decides i n = Gives (ls i).run (ls i).list (allocated_together ls i n) own

  pub alloc_serves : (i : Which) (n : ℕ) → i ≡ list_of k → n ≡ cond (ltb len page) len 0 → Decides i n → are_lists ls ≡ true → shared_byte (regions_in ls) ≡ false
      → Serves page k len own ls
  unfolding allocated_together
  alloc_serves i n e f g ok fresh =
      let h : Decides (list_of k) (cond (ltb len page) len 0) = subst (Decides (list_of k)) f (subst (λ (j : Which). Decides j n) e g) in
      ((h.0 ∙ first_pass (apart ls) _ (ap not ok, (fresh, tt)), h.1), each-list ls (list_of k) ok)
