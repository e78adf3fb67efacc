-- A paged `free` by its tests: each refusal where those before it do not hold, and what comes after them. Assumes nothing.
use mathlib.Core.Path.{◌≡◌, sym, ap, ap₂, ◌∙◌, subst, subst⁻¹}
use mathlib.Core.Bool.{Bool, true, false, cond, not}
use mathlib.Core.List.{List}
use Prim.Native.Nat.{ℕ, suc, ◌+◌, ◌-◌, ◌/◌}
use native.Mathlib.Numerals.{add-one}
use borrow.Author.Tests.{eq-eqb, ne_eqb}
use lib.Dec.{ltb, eqb}
use Rattle.std.specs.Prelude.{Ok, Err}
use Rattle.free_space.specs.Splices.{Decision}
use Rattle.error.specs.declared.Refusal.{Refusal}
use Rattle.error.specs.declared.Refusal.TheVariants.{Overflow, SharedAddress, OtherKind}
use Rattle.error.specs.Outcome.{Outcome, nothing, refused}
use Rattle.error.specs.Lent.{Left}
use Rattle.error.proofs.OutcomeLaws.{first_holds, first_passes, first_pass}
use Rattle.fields.specs.Ranges.{top}
use Rattle.free_space.specs.Calls.{freed}
use Rattle.free_space.specs.Decisions.{Keeps, Folds}
use Rattle.free_lists.specs.declared.calls.Which.{Which}
use Rattle.free_lists.specs.Lists.{are_lists}
use Rattle.free_lists.specs.Decided.{freed_together}
use Rattle.paged_lists.specs.declared.PageType.{PageType}
use Rattle.paged_lists.specs.declared.PagedCall.TheVariants.{Free}
use Rattle.paged_lists.specs.Kinds.{mark_of, list_of}
use Rattle.paged_lists.specs.Pages.{last_page, all_marked, other_kind}
use Rattle.paged_lists.specs.PagedCalls.{PagedLists, Made, unsound, paged_free, performed}
use Rattle.paged_calls.specs.declared.free_pages.Freed.{Freed}
use Rattle.paged_calls.specs.Decisions.{effect_of, SoundTested, is_shared, FreePast, Ranged, Joins, rejoined}

module _ (page a len : ℕ) (s : PagedLists) where
  -- ---- the tests, in the order of the refusals

  module _ (k : PageType) where
    module _ (p : eqb page 0 ≡ false) where
      module _ (u : unsound page s ≡ false) where
        is-over : ltb top (a + len) ≡ true → paged_free page k a len s ≡ refused Overflow
        unfolding paged_free
        is-over t = first_passes _ _ _ _ p ∙ first_passes _ _ _ _ u ∙ first_holds _ _ _ _ t

        module _ (o : ltb top (a + len) ≡ false) where
          is-shared : is_shared a len s.lists ≡ true → paged_free page k a len s ≡ refused SharedAddress
          unfolding paged_free
          is-shared t = first_passes _ _ _ _ p ∙ first_passes _ _ _ _ u ∙ first_passes _ _ _ _ o ∙ first_holds _ _ _ _ t

          module _ (h : is_shared a len s.lists ≡ false) where
            is-other : other_kind page (mark_of k) a len s.marks ≡ true → paged_free page k a len s ≡ refused OtherKind
            unfolding paged_free
            is-other t = first_passes _ _ _ _ p ∙ first_passes _ _ _ _ u ∙ first_passes _ _ _ _ o ∙ first_passes _ _ _ _ h ∙ first_holds _ _ _ _ t

            is-past : other_kind page (mark_of k) a len s.marks ≡ false → (z : Bool) → eqb len 0 ≡ z → paged_free page k a len s ≡ cond z nothing (rejoined page k a len s)
            unfolding paged_free
            is-past t z e = first_pass _ _ (p, (u, (o, (h, (t, tt))))) ∙ ap (λ (z : Bool). cond z nothing (rejoined page k a len s)) e

  -- ---- what the tests of the code tell

  pub free-unsound : (r : Refusal) → SoundTested page s (Err r) → (k : PageType) → paged_free page k a len s ≡ refused r
  unfolding paged_free
  free-unsound r t k = t _ _

  module _ (sound : SoundTested page s (Ok tt)) where
    p : eqb page 0 ≡ false
    p = ne_eqb page 0 sound.0

    pub free-over : ltb top (a + len) ≡ true → (k : PageType) → paged_free page k a len s ≡ refused Overflow
    free-over o k = is-over k p sound.2 o

    module _ (o : ltb top (a + len) ≡ false) where
      pub free-shared : is_shared a len s.lists ≡ true → (k : PageType) → paged_free page k a len s ≡ refused SharedAddress
      free-shared h k = is-shared k p sound.2 o h

      pub free-past : is_shared a len s.lists ≡ false → FreePast page a len s
      free-past h = record { page_some = sound.0; are_lists = sound.1; sound = sound.2; fits = o; apart = h }

  -- ---- past them

  module _ (q : FreePast page a len s) (k : PageType) where
    some-page : eqb page 0 ≡ false
    some-page = ne_eqb page 0 q.page_some

    pub free-none : len ≡ 0 → paged_free page k a len s ≡ nothing
    free-none e =
        let z : eqb len 0 ≡ true = eq-eqb len 0 e in
        is-past k some-page q.sound q.fits q.apart
        (ap (λ (t : Bool). cond t false (not (all_marked (mark_of k) (suc (last_page page a len - a / page)) (a / page) s.marks))) z) true z

    -- f is the range with its pages
    module _ (some : len ≡ 0 → ⊥) (f : Freed) (from : f.addr ≡ a) (long : f.len ≡ len) (ranged : Ranged page f) where
      z : eqb len 0 ≡ false
      z = ne_eqb len 0 some

      -- the kind's list is the i-th
      pub free_joins : (i : Which) → i ≡ list_of k → (d : Decision) → Keeps (s.lists i).run (s.lists i).list (freed_together s.lists i a len) d → Folds a len d
          → Joins page f (s.lists (list_of k)) d
      unfolding freed_together
      free_joins i which d keeps folds =
          let at : At f.addr f.len = subst⁻¹ (λ (x : ℕ). At x f.len) from (subst⁻¹ (λ (x : ℕ). At a x) long (subst (λ (j : Which). KeepsAt j a len) which alone, folds)) in
          record { keeps = at.0; folds = at.1; ranged = ranged }
        where
          KeepsAt : Which → ℕ → ℕ → Type 0
          KeepsAt j b n = Keeps (s.lists j).run (s.lists j).list (freed (s.lists j).run (s.lists j).list b n) d

          At : ℕ → ℕ → Type 0
          At b n = KeepsAt (list_of k) b n × Folds b n d

          alone : KeepsAt i a len
          alone = (keeps.0 ∙ first_pass _ _ (ap not q.are_lists, (q.fits, (q.apart, tt))), keeps.1)

      module _ (t : Bool) (tested : t ≡ all_marked (mark_of k) (f.last - f.first + 1) f.first s.marks) where
        other-is : other_kind page (mark_of k) a len s.marks ≡ not t
        other-is =
            ap (λ (x : Bool). cond x false (not (all_marked (mark_of k) (suc (last_page page a len - a / page)) (a / page) s.marks))) z
            ∙ ap not (sym (tested ∙ ap (λ (x : ℕ). all_marked (mark_of k) x f.first s.marks) (add-one (f.last - f.first))
            ∙ ap₂ (λ (x y : ℕ). all_marked (mark_of k) (suc (x - y)) y s.marks)
            (ranged.last-is ∙ ap₂ (λ (x y : ℕ). (x + y - 1) / page) from long) (ranged.first-is ∙ ap (λ (x : ℕ). x / page) from)))

        pub free_other : t ≡ false → paged_free page k a len s ≡ refused OtherKind
        free_other e = is-other k some-page q.sound q.fits q.apart (other-is ∙ ap not e)

        pub free-rejoined : t ≡ true → {x : Left (List ℕ) PagedLists} → x ≡ effect_of (Free k f.addr f.len) (rejoined page k f.addr f.len s) s
            → x ≡ performed page (Free k a len) s
        free-rejoined e h =
            h ∙ ap₂ (λ (b n : ℕ). effect_of (Free k b n) (rejoined page k b n s) s) from long
            ∙ sym (ap (λ (y : Outcome Made). effect_of (Free k a len) y s) (is-past k some-page q.sound q.fits q.apart (other-is ∙ ap not e) false z))
