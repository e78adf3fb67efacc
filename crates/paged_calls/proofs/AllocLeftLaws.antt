-- A paged `alloc` by what its tests told, and what giving out by the decision of the code leaves, in three lists. Assumes nothing.
use mathlib.Core.Path.{◌≡◌, refl, sym, ap, ◌∙◌, subst}
use mathlib.Core.Bool.{cond}
use mathlib.Core.List.{List}
use Prim.Native.Nat.{ℕ}
use lib.Dec.{ltb}
use Rattle.std.specs.Prelude.{Some, None, Result, Ok, Err}
use Rattle.free_space.specs.Splices.{Decision}
use Rattle.error.specs.declared.Refusal.{Refusal}
use Rattle.error.specs.Outcome.{Outcome, refused}
use Rattle.error.specs.Lent.{Left, left}
use Rattle.free_space.specs.declared.decide.Replacement.{Replacement}
use Rattle.free_space.specs.Decisions.{Gives}
use Rattle.free_lists.specs.declared.calls.Which.{Which}
use Rattle.free_lists.specs.Decided.{allocated_together}
use Rattle.paged_lists.specs.declared.PageType.{PageType}
use Rattle.paged_lists.specs.declared.PagedCall.TheVariants.{Alloc}
use Rattle.paged_lists.specs.Kinds.{list_of}
use Rattle.paged_lists.specs.PagedCalls.{PagedLists, Made, new_pages, performed}
use Rattle.paged_calls.specs.Decisions.{Own, stands_for, effect_of, Serves, AllocPast, AllocTested}
use Rattle.paged_calls.proofs.LeftLaws.{stands-refused}
use Rattle.paged_calls.proofs.DrawLaws.{serve-own, serve-refused, serve_new}
use Rattle.paged_calls.proofs.AllocLaws.{alloc_serves}

module _ (page : ℕ) (k : PageType) (len : ℕ) (s : PagedLists) (t : (Result ℕ Refusal)) (told : AllocTested page len s t) where
  -- past the tests
  module _ (w : ℕ) (is : t ≡ Ok w) where
    pub alloc-past : AllocPast page len s w
    alloc-past = subst (AllocTested page len s) is told

    -- by the decision on the kind's list, which is the i-th; n bytes were asked of it
    module _ (some : len ≡ 0 → ⊥) (i : Which) (which : i ≡ list_of k) (n : ℕ) (asked : n ≡ cond (ltb len page) len 0) (own : Decision)
        (gives : Gives (s.lists i).run (s.lists i).list (allocated_together s.lists i n) own) where
      serves : Serves page k len own s.lists
      serves = alloc_serves page k len s.lists own i n which asked gives alloc-past.are_lists alloc-past.apart

      abbrev Leaves : Left (List ℕ) PagedLists → Type 0
      Leaves x = x ≡ performed page (Alloc k len) s

      pub own-refused : (r : Refusal) → own ≡ Err r → Leaves (left (refused r) s)
      own-refused r e =
          sym (stands-refused (Alloc k len) s r refl) ∙ serve-refused page k len w s.lists own serves r e s.marks
          ∙ sym (ap (λ (o : Outcome Made). effect_of (Alloc k len) o s) (alloc-past.some k some))

      pub own-none : own ≡ (Ok None) → {x : Left (List ℕ) PagedLists} → x ≡ effect_of (Alloc k len) (new_pages page k len w s) s → Leaves x
      own-none e h = h ∙ ap (λ (o : Outcome Made). effect_of (Alloc k len) o s) (serve_new page k len w s.lists own serves e s.marks ∙ sym (alloc-past.some k some))

      pub own-taken : (c : Replacement) → own ≡ Ok (Some c) → {x : Left (List ℕ) PagedLists}
          → x ≡ stands_for (Alloc k 0) (Own c.addr own) s → Leaves x
      own-taken c e h =
          h ∙ ap (λ (d : Decision). stands_for (Alloc k len) (Own c.addr d) s) e ∙ serve-own page k len w s.lists own serves c e s.marks ∙ sym (ap (λ (o : Outcome Made). effect_of (Alloc k len) o s) (alloc-past.some k some))
