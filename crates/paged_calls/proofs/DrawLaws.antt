-- A paged `alloc` past its tests: from the kind's list, or from whole pages of the shared one. Assumes nothing.
use mathlib.Core.Path.{◌≡◌, refl, sym, ap, ◌∙◌, subst}
use mathlib.Core.Bool.{Bool, true, false, cond}
use mathlib.Core.List.{List, [], ◌∷◌}
use Prim.Native.Nat.{ℕ, ◌+◌, ◌-◌, ◌/◌, ◌≤◌}
use native.Mathlib.Omega.{arith}
use lib.Dec.{ltb}
use Rattle.std.specs.Prelude.{Some, None, Ok, Err}
use Rattle.free_space.specs.Splices.{Decision}
use Rattle.error.specs.declared.Refusal.{Refusal}
use Rattle.error.specs.Outcome.{Outcome, answer, nothing, refuse, refused, and_then, first_of}
use Rattle.fields.specs.Ranges.{top}
use Rattle.free_regions.proofs.OkLaws.{ok_prop}
use Rattle.free_regions.proofs.SetLaws.{free-between}
use Rattle.free_space.specs.declared.list.FreeList.{FreeList}
use Rattle.free_space.specs.declared.decide.Replacement.{Replacement}
use Rattle.free_space.specs.Runs.{is_list}
use Rattle.free_space.specs.Calls.{freed, allocated, allocated_units}
use Rattle.free_space.specs.Decisions.{given_by, Gives, Keeps}
use Rattle.free_space.proofs.ListLaws.{listed}
use Rattle.free_lists.specs.declared.calls.Which.TheVariants.{Unclassified}
use Rattle.free_lists.specs.declared.calls.ListCall.TheVariants.{Free, Alloc, AllocWholeUnits}
use Rattle.free_lists.specs.Lists.{LentList, regions_of, Lists}
use Rattle.free_lists.specs.History.{bytes, on}
use Rattle.free_lists.specs.CallsSay.{UnitsSays}
use Rattle.free_lists.proofs.CallLaws.{units_law}
use Rattle.paged_lists.specs.declared.PageType.{PageType}
use Rattle.paged_lists.specs.declared.PagedCall.TheVariants as call
use Rattle.paged_lists.specs.Kinds.{mark_of, list_of}
use Rattle.paged_lists.specs.Pages.{marked}
use Rattle.paged_lists.specs.PagedCalls.{PagedLists, Made, outcome_of, left_by, or_else, own_bytes, new_pages}
use Rattle.paged_calls.specs.Decisions.{PagedDecision, Refused, Nothing, Own, Drawn, carried_in, stands_for, effect_of, drawn_with, Draws, served, ServedBy, Serves}
use Rattle.paged_calls.proofs.LeftLaws.{stands-refused, stands-nothing, stands-made, own_call, shared_then_own}
use Rattle.paged_calls.proofs.ListDecisionLaws.{gave_as, free_comes_to, alloc_comes_to, units_come_to, free-leaves, alloc-leaves, units_leave}

module _ (page len w : ℕ) (own shared : LentList) where
  -- the shared list refuses, or has nothing
  draws_refused : (r : Refusal) → outcome_of (AllocWholeUnits w page) shared ≡ refused r → Draws page len w own shared (Refused r)
  unfolding new_pages and_then
  draws_refused r e k s i j =
      let n : new_pages page k len w s ≡ refused r = rw (j, e) refl in
      stands-refused (call.Alloc k len) s r n

  draws_nothing : outcome_of (AllocWholeUnits w page) shared ≡ nothing → Draws page len w own shared Nothing
  unfolding new_pages and_then
  draws_nothing e k s i j =
      let n : new_pages page k len w s ≡ nothing = rw (j, e) refl in
      stands-nothing (call.Alloc k len) s n

  -- it gives p
  module _ (p : ℕ) (pages : Decision) (g : Gives shared.run shared.list (allocated_units shared.run shared.list w page) pages)
      (e : outcome_of (AllocWholeUnits w page) shared ≡ answer (bytes p (p + w))) where
    drawn : PageType → PagedLists → Made
    drawn k s = record {
      over = bytes p (p + len);
      calls = on Unclassified (AllocWholeUnits w page) ∷ on (list_of k) (Free (p + len) (w - len)) ∷ [];
      marks = marked (p / page) (w / page) (mark_of k) s.marks;
    }

    by_rest : (rest : Decision) → Keeps own.run own.list (freed own.run own.list (p + len) (w - len)) rest
        → outcome_of (Free (p + len) (w - len)) own ≡ answer (bytes (p + len) (p + len + (w - len)))
        → Draws page len w own shared (Drawn p pages rest (p / page) (w / page))
    unfolding new_pages and_then drawn
    by_rest rest h f k s i j =
        let n : new_pages page k len w s ≡ answer (drawn k s) = rw (j, e, i, f) refl in
        stands-made (call.Alloc k len) s (Drawn p pages rest (p / page) (w / page)) (drawn k s) n refl
        (ap (λ (ls : Lists). record { lists = ls; marks = marked (p / page) (w / page) (mark_of k) s.marks })
        (shared_then_own s.lists k (AllocWholeUnits w page) (Free (p + len) (w - len))
        (ap (λ (l : LentList). carried_in l rest) i ∙ free-leaves own rest (p + len) (w - len) h ∙ ap (left_by (Free (p + len) (w - len))) (sym i))
        (ap (λ (l : LentList). carried_in l pages) j ∙ units_leave shared pages w page g ∙ ap (left_by (AllocWholeUnits w page)) (sym j))))

    draws_made : (rest : Decision) → Keeps own.run own.list (freed own.run own.list (p + len) (w - len)) rest
        → Draws page len w own shared (drawn_with p pages (p / page) (w / page) rest)
    unfolding new_pages and_then
    draws_made (Err r) h = λ k s i j.
        let f : outcome_of (Free (p + len) (w - len)) own ≡ refused r = free_comes_to own (Err r) (p + len) (w - len) h.0 in
        let n : new_pages page k len w s ≡ refused r = rw (j, e, i, f) refl in
        stands-refused (call.Alloc k len) s r n
    draws_made (Ok c) h = by_rest (Ok c) h (free_comes_to own (Ok c) (p + len) (w - len) h.0)

-- ---- the kind's list first, below a page

none_asked : (xs : List ℕ) (l : FreeList) → is_list xs l ≡ true → allocated xs l 0 ≡ nothing
unfolding allocated first_of
none_asked xs l ok = rw ok refl

module _ (page : ℕ) (k : PageType) (len w : ℕ) (ls : Lists) where
  abbrev own : LentList
  own = ls (list_of k)

  abbrev Asked : Bool → Decision → Type 0
  Asked t d = Gives own.run own.list (allocated own.run own.list (cond t len 0)) d

  -- past the tests, by whether the length is below a page
  abbrev By : Bool → PagedDecision → Type 0
  By t d = (ms : List ℕ) → let s : PagedLists = record { lists = ls; marks = ms } in
      stands_for (call.Alloc k len) d s ≡ effect_of (call.Alloc k len) (cond t (or_else (own_bytes k len s) (new_pages page k len w s)) (new_pages page k len w s)) s

  module _ (ok : is_list own.run own.list ≡ true) where
    own_by : (t : Bool) (c : Replacement) → Asked t (Ok (Some c)) → By t (Own c.addr (Ok (Some c)))
    unfolding own_bytes and_then
    own_by true c g ms =
        let s : PagedLists = record { lists = ls; marks = ms } in
        let d : Decision = Ok (Some c) in
        let m : Made = record { over = bytes c.addr (c.addr + len); calls = on (list_of k) (Alloc len) ∷ []; marks = ms } in
        let n : own_bytes k len s ≡ answer m = rw (alloc_comes_to own d len g.0) refl in
        stands-made (call.Alloc k len) s (Own c.addr d) m (ap (λ (o : Outcome Made). or_else o (new_pages page k len w s)) n) refl
        (ap (λ (after : Lists). record { lists = after; marks = ms }) (own_call ls k (Alloc len) (alloc-leaves own d len g) refl))
    own_by false c g ms = absurd (differ (g.0 ∙ none_asked own.run own.list ok))
      where
        differ : {A : Type 0} {x : A} → answer x ≡ nothing → ⊥
        differ e = let z : ◌≡◌ {A = ℕ} 0 1 = cc in omega arith

    refused_by : (t : Bool) (r : Refusal) → Asked t (Err r) → By t (Refused r)
    unfolding own_bytes and_then
    refused_by true r g ms =
        let s : PagedLists = record { lists = ls; marks = ms } in
        let n : own_bytes k len s ≡ refused r = rw (alloc_comes_to own (Err r) len g.0) refl in
        stands-refused (call.Alloc k len) s r (ap (λ (o : Outcome Made). or_else o (new_pages page k len w s)) n)
    refused_by false r g ms = absurd (differ (g.0 ∙ none_asked own.run own.list ok))
      where
        differ : {A : Type 0} {n : ℕ} {vs : List ℕ} → ◌≡◌ {A = Outcome A} (refuse n vs) nothing → ⊥
        differ e = let z : ◌≡◌ {A = ℕ} 0 1 = cc in omega arith

    new_by : (t : Bool) → Asked t (Ok None) → (ms : List ℕ) → let s : PagedLists = record { lists = ls; marks = ms } in
        new_pages page k len w s ≡ cond t (or_else (own_bytes k len s) (new_pages page k len w s)) (new_pages page k len w s)
    unfolding own_bytes and_then
    new_by true g ms =
        let s : PagedLists = record { lists = ls; marks = ms } in
        let n : own_bytes k len s ≡ nothing = rw (alloc_comes_to own (Ok None) len g.0) refl in
        sym (ap (λ (o : Outcome Made). or_else o (new_pages page k len w s)) n)
    new_by false g ms = refl

    serves_own : (c : Replacement) → Serves page k len (Ok (Some c)) ls → ServedBy page k len w ls (Own c.addr (Ok (Some c)))
    serves_own c g = own_by (ltb len page) c g.0

    serves_refused : (r : Refusal) → Serves page k len (Err r) ls → ServedBy page k len w ls (Refused r)
    serves_refused r g = refused_by (ltb len page) r g.0

    serves_new : Serves page k len (Ok None) ls → (ms : List ℕ) → let s : PagedLists = record { lists = ls; marks = ms } in
        new_pages page k len w s ≡ served page k len w s
    serves_new g = new_by (ltb len page) g.0

-- ---- by the decisions of the code

module _ (page len w : ℕ) (own shared : LentList) (pages : Decision) (g : Gives shared.run shared.list (allocated_units shared.run shared.list w page) pages) where
  comes_to : {d : Decision} → pages ≡ d → outcome_of (AllocWholeUnits w page) shared ≡ gave_as (λ p. bytes p (p + w)) d
  comes_to e = units_come_to shared pages w page g.0 ∙ ap (gave_as (λ p. bytes p (p + w))) e

  pub draw_refused : (r : Refusal) → pages ≡ Err r → Draws page len w own shared (Refused r)
  draw_refused r e = draws_refused page len w own shared r (comes_to e)

  pub draw_nothing : pages ≡ (Ok None) → Draws page len w own shared Nothing
  draw_nothing e = draws_nothing page len w own shared (comes_to e)

  module _ (c : Replacement) (e : pages ≡ Ok (Some c)) where
    abbrev p : ℕ
    p = c.addr

    -- what is given lies in a region of the list
    pub draw_fits : p + w ≤ top
    draw_fits = within (units_law shared.run shared.list w page) (sym g.0 ∙ ap (given_by shared.run shared.list) e)
      where
        within : UnitsSays shared.run shared.list w page (allocated_units shared.run shared.list w page)
            → allocated_units shared.run shared.list w page ≡ given_by shared.run shared.list (Ok (Some c)) → p + w ≤ top
        within u f =
            let s = (subst (UnitsSays shared.run shared.list w page) f u).says.1 in
            let i = (ok_prop 0 (regions_of shared)).0 (listed shared.run shared.list s.leaves.given).ok in
            omega (arith, s.some, free-between 0 top (p + w - 1) (regions_of shared) i (s.were (p + w - 1) (omega (arith, s.some), omega (arith, s.some))))

    pub draw_made : (rest : Decision) → Keeps own.run own.list (freed own.run own.list (p + len) (w - len)) rest
        → {r : Decision} → rest ≡ r → Draws page len w own shared (drawn_with p (Ok (Some c)) (p / page) (w / page) r)
    draw_made rest h is =
        subst (λ (r : Decision). Draws page len w own shared (drawn_with p (Ok (Some c)) (p / page) (w / page) r)) is
        (draws_made page len w own shared p (Ok (Some c))
        (subst (Gives shared.run shared.list (allocated_units shared.run shared.list w page)) e g) (comes_to e) rest h)

module _ (page : ℕ) (k : PageType) (len w : ℕ) (ls : Lists) (d : Decision) (serves : Serves page k len d ls) where
  pub serve-own : (c : Replacement) → d ≡ Ok (Some c) → ServedBy page k len w ls (Own c.addr (Ok (Some c)))
  serve-own c e = serves_own page k len w ls serves.1 c (subst (λ (x : Decision). Serves page k len x ls) e serves)

  pub serve-refused : (r : Refusal) → d ≡ Err r → ServedBy page k len w ls (Refused r)
  serve-refused r e = serves_refused page k len w ls serves.1 r (subst (λ (x : Decision). Serves page k len x ls) e serves)

  pub serve_new : d ≡ (Ok None) → (ms : List ℕ) → let s : PagedLists = record { lists = ls; marks = ms } in new_pages page k len w s ≡ served page k len w s
  serve_new e = serves_new page k len w ls serves.1 (subst (λ (x : Decision). Serves page k len x ls) e serves)
