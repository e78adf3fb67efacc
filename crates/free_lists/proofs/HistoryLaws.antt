-- The history theorem: the free bytes of a list are those over which its last accepted call was a `free`, and its total is their number.
-- Assumes nothing.
--   Sums   a list's total is the sum of its lengths, and its regions are in order
use mathlib.Core.Path.{◌≡◌, refl, sym, ◌∙◌}
use mathlib.Core.List.{List, [], ◌∷◌}
use mathlib.Core.Bool.{Bool, true, false, cond, ◌&&◌, ◌||◌}
use mathlib.Core.Logic.{◌⊎◌, inl, inr, ⊎_elim, ◌↔◌}
use Prim.Native.Nat.{ℕ, ◌+◌, ◌%◌}
use native.Mathlib.Omega.{arith}
use borrow.Author.Tests.{le-leb, lt-leb, lt-ltb, le-ltb}
use lib.Dec.{eqb}
use lib.ListN.{length}
use Rattle.error.specs.Outcome.{Outcome, answer, nothing, refuse}
use Rattle.error.specs.Ends.{Ends}
use Rattle.error.specs.Lent.{With, leaving}
use Rattle.error.proofs.TestLaws.{le-or-lt, true_not_false}
use Rattle.fields.specs.Ranges.{Range}
use Rattle.free_regions.specs.Regions.{Free}
use Rattle.free_regions.specs.Sets.{Between, Adds, Removes}
use Rattle.free_space.specs.declared.list.FreeList.{FreeList}
use Rattle.free_space.specs.Runs.{is_list}
use Rattle.free_space.specs.Calls.{keeping}
use Rattle.pairs.specs.Pairs.{capacity}
use Rattle.free_lists.specs.declared.calls.Which.{Which}
use Rattle.free_lists.specs.declared.calls.Which.TheVariants.{Metadata, Raw, Unclassified}
use Rattle.free_lists.specs.declared.calls.ListCall.{ListCall}
use Rattle.free_lists.specs.declared.calls.ListCall.TheVariants as call
use Rattle.free_lists.specs.Lists.{LentList, list_in, regions_of, same, Lists}
use Rattle.free_lists.specs.History.{Effect, effect, bytes, perform, CallOn, next, lists_after, empty_lists, Last, never, was, holds, goes_over, later, last_over, was_free, ByHistory}
use Rattle.free_lists.specs.CallsSay.{Leaves}
use Rattle.free_lists.proofs.FreeBytesLaws.{AddsUp, adds_up, counts}
use Rattle.free_lists.proofs.CallLaws.{free_law, take_law, alloc_law, units_law, trailing_law}

-- whether a byte is free after the last call over it, where F tells whether it was before all of them
abbrev Now : Last → Type 0 → Type 0
Now never F = F
Now (was c) F = was_free (was c) ≡ true

-- ---- one call

abbrev Sums : LentList → Type 0
Sums l = AddsUp l.run l.list

record Good (c : ListCall) (l : LentList) (d : Effect) : Type 0 where
  sum : Sums l → Sums d.left
  list : is_list d.left.run d.left.list ≡ is_list l.run l.list
  free : (b : ℕ) → Free (regions_of d.left) b ↔ Now (goes_over c d.outcome b) (Free (regions_of l) b)

pub holds-or : (s e b : ℕ) → ((holds (bytes s e) b ≡ true) × Between s e b) ⊎ ((holds (bytes s e) b ≡ false) × (Between s e b → ⊥))
holds-or s e b =
    ⊎_elim (λ h. ⊎_elim (λ k. inr (rw (le-leb s b h, le-ltb b e k), λ t. omega arith)) (λ k. inl (rw (le-leb s b h, lt-ltb b e k), (h, k))) (le-or-lt e b))
    (λ h. inr (rw (lt-leb s b h), λ t. omega arith)) (le-or-lt s b)

-- an accepted call, by what it does to the free bytes
module _ (c : ListCall) (l : LentList) (s e : ℕ) (ys : List ℕ) (m : FreeList) where
  adds : was_free (was c) ≡ true → Leaves (Adds s e) l.run l.list ys m → Good c l (record { outcome = answer (bytes s e); left = list_in ys m })
  adds y p = record {
    sum = λ q. adds_up ys m p.left;
    list = p.left ∙ sym p.given;
    free = λ b.
        let q = p.bytes b in
        ⊎_elim
        (λ h. rw h.0 (λ f. y, λ f. q.1 (inl h.1)))
        (λ h. rw h.0 (λ f. ⊎_elim (λ t. absurd (h.1 t)) (λ t. t) (q.0 f), λ f. q.1 (inr f)))
        (holds-or s e b);
  }

  removes : was_free (was c) ≡ false → Leaves (Removes s e) l.run l.list ys m → Good c l (record { outcome = answer (bytes s e); left = list_in ys m })
  removes y p = record {
    sum = λ q. adds_up ys m p.left;
    list = p.left ∙ sym p.given;
    free = λ b.
        let q = p.bytes b in
        ⊎_elim
        (λ h. rw h.0 (λ f. absurd ((q.0 f).1 h.1), λ f. true_not_false (was_free (was c)) f y))
        (λ h. rw h.0 (λ f. (q.0 f).0, λ f. q.1 (f, h.1)))
        (holds-or s e b);
  }

module _ {A : Type 0} {P : With A (List ℕ) → Type 0} {N : Type 0} {R : ℕ → List ℕ → Type 0} (list : A → FreeList) (over : A → Range) (c : ListCall) (l : LentList) where
  -- and any call, since a refusal or Nothing changes nothing and goes over nothing
  goes : (o : Outcome (With A (List ℕ))) → Ends P N R o
      → ((w : With A (List ℕ)) → P w → Good c l (record { outcome = answer (over w.value); left = list_in w.memory (list w.value) }))
      → Good c l (effect list over l.list (leaving l.run o))
  goes (answer w) e f = f w e.says
  goes nothing e f = record { sum = λ q. q; list = refl; free = λ b. (λ t. t, λ t. t) }
  goes (refuse n vs) e f = record { sum = λ q. q; list = refl; free = λ b. (λ t. t, λ t. t) }

performed : (c : ListCall) (l : LentList) → Good c l (perform c l)
performed (call.Free a n) l = goes keeping _ (call.Free a n) l _ (free_law l.run l.list a n) (λ w p. adds (call.Free a n) l a (a + n) w.memory w.value refl p.1)
performed (call.Alloc n) l = goes _ _ (call.Alloc n) l _ (alloc_law l.run l.list n) (λ w p. removes (call.Alloc n) l _ _ _ _ refl p.1.leaves)
performed (call.AllocWholeUnits n u) l = goes _ _ (call.AllocWholeUnits n u) l _ (units_law l.run l.list n u) (λ w p. removes (call.AllocWholeUnits n u) l _ _ _ _ refl p.1.leaves)
performed (call.TakeRange a n) l = goes _ _ (call.TakeRange a n) l _ (take_law l.run l.list a n) (λ w p. removes (call.TakeRange a n) l _ _ _ _ refl p.1)
performed (call.TakeTrailing e) l = goes _ _ (call.TakeTrailing e) l _ (trailing_law l.run l.list e) (λ w p. removes (call.TakeTrailing e) l _ _ _ _ refl p.1.leaves)

-- ---- calls in a row

now_later : (x y : Last) (F : Type 0) → Now (later x y) F ↔ Now x (Now y F)
now_later never y F = (λ f. f, λ f. f)
now_later (was c) y F = (λ f. f, λ f. f)

now_cong : (x : Last) (F G : Type 0) → F ↔ G → Now x F ↔ Now x G
now_cong never F G e = e
now_cong (was c) F G e = (λ f. f, λ f. f)

module _ (i : Which) where
  -- what a call on some list says of the byte at b of list i
  abbrev Word : CallOn → Lists → ℕ → Last
  Word c ls b = cond (same i c.list) (goes_over c.what (perform c.what (ls i)).outcome b) never

  record Iteration (c : CallOn) (ls : Lists) : Type 0 where
    sum : Sums (ls i) → Sums (next c ls i)
    list : is_list (next c ls i).run (next c ls i).list ≡ is_list (ls i).run (ls i).list
    free : (b : ℕ) → Free (regions_of (next c ls i)) b ↔ Now (Word c ls b) (Free (regions_of (ls i)) b)

  iteration : (c : CallOn) (ls : Lists) → Iteration c ls
  iteration c ls = let g = pick (same i c.list) in record { sum = g.0; list = g.1; free = g.2 }
    where
      d : Effect
      d = perform c.what (ls i)

      pick : (t : Bool) → (Sums (ls i) → Sums (cond t d.left (ls i))) × (is_list (cond t d.left (ls i)).run (cond t d.left (ls i)).list ≡ is_list (ls i).run (ls i).list)
          × ((b : ℕ) → Free (regions_of (cond t d.left (ls i))) b ↔ Now (cond t (goes_over c.what d.outcome b) never) (Free (regions_of (ls i)) b))
      pick true = let g = performed c.what (ls i) in (g.sum, g.list, g.free)
      pick false = ((λ q. q), refl, λ b. (λ f. f, λ f. f))

  -- from any lists on
  after_list : (cs : List CallOn) (ls : Lists) → is_list (lists_after cs ls i).run (lists_after cs ls i).list ≡ is_list (ls i).run (ls i).list
  unfolding lists_after
  after_list [] ls = refl
  after_list (c ∷ cs) ls = after_list cs (next c ls) ∙ (iteration c ls).list

  after_sum : (cs : List CallOn) (ls : Lists) → Sums (ls i) → Sums (lists_after cs ls i)
  unfolding lists_after
  after_sum [] ls q = q
  after_sum (c ∷ cs) ls q = after_sum cs (next c ls) ((iteration c ls).sum q)

  after_free : (cs : List CallOn) (ls : Lists) (b : ℕ) → Free (regions_of (lists_after cs ls i)) b ↔ Now (last_over i b cs ls) (Free (regions_of (ls i)) b)
  unfolding lists_after last_over
  after_free [] ls b = (λ f. f, λ f. f)
  after_free (c ∷ cs) ls b =
      let r = after_free cs (next c ls) b in
      let x = last_over i b cs (next c ls) in
      let e = now_later x (Word c ls b) (Free (regions_of (ls i)) b) in
      let g = now_cong x (Free (regions_of (next c ls i)) b) (Now (Word c ls b) (Free (regions_of (ls i)) b)) ((iteration c ls).free b) in
      (λ f. e.1 (g.0 (r.0 f)), λ f. r.1 (g.1 (e.0 f)))

-- ---- the theorem

-- of a list begun empty
now_empty : (x : Last) → Now x ⊥ ↔ (was_free x ≡ true)
now_empty never = (λ f. absurd f, λ e. true_not_false false e refl)
now_empty (was c) = (λ f. f, λ f. f)

empty_list : (runs : Which → List ℕ) (i : Which) → is_list (empty_lists runs i).run (empty_lists runs i).list ≡ eqb (length (runs i) % 2) 0
unfolding is_list
empty_list runs i = rw (le-leb 0 (capacity (runs i)) (omega arith)) (go (eqb (length (runs i) % 2) 0))
  where
    go : (t : Bool) → (t && (true && (true && true))) ≡ t
    go true = refl
    go false = refl

-- one of three tests
module _ (t : Which → Bool) where
  abbrev AnyOf : Bool
  AnyOf = t Metadata || (t Raw || t Unclassified)

  any_of : (i : Which) → t i ≡ true → AnyOf ≡ true
  any_of Metadata e = rw e
  any_of Raw e = rw e (or_true (t Metadata))
    where
      or_true : (a : Bool) → (a || true) ≡ true
      or_true true = refl
      or_true false = refl
  any_of Unclassified e = rw e (or_true (t Metadata) (t Raw))
    where
      or_true : (a b : Bool) → (a || (b || true)) ≡ true
      or_true true b = refl
      or_true false true = refl
      or_true false false = refl

  one_of : AnyOf ≡ true → (i : Which) × (t i ≡ true)
  one_of e = go (t Metadata) refl (t Raw) refl e
    where
      go : (a : Bool) → t Metadata ≡ a → (b : Bool) → t Raw ≡ b → (a || (b || t Unclassified)) ≡ true → (i : Which) × (t i ≡ true)
      go true p b q e = (Metadata, p)
      go false p true q e = (Raw, q)
      go false p false q e = (Unclassified, e)

module _ (runs : Which → List ℕ) (cs : List CallOn) where
  in_one_lem : (i : Which) (b : ℕ) → Free (regions_of (lists_after cs (empty_lists runs) i)) b ↔ (was_free (last_over i b cs (empty_lists runs)) ≡ true)
  in_one_lem i b =
      let r = after_free i cs (empty_lists runs) b in
      let q = now_empty (last_over i b cs (empty_lists runs)) in
      (λ f. q.0 (r.0 f), λ f. r.1 (q.1 f))

  sums : (i : Which) → Sums (lists_after cs (empty_lists runs) i)
  sums i = after_sum i cs (empty_lists runs) (record { order = tt; total = refl })

  pub history : ByHistory runs cs
  history = record {
    total = λ i. (sums i).total;
    counted = λ i. counts (lists_after cs (empty_lists runs) i).run (lists_after cs (empty_lists runs) i).list (sums i) _ (in_one_lem i);
    lists = λ i. after_list i cs (empty_lists runs) ∙ empty_list runs i;
    in_one = in_one_lem;
    in_any = λ b.
        let t : Which → Bool = λ i. was_free (last_over i b cs (empty_lists runs)) in
        (λ p. any_of t p.0 ((in_one_lem p.0 b).0 p.1), λ e. let p = one_of t e in (p.0, (in_one_lem p.0 b).1 p.1));
  }
