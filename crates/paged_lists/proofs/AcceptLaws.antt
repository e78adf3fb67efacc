-- What a paged call says of its answer, along the conditions and the list calls of its definition. Assumes nothing.
--   Accepts           an outcome of which the answer, if it is one, has a property
--   Leaving           a list was one before a call, is one after it, and its free bytes changed so
--   CallEnds          what a list call ends in: P of an answer and the list that it leaves, N for Nothing, and why it refuses
--   Took, TookUnits   an allocation: what it gave; whole units
use mathlib.Core.Path.{◌≡◌, refl}
use mathlib.Core.Logic.{◌⊎◌}
use mathlib.Core.List.{List, [], ◌∷◌}
use Prim.Native.Nat.{ℕ, ◌+◌, ◌%◌, ◌<◌}
use Rattle.error.specs.Outcome.{Outcome, answer, nothing, refuse, Condition, first_of, and_then}
use Rattle.error.specs.Ends.{Ends}
use Rattle.error.specs.Lent.{With, leaving}
use Rattle.error.proofs.OutcomeLaws.{NoneHolds}
use Rattle.error.proofs.EndsLaws.{answers, says_nothing, refuses, untested, tested}
use Rattle.fields.specs.Ranges.{Range, top}
use Rattle.free_regions.specs.declared.FreeRegion.{FreeRegion}
use Rattle.free_regions.specs.Regions.{Free}
use Rattle.free_regions.specs.Units.{interior_start, interior_span}
use Rattle.free_regions.specs.Sets.{Between, Shared, Adds, Removes, TouchesNone, StrictlyInside, NoneSuffices}
use Rattle.free_space.specs.declared.list.FreeList.{FreeList}
use Rattle.free_space.specs.Calls.{keeping}
use Rattle.free_lists.specs.declared.calls.ListCall.{ListCall}
use Rattle.free_lists.specs.declared.calls.ListCall.TheVariants as call
use Rattle.free_lists.specs.Lists.{LentList, list_in, regions_of}
use Rattle.free_lists.specs.History.{effect, bytes}
use Rattle.free_lists.specs.CallsSay.{Passes, Refuses, Leaves, TwoLeft, PartUnit}
use Rattle.free_lists.proofs.CallLaws.{free_law, take_law, alloc_law, units_law}
use Rattle.paged_lists.specs.PagedCalls.{or_else, outcome_of, left_by}

abbrev pub Accepts : {A : Type 0} → (A → Type 0) → Outcome A → Type 0
Accepts P o = Ends P (Unit {0}) (λ n vs. Unit {0}) o

module _ {A : Type 0} {P : A → Type 0} where
  pub past : (cs : List Condition) (x : Outcome A) → (NoneHolds cs → Accepts P x) → Accepts P (first_of cs x)
  past [] x f = untested x (f tt)
  past (c ∷ cs) x f = tested c cs x (λ t. tt) (λ t. past cs x (λ h. f (t, h)))

module _ {A B : Type 0} {P : A → Type 0} {N : Type 0} {R : ℕ → List ℕ → Type 0} {Q : B → Type 0} {M : Type 0} {S : ℕ → List ℕ → Type 0} where
  pub then_ends : (o : Outcome B) (f : B → Outcome A) → Ends Q M S o → ((b : B) → o ≡ answer b → Q b → Ends P N R (f b)) → (o ≡ nothing → M → N)
      → ((n : ℕ) (vs : List ℕ) → o ≡ refuse n vs → S n vs → R n vs) → Ends P N R (and_then o f)
  unfolding and_then
  then_ends (answer b) f q g m s = g b refl q.says
  then_ends nothing f q g m s = says_nothing (m refl q.says)
  then_ends (refuse n vs) f q g m s = refuses (s n vs refl q.says)

module _ {A : Type 0} {P : A → Type 0} {N M : Type 0} {R : ℕ → List ℕ → Type 0} where
  pub or_else_lem : (x y : Outcome A) → Ends P M R x → (M → Ends P N R y) → Ends P N R (or_else x y)
  or_else_lem (answer a) y p q = answers p.says
  or_else_lem nothing y p q = q p.says
  or_else_lem (refuse n vs) y p q = refuses p.says

module _ {A : Type 0} {P : A → Type 0} where
  pub and_then_lem : {B : Type 0} {Q : B → Type 0} {M : Type 0} {S : ℕ → List ℕ → Type 0} (o : Outcome B) (f : B → Outcome A) → Ends Q M S o
      → ((b : B) → Q b → Accepts P (f b)) → Accepts P (and_then o f)
  and_then_lem o f q g = then_ends o f q (λ b e. g b) (λ e m. tt) (λ n vs e s. tt)

-- ---- a list call, by its law

module _ {A : Type 0} {P : With A (List ℕ) → Type 0} {N : Type 0} {R : ℕ → List ℕ → Type 0} (list : A → FreeList) (over : A → Range) (l : LentList) (Q : Range → LentList → Type 0) where
  does : (o : Outcome (With A (List ℕ))) → Ends P N R o → ((w : With A (List ℕ)) → P w → Q (over w.value) (list_in w.memory (list w.value)))
      → Ends (λ r. Q r (effect list over l.list (leaving l.run o)).left) N R (effect list over l.list (leaving l.run o)).outcome
  does (answer w) e f = answers (f w e.says)
  does nothing e f = says_nothing e.says
  does (refuse n vs) e f = refuses e.says

abbrev pub Leaving : (List FreeRegion → List FreeRegion → Type 0) → LentList → LentList → Type 0
Leaving Change l m = Leaves Change l.run l.list m.run m.list

-- an allocation: the bytes that it gave were free, and are so no more
pub record Took (len : ℕ) (l : LentList) (r : Range) (m : LentList) : Type 0 where
  pub range : r ≡ bytes r.start (r.start + len)
  pub were : (x : ℕ) → Between r.start (r.start + len) x → Free (regions_of l) x
  pub left : Leaving (Removes r.start (r.start + len)) l m

pub record TookUnits (len unit : ℕ) (l : LentList) (r : Range) (m : LentList) : Type 0 where
  pub took : Took len l r m
  pub at : r.start % unit ≡ 0

abbrev CallEnds : ListCall → LentList → Type 0 → Type 0 → Type 0 → Type 0 → Type 0 → (Range → LentList → Type 0) → Type 0
CallEnds c l over shared part full N P =
    Ends (λ r. P r (left_by c l)) (Passes l.run l.list over shared part × N) (Refuses l.run l.list over shared part full) (outcome_of c l)

module _ (l : LentList) where
  pub free_does : (a n : ℕ) → CallEnds (call.Free a n) l (top < a + n) (Shared a (a + n) (regions_of l)) ⊥ ((0 < n) × TouchesNone a (a + n) (regions_of l)) ⊥
      (λ r m. Leaving (Adds a (a + n)) l m)
  free_does a n = does keeping (λ m. bytes a (a + n)) l (λ r m. Leaving (Adds a (a + n)) l m) _ (free_law l.run l.list a n) (λ w p. p.1)

  pub take_does : (a n : ℕ) → CallEnds (call.TakeRange a n) l (top < a + n) ⊥ ⊥ ((0 < n) × StrictlyInside a (a + n) (regions_of l)) ⊥
      (λ r m. Leaving (Removes a (a + n)) l m)
  take_does a n = does keeping (λ m. bytes a (a + n)) l (λ r m. Leaving (Removes a (a + n)) l m) _ (take_law l.run l.list a n) (λ w p. p.1)

  pub alloc_does : (n : ℕ) → CallEnds (call.Alloc n) l ⊥ ⊥ ⊥ ⊥ ((n ≡ 0) ⊎ NoneSuffices (λ r. r.len) n (regions_of l)) (Took n l)
  alloc_does n = does (λ g. g.list) (λ g. bytes g.addr (g.addr + n)) l (Took n l) _ (alloc_law l.run l.list n)
      (λ w p. record { range = refl; were = p.1.were; left = p.1.leaves })

  pub units_does : (n u : ℕ) → CallEnds (call.AllocWholeUnits n u) l ⊥ ⊥ (PartUnit n u) (TwoLeft (interior_span u) (interior_start u) n (regions_of l))
      ((n ≡ 0) ⊎ NoneSuffices (interior_span u) n (regions_of l)) (TookUnits n u l)
  units_does n u = does (λ g. g.list) (λ g. bytes g.addr (g.addr + n)) l (TookUnits n u l) _ (units_law l.run l.list n u)
      (λ w p. record { took = record { range = refl; were = p.1.were; left = p.1.leaves }; at = p.1.address.multiple })
