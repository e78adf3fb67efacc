-- A list call by its decision: what it comes to, and the list that it leaves. Assumes nothing.
--   kept_as, gave_as   the outcome of a decision, for a call that gives nothing out and for one that gives an address out
use mathlib.Core.Path.{◌≡◌, refl, sym, ap, ◌∙◌}
use mathlib.Core.List.{List}
use Prim.Native.Nat.{ℕ, ◌+◌}
use Rattle.std.specs.Prelude.{Some, None, Ok, Err}
use Rattle.free_space.specs.Splices.{Decision}
use Rattle.error.specs.Outcome.{Outcome, answer, nothing, refused}
use Rattle.error.specs.Lent.{With, leaving}
use Rattle.fields.specs.Ranges.{Range}
use Rattle.free_space.specs.declared.list.FreeList.{FreeList}
use Rattle.free_space.specs.declared.list.Given.{Given}
use Rattle.free_space.specs.Calls.{freed, allocated, allocated_units}
use Rattle.free_space.specs.Decisions.{given_by, kept_by, Gives, Keeps}
use Rattle.free_space.proofs.CarryLaws.{kept-carried, gave-carried}
use Rattle.free_lists.specs.declared.calls.ListCall.TheVariants.{Free, Alloc, AllocWholeUnits}
use Rattle.free_lists.specs.Lists.{LentList, list_in}
use Rattle.free_lists.specs.History.{mapped, bytes}
use Rattle.paged_lists.specs.PagedCalls.{outcome_of, left_by}
use Rattle.paged_calls.specs.Decisions.{carried_in}

abbrev pub kept_as : Range → Decision → Outcome Range
kept_as over (Err r) = refused r
kept_as over (Ok c) = answer over

abbrev pub gave_as : (ℕ → Range) → Decision → Outcome Range
gave_as over (Err r) = refused r
gave_as over (Ok None) = nothing
gave_as over (Ok (Some c)) = answer (over c.addr)

module _ (l : LentList) where
  kept_as_lem : (over : Range) (d : Decision) → mapped (λ (m : FreeList). over) (leaving l.run (kept_by l.run l.list d)).outcome ≡ kept_as over d
  kept_as_lem over (Err r) = refl
  kept_as_lem over (Ok None) = refl
  kept_as_lem over (Ok (Some c)) = refl

  gave_as_lem : (over : ℕ → Range) (d : Decision) → mapped (λ (g : Given). over g.addr) (leaving l.run (given_by l.run l.list d)).outcome ≡ gave_as over d
  gave_as_lem over (Err r) = refl
  gave_as_lem over (Ok None) = refl
  gave_as_lem over (Ok (Some c)) = refl

  by_kept : (over : Range) (d : Decision) {o : Outcome (With FreeList (List ℕ))} → kept_by l.run l.list d ≡ o
      → mapped (λ (m : FreeList). over) (leaving l.run o).outcome ≡ kept_as over d
  by_kept over d e = sym (ap (λ (o : Outcome (With FreeList (List ℕ))). mapped (λ (m : FreeList). over) (leaving l.run o).outcome) e) ∙ kept_as_lem over d

  by_gave : (over : ℕ → Range) (d : Decision) {o : Outcome (With Given (List ℕ))} → given_by l.run l.list d ≡ o
      → mapped (λ (g : Given). over g.addr) (leaving l.run o).outcome ≡ gave_as over d
  by_gave over d e = sym (ap (λ (o : Outcome (With Given (List ℕ))). mapped (λ (g : Given). over g.addr) (leaving l.run o).outcome) e) ∙ gave_as_lem over d

  module _ (d : Decision) where
    pub free_comes_to : (a n : ℕ) → kept_by l.run l.list d ≡ freed l.run l.list a n → outcome_of (Free a n) l ≡ kept_as (bytes a (a + n)) d
    free_comes_to a n e = by_kept (bytes a (a + n)) d e

    pub alloc_comes_to : (n : ℕ) → given_by l.run l.list d ≡ allocated l.run l.list n → outcome_of (Alloc n) l ≡ gave_as (λ p. bytes p (p + n)) d
    alloc_comes_to n e = by_gave (λ p. bytes p (p + n)) d e

    pub units_come_to : (n u : ℕ) → given_by l.run l.list d ≡ allocated_units l.run l.list n u → outcome_of (AllocWholeUnits n u) l ≡ gave_as (λ p. bytes p (p + n)) d
    units_come_to n u e = by_gave (λ p. bytes p (p + n)) d e

    pub free-leaves : (a n : ℕ) → Keeps l.run l.list (freed l.run l.list a n) d → carried_in l d ≡ left_by (Free a n) l
    free-leaves a n k = ap (λ (w : With FreeList (List ℕ)). list_in w.memory w.value) (kept-carried l.run l.list d _ k)

    pub alloc-leaves : (n : ℕ) → Gives l.run l.list (allocated l.run l.list n) d → carried_in l d ≡ left_by (Alloc n) l
    alloc-leaves n k = ap (λ (w : With FreeList (List ℕ)). list_in w.memory w.value) (gave-carried l.run l.list d _ k)

    pub units_leave : (n u : ℕ) → Gives l.run l.list (allocated_units l.run l.list n u) d → carried_in l d ≡ left_by (AllocWholeUnits n u) l
    units_leave n u k = ap (λ (w : With FreeList (List ℕ)). list_in w.memory w.value) (gave-carried l.run l.list d _ k)
