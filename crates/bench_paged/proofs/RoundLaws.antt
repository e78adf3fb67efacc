-- What the rounds of the benchmarks come to, call by call. Assumes nothing.
use Prim.Native.Nat.{ℕ}
use mathlib.Core.Path.{◌≡◌, ap, ap₂, sym, ◌∙◌}
use mathlib.Core.List.{List}
use Rattle.std.specs.Prelude.{Result, Ok}
use Rattle.error.specs.declared.Refusal.{Refusal}
use Rattle.free_lists.specs.declared.calls.Answer.{Answer}
use Rattle.free_lists.specs.declared.calls.Answer.TheVariants.{At}
use Rattle.error.specs.Outcome.{Outcome}
use Rattle.error.specs.Lent.{Left, with, left}
use Rattle.free_lists.specs.declared.calls.Which.{Which}
use Rattle.free_lists.specs.declared.calls.ListCall.{ListCall}
use Rattle.free_lists.specs.Lists.{Lists}
use Rattle.free_lists.specs.History.{answered_outcome, on, next}
use Rattle.paged_lists.specs.declared.PageType.TheVariants.{Meta}
use Rattle.paged_lists.specs.declared.PagedCall.TheVariants as paged
use Rattle.paged_lists.specs.PagedCalls.{PagedLists, performed}
use Rattle.bench_paged.specs.Rounds.{memory_of, freed_again, paged_round, answer_on}

-- ---- the paged calls

-- s before the allocation, t after it
module _ (page len : ℕ) (s t : PagedLists) (a : (Result Answer Refusal)) (e : left (answered_outcome a) t ≡ performed page (paged.Alloc Meta len) s) where
  pub paged_seen : (b : (Result Answer Refusal)) → a ≡ b → freed_again page len (answered_outcome b) t ≡ paged_round page len s
  paged_seen b is =
      ap (λ (x : (Result Answer Refusal)). freed_again page len (answered_outcome x) t) (sym is)
      ∙ ap (λ (d : Left (List ℕ) PagedLists). freed_again page len d.outcome d.memory) e

  pub paged-freed : (p : ℕ) → a ≡ Ok (At p) → (o : Outcome (List ℕ)) (u : PagedLists) → left o u ≡ performed page (paged.Free Meta p len) t
      → with p (memory_of u) ≡ paged_round page len s
  paged-freed p is o u f = ap (λ (d : Left (List ℕ) PagedLists). with p (memory_of d.memory)) f ∙ paged_seen (Ok (At p)) is

-- ---- the calls on three lists

-- ls before the first call, ms after it, by the answer a
module _ (ls ms : Lists) (a : (Result Answer Refusal)) (i : Which) (c : ListCall) (e : answered_outcome a ≡ answer_on i c ls) (n : ms ≡ next (on i c) ls) where
  pub list_seen : {T : Type 0} (f : Outcome (List ℕ) → Lists → T) (b : (Result Answer Refusal)) → a ≡ b → f (answered_outcome b) ms ≡ f (answer_on i c ls) (next (on i c) ls)
  list_seen f b is = ap (λ (x : (Result Answer Refusal)). f (answered_outcome x) ms) (sym is) ∙ ap₂ f e n
