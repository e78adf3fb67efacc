-- What a pass for the best fit finds on its way, and what its answer says. No public contract cites this file; it serves the contracts of
-- private functions. Assumes nothing.
--   so_far     what was found so far, as the pass keeps it: a place and the bytes left over
--   answered   the answer from what is kept at the end
--   Serves     a place of a list at which the best fit lies
--   Finds      what an answer says
use Rattle.std.specs.Prelude.{◌≡◌, ℕ, ◌+◌, ◌-◌, ◌*◌, ◌^◌, ◌<◌, ◌≤◌, true, false, cond, List, length, nat_lt, Result, Option, Ok, Err, Some, None}
use Rattle.error.specs.declared.Refusal.{Refusal}
use Rattle.error.specs.declared.Refusal.TheVariants.{NotAList}
use Rattle.free_regions.specs.declared.FreeRegion.{FreeRegion}
use Rattle.free_regions.specs.Regions.{Found, none, at, best}
use Rattle.free_space.specs.declared.list.FreeList.{FreeList}
use Rattle.free_space.specs.declared.fit.Best.{Best}
use Rattle.free_space.specs.Runs.{region_at, regions, is_list}

abbrev pub so_far : ℕ → Best → Found
so_far len b = cond (nat_lt b.slack (2 ^ 64 - len)) (at b.index (b.slack + len)) none

abbrev pub answered : ℕ → Best → (Result (Option ℕ) Refusal)
answered len b = cond (nat_lt b.slack (2 ^ 64 - len)) (Ok (Some b.index)) (Ok None)

pub record Serves (measure : FreeRegion → ℕ) (xs : List ℕ) (l : FreeList) (len i : ℕ) : Type 0 where
  pub list : is_list xs l ≡ true
  pub room : 2 * l.count ≤ length xs
  pub below : i < l.count
  pub suffices : len ≤ measure (region_at xs i)
  pub span : ℕ
  pub is : best measure len 0 (regions xs l) ≡ at i span

abbrev pub Finds : (FreeRegion → ℕ) → List ℕ → FreeList → ℕ → Result (Option ℕ) Refusal → Type 0
Finds measure xs l len (Err r) = (is_list xs l ≡ false) × (r ≡ NotAList)
Finds measure xs l len (Ok None) = (is_list xs l ≡ true) × (best measure len 0 (regions xs l) ≡ none)
Finds measure xs l len (Ok (Some i)) = Serves measure xs l len i
