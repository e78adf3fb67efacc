-- What the inner functions of the calls know of a run, and what a patch holds. But for `Decision`, `change` and `patch`, no public contract cites this file; it serves
-- the contracts of private functions. Assumes nothing.
--   goes_on    the regions that are left follow one that ends at a place, and their lengths are what a sum lacks of the total
--   Tested     where a pass stands: the regions before a place are tested
--   First      a list's first region, tested
--   Begins     what is known where the room and the first region were tested
--   Past       the first region that ends past a place
--   From       the first from a region on that begins at a place or above
--   Apart      the regions between two places share a byte with a range, and no others
--   Goes       so many bytes go with the regions from a place up to another
--   Meets      the answer of the search for the first region that can share a byte with a range of so many bytes
--   Decision   what a call decides: a refusal, Nothing, or a change
--   change     the decision that is a change
--   patch      the regions that take the place of others
--   Replaces   regions of a list can be replaced by a patch, and what is left then has a total
use Rattle.std.specs.Prelude.{◌≡◌, ℕ, suc, ◌+◌, ◌-◌, ◌*◌, ◌<◌, ◌≤◌, Bool, true, false, ◌&&◌, List, [], ◌∷◌, length, drop, ◌==◌, Result, Option, Ok, Err, Some, None}
use Rattle.error.specs.declared.Refusal.{Refusal}
use Rattle.error.specs.declared.Refusal.TheVariants.{NotAList, Overflow}
use Rattle.fields.specs.Ranges.{top}
use Rattle.free_regions.specs.declared.FreeRegion.{FreeRegion}
use Rattle.free_regions.specs.Regions.{end, sum_of_lengths, ok_from, spliced}
use Rattle.free_space.specs.declared.list.FreeList.{FreeList}
use Rattle.free_space.specs.declared.decide.Replacement.{Replacement}
use Rattle.free_space.specs.declared.run.Patch.{Patch}
use Rattle.free_space.specs.declared.run.Patch.TheVariants.{Empty, One, Two}
use Rattle.free_space.specs.Runs.{region_at, regions, is_list}

abbrev pub goes_on : ℕ → ℕ → ℕ → List FreeRegion → Bool
goes_on prev sum total rs = ok_from (suc prev) rs && total == sum + sum_of_lengths rs

-- the last region before i ends at prev, and the lengths up to there add up to sum
pub record Tested (xs : List ℕ) (l : FreeList) (i prev sum : ℕ) : Type 0 where
  pub room : 2 * l.count ≤ length xs
  pub within : prev ≤ top
  pub less : sum ≤ prev
  pub rest : is_list xs l ≡ goes_on prev sum l.total (drop i (regions xs l))

pub record First (xs : List ℕ) (l : FreeList) (r : FreeRegion) : Type 0 where
  pub is : r ≡ region_at xs 0
  pub some : 0 < l.count
  pub tested : Tested xs l 1 (end r) r.len

abbrev pub Begins : List ℕ → FreeList → Result (Option FreeRegion) Refusal → Type 0
Begins xs l (Err r) = (is_list xs l ≡ false) × (r ≡ NotAList)
Begins xs l (Ok None) = (is_list xs l ≡ true) × (l.count ≡ 0)
Begins xs l (Ok (Some r)) = First xs l r

-- i is the place of the first region that ends past a
pub record Past (xs : List ℕ) (l : FreeList) (a i : ℕ) : Type 0 where
  pub within : i ≤ l.count
  pub below : 0 < i → end (region_at xs (i - 1)) ≤ a
  pub past : i < l.count → a < end (region_at xs i)

-- i is the place of the first region from lo on that begins at e or above
pub record From (xs : List ℕ) (l : FreeList) (lo e i : ℕ) : Type 0 where
  pub order : lo ≤ i
  pub within : i ≤ l.count
  pub inside : lo < i → (region_at xs (i - 1)).addr < e
  pub from : i < l.count → e ≤ (region_at xs i).addr

pub record Apart (xs : List ℕ) (l : FreeList) (a e lo hi : ℕ) : Type 0 where
  pub list : is_list xs l ≡ true
  pub low : Past xs l a lo
  pub high : From xs l lo e hi

abbrev pub Goes : List FreeRegion → ℕ → ℕ → ℕ → Type 0
Goes rs lo hi gone = gone + sum_of_lengths (drop hi rs) ≡ sum_of_lengths (drop lo rs)

abbrev pub Meets : List ℕ → FreeList → ℕ → ℕ → Result (Option ℕ) Refusal → Type 0
Meets xs l a len (Err r) = (top < a + len) × (r ≡ Overflow)
Meets xs l a len (Ok None) = (a + len ≤ top) × (len ≡ 0)
Meets xs l a len (Ok (Some i)) = (a + len ≤ top) × (0 < len) × Past xs l a i

abbrev pub Decision : Type 0
Decision = Result (Option Replacement) Refusal

abbrev pub change : ℕ → ℕ → ℕ → ℕ → Patch → Decision
change a lo hi total p = Ok (Some (record { addr = a; lo = lo; hi = hi; total = total; patch = p }))

abbrev pub patch : Patch → List FreeRegion
patch Empty = []
patch (One r) = r ∷ []
patch (Two r s) = r ∷ s ∷ []

pub record Replaces (xs : List ℕ) (l : FreeList) (lo hi total : ℕ) (p : List FreeRegion) : Type 0 where
  pub list : is_list xs l ≡ true
  pub order : lo ≤ hi
  pub within : hi ≤ l.count
  pub sum : total ≡ sum_of_lengths (spliced (regions xs l) lo hi p)
