-- What the contracts of the private functions of a pass over a list say. No public contract cites this file. Assumes nothing.
--   Measures     m is what a call, of which that holds, gives of a region that ends within 64 bits
--   greatest_of  the greatest measure of the regions of a list; refusal 3
use Rattle.std.specs.Prelude.{◌≡◌, ℕ, ◌≤◌, List, [], ◌∷◌}
use Rattle.error.specs.Outcome.{Outcome, answer, first_of}
use Rattle.fields.specs.Ranges.{top}
use Rattle.free_regions.specs.declared.FreeRegion.{FreeRegion}
use Rattle.free_regions.specs.Regions.{end}
use Rattle.free_space.specs.declared.list.FreeList.{FreeList}
use Rattle.free_space.specs.Runs.{regions}
use Rattle.free_space.specs.Calls.{not_list}
use Rattle.free_space.specs.Questions.{greatest}

abbrev pub Measures : (FreeRegion → ℕ) → (FreeRegion → ℕ → Type 0) → Type 0
Measures m gives = (r : FreeRegion) (n : ℕ) → end r ≤ top → gives r n → n ≡ m r

abbrev pub greatest_of : (FreeRegion → ℕ) → List ℕ → FreeList → Outcome ℕ
greatest_of m xs l = first_of (not_list xs l ∷ []) (answer (greatest m (regions xs l)))
