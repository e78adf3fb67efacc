-- What is asked of a list without changing it (document 01, "The list": "`largest` and `largest_whole_units` give 0 for an empty list; the
-- latter also for unit 0"). Assumes nothing.
--   free_bytes       `free_bytes`: the total that the record carries (document 02, P1: "The question reads only that number and never refuses")
--   greatest         the greatest that a measure gives on the regions of a list, 0 on none
--   largest_of       `largest`: the longest region's length; refusal 3
--   largest_units_of `largest_whole_units`: the longest aligned interior; refusal 3
use Rattle.std.specs.Prelude.{ℕ, max, List, [], ◌∷◌}
use Rattle.error.specs.Outcome.{Outcome, answer, first_of}
use Rattle.free_regions.specs.declared.FreeRegion.{FreeRegion}
use Rattle.free_regions.specs.Units.{interior_span}
use Rattle.free_space.specs.declared.list.FreeList.{FreeList}
use Rattle.free_space.specs.Runs.{regions}
use Rattle.free_space.specs.Calls.{not_list}

abbrev pub free_bytes : FreeList → ℕ
free_bytes l = l.total

abbrev pub greatest : (FreeRegion → ℕ) → List FreeRegion → ℕ
greatest f [] = 0
greatest f (r ∷ rs) = max (f r) (greatest f rs)

unfoldable pub largest_of : List ℕ → FreeList → Outcome ℕ
largest_of xs l = first_of (not_list xs l ∷ []) (answer (greatest (λ r. r.len) (regions xs l)))

unfoldable pub largest_units_of : List ℕ → FreeList → ℕ → Outcome ℕ
largest_units_of xs l unit = first_of (not_list xs l ∷ []) (answer (greatest (interior_span unit) (regions xs l)))
