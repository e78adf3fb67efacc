-- Laws of the pass that tests a list and takes the greatest measure of its regions. Assumes nothing.
--   Passed   the pass has come to the region at i, and m is the greatest measure up to it
use Rattle.std.proofs.Common.{◌≡◌, ℕ, ◌+◌, ◌*◌, ◌<◌, ◌≤◌, max, true, false, not, List, length, drop, ap, ◌∙◌, arith}
use Rattle.error.specs.declared.Refusal.TheVariants.{NotAList}
use Rattle.error.specs.Outcome.{answer, refused}
use Rattle.error.proofs.OutcomeLaws.{refuses, passes}
use Rattle.free_regions.specs.declared.FreeRegion.{FreeRegion}
use Rattle.free_regions.specs.Regions.{region}
use Rattle.pairs.proofs.PairLaws.{decode-end}
use Rattle.free_space.specs.declared.list.FreeList.{FreeList}
use Rattle.free_space.specs.Runs.{region_at, regions, is_list}
use Rattle.free_space.specs.Questions.{greatest}
use Rattle.free_space.specs.Passes.{greatest_of}
use Rattle.free_space.proofs.DecodeLaws.{here}

abbrev pub Passed : (FreeRegion → ℕ) → List ℕ → FreeList → ℕ → ℕ → Type 0
Passed f xs l i m = max m (greatest f (drop i (regions xs l))) ≡ greatest f (regions xs l)

module _ (f : FreeRegion → ℕ) (xs : List ℕ) (l : FreeList) where
  -- ---- the cases of the answer

  pub no_list : is_list xs l ≡ false → refused NotAList ≡ greatest_of f xs l
  no_list e = refuses _ _ _ (ap not e)

  pub greatest-end : (i m : ℕ) → 2 * l.count ≤ length xs → Passed f xs l i m → l.count ≤ i → is_list xs l ≡ true → answer m ≡ greatest_of f xs l
  greatest-end i m room p h ok =
      let g : m ≡ greatest f (regions xs l) = omega (arith, p, ap (greatest f) (decode-end region l.count i xs h room)) in
      ap answer g ∙ passes _ _ _ (ap not ok)

  -- ---- an iteration of the pass

  greatest-here : (i : ℕ) (r : FreeRegion) → r ≡ region_at xs i → i < l.count → 2 * l.count ≤ length xs
      → greatest f (drop i (regions xs l)) ≡ max (f r) (greatest f (drop (i + 1) (regions xs l)))
  greatest-here i r is h room = ap (greatest f) (here l.count i xs r is h room)

  pub greatest_step : (i m k : ℕ) (r : FreeRegion) → r ≡ region_at xs i → i < l.count → 2 * l.count ≤ length xs → Passed f xs l i m
      → k ≡ max m (f r) → Passed f xs l (i + 1) k
  greatest_step i m k r is h room p g = omega (arith, g, p, greatest-here i r is h room)
