-- Laws of the pass for a range. Assumes nothing.
use Rattle.std.proofs.Common.{◌≡◌, ℕ, ◌+◌, ◌-◌, ◌<◌, ◌≤◌, true, false, ◌&&◌, ltb, List, sym, ap, ◌∙◌, arith, ltb-false, ltb-true, lt-ltb}
use Rattle.error.proofs.TestLaws.{and_true}
use Rattle.free_regions.specs.declared.FreeRegion.{FreeRegion}
use Rattle.free_space.specs.declared.list.FreeList.{FreeList}
use Rattle.free_space.specs.Runs.{region_at, is_list}
use Rattle.free_space.specs.Splices.{Past, Apart}

-- the region that a step left
pub region-before : (xs : List ℕ) (i j : ℕ) (r : FreeRegion) → j ≡ i + 1 → r ≡ region_at xs i → region_at xs (j - 1) ≡ r
region-before xs i j r e is = let k : j - 1 ≡ i = omega arith in ap (region_at xs) k ∙ sym is

-- no region shares a byte with the range from a up to e
pub apart-here : (xs : List ℕ) (l : FreeList) (a e i : ℕ) → is_list xs l ≡ true → Past xs l a i → (i < l.count → e ≤ (region_at xs i).addr) → Apart xs l a e i i
apart-here xs l a e i ok past from =
    record { list = ok; low = past; high = record { order = omega arith; within = past.within; inside = λ h. absurd (omega arith); from = from } }

-- the test that `begins_below` makes
module _ (xs : List ℕ) (l : FreeList) (i e : ℕ) where
  pub begins : (ltb i l.count && ltb (region_at xs i).addr e) ≡ true → (i < l.count) × ((region_at xs i).addr < e)
  begins t = let p = and_true (ltb i l.count) _ t in (ltb-true i l.count p.0, ltb-true (region_at xs i).addr e p.1)

  pub begins-not : (ltb i l.count && ltb (region_at xs i).addr e) ≡ false → i < l.count → e ≤ (region_at xs i).addr
  begins-not t h = ltb-false (region_at xs i).addr e (rw (lt-ltb i l.count h) at t)
