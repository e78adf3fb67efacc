-- Regions of a list in order, by their places. Assumes nothing.
use Rattle.std.proofs.Common.{◌≡◌, ℕ, zero, suc, ◌+◌, ◌-◌, ◌*◌, ◌<◌, ◌≤◌, true, List, length, get_or, take, drop, sym, ap, ◌∙◌, subst, arith}
use Rattle.fields.specs.Ranges.{top}
use Rattle.free_regions.specs.declared.FreeRegion.{FreeRegion}
use Rattle.free_regions.specs.Regions.{region, end, sum_of_lengths}
use Rattle.free_regions.proofs.OkLaws.{Within, ok_prop}
use Rattle.free_regions.proofs.OrderLaws.{EndBefore, end_before, drop-within, next_in}
use Rattle.pairs.proofs.PairLaws.{length-decode, decode-at}
use Rattle.free_space.specs.declared.list.FreeList.{FreeList}
use Rattle.free_space.specs.Runs.{region_at, regions, is_list}
use Rattle.free_space.specs.Splices.{Goes}
use Rattle.free_space.proofs.DecodeLaws.{here}
use Rattle.free_space.proofs.ListLaws.{listed, region-fits}

module _ (xs : List ℕ) (l : FreeList) (ok : is_list xs l ≡ true) where
  room : 2 * l.count ≤ length xs
  room = (listed xs l ok).room

  long : length (regions xs l) ≡ l.count
  long = length-decode region l.count xs room

  at-is : (i : ℕ) → i < l.count → get_or (regions xs l) i (region 0 0) ≡ region_at xs i
  at-is i h = decode-at region l.count i xs (region 0 0) h room

  ordered : Within 0 top (regions xs l)
  ordered = (ok_prop 0 (regions xs l)).0 (listed xs l ok).ok

  -- the regions from i on begin at its address
  pub rest-within : (i : ℕ) → i < l.count → Within (region_at xs i).addr top (drop i (regions xs l))
  rest-within i h =
      subst (λ (r : FreeRegion). Within r.addr top (drop i (regions xs l))) (at-is i h)
      (drop-within 0 top i (regions xs l) (region 0 0) ordered (omega (arith, long)))

  -- what goes with one region
  pub goes_one : (i : ℕ) (r : FreeRegion) → i < l.count → r ≡ region_at xs i → Goes (regions xs l) i (i + 1) r.len
  goes_one i r h got = sym (ap sum_of_lengths (here l.count i xs r got h room))

  pub next-above : (i : ℕ) → i + 1 < l.count → end (region_at xs i) < (region_at xs (i + 1)).addr
  next-above i h =
      let d = region 0 0 in
      let n = next_in 0 top i (regions xs l) d ordered (omega (arith, long)) in
      let e : suc i ≡ i + 1 = omega arith in
      omega (arith, n, ap end (at-is i (omega arith)), ap (λ (r : FreeRegion). r.addr) (ap (λ (k : ℕ). get_or (regions xs l) k d) e ∙ at-is (i + 1) h))

  above : (i k : ℕ) → i + k < l.count → ((region_at xs i).addr ≤ (region_at xs (i + k)).addr) × (end (region_at xs i) ≤ end (region_at xs (i + k)))
  above i zero h = let z : i + 0 ≡ i = omega arith in rw z (omega arith, omega arith)
  above i (suc k) h =
      let p = above i k (omega arith) in
      let n = next-above (i + k) (omega arith) in
      let f = region-fits xs l (i + k) ok (omega arith) in
      let e : i + suc k ≡ i + k + 1 = omega arith in
      rw e (omega (arith, p.0, n, f.some), omega (arith, p.1, n))

  -- a region further on begins and ends no lower
  pub later : (i j : ℕ) → i ≤ j → j < l.count → ((region_at xs i).addr ≤ (region_at xs j).addr) × (end (region_at xs i) ≤ end (region_at xs j))
  later i j h m = let e : i + (j - i) ≡ j = omega arith in rw e at (above i (j - i) (omega arith))

  -- the regions before i end below b, where the last of them does
  pub all-before : (b i : ℕ) → i ≤ l.count → (0 < i → end (region_at xs (i - 1)) < b) → EndBefore b (take i (regions xs l))
  all-before b i h last = end_before b i (regions xs l) (region 0 0) each (omega (arith, long))
    where
      each : (k : ℕ) → k < i → (0 < (get_or (regions xs l) k (region 0 0)).len) × (end (get_or (regions xs l) k (region 0 0)) < b)
      each k m =
          let e = at-is k (omega arith) in
          let f = region-fits xs l k ok (omega arith) in
          let p = later k (i - 1) (omega arith) (omega arith) in
          (omega (arith, ap (λ (r : FreeRegion). r.len) e, f.some), omega (arith, ap end e, p.1, last (omega arith)))
