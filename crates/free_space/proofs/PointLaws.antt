-- Laws of the search by halving: the pairs of a run as arrays of two, and the first region that ends past a place. Assumes nothing.
--   reaches   a pair, as the search tests it: its end, at most the greatest number, is at most a
use Rattle.std.proofs.Common.{◌≡◌, ℕ, zero, suc, ◌+◌, ◌-◌, ◌*◌, ◌/◌, ◌<◌, ◌≤◌, min, Bool, true, false, leb, List, [], ◌∷◌, length, get_or, take, drop, subst, ap, ◌∙◌, sym, arith, length-take, le-leb, leb-true, leb-false}
use lib.Seq.{get_or-take, get_or-drop}
use Rattle.std.specs.Simd.{first_chunks}
use Rattle.std.specs.List.Sorted.{IsPartitionedBy, IsPartitionPoint}
use Rattle.fields.specs.Ranges.{top}
use Rattle.free_regions.specs.Regions.{end}
use Rattle.free_space.specs.declared.list.FreeList.{FreeList}
use Rattle.free_space.specs.Runs.{region_at, is_list}
use Rattle.free_space.specs.Splices.{Past}
use Rattle.free_space.proofs.ListLaws.{listed, region-fits}
use Rattle.free_space.proofs.PlaceLaws.{later}

chunk_at : (n k i : ℕ) (xs d : List ℕ) → k < n → i < 2 → get_or (get_or (first_chunks 2 n xs) k d) i 0 ≡ get_or xs (2 * k + i) 0
chunk_at zero k i xs d h b = absurd (omega arith)
chunk_at (suc n) zero i xs d h b = get_or-take 2 xs i 0 b ∙ ap (λ (j : ℕ). get_or xs j 0) (let e : i ≡ 2 * 0 + i = omega arith in e)
chunk_at (suc n) (suc k) i xs d h b =
    chunk_at n k i (drop 2 xs) d (omega arith) b
    ∙ get_or-drop 2 xs (2 * k + i) 0
    ∙ ap (λ (j : ℕ). get_or xs j 0) (let e : 2 + (2 * k + i) ≡ 2 * suc k + i = omega arith in e)

abbrev pub reaches : ℕ → List ℕ → Bool
reaches a y = leb (min (get_or y 0 0 + get_or y 1 0) top) a

module _ (xs : List ℕ) (l : FreeList) (ok : is_list xs l ≡ true) (a : ℕ) where
  abbrev part : List ℕ
  part = take (2 * l.count) xs

  abbrev chunks : List (List ℕ)
  chunks = first_chunks 2 (length part / 2) part

  many : length part / 2 ≡ l.count
  many = let room = (listed xs l ok).room in omega (arith, length-take (2 * l.count) xs)

  number : (k i : ℕ) (d : List ℕ) → k < l.count → i < 2 → get_or (get_or chunks k d) i 0 ≡ get_or xs (2 * k + i) 0
  number k i d h b = chunk_at (length part / 2) k i part d (omega (arith, many)) b ∙ get_or-take (2 * l.count) xs (2 * k + i) 0 (omega arith)

  reaches_is : (k : ℕ) (d : List ℕ) → k < l.count → reaches a (get_or chunks k d) ≡ leb (end (region_at xs k)) a
  reaches_is k d h =
      let f = region-fits xs l k ok h in
      let z : 2 * k + 0 ≡ 2 * k = omega arith in
      let e : min (get_or (get_or chunks k d) 0 0 + get_or (get_or chunks k d) 1 0) top ≡ end (region_at xs k) =
      omega (arith, f.within, number k 0 d h (omega arith), number k 1 d h (omega arith), ap (λ (j : ℕ). get_or xs j 0) z) in
      ap (λ (n : ℕ). leb n a) e

  -- the regions are in order
  parted : length chunks ≡ l.count → IsPartitionedBy (reaches a) chunks
  parted long i j d h b t =
      let m : j < l.count = omega arith in
      let p = later xs l ok i j h m in
      let u = leb-true (end (region_at xs j)) a (sym (reaches_is j d m) ∙ t) in
      reaches_is i d (omega arith) ∙ le-leb (end (region_at xs i)) a (omega (arith, p.1))

  past_point : (r : ℕ) → length chunks ≡ l.count → r ≤ length chunks
      → IsPartitionPoint (λ y. reaches a y ≡ true) (λ y. reaches a y ≡ false) chunks r → Past xs l a r
  past_point r long h point = record {
    within = omega arith;
    below = λ m. leb-true (end (region_at xs (r - 1))) a (sym (reaches_is (r - 1) [] (omega arith)) ∙ point.0 (r - 1) [] (omega arith) (omega arith));
    past = λ m. leb-false (end (region_at xs r)) a (sym (reaches_is r [] m) ∙ point.1 r [] (omega arith) (omega arith));
  }

  -- cs are the pairs as the code has them
  pub past_from : (cs : List (List ℕ)) (r : ℕ) → cs ≡ chunks → length cs ≡ length part / 2 → r ≤ length cs
      → (IsPartitionedBy (reaches a) cs → IsPartitionPoint (λ y. reaches a y ≡ true) (λ y. reaches a y ≡ false) cs r) → Past xs l a r
  past_from cs r e long h point =
      let n : length chunks ≡ l.count = ap (λ (q : List (List ℕ)). length q) (sym e) ∙ long ∙ many in
      let p : IsPartitionedBy (reaches a) cs = subst (IsPartitionedBy (reaches a)) (sym e) (parted n) in
      let b : r ≤ length chunks = subst (λ (q : List (List ℕ)). r ≤ length q) e h in
      past_point r n b (subst (λ (q : List (List ℕ)). IsPartitionPoint (λ y. reaches a y ≡ true) (λ y. reaches a y ≡ false) q r) e (point p))
