-- Laws of the search for the first region that ends past a byte: what it passed, and whether a list holds a byte of a range. Assumes nothing.
use mathlib.Core.Path.{◌≡◌, refl, sym, ap, ◌∙◌}
use mathlib.Core.List.{List}
use mathlib.Core.Bool.{Bool, true, false, ◌||◌}
use mathlib.Core.Logic.{◌⊎◌, inl, inr}
use Prim.Native.Nat.{ℕ, zero, suc, ◌+◌, ◌-◌, ◌≤◌, ◌<◌}
use native.Mathlib.Omega.{arith}
use borrow.Author.Tests.{ltb-true, ltb-false}
use lib.Dec.{ltb}
use lib.ListN.{drop, get_or}
use Rattle.error.proofs.TestLaws.{le-or-lt}
use Rattle.fields.specs.Ranges.{top}
use Rattle.free_regions.specs.declared.FreeRegion.{FreeRegion}
use Rattle.free_regions.specs.Regions.{region, end, shares, share_bytes}
use Rattle.free_regions.proofs.OkLaws.{ok_prop}
use Rattle.free_regions.proofs.OrderLaws.{end_before, next_in}
use Rattle.free_regions.proofs.ShareLaws.{meets_both, shares_prefix, shares-above}
use Rattle.free_space.specs.Runs.{region_at, decode}
use Rattle.free_space.proofs.DecodeLaws.{here}
use Rattle.pairs.proofs.PairLaws.{length-decode, decode-at, decode-end}
use Rattle.free_lists.specs.Walks.{InOrder, FirstPast}
use Rattle.free_lists.proofs.SharingLaws.{order-fits, from-here, Compared, no_more, no_others, pass_left, pass_right}

-- ---- what the search passed

module _ {xs : List ℕ} {n : ℕ} (p : InOrder xs n) where
  next-above : (i : ℕ) → i + 1 < n → end (region_at xs i) < (region_at xs (i + 1)).addr
  next-above i h =
      let d = region 0 0 in
      let rs = decode n xs in
      let q = next_in 0 top i rs d ((ok_prop 0 rs).0 p.ok) (omega (arith, length-decode region n xs p.room)) in
      let e : suc i ≡ i + 1 = omega arith in
      let there = decode-at region n i xs d (omega arith) p.room in
      let next = ap (λ (k : ℕ). get_or rs k d) e ∙ decode-at region n (i + 1) xs d h p.room in
      omega (arith, q, ap end there, ap (λ (r : FreeRegion). r.addr) next)

  pub ends-later : (i k : ℕ) → i + k < n → end (region_at xs i) ≤ end (region_at xs (i + k))
  ends-later i zero h = let z : i + 0 ≡ i = omega arith in rw z (omega arith)
  ends-later i (suc k) h =
      let q = ends-later i k (omega arith) in
      let t = next-above (i + k) (omega arith) in
      let e : i + suc k ≡ i + k + 1 = omega arith in
      rw e (omega (arith, q, t))

  -- each region that it passed ends at a or below
  all-below : (from a i k : ℕ) → FirstPast xs from n a i → from ≤ k → k < i → end (region_at xs k) ≤ a
  all-below from a i k f h m =
      let w = f.within in
      let b = f.below (omega arith) in
      let e : k + (i - 1 - k) ≡ i - 1 = omega arith in
      let l = rw e at (ends-later k (i - 1 - k) (omega arith)) in
      omega (arith, b, l)

-- where the last region ends at a or below, none is found
none-past : {xs : List ℕ} {n : ℕ} (from a : ℕ) → from ≤ n → end (region_at xs (n - 1)) ≤ a → FirstPast xs from n a n
none-past from a l h = record { order = l; within = omega arith; below = λ i. h; past = λ i. absurd (omega arith) }

-- a search between two places is one between wider ones, where it is known that the region before them ends too low and the one after them does not
pub found_wider : {xs : List ℕ} {from low upto n a i : ℕ} → from ≤ low → upto ≤ n → (from < low → end (region_at xs (low - 1)) ≤ a)
    → (upto < n → a < end (region_at xs upto)) → FirstPast xs low upto a i → FirstPast xs from n a i
found_wider {xs} {from} {low} {upto} {n} {a} {i} l h before after f =
    record { order = omega (arith, f.order); within = omega (arith, f.within); below = low_end (le-or-lt i low); past = high_end (le-or-lt upto i) }
  where
    low_end : (i ≤ low) ⊎ (low < i) → from < i → end (region_at xs (i - 1)) ≤ a
    low_end (inl m) k = let e : low ≡ i = omega (arith, f.order) in rw e at before k
    low_end (inr m) k = f.below m

    high_end : (upto ≤ i) ⊎ (i < upto) → i < n → a < end (region_at xs i)
    high_end (inl m) k = let e : upto ≡ i = omega (arith, f.within) in rw e at after k
    high_end (inr m) k = f.past m

-- ---- two lists share a byte: many regions are passed at once

module _ {xs : List ℕ} {n : ℕ} {ys : List ℕ} {m : ℕ} (p : InOrder xs n) (q : InOrder ys m) where
  many_left : (d i j : ℕ) → j < m → i + d ≤ n → ((k : ℕ) → i ≤ k → k < i + d → end (region_at xs k) ≤ (region_at ys j).addr) → Compared xs n ys m i j
      → Compared xs n ys m (i + d) j
  many_left zero i j l h below c = let z : i + 0 ≡ i = omega arith in rw z c
  many_left (suc d) i j l h below c =
      let e : i + suc d ≡ i + 1 + d = omega arith in
      rw e (many_left d (i + 1) j l (omega arith) (λ k a b. below k (omega arith) (omega arith))
      (pass_left c p q (region_at xs i) (region_at ys j) refl refl (omega arith) l (below i (omega arith) (omega arith))))

  many_right : (d i j : ℕ) → i < n → j + d ≤ m → ((k : ℕ) → j ≤ k → k < j + d → end (region_at ys k) ≤ (region_at xs i).addr) → Compared xs n ys m i j
      → Compared xs n ys m i (j + d)
  many_right zero i j l h below c = let z : j + 0 ≡ j = omega arith in rw z c
  many_right (suc d) i j l h below c =
      let e : j + suc d ≡ j + 1 + d = omega arith in
      rw e (many_right d i (j + 1) l (omega arith) (λ k a b. below k (omega arith) (omega arith))
      (pass_right c p q (region_at xs i) (region_at ys j) refl refl l (omega arith) (below j (omega arith) (omega arith))))

  module _ {i j : ℕ} (c : Compared xs n ys m i j) (r s : FreeRegion) (is-r : r ≡ region_at xs i) (is-s : s ≡ region_at ys j) (l : i < n) (k : j < m) where
    -- the region at hand is passed, and those after it that the search passed
    pub pass_lefts : end r ≤ s.addr → (t : ℕ) → FirstPast xs (i + 1) n s.addr t → Compared xs n ys m t j
    pass_lefts h t f =
        let e : i + 1 + (t - (i + 1)) ≡ t = omega (arith, f.order) in
        let b = ap (λ (q : FreeRegion). q.addr) is-s in
        rw e at (many_left (t - (i + 1)) (i + 1) j k (omega (arith, f.within, f.order))
        (λ u v w. omega (arith, b, all-below p (i + 1) s.addr t u f v (omega (arith, f.order)))) (pass_left c p q r s is-r is-s l k h))

    pub pass_rights : end s ≤ r.addr → (t : ℕ) → FirstPast ys (j + 1) m r.addr t → Compared xs n ys m i t
    pass_rights h t f =
        let e : j + 1 + (t - (j + 1)) ≡ t = omega (arith, f.order) in
        let b = ap (λ (q : FreeRegion). q.addr) is-r in
        rw e at (many_right (t - (j + 1)) i (j + 1) l (omega (arith, f.within, f.order))
        (λ u v w. omega (arith, b, all-below q (j + 1) r.addr t u f v (omega (arith, f.order)))) (pass_right c p q r s is-r is-s l k h))

  begun : Compared xs n ys m 0 0
  begun = record { same = refl }

  -- one list ends before the other begins
  pub all-before : 0 < n → 0 < m → end (region_at xs (n - 1)) ≤ (region_at ys 0).addr → false ≡ share_bytes (decode n xs) (decode m ys)
  all-before l k h =
      let a = (region_at ys 0).addr in
      let first = all-below p 0 a n 0 (none-past 0 a (omega arith) h) (omega arith) l in
      no_more (pass_lefts begun (region_at xs 0) (region_at ys 0) refl refl l k first n (none-past (0 + 1) a (omega arith) h)) p (omega arith)

  pub all_after : 0 < n → 0 < m → end (region_at ys (m - 1)) ≤ (region_at xs 0).addr → false ≡ share_bytes (decode n xs) (decode m ys)
  all_after l k h =
      let a = (region_at xs 0).addr in
      let first = all-below q 0 a m 0 (none-past 0 a (omega arith) h) (omega arith) k in
      no_others (pass_rights begun (region_at xs 0) (region_at ys 0) refl refl l k first m (none-past (0 + 1) a (omega arith) h)) q (omega arith)

-- ---- a list holds a byte of a range: only the region that is found can share one with it

module _ {xs : List ℕ} {n : ℕ} (p : InOrder xs n) (new : FreeRegion) {i : ℕ} (f : FirstPast xs 0 n new.addr i) where
  passed : shares new (decode n xs) ≡ shares new (drop i (decode n xs))
  passed = shares_prefix new i (decode n xs) (end_before (suc new.addr) i (decode n xs) (region 0 0) each (omega (arith, f.within, length-decode region n xs p.room)))
    where
      each : (k : ℕ) → k < i → (0 < (get_or (decode n xs) k (region 0 0)).len) × (end (get_or (decode n xs) k (region 0 0)) < suc new.addr)
      each k h =
          let w = f.within in
          let e = decode-at region n k xs (region 0 0) (omega arith) p.room in
          let t = order-fits p k (region_at xs k) refl (omega arith) in
          (omega (arith, ap (λ (r : FreeRegion). r.len) e, t.some), omega (arith, ap end e, all-below p 0 new.addr i k f (omega arith) h))

  pub holds-none : n ≤ i → false ≡ shares new (decode n xs)
  holds-none h = sym (passed ∙ ap (shares new) (decode-end region n i xs h p.room))

  pub holds-here : 0 < new.len → i < n → (r : FreeRegion) → r ≡ region_at xs i → ltb r.addr (end new) ≡ shares new (decode n xs)
  holds-here some l r is = go (ltb r.addr (end new)) refl
    where
      rest : shares new (decode n xs) ≡ shares new (drop i (decode n xs))
      rest = passed

      go : (t : Bool) → ltb r.addr (end new) ≡ t → t ≡ shares new (decode n xs)
      go true e =
          let q = meets_both new r some (order-fits p i r is l).some (ltb-true r.addr (end new) e) (omega (arith, f.past l, ap end is)) in
          sym (rest ∙ ap (shares new) (here n i xs r is l p.room) ∙ ap (λ (b : Bool). b || shares new (drop (i + 1) (decode n xs))) q)
      go false e = sym (rest ∙ shares-above new r.addr top (drop i (decode n xs)) (from-here p i r is l) (ltb-false r.addr (end new) e))
