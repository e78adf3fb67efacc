-- Laws of `shares`, `insert` and `absorb`, from the regions that share a byte with a region. Assumes nothing.
use Rattle.std.proofs.Common.{◌≡◌, ℕ, suc, ◌+◌, ◌-◌, ◌<◌, ◌≤◌, min, max, Bool, true, false, cond, ◌⊎◌, List, ◌∷◌, ◌++◌, get_or, take, drop, sym, ap, ◌∙◌, ap₂, inl, inr, arith, le-ltb, lt-ltb, le-leb}
use borrow.Author.Tests.{lt-leb}
use Rattle.error.proofs.TestLaws.{le-or-lt}
use Rattle.fields.specs.Ranges.{top}
use Rattle.free_regions.specs.declared.FreeRegion.{FreeRegion}
use Rattle.free_regions.specs.Regions.{region, end, shares, join, absorb, insert}
use Rattle.free_regions.proofs.OrderLaws.{keep_prefix}
use Rattle.free_regions.proofs.ShareLaws.{shares_at, shares_prefix, shares-above}
use Rattle.pairs.proofs.PairLaws.{length-decode, decode-at, decode-drop, decode-end}
use Rattle.free_space.specs.declared.list.FreeList.{FreeList}
use Rattle.free_space.specs.Runs.{region_at, regions, is_list}
use Rattle.free_space.specs.Splices.{Past, Apart}
use Rattle.free_space.proofs.ListLaws.{listed, region-fits}
use Rattle.free_space.proofs.PlaceLaws.{rest-within, next-above, all-before}

-- ---- `shares`

module _ (xs : List ℕ) (l : FreeList) (new : FreeRegion) (some : 0 < new.len) where
  -- the first region that ends past the new one's start begins below its end
  pub shares-some : (i : ℕ) → is_list xs l ≡ true → Past xs l new.addr i → i < l.count → (region_at xs i).addr < end new → shares new (regions xs l) ≡ true
  shares-some i ok past h below =
      let room = (listed xs l ok).room in
      let r = get_or (regions xs l) i (region 0 0) in
      let e : r ≡ region_at xs i = decode-at region l.count i xs (region 0 0) h room in
      let f = region-fits xs l i ok h in
      shares_at new i (regions xs l) (region 0 0) (omega (arith, length-decode region l.count xs room))
      (lt-ltb (max new.addr r.addr) (min (end new) (end r)) (omega (arith, ap end e, ap (λ (q : FreeRegion). q.addr) e, below, past.past h, f.some)))

  -- ---- `insert`, where no region shares a byte

  module _ (i : ℕ) (apart : Apart xs l new.addr (end new) i i) where
    ok : is_list xs l ≡ true
    ok = apart.list

    pub shares-none : shares new (regions xs l) ≡ false
    shares-none =
        shares_prefix new i (regions xs l)
        (all-before xs l ok (suc new.addr) i apart.high.within (λ m. let b = apart.low.below m in omega arith))
        ∙ go (le-or-lt l.count i)
      where
        go : (l.count ≤ i) ⊎ (i < l.count) → shares new (drop i (regions xs l)) ≡ false
        go (inl m) = ap (shares new) (decode-end region l.count i xs m (listed xs l ok).room)
        go (inr m) = shares-above new (region_at xs i).addr top (drop i (regions xs l)) (rest-within xs l ok i m) (apart.high.from m)

    -- the region below does not touch
    pub insert-apart : (0 < i → end (region_at xs (i - 1)) ≡ new.addr → ⊥) → insert new (regions xs l) ≡ take i (regions xs l) ++ absorb new (drop i (regions xs l))
    insert-apart h =
        keep_prefix (insert new) new.addr (λ r t s k. rw (lt-ltb (end r) new.addr k)) i (regions xs l)
        (all-before xs l ok new.addr i apart.high.within (λ m. let b = apart.low.below m in let n = h m in omega arith))
        ∙ ap (λ (q : List FreeRegion). take i (regions xs l) ++ q) (go (le-or-lt l.count i))
      where
        go : (l.count ≤ i) ⊎ (i < l.count) → insert new (drop i (regions xs l)) ≡ absorb new (drop i (regions xs l))
        go (inl m) = let z = decode-end region l.count i xs m (listed xs l ok).room in ap (insert new) z ∙ sym (ap (absorb new) z)
        go (inr m) =
            let r = region_at xs i in
            let z = decode-drop region l.count i xs m (listed xs l ok).room in
            let p = apart.low.past m in
            ap (insert new) z
            ∙ ap (λ (b : Bool). cond b (r ∷ insert new (drop (i + 1) (regions xs l))) (absorb new (r ∷ drop (i + 1) (regions xs l)))) (le-ltb (end r) new.addr (omega arith))
            ∙ sym (ap (absorb new) z)

    -- the region below ends where the new one begins
    pub insert_touch : 0 < i → (r : FreeRegion) → r ≡ region_at xs (i - 1) → end r ≡ new.addr
        → insert new (regions xs l) ≡ take (i - 1) (regions xs l) ++ absorb (region r.addr (r.len + new.len)) (drop i (regions xs l))
    insert_touch m r is t =
        let j = i - 1 in
        let within = apart.high.within in
        let k : j + 1 ≡ i = omega arith in
        let z : drop j (regions xs l) ≡ r ∷ drop i (regions xs l) =
        decode-drop region l.count j xs (omega arith) (listed xs l ok).room ∙ ap₂ (λ (q : FreeRegion) (u : ℕ). q ∷ drop u (regions xs l)) (sym is) k in
        let joined : join new r ≡ region r.addr (r.len + new.len) =
        ap₂ region (let g : min new.addr r.addr ≡ r.addr = omega arith in g)
        (let g : max (end new) (end r) - min new.addr r.addr ≡ r.len + new.len = omega arith in g) in
        keep_prefix (insert new) new.addr (λ r t s k. rw (lt-ltb (end r) new.addr k)) j (regions xs l)
        (all-before xs l ok new.addr j (omega arith) lower)
        ∙ ap (λ (q : List FreeRegion). take j (regions xs l) ++ q)
        (ap (insert new) z
        ∙ ap (λ (b : Bool). cond b (r ∷ insert new (drop i (regions xs l))) (absorb new (r ∷ drop i (regions xs l)))) (le-ltb (end r) new.addr (omega arith))
        ∙ ap (λ (b : Bool). cond b (absorb (join new r) (drop i (regions xs l))) (new ∷ r ∷ drop i (regions xs l))) (le-leb r.addr (end new) (omega arith))
        ∙ ap (λ (q : FreeRegion). absorb q (drop i (regions xs l))) joined)
      where
        lower : 0 < i - 1 → end (region_at xs (i - 1 - 1)) < new.addr
        lower p =
            let within = apart.high.within in
            let n = next-above xs l ok (i - 1 - 1) (omega arith) in
            let k : i - 1 - 1 + 1 ≡ i - 1 = omega arith in
            omega (arith, n, ap (λ (u : ℕ). (region_at xs u).addr) k, ap (λ (q : FreeRegion). q.addr) is, t)

-- ---- `absorb`, where the regions from i on begin at the end or above

module _ (xs : List ℕ) (l : FreeList) (ok : is_list xs l ≡ true) where
  pub absorb-apart : (new : FreeRegion) (i : ℕ) → (i < l.count → end new < (region_at xs i).addr) → absorb new (drop i (regions xs l)) ≡ new ∷ drop i (regions xs l)
  absorb-apart new i h = go (le-or-lt l.count i)
    where
      go : (l.count ≤ i) ⊎ (i < l.count) → absorb new (drop i (regions xs l)) ≡ new ∷ drop i (regions xs l)
      go (inl m) = let z = decode-end region l.count i xs m (listed xs l ok).room in ap (absorb new) z ∙ ap (λ (q : List FreeRegion). new ∷ q) (sym z)
      go (inr m) =
          let r = region_at xs i in
          let z = decode-drop region l.count i xs m (listed xs l ok).room in
          ap (absorb new) z
          ∙ ap (λ (b : Bool). cond b (absorb (join new r) (drop (i + 1) (regions xs l))) (new ∷ r ∷ drop (i + 1) (regions xs l))) (lt-leb r.addr (end new) (h m))
          ∙ ap (λ (q : List FreeRegion). new ∷ q) (sym z)

  pub absorb_touch : (new : FreeRegion) (i : ℕ) (r : FreeRegion) → i < l.count → r ≡ region_at xs i → end new ≡ r.addr
      → absorb new (drop i (regions xs l)) ≡ region new.addr (new.len + r.len) ∷ drop (i + 1) (regions xs l)
  absorb_touch new i r m is t =
      let z : drop i (regions xs l) ≡ r ∷ drop (i + 1) (regions xs l) =
      decode-drop region l.count i xs m (listed xs l ok).room ∙ ap (λ (q : FreeRegion). q ∷ drop (i + 1) (regions xs l)) (sym is) in
      let joined : join new r ≡ region new.addr (new.len + r.len) =
      ap₂ region (let g : min new.addr r.addr ≡ new.addr = omega arith in g)
      (let g : max (end new) (end r) - min new.addr r.addr ≡ new.len + r.len = omega arith in g) in
      ap (absorb new) z
      ∙ ap (λ (b : Bool). cond b (absorb (join new r) (drop (i + 1) (regions xs l))) (new ∷ r ∷ drop (i + 1) (regions xs l))) (le-leb r.addr (end new) (omega arith))
      ∙ ap (λ (q : FreeRegion). absorb q (drop (i + 1) (regions xs l))) joined
      ∙ absorb-apart (region new.addr (new.len + r.len)) (i + 1) (λ k. let n = next-above xs l ok i k in omega (arith, n, ap end is, t))
