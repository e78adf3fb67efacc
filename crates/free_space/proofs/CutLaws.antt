-- Laws of `cut_all`: what a range leaves of a list, from the regions that share a byte with it. Assumes nothing.
use Rattle.std.proofs.Common.{◌≡◌, ℕ, zero, suc, ◌+◌, ◌-◌, ◌<◌, ◌≤◌, min, max, true, ◌⊎◌, List, [], ◌∷◌, ◌++◌, take, drop, sym, refl, ap, ◌∙◌, ap₂, inl, inr, append_assoc, arith, take-append-drop}
use Rattle.error.proofs.TestLaws.{le-or-lt}
use Rattle.fields.specs.Ranges.{top}
use Rattle.free_regions.specs.declared.FreeRegion.{FreeRegion}
use Rattle.free_regions.specs.Regions.{region, end, sum_of_lengths, piece, cut, cut_all, spliced}
use Rattle.free_regions.proofs.OkLaws.{Within}
use Rattle.free_regions.proofs.LengthLaws.{sum-pieces, sum-cut-all}
use Rattle.free_regions.proofs.OrderLaws.{keep_prefix}
use Rattle.pairs.proofs.PairLaws.{decode-drop, decode-end}
use Rattle.free_space.specs.declared.list.FreeList.{FreeList}
use Rattle.free_space.specs.Runs.{region_at, regions, is_list}
use Rattle.free_space.specs.Splices.{Apart, Goes, Replaces}
use Rattle.free_space.proofs.ListLaws.{listed, region-fits}
use Rattle.free_space.proofs.PlaceLaws.{rest-within, next-above, later, all-before}
use Rattle.free_regions.proofs.CutSets.{piece-none, piece-some}
use Rattle.free_space.proofs.SpliceLaws.{new_total, gone_less}

module _ (a e : ℕ) (h : a ≤ e) where
  -- ---- one region

  cut_below : (r : FreeRegion) → 0 < r.len → end r ≤ a → cut a e r ≡ r ∷ []
  cut_below r s k =
      let f : min (end r) a - r.addr ≡ r.len = omega arith in
      let b : end r - max e r.addr ≡ 0 = omega arith in
      ap₂ (λ (p q : List FreeRegion). p ++ q) (ap (piece r.addr) f ∙ piece-some r.addr r.len (omega arith))
      (piece-none (max e r.addr) (end r - max e r.addr) b)

  cut-above : (r : FreeRegion) → 0 < r.len → e ≤ r.addr → cut a e r ≡ r ∷ []
  cut-above r s k =
      let f : min (end r) a - r.addr ≡ 0 = omega arith in
      let m : max e r.addr ≡ r.addr = omega arith in
      let b : end r - r.addr ≡ r.len = omega arith in
      ap₂ (λ (p q : List FreeRegion). p ++ q) (piece-none r.addr (min (end r) a - r.addr) f)
      (ap (λ (x : ℕ). piece x (end r - x)) m ∙ ap (piece r.addr) b ∙ piece-some r.addr r.len (omega arith))

  cut-over : (r : FreeRegion) → r.addr < e → a < end r → cut a e r ≡ piece r.addr (a - r.addr) ++ piece e (end r - e)
  cut-over r k l =
      let f : min (end r) a ≡ a = omega arith in
      let m : max e r.addr ≡ e = omega arith in
      ap₂ (λ (x y : ℕ). piece r.addr (x - r.addr) ++ piece y (end r - y)) f m

  -- ---- the regions above the range, and those that share a byte with it

  cut-all-above : (low high : ℕ) (rs : List FreeRegion) → Within low high rs → e ≤ low → cut_all a e rs ≡ rs
  cut-all-above low high [] w k = refl
  cut-all-above low high (r ∷ rs) w k =
      ap₂ (λ (p q : List FreeRegion). p ++ q) (cut-above r w.0 (omega arith)) (cut-all-above (suc (end r)) high rs w.3 (omega arith))

  -- a further region of those that meet the range: only its back can be left, and the one before has none
  cut-next : (last : ℕ) (r : FreeRegion) (rs : List FreeRegion) → a < last → last < r.addr → r.addr < e
      → piece e (last - e) ++ cut_all a e (r ∷ rs) ≡ piece e (end r - e) ++ cut_all a e rs
  cut-next last r rs p q k =
      let f : a - r.addr ≡ 0 = omega arith in
      ap₂ (λ (x y : List FreeRegion). x ++ (y ++ cut_all a e rs)) (piece-none e (last - e) (omega arith))
      (cut-over r k (omega arith) ∙ ap (λ (x : List FreeRegion). x ++ piece e (end r - e)) (piece-none r.addr (a - r.addr) f))

module _ (xs : List ℕ) (l : FreeList) (a e lo hi : ℕ) (h : a ≤ e) (apart : Apart xs l a e lo hi) where
  ok : is_list xs l ≡ true
  ok = apart.list

  prefix : cut_all a e (regions xs l) ≡ take lo (regions xs l) ++ cut_all a e (drop lo (regions xs l))
  prefix =
      let order = apart.high.order in
      let within = apart.high.within in
      keep_prefix (cut_all a e) (suc a)
      (λ r t s k. ap (λ (q : List FreeRegion). q ++ cut_all a e t) (cut_below a e h r s (omega arith))) lo (regions xs l)
      (all-before xs l ok (suc a) lo (omega arith) (λ m. let b = apart.low.below m in omega arith))

  above : cut_all a e (drop hi (regions xs l)) ≡ drop hi (regions xs l)
  above = go (le-or-lt l.count hi)
    where
      go : (l.count ≤ hi) ⊎ (hi < l.count) → cut_all a e (drop hi (regions xs l)) ≡ drop hi (regions xs l)
      go (inl m) = let z = decode-end region l.count hi xs m (listed xs l ok).room in ap (cut_all a e) z ∙ sym z
      go (inr m) = cut-all-above a e h (region_at xs hi).addr top (drop hi (regions xs l)) (rest-within xs l ok hi m) (apart.high.from m)

  -- no region shares a byte
  pub cut-none : lo ≡ hi → cut_all a e (regions xs l) ≡ regions xs l
  cut-none m =
      prefix ∙ ap (λ (q : List FreeRegion). take lo (regions xs l) ++ q) (rw m above) ∙ take-append-drop lo (regions xs l)

  climb : (k : ℕ) → lo + k < hi
      → (a < end (region_at xs (lo + k)))
      × (piece e (end (region_at xs lo) - e) ++ cut_all a e (drop (lo + 1) (regions xs l))
      ≡ piece e (end (region_at xs (lo + k)) - e) ++ cut_all a e (drop (lo + k + 1) (regions xs l)))
  climb zero m =
      let z : lo + 0 ≡ lo = omega arith in
      let within = apart.high.within in
      rw z (apart.low.past (omega arith), refl)
  climb (suc k) m =
      let j = lo + k + 1 in
      let z : lo + suc k ≡ j = omega arith in
      let within = apart.high.within in
      let p = climb k (omega arith) in
      let n = next-above xs l ok (lo + k) (omega arith) in
      let f = region-fits xs l j ok (omega arith) in
      let s = later xs l ok j (hi - 1) (omega arith) (omega arith) in
      let i = apart.high.inside (omega arith) in
      rw z (
        omega (arith, p.0, n),
        p.1
            ∙ ap (λ (q : List FreeRegion). piece e (end (region_at xs (lo + k)) - e) ++ cut_all a e q) (decode-drop region l.count j xs (omega arith) (listed xs l ok).room)
            ∙ cut-next a e h (end (region_at xs (lo + k))) (region_at xs j) (drop (j + 1) (regions xs l)) p.0 n (omega (arith, s.0, i)),
      )

  -- the regions from lo up to hi do: what is left of the first and of the last
  cut-some : lo < hi
      → cut_all a e (regions xs l)
      ≡ spliced (regions xs l) lo hi (piece (region_at xs lo).addr (a - (region_at xs lo).addr) ++ piece e (end (region_at xs (hi - 1)) - e))
  cut-some m =
      let r = region_at xs lo in
      let within = apart.high.within in
      let k = hi - 1 - lo in
      let c = climb k (omega arith) in
      let y : lo + k ≡ hi - 1 = omega arith in
      let z : lo + k + 1 ≡ hi = omega arith in
      let s = later xs l ok lo (hi - 1) (omega arith) (omega arith) in
      let i = apart.high.inside m in
      let front = piece r.addr (a - r.addr) in
      let back = piece e (end (region_at xs (hi - 1)) - e) in
      prefix
      ∙ ap (λ (q : List FreeRegion). take lo (regions xs l) ++ q)
      (ap (cut_all a e) (decode-drop region l.count lo xs (omega arith) (listed xs l ok).room)
      ∙ ap (λ (q : List FreeRegion). q ++ cut_all a e (drop (lo + 1) (regions xs l))) (cut-over a e h r (omega (arith, s.0, i)) (apart.low.past (omega arith)))
      ∙ append_assoc front (piece e (end r - e)) (cut_all a e (drop (lo + 1) (regions xs l)))
      ∙ ap (λ (q : List FreeRegion). front ++ q)
      (c.1 ∙ ap₂ (λ (u v : ℕ). piece e (end (region_at xs u) - e) ++ cut_all a e (drop v (regions xs l))) y z
      ∙ ap (λ (q : List FreeRegion). back ++ q) above)
      ∙ sym (append_assoc front back (drop hi (regions xs l))))

-- the bytes of a range that were free: those that go with the regions that share a byte with it, less what is left of the first and of the last
module _ (xs : List ℕ) (l : FreeList) (a e lo hi gone : ℕ) (h : a < e) (apart : Apart xs l a e lo hi) (m : lo < hi) (goes : Goes (regions xs l) lo hi gone) where
  left : ℕ
  left = a - (region_at xs lo).addr + (end (region_at xs (hi - 1)) - e)

  sum_left : l.total - gone + left ≡ sum_of_lengths (cut_all a e (regions xs l))
  unfolding left
  sum_left =
      let r = region_at xs lo in
      let last = end (region_at xs (hi - 1)) in
      let p = piece r.addr (a - r.addr) ++ piece e (last - e) in
      new_total xs l lo hi gone (l.total - gone + left) p apart.list goes
      (omega (arith, gone_less xs l lo hi gone apart.list goes, sum-pieces r.addr (a - r.addr) e (last - e)))
      ∙ ap sum_of_lengths (sym (cut-some xs l a e lo hi (omega arith) apart m))

  left_less : (n : ℕ) → n ≡ a - (region_at xs lo).addr + (end (region_at xs (hi - 1)) - e) → n ≤ gone
  unfolding left
  left_less n is =
      omega (arith, is, sum_left, gone_less xs l lo hi gone apart.list goes, (listed xs l apart.list).total, sum-cut-all a e (regions xs l) (omega arith))

  cut-total : (n : ℕ) → n ≡ a - (region_at xs lo).addr + (end (region_at xs (hi - 1)) - e)
      → l.total - (gone - n) ≡ sum_of_lengths (cut_all a e (regions xs l))
  unfolding left
  cut-total n is = omega (arith, is, sum_left, left_less n is, gone_less xs l lo hi gone apart.list goes)

  -- first and last are the regions that the code reads, x and y the bytes left of them
  module _ (first last : FreeRegion) (u : first ≡ region_at xs lo) (v : last ≡ region_at xs (hi - 1)) where
    pub cut_is : (p : List FreeRegion) → p ≡ piece first.addr (a - first.addr) ++ piece e (end last - e)
        → cut_all a e (regions xs l) ≡ spliced (regions xs l) lo hi p
    cut_is p is =
        cut-some xs l a e lo hi (omega arith) apart m
        ∙ ap (spliced (regions xs l) lo hi)
        (sym (is ∙ ap₂ (λ (r t : FreeRegion). piece r.addr (a - r.addr) ++ piece e (end t - e)) u v))

    module _ (x y : ℕ) (f : x ≡ a - first.addr) (b : y ≡ end last - e) where
      left_is : x + y ≡ a - (region_at xs lo).addr + (end (region_at xs (hi - 1)) - e)
      left_is = ap₂ (λ (i j : ℕ). i + j) (f ∙ ap (λ (r : FreeRegion). a - r.addr) u) (b ∙ ap (λ (r : FreeRegion). end r - e) v)

      pub cut_less : x + y ≤ gone
      cut_less = left_less (x + y) left_is

      pub cut_replaces : (p : List FreeRegion) → p ≡ piece first.addr (a - first.addr) ++ piece e (end last - e)
          → Replaces xs l lo hi (l.total - (gone - (x + y))) p
      cut_replaces p is = record {
        list = apart.list;
        order = apart.high.order;
        within = apart.high.within;
        sum = cut-total (x + y) left_is ∙ ap sum_of_lengths (cut_is p is);
      }
