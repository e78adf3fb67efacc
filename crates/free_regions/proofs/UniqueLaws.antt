-- Regions in order are determined by their free bytes. Assumes nothing.
use mathlib.Core.Path.{◌≡◌, refl, sym, ap₂}
use mathlib.Core.Logic.{inl, inr, ⊎_elim, ◌↔◌}
use mathlib.Core.List.{List, [], ◌∷◌}
use Prim.Native.Nat.{ℕ, suc, ◌≤◌, ◌<◌}
use native.Mathlib.Omega.{arith}
use Rattle.error.proofs.TestLaws.{le-or-lt}
use Rattle.free_regions.specs.declared.FreeRegion.{FreeRegion}
use Rattle.free_regions.specs.Regions.{region, end, Free}
use Rattle.free_regions.proofs.OkLaws.{Within}
use Rattle.free_regions.proofs.SetLaws.{free-between}

abbrev Covers : List FreeRegion → List FreeRegion → Type 0
Covers rs ss = (x : ℕ) → Free rs x → Free ss x

-- no free byte lies before the first region
first-low : (low high x : ℕ) (s : FreeRegion) (ss : List FreeRegion) → Within low high (s ∷ ss) → Free (s ∷ ss) x → s.addr ≤ x
first-low low high x s ss w (inl t) = t.0
first-low low high x s ss w (inr t) = let q = free-between (suc (end s)) high x ss w.3 t in omega arith

-- the byte right after the first region is not free
end_gap : (low high : ℕ) (s : FreeRegion) (ss : List FreeRegion) → Within low high (s ∷ ss) → Free (s ∷ ss) (end s) → ⊥
end_gap low high s ss w (inl t) = omega arith
end_gap low high s ss w (inr t) = let q = free-between (suc (end s)) high (end s) ss w.3 t in omega arith

module _ (low high low' high' : ℕ) (r s : FreeRegion) (rs ss : List FreeRegion) (v : Within low high (r ∷ rs)) (w : Within low' high' (s ∷ ss)) (f : Covers (r ∷ rs) (s ∷ ss)) where
  addr-le : s.addr ≤ r.addr
  addr-le = first-low low' high' r.addr s ss w (f r.addr (inl (omega arith, let l : 0 < r.len = v.0 in omega arith)))

  -- where both begin alike, the first ends no later
  end-le : r.addr ≡ s.addr → end r ≤ end s
  end-le e = ⊎_elim (λ h. h) (λ (h : end s < end r). absurd (end_gap low' high' s ss w (f (end s) (inl (omega arith, h))))) (le-or-lt (end r) (end s))

  rest : end r ≡ end s → Covers rs ss
  rest e x t = let q = free-between (suc (end r)) high x rs v.3 t in ⊎_elim (λ u. absurd (omega arith)) (λ u. u) (f x (inr t))

pub list_unique : (low high low' high' : ℕ) (rs ss : List FreeRegion) → Within low high rs → Within low' high' ss → ((x : ℕ) → Free rs x ↔ Free ss x) → rs ≡ ss
list_unique low high low' high' [] [] v w f = refl
list_unique low high low' high' [] (s ∷ ss) v w f = absurd ((f s.addr).1 (inl (omega arith, let l : 0 < s.len = w.0 in omega arith)))
list_unique low high low' high' (r ∷ rs) [] v w f = absurd ((f r.addr).0 (inl (omega arith, let l : 0 < r.len = v.0 in omega arith)))
list_unique low high low' high' (r ∷ rs) (s ∷ ss) v w f =
    let to : Covers (r ∷ rs) (s ∷ ss) = λ x. (f x).0 in
    let from : Covers (s ∷ ss) (r ∷ rs) = λ x. (f x).1 in
    let a = addr-le low high low' high' r s rs ss v w to in
    let b = addr-le low' high' low high s r ss rs w v from in
    let e : r.addr ≡ s.addr = omega arith in
    let c = end-le low high low' high' r s rs ss v w to e in
    let d = end-le low' high' low high s r ss rs w v from (sym e) in
    let g : end r ≡ end s = omega arith in
    let m : r.len ≡ s.len = omega arith in
    let ih = list_unique (suc (end r)) high (suc (end s)) high' rs ss v.3 w.3
    (λ x. (rest low high low' high' r s rs ss v w to g x, rest low' high' low high s r ss rs w v from (sym g) x)) in
    ap₂ (λ (q : FreeRegion) (l : List FreeRegion). q ∷ l) (ap₂ region e m) ih
