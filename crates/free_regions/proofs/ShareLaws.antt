-- Regions and lists of regions that share a byte: the tests hold exactly where some byte lies in both. Assumes nothing.
use mathlib.Core.Path.{◌≡◌, refl}
use mathlib.Core.List.{List, [], ◌∷◌}
use mathlib.Core.Logic.{◌⊎◌, inl, inr, ⊎_elim, ◌↔◌}
use mathlib.Core.Bool.{Bool, true, false, ◌||◌}
use Prim.Native.Nat.{ℕ, zero, suc, ◌≤◌, ◌<◌, max}
use native.Mathlib.Nat.{not-suc-le-zero, le_of_suc-le-suc}
use native.Mathlib.Omega.{arith}
use borrow.Author.Tests.{ltb-true, ltb-false}
use lib.ListN.{length, take, drop, get_or}
use Rattle.error.proofs.TestLaws.{true_not_false}
use Rattle.free_regions.specs.declared.FreeRegion.{FreeRegion}
use Rattle.free_regions.specs.Regions.{end, In, Free, meets, shares, share_bytes}
use Rattle.free_regions.specs.Sets.{Common}
use Rattle.free_regions.proofs.OkLaws.{Within}
use Rattle.free_regions.proofs.OrderLaws.{EndBefore}

-- ---- exactly where some byte lies in both

pub meets_byte : (r s : FreeRegion) → (meets r s ≡ true) ↔ Common (In r) (In s)
meets_byte r s = (λ e. (max r.addr s.addr, (omega (arith, ltb-true), omega (arith, ltb-true)), (omega (arith, ltb-true), omega (arith, ltb-true))), back (meets r s) refl)
  where
    back : (t : Bool) → meets r s ≡ t → Common (In r) (In s) → t ≡ true
    back true e q = refl
    back false e q = let p = q.1 in let t = q.2 in absurd (omega (arith, ltb-false))

-- one test or another
either : (a b : Bool) {P Q : Type 0} → (a ≡ true) ↔ P → (b ≡ true) ↔ Q → ((a || b) ≡ true) ↔ (P ⊎ Q)
either true b p q = (λ e. inl (p.0 refl), λ t. refl)
either false b p q = (λ e. inr (q.0 e), ⊎_elim (λ t. true_not_false false (p.1 t) refl) (λ t. q.1 t))

pub shares_byte : (r : FreeRegion) (ss : List FreeRegion) → (shares r ss ≡ true) ↔ Common (In r) (Free ss)
shares_byte r [] = (λ e. true_not_false false e refl, λ q. absurd q.2)
shares_byte r (s ∷ ss) =
    let e = either (meets r s) (shares r ss) (meets_byte r s) (shares_byte r ss) in (
      λ h. ⊎_elim (λ q. (q.0, q.1, inl q.2)) (λ q. (q.0, q.1, inr q.2)) (e.0 h),
      λ q. e.1 (⊎_elim (λ t. inl (q.0, q.1, t)) (λ t. inr (q.0, q.1, t)) q.2),
    )

pub lists_byte : (rs ss : List FreeRegion) → (share_bytes rs ss ≡ true) ↔ Common (Free rs) (Free ss)
lists_byte [] ss = (λ e. true_not_false false e refl, λ q. absurd q.1)
lists_byte (r ∷ rs) ss =
    let e = either (shares r ss) (share_bytes rs ss) (shares_byte r ss) (lists_byte rs ss) in (
      λ h. ⊎_elim (λ q. (q.0, inl q.1, q.2)) (λ q. (q.0, inr q.1, q.2)) (e.0 h),
      λ q. e.1 (⊎_elim (λ t. inl (q.0, t, q.2)) (λ t. inr (q.0, t, q.2)) q.1),
    )

-- ---- by the places of regions

pub meets-not : (r s : FreeRegion) → (end r ≤ s.addr) ⊎ (end s ≤ r.addr) → meets r s ≡ false
meets-not r s h = go (meets r s) refl h
  where
    go : (t : Bool) → meets r s ≡ t → (end r ≤ s.addr) ⊎ (end s ≤ r.addr) → t ≡ false
    go true e (inl k) = absurd (omega (arith, ltb-true))
    go true e (inr k) = absurd (omega (arith, ltb-true))
    go false e h = refl

pub meets_both : (r s : FreeRegion) → 0 < r.len → 0 < s.len → s.addr < end r → r.addr < end s → meets r s ≡ true
meets_both r s m n a b = (meets_byte r s).1 (max r.addr s.addr, (omega arith, omega arith), (omega arith, omega arith))

module _ (new : FreeRegion) where
  pub shares_at : (k : ℕ) (rs : List FreeRegion) (d : FreeRegion) → k < length rs → meets new (get_or rs k d) ≡ true → shares new rs ≡ true
  shares_at k [] d l e = absurd (not-suc-le-zero l)
  shares_at zero (r ∷ rs) d l e = rw e
  shares_at (suc k) (r ∷ rs) d l e = rw (shares_at k rs d (le_of_suc-le-suc l) e) (go (meets new r))
    where
      go : (t : Bool) → (t || true) ≡ true
      go true = refl
      go false = refl

  pub shares_prefix : (i : ℕ) (rs : List FreeRegion) → EndBefore (suc new.addr) (take i rs) → shares new rs ≡ shares new (drop i rs)
  shares_prefix zero rs h = refl
  shares_prefix (suc i) [] h = refl
  shares_prefix (suc i) (r ∷ rs) h = let below = h.1 in rw (meets-not new r (inr (omega arith))) (shares_prefix i rs h.2)

  -- a region that ends before all of a list
  pub shares-above : (low high : ℕ) (rs : List FreeRegion) → Within low high rs → end new ≤ low → shares new rs ≡ false
  shares-above low high [] w h = refl
  shares-above low high (r ∷ rs) w h =
      let from = w.2 in
      rw (meets-not new r (inl (omega arith))) (shares-above (suc (end r)) high rs w.3 (omega arith))

  -- an empty region shares no byte
  pub shares_empty : (rs : List FreeRegion) → new.len ≡ 0 → shares new rs ≡ false
  shares_empty rs z = go (shares new rs) refl
    where
      go : (t : Bool) → shares new rs ≡ t → t ≡ false
      go true e = let q = (shares_byte new rs).0 e in let p = q.1 in absurd (omega arith)
      go false e = refl

-- a region that ends before all of the other list is passed
pub share_past : (low high : ℕ) (s : FreeRegion) (rs ss : List FreeRegion) → Within low high rs → end s ≤ low → share_bytes rs (s ∷ ss) ≡ share_bytes rs ss
share_past low high s [] ss w h = refl
share_past low high s (r ∷ rs) ss w h =
    let from = w.2 in
    rw (meets-not r s (inr (omega arith)), share_past (suc (end r)) high s rs ss w.3 (omega arith))

pub share_nil : (rs : List FreeRegion) → share_bytes rs [] ≡ false
share_nil [] = refl
share_nil (r ∷ rs) = share_nil rs
