-- Laws of the sum of lengths: of a splice, of regions in order, and as the number of their bytes. Assumes nothing.
use mathlib.Core.Path.{◌≡◌, refl, sym, ap, ◌∙◌}
use mathlib.Core.List.{List, [], ◌∷◌, ◌++◌}
use mathlib.Core.Bool.{Bool, true, false}
use mathlib.Core.Logic.{inl, inr, ⊎_elim, ◌↔◌}
use Prim.Native.Nat.{ℕ, zero, suc, ◌+◌, ◌-◌, ◌≤◌, min, max}
use native.Mathlib.Omega.{arith}
use lib.ListN.{take, drop, take-append-drop}
use Rattle.free_regions.specs.declared.FreeRegion.{FreeRegion}
use Rattle.free_regions.specs.Regions.{end, Free, sum_of_lengths, piece, cut, cut_all, spliced}
use Rattle.free_regions.specs.Sets.{Between, how_many}
use Rattle.free_regions.proofs.OkLaws.{Within}
use Rattle.free_regions.proofs.CutSets.{piece-none, piece-some}
use Rattle.free_regions.proofs.SetLaws.{free-between, within_low}

-- ---- a splice: what stays, less what goes, plus what comes

pub sum-append : (rs ss : List FreeRegion) → sum_of_lengths (rs ++ ss) ≡ sum_of_lengths rs + sum_of_lengths ss
sum-append [] ss = omega arith
sum-append (r ∷ rs) ss = omega (arith, sum-append rs ss)

pub sum_parts : (i : ℕ) (rs : List FreeRegion) → sum_of_lengths (take i rs) + sum_of_lengths (drop i rs) ≡ sum_of_lengths rs
sum_parts i rs = sym (sum-append (take i rs) (drop i rs)) ∙ ap sum_of_lengths (take-append-drop i rs)

-- gone is the sum of the lengths from lo up to hi
pub sum-spliced : (rs new : List FreeRegion) (lo hi gone : ℕ) → gone + sum_of_lengths (drop hi rs) ≡ sum_of_lengths (drop lo rs)
    → gone + sum_of_lengths (spliced rs lo hi new) ≡ sum_of_lengths rs + sum_of_lengths new
sum-spliced rs new lo hi gone goes =
    omega (arith, goes, sum_parts lo rs, sum-append (take lo rs) (new ++ drop hi rs), sum-append new (drop hi rs))

pub sum-pieces : (a x b y : ℕ) → sum_of_lengths (piece a x ++ piece b y) ≡ x + y
sum-pieces a x b y = omega (arith, sum-append (piece a x) (piece b y), one a x, one b y)
  where
    one : (a x : ℕ) → sum_of_lengths (piece a x) ≡ x
    one a zero = ap sum_of_lengths (piece-none a 0 refl)
    one a (suc x) = ap sum_of_lengths (piece-some a (suc x) (λ z. absurd (omega arith))) ∙ (omega arith)

-- what a range leaves has no more bytes
pub sum-cut-all : (a e : ℕ) (rs : List FreeRegion) → a ≤ e → sum_of_lengths (cut_all a e rs) ≤ sum_of_lengths rs
sum-cut-all a e [] h = omega arith
sum-cut-all a e (r ∷ rs) h =
    let x = min (end r) a - r.addr in
    let m = max e r.addr in
    omega (arith, h, sum-append (cut a e r) (cut_all a e rs), sum-pieces r.addr x m (end r - m), sum-cut-all a e rs h)

pub sum_drop : (i j : ℕ) (rs : List FreeRegion) → i ≤ j → sum_of_lengths (drop j rs) ≤ sum_of_lengths (drop i rs)
sum_drop zero j rs h = omega (arith, sum_parts j rs)
sum_drop (suc i) zero rs h = absurd (omega arith)
sum_drop (suc i) (suc j) [] h = omega arith
sum_drop (suc i) (suc j) (r ∷ rs) h = sum_drop i j rs (omega arith)

-- ---- regions in order

sum-above : (low high : ℕ) (rs : List FreeRegion) → Within low high rs → low ≤ suc high → low + sum_of_lengths rs ≤ suc high
sum-above low high [] w h = omega arith
sum-above low high (r ∷ rs) w h = omega (arith, w.1, w.2, sum-above (suc (end r)) high rs w.3 (omega (arith, w.1)))

-- so that the sum of a list's lengths needs no more than 64 bits
pub sum-within : (low high : ℕ) (rs : List FreeRegion) → Within low high rs → sum_of_lengths rs ≤ high
sum-within low high [] w = omega arith
sum-within low high (r ∷ rs) w = omega (arith, w.1, sum-above (suc (end r)) high rs w.3 (omega (arith, w.1)))

-- ---- the number of free bytes

module _ (P : ℕ → Bool) where
  none_of : (a k : ℕ) → ((x : ℕ) → Between a (a + k) x → P x ≡ false) → how_many (a + k) P ≡ how_many a P
  unfolding how_many
  none_of a zero h = let e : a + 0 ≡ a = omega arith in rw e
  none_of a (suc k) h =
      let e : a + suc k ≡ suc (a + k) = omega arith in
      rw (e, h (a + k) (omega arith, omega arith)) (omega (arith, none_of a k (λ x b. h x (b.0, omega (arith, b.1)))))

  all_of : (a k : ℕ) → ((x : ℕ) → Between a (a + k) x → P x ≡ true) → how_many (a + k) P ≡ how_many a P + k
  unfolding how_many
  all_of a zero h = let e : a + 0 ≡ a = omega arith in rw e (omega arith)
  all_of a (suc k) h =
      let e : a + suc k ≡ suc (a + k) = omega arith in
      rw (e, h (a + k) (omega arith, omega arith)) (omega (arith, all_of a k (λ x b. h x (b.0, omega (arith, b.1)))))

  false_or : (x : ℕ) → (P x ≡ true → ⊥) → P x ≡ false
  false_or x n = go (P x) n
    where
      go : (t : Bool) → (t ≡ true → ⊥) → t ≡ false
      go true n = absurd (n refl)
      go false n = refl

  -- from low on, P tells the free bytes
  counted : (low high n : ℕ) (rs : List FreeRegion) → Within low high rs → low ≤ n → high ≤ n → ((x : ℕ) → low ≤ x → Free rs x ↔ (P x ≡ true))
      → how_many n P ≡ how_many low P + sum_of_lengths rs
  counted low high n [] w l h f =
      let e : low + (n - low) ≡ n = omega arith in
      rw e at (none_of low (n - low) (λ x b. false_or x (f x b.0).1)) ∙ (omega arith)
  counted low high n (r ∷ rs) w l h f =
      let a = r.addr in
      let e : low + (a - low) ≡ a = omega (arith, w.2) in
      let below = none_of low (a - low) (λ x b. false_or x (λ t. ⊎_elim (λ i. omega (arith, i.0, b.1, w.2)) (λ g. omega (arith, b.1, w.2, free-between (suc (end r)) high x rs w.3 g)) ((f x b.0).1 t))) in
      let inside = all_of a r.len (λ x b. (f x (omega (arith, b.0, w.2))).0 (inl b)) in
      let above = counted (end r) high n rs (within_low (suc (end r)) (end r) high rs w.3 (omega arith)) (omega (arith, w.1)) h
      (λ x k. (λ g. (f x (omega (arith, k, w.2))).0 (inr g), λ t. ⊎_elim (λ i. absurd (omega (arith, i.1, k))) (λ g. g) ((f x (omega (arith, k, w.2))).1 t))) in
      omega (arith, above, inside, below, ap (λ (m : ℕ). how_many m P) e)

  pub how_many_lem : (high n : ℕ) (rs : List FreeRegion) → Within 0 high rs → high ≤ n → ((x : ℕ) → Free rs x ↔ (P x ≡ true)) → how_many n P ≡ sum_of_lengths rs
  unfolding how_many
  how_many_lem high n rs w h f = counted 0 high n rs w (omega arith) h (λ x l. f x) ∙ (omega arith)
