-- The total of a list counts its free bytes: lists whose free bytes differ by a range differ in it by at most the range. Assumes nothing.
--   is_free  a byte is free in a list of regions, as a test
use mathlib.Core.Path.{◌≡◌, refl, subst}
use mathlib.Core.Bool.{Bool, true, false, cond}
use mathlib.Core.List.{List}
use mathlib.Core.Logic.{◌⊎◌, inl, inr, ⊎_elim, ◌↔◌}
use Prim.Native.Nat.{ℕ, zero, suc, ◌+◌, ◌-◌, ◌≤◌, min}
use native.Mathlib.Omega.{arith}
use Rattle.free_regions.specs.declared.FreeRegion.{FreeRegion}
use Rattle.free_regions.specs.Regions.{region, Free, sum_of_lengths, shares}
use Rattle.free_regions.specs.Sets.{Between, how_many}
use Rattle.free_regions.proofs.OkLaws.{Within}
use Rattle.free_regions.proofs.ShareLaws.{shares_byte}
use Rattle.free_regions.proofs.LengthLaws.{how_many_lem}

abbrev is_free : List FreeRegion → ℕ → Bool
is_free rs x = shares (region x 1) rs

is_free_lem : (rs : List FreeRegion) (x : ℕ) → Free rs x ↔ (is_free rs x ≡ true)
is_free_lem rs x =
    let e = shares_byte (region x 1) rs in (
      λ f. e.1 (x, (omega arith, omega arith), f),
      λ t. let q = e.0 t in let b = q.1 in let z : q.0 ≡ x = omega arith in subst (Free rs) z q.2,
    )

-- where each place of P is one of Q, or one of w places from p on
module _ (P Q : ℕ → Bool) (p w : ℕ) (h : (x : ℕ) → P x ≡ true → Between p (p + w) x ⊎ (Q x ≡ true)) where
  counted : (n : ℕ) → how_many n P ≤ how_many n Q + (min n (p + w) - min n p)
  unfolding how_many
  counted zero = omega arith
  counted (suc n) = go (P n) refl (counted n)
    where
      go : (t : Bool) → P n ≡ t → how_many n P ≤ how_many n Q + (min n (p + w) - min n p)
          → cond t 1 0 + how_many n P ≤ cond (Q n) 1 0 + how_many n Q + (min (suc n) (p + w) - min (suc n) p)
      go true e ih = ⊎_elim (λ b. omega (arith, ih, b.0, b.1)) (λ q. rw q (omega (arith, ih))) (h n e)
      go false e ih = omega (arith, ih)

module _ (high p w : ℕ) (rs ss : List FreeRegion) (wr : Within 0 high rs) (ws : Within 0 high ss) (h : (x : ℕ) → Free rs x → Between p (p + w) x ⊎ Free ss x) where
  pub sum-le : sum_of_lengths rs ≤ sum_of_lengths ss + w
  sum-le =
      let a = how_many_lem (is_free rs) high high rs wr (omega arith) (is_free_lem rs) in
      let b = how_many_lem (is_free ss) high high ss ws (omega arith) (is_free_lem ss) in
      let c = counted (is_free rs) (is_free ss) p w (λ x t. ⊎_elim inl (λ f. inr ((is_free_lem ss x).0 f)) (h x ((is_free_lem rs x).1 t))) high in
      omega arith
