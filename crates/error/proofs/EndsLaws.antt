-- What an outcome says, along the conditions of its definition. Assumes nothing.
use mathlib.Core.Path.{◌≡◌, refl}
use mathlib.Core.Bool.{Bool, true, false, cond}
use mathlib.Core.List.{List, [], ◌∷◌}
use Prim.Native.Nat.{ℕ}
use Rattle.error.specs.Refusals.{number_of, values_of}
use Rattle.error.specs.Outcome.{Outcome, answer, nothing, refuse, Condition, first_of}
use Rattle.error.specs.Ends.{Ends}

module _ {A : Type 0} {P : A → Type 0} {N : Type 0} {R : ℕ → List ℕ → Type 0} where
  pub answers : {a : A} → P a → Ends P N R (answer a)
  answers p = record { says = p }

  pub says_nothing : N → Ends P N R nothing
  says_nothing p = record { says = p }

  pub refuses : {n : ℕ} {vs : List ℕ} → R n vs → Ends P N R (refuse n vs)
  refuses p = record { says = p }

  pub chosen : (t : Bool) {x y : Outcome A} → (t ≡ true → Ends P N R x) → (t ≡ false → Ends P N R y) → Ends P N R (cond t x y)
  chosen true f g = f refl
  chosen false f g = g refl

  pub untested : (x : Outcome A) → Ends P N R x → Ends P N R (first_of [] x)
  unfolding first_of
  untested x p = p

  pub tested : (c : Condition) (cs : List Condition) (x : Outcome A) → (c.holds ≡ true → R (number_of c.refusal) (values_of c.refusal))
      → (c.holds ≡ false → Ends P N R (first_of cs x)) → Ends P N R (first_of (c ∷ cs) x)
  unfolding first_of
  tested c cs x f g = chosen c.holds (λ t. refuses (f t)) g
