-- The cases of the reading of FSHD. Assumes nothing.
use mathlib.Core.Path.{◌≡◌, refl, sym}
use native.Mathlib.Omega.{arith}
use mathlib.Core.Bool.{Bool, true, false, ◌&&◌, not}
use mathlib.Core.List.{List, [], ◌∷◌}
use Prim.Native.Nat.{ℕ, ◌≤◌}
use lib.Dec.{leb, eqb}
use lib.ListN.{length}
use borrow.Author.Tests.{leb-true, not-false, eqb-true, eqb-false, eq-eqb, ne_eqb}
use Rattle.std.specs.List.{starts_with}
use Rattle.error.specs.Outcome.{first_of}
use Rattle.error.proofs.TestLaws.{and_true}
use Rattle.fields.specs.Width.{valid_width}
use Rattle.fsm_blocks.specs.Fshd.{signed, parse_fshd, parsed_fshd}
use Rattle.fields.proofs.LayoutLaws.{le_at-one}

eqb-comm : (m n : ℕ) → eqb m n ≡ eqb n m
eqb-comm m n = pick (eqb n m) (eqb-true n m) (eqb-false n m)
  where
    pick : (t : Bool) → (t ≡ true → n ≡ m) → (t ≡ false → n ≡ m → ⊥) → eqb m n ≡ t
    pick true f g = eq-eqb m n (sym (f refl))
    pick false f g = ne_eqb m n (λ e. g refl (sym e))

-- the code compares the first four bytes at once
pub signed-bytes : (a b c d : ℕ) (bs : List ℕ) → 4 ≤ length bs → starts_with eqb bs (a ∷ b ∷ c ∷ d ∷ []) ≡ signed a b c d bs
signed-bytes a b c d [] h = absurd (omega arith)
signed-bytes a b c d (x ∷ []) h = absurd (omega arith)
signed-bytes a b c d (x ∷ y ∷ []) h = absurd (omega arith)
signed-bytes a b c d (x ∷ y ∷ z ∷ []) h = absurd (omega arith)
signed-bytes a b c d (x ∷ y ∷ z ∷ w ∷ bs) h =
    rw (le_at-one 0 (x ∷ y ∷ z ∷ w ∷ bs), le_at-one 1 (x ∷ y ∷ z ∷ w ∷ bs), le_at-one 2 (x ∷ y ∷ z ∷ w ∷ bs), le_at-one 3 (x ∷ y ∷ z ∷ w ∷ bs))
    (rw (eqb-comm a x, eqb-comm b y, eqb-comm c z, eqb-comm d w) (ends (eqb x a) (eqb y b) (eqb z c) (eqb w d)))
  where
    ends : (p q r s : Bool) → (p && (q && (r && (s && true)))) ≡ (p && (q && (r && s)))
    ends true true true true = refl
    ends true true true false = refl
    ends true true false s = refl
    ends true false r s = refl
    ends false q r s = refl

-- a width within 1 to 8, as numbers
pub width_is : (O : ℕ) → not (valid_width O) ≡ false → (1 ≤ O) × (O ≤ 8)
width_is O v = let p = and_true (leb 1 O) (leb O 8) (not-false (valid_width O) v) in (leb-true 1 O p.0, leb-true O 8 p.1)

module _ (O : ℕ) (bs : List ℕ) where
  -- at a size within 1 to 8 the width is not refused
  pub parse_sized : not (valid_width O) ≡ false → parsed_fshd O bs ≡ parse_fshd O bs
  unfolding parsed_fshd first_of
  parse_sized v = rw v
