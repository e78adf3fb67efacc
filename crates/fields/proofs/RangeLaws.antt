-- Laws of sums, ranges and multiples: the cases of each definition, and what the first multiple of a unit is. Assumes nothing.
use mathlib.Core.Path.{◌≡◌, refl, sym, ap, ◌∙◌}
use mathlib.Core.Bool.{false, not}
use mathlib.Core.Logic.{◌⊎◌, inl, inr, ⊎_elim}
use Prim.Native.Nat.{ℕ, zero, suc, ◌+◌, ◌-◌, ◌*◌, ◌/◌, ◌%◌, ◌^◌, ◌≤◌, ◌<◌}
use native.Mathlib.Nat.{div-add-mod', mod-lt, lt_of_not-le, mod_self, mod-eq_of_lt, suc-mul, pow-le-pow_right}
use native.Mathlib.Numerals.{unary_clauses}
use native.Mathlib.Omega.{arith}
use borrow.Author.Tests.{not-false, lt-ltb, le-ltb, leb-true, ne_eqb}
use lib.Arith.{digits_div}
use lib.Dec.{leb, lit<, lit≤}
use lib.Pow.{shl_exact}
use Rattle.std.specs.Prelude.{Option, Some, None}
use Rattle.std.specs.Int.{next_multiple_of}
use Rattle.std.specs.Option.{SomeIff, ok_or}
use Rattle.error.specs.Answers.{as_outcome}
use Rattle.error.specs.declared.Refusal.TheVariants.{Overflow}
use Rattle.error.specs.Outcome.{answer, refused, sat}
use Rattle.error.proofs.TestLaws.{and_true}
use Rattle.error.proofs.OutcomeLaws.{refuses, passes, first_passes}
use Rattle.fields.specs.Ranges.{top, sum, range, undefined_addr, first_multiple, aligned_up}
use Rattle.fields.specs.Width.{valid_width}
use Rattle.fields.proofs.WidthLaws.{pow256, some_power}

-- ---- `absolute` and `slice_range`

module _ (a b : ℕ) where
  pub sum_over : top < a + b → refused Overflow ≡ sum a b
  unfolding sum
  sum_over h = refuses _ _ _ (lt-ltb top (a + b) h)

  pub sum_is : a + b ≤ top → answer (a + b) ≡ sum a b
  unfolding sum
  sum_is h = passes _ _ _ (le-ltb top (a + b) h)

  pub range-over : top < a + b → refused Overflow ≡ range a b
  unfolding range
  range-over h = refuses _ _ _ (lt-ltb top (a + b) h)

-- ---- `undefined_addr`

module _ (O : ℕ) where
  -- from 8 bytes on
  pub ones_wide : 8 ≤ O → top ≡ sat (undefined_addr O)
  unfolding sat
  ones_wide h = let p : 256 ^ 8 ≤ 256 ^ O = pow-le-pow_right (lit≤ tt) h in omega arith

  -- of fewer bytes
  module _ (h : O < 8) where
    shifted : 1 * 2 ^ (8 * O) % 2 ^ 64 ≡ 256 ^ O
    shifted = shl_exact {a = 1} 1 (8 * O) 64 (lit< tt) (omega arith) ∙ omega (arith, pow256 O)

    pub ones_some : 1 ≤ 1 * 2 ^ (8 * O) % 2 ^ 64
    ones_some = omega (arith, shifted, some_power O)

    pub ones_narrow : 1 * 2 ^ (8 * O) % 2 ^ 64 - 1 ≡ sat (undefined_addr O)
    unfolding sat
    ones_narrow = let l : O ≤ 8 = omega arith in let p : 256 ^ O ≤ 256 ^ 8 = pow-le-pow_right (lit≤ tt) l in omega (arith, shifted)

-- of a width that refusal 1 lets pass
pub ones_are : (O r : ℕ) → not (valid_width O) ≡ false → r ≡ sat (undefined_addr O) → r ≡ undefined_addr O
unfolding sat
ones_are O r v e =
    let w = and_true (leb 1 O) (leb O 8) (not-false (valid_width O) v) in
    let l : O ≤ 8 = leb-true O 8 w.1 in
    let p : 256 ^ O ≤ 256 ^ 8 = pow-le-pow_right (lit≤ tt) l in
    omega arith

-- ---- the first multiple

-- where a is a multiple itself
pub first-at : (a u : ℕ) → 0 < u → a % u ≡ 0 → first_multiple a u ≡ a
unfolding first_multiple
first-at a u p e =
    let s : a / u * u + a % u ≡ a = div-add-mod' a u in
    let d : a + (u - 1) ≡ a / u * u + (u - 1) = omega arith in
    ap (λ (n : ℕ). n / u * u) d ∙ ap (λ (n : ℕ). n * u) (digits_div (a / u) (omega arith)) ∙ omega arith

-- and where it is not
pub first-after : (a u : ℕ) → 0 < u → (a % u ≡ 0 → ⊥) → first_multiple a u ≡ a + (u - a % u)
unfolding first_multiple
first-after a u p n =
    let s : a / u * u + a % u ≡ a = div-add-mod' a u in
    let l : a % u < u = mod-lt a p in
    let t : suc (a / u) * u ≡ a / u * u + u = suc-mul (a / u) u in
    let d : a + (u - 1) ≡ suc (a / u) * u + (a % u - 1) = omega arith in
    ap (λ (n : ℕ). n / u * u) d ∙ ap (λ (n : ℕ). n * u) (digits_div (suc (a / u)) (omega arith)) ∙ omega arith

-- a is at most its first multiple
pub first_ge : (a u : ℕ) → 0 < u → a ≤ first_multiple a u
unfolding first_multiple
first_ge a u p = omega (arith, div-add-mod' (a + (u - 1)) u, mod-lt (a + (u - 1)) p)

-- ---- `align_up`

zero-or-pos : (r : ℕ) → (r ≡ 0) ⊎ (0 < r)
zero-or-pos zero = inl refl
zero-or-pos (suc r) = inr (omega arith)

module _ (value page : ℕ) (n : page ≡ 0 → ⊥) where
  -- std's next multiple is the first one
  pub next_first : next_multiple_of value page ≡ first_multiple value page
  next_first =
      ⊎_elim
      (λ (z : value % page ≡ 0).
      let m : (page - value % page) % page ≡ 0 = ap (λ (r : ℕ). (page - r) % page) z ∙ simp unary_clauses (mod_self page) in
      omega (arith, m, first-at value page (omega arith) z))
      (λ (z : 0 < value % page).
      let l : value % page < page = mod-lt value (omega arith) in
      let m : (page - value % page) % page ≡ page - value % page = mod-eq_of_lt (omega arith) in
      omega (arith, m, first-after value page (omega arith) (λ e. omega arith)))
      (zero-or-pos (value % page))

  -- std's next multiple that fits, or the refusal; for a caller who asks std for it
  pub aligned_is : (o : Option ℕ) → SomeIff o ((0 < page) × (next_multiple_of value page < 2 ^ 64)) (next_multiple_of value page) → as_outcome (ok_or o Overflow) ≡ aligned_up value page
  unfolding aligned_up
  aligned_is None h =
      refuses _ _ _ (lt-ltb top (first_multiple value page) (lt_of_not-le (λ q. h (omega arith, omega (arith, next_first)))))
      ∙ sym (first_passes _ _ _ _ (ne_eqb page 0 n))
  aligned_is (Some x) h =
      ap answer (h.1 ∙ next_first) ∙ passes _ _ _ (le-ltb top (first_multiple value page) (omega (arith, next_first)))
      ∙ sym (first_passes _ _ _ _ (ne_eqb page 0 n))
