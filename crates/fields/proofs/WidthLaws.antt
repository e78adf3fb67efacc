-- Laws of byte widths: there is one least width, and the leading zeros give it. Assumes nothing.
use mathlib.Core.Path.{◌≡◌, refl, sym, ap, ◌∙◌, subst}
use mathlib.Core.Bool.{Bool, true, false, cond, not}
use Prim.Native.Nat.{ℕ, zero, suc, ◌+◌, ◌-◌, ◌*◌, ◌/◌, ◌%◌, ◌^◌, ◌≤◌, ◌<◌, min, max}
use Rattle.std.specs.Int.{div_ceil}
use native.Mathlib.Nat.{lt_of_lt_of_le, le_trans, lt_of_not-le, not-le_of_lt, pow-suc, pow-le-pow_right, mul-suc, add-zero}
use native.Mathlib.Omega.{arith}
use borrow.Author.Tests.{ltb-true, ltb-false, le-leb, lt-leb}
use lib.Count.{count_leading_zeros, leading_length}
use lib.Dec.{ltb, lit≤}
use lib.Pow.{pow_mono, pow-add}
use Rattle.fields.specs.Width.{valid_width, least_from, enc_size, Least}

-- ---- a width within 1 to 8

pub width_low : (w : ℕ) → w < 1 → not (valid_width w) ≡ true
width_low w h = rw (lt-leb 1 w h)

pub width-high : (w : ℕ) → 8 < w → not (valid_width w) ≡ true
width-high w h = rw (le-leb 1 w (omega arith), lt-leb w 8 h)

pub width_in : (w : ℕ) → 1 ≤ w → w ≤ 8 → not (valid_width w) ≡ false
width_in w h k = rw (le-leb 1 w h, le-leb w 8 k)

-- ---- the least width

-- a byte is eight bits
pub pow256 : (w : ℕ) → 256 ^ w ≡ 2 ^ (8 * w)
pow256 zero = refl
pow256 (suc w) =
    pow-suc 256 w ∙ ap (λ (n : ℕ). n * 256) (pow256 w) ∙ sym (pow-add 2 (8 * w) 8) ∙ ap (λ (n : ℕ). 2 ^ n) (sym (mul-suc 8 w))

pub some_power : (w : ℕ) → 1 ≤ 256 ^ w
some_power w = let h : 0 ≤ w = omega arith in let p : 256 ^ 0 ≤ 256 ^ w = pow-le-pow_right (lit≤ tt) h in omega arith

-- there is one least width
pub least-one : (v w k : ℕ) → Least v w → Least v k → w ≡ k
least-one v w k p q =
    let a : w ≤ k = p.least k q.some q.holds in
    let b : k ≤ w = q.least w p.some p.holds in
    omega arith

-- w bytes do not hold v, and k bytes do
further : (v w k : ℕ) → 256 ^ w ≤ v → v < 256 ^ k → w + 1 ≤ k
further v w k h f =
    let l : w < k = lt_of_not-le (λ q. not-le_of_lt f (le_trans (pow-le-pow_right (lit≤ tt) q) h)) in
    omega arith

-- the search finds the least width, where its last one holds v
pub from-least : (n v w : ℕ) → 1 ≤ w → ((k : ℕ) → 1 ≤ k → v < 256 ^ k → w ≤ k) → v < 256 ^ (w + n) → Least v (least_from n v w)
unfolding least_from
from-least zero v w p l h = record { some = p; holds = subst (λ (m : ℕ). v < 256 ^ m) (add-zero w) h; least = l }
from-least (suc n) v w p l h = go (λ q. from-least n v (w + 1) (omega arith) q (subst (λ (m : ℕ). v < 256 ^ m) (omega arith) h)) (ltb v (256 ^ w)) refl
  where
    go : (((k : ℕ) → 1 ≤ k → v < 256 ^ k → w + 1 ≤ k) → Least v (least_from n v (w + 1)))
        → (b : Bool) → ltb v (256 ^ w) ≡ b → Least v (cond b w (least_from n v (w + 1)))
    go next true e = record { some = p; holds = ltb-true v (256 ^ w) e; least = l }
    go next false e = next (λ k o f. further v w k (ltb-false v (256 ^ w) e) f)

pub enc_size-least : (v : ℕ) → v < 2 ^ 64 → Least v (enc_size v)
unfolding enc_size
enc_size-least v h = from-least 7 v 1 (omega arith) (λ k o f. o) h

-- the length m in bits, rounded up to bytes, is the least width
pub bits-least : (v m w : ℕ) → v < 2 ^ m → 2 ^ m ≤ 2 * v + 1 → 1 ≤ w → m ≤ 8 * w → (1 < w → 8 * w < m + 8) → Least v w
bits-least v m w h l p a b = record {
  some = p;
  holds = subst (λ (n : ℕ). v < n) (sym (pow256 w)) (lt_of_lt_of_le h (pow_mono a));
  least = λ k o f. lt-of-not-lt k o (subst (λ (n : ℕ). v < n) (pow256 k) f);
}
  where
    lt-of-not-lt : (k : ℕ) → 1 ≤ k → v < 2 ^ (8 * k) → w ≤ k
    lt-of-not-lt k o f =
        let l' : w < suc k =
        lt_of_not-le (λ (q : suc k ≤ w).
        let b' : 8 * w < m + 8 = b (omega arith) in
        let g : 2 ^ suc (8 * k) ≤ 2 ^ m = pow_mono (omega arith) in
        let g' : 2 ^ (8 * k) * 2 ≤ 2 ^ m = subst (λ (n : ℕ). n ≤ 2 ^ m) (pow-suc 2 (8 * k)) g in
        omega arith)
        in
        omega arith

-- what the code computes is the least width
pub bytes_of : (v w : ℕ) → v < 2 ^ 64 → w ≡ max (div_ceil (64 - count_leading_zeros 64 v) 8) 1 → w ≡ enc_size v
bytes_of v w h e =
    let s = leading_length 64 v h in
    let eq : count_leading_zeros 64 v + s.0 ≡ 64 = s.1 in
    let m : 64 - count_leading_zeros 64 v ≡ s.0 = omega arith in
    let w' : w ≡ max (s.0 / 8 + min 1 (s.0 % 8)) 1 = e ∙ ap (λ (n : ℕ). max (div_ceil n 8) 1) m in
    least-one v w (enc_size v) (bits-least v s.0 w s.2 s.3 (omega arith) (omega arith) (λ q. omega arith)) (enc_size-least v h)
