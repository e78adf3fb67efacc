-- Laws of 32-bit words: the rotation, the wrapping difference, and the word that bytes spell. Assumes nothing.
use Rattle.std.proofs.Common.{◌≡◌, ℕ, ◌+◌, ◌-◌, ◌*◌, ◌/◌, ◌%◌, ◌^◌, ◌<◌, ◌≤◌, length, List, [], ◌∷◌, get_or, take, drop, sym, refl, ap, ◌∙◌, subst, add-zero, le_of_lt, add-sub_of_le, sub-add_cancel, mul-div_cancel, arith, get_or-drop, length-drop, take_all, pow_pos, shr_lt}
use native.Mathlib.Nat.{mul-mod_left}
use lib.Bits.{bit_or, or_shifted}
use lib.Pow.{mod-pow-add}
use Rattle.fields.specs.Le.{le_value}
use Rattle.checksum.specs.Lookup3.{rotl32}

-- ---- the rotation

-- a shift to the left keeps the low bits, and none stands below the shift
shifted : (x j k : ℕ) → x * 2 ^ k % 2 ^ (j + k) ≡ x % 2 ^ j * 2 ^ k
shifted x j k =
    mod-pow-add (x * 2 ^ k) j k
    ∙ ap (λ (n : ℕ). x * 2 ^ k / 2 ^ k % 2 ^ j * 2 ^ k + n) (mul-mod_left x (2 ^ k))
    ∙ add-zero (x * 2 ^ k / 2 ^ k % 2 ^ j * 2 ^ k)
    ∙ ap (λ (n : ℕ). n % 2 ^ j * 2 ^ k) (mul-div_cancel x (pow_pos k))

-- the two parts of a rotation have no bit in common
parts : (x j k : ℕ) → x < 2 ^ (k + j) → bit_or (x * 2 ^ k % 2 ^ (j + k)) (x / 2 ^ j) ≡ x * 2 ^ k % 2 ^ (j + k) + x / 2 ^ j
parts x j k h = rw shifted (or_shifted (x % 2 ^ j) k (x / 2 ^ j) (shr_lt k j h))

-- so shifts and or rotate, by every amount
pub rot_or : (x k : ℕ) → x < 2 ^ 32 → k < 32 → bit_or (x * 2 ^ k % 2 ^ 32) (x / 2 ^ (32 - k)) ≡ rotl32 x k
unfolding rotl32
rot_or x k hx hk =
    let e : (32 - k) + k ≡ 32 = sub-add_cancel (le_of_lt hk) in
    let e' : k + (32 - k) ≡ 32 = add-sub_of_le (le_of_lt hk) in
    subst (λ (n : ℕ). bit_or (x * 2 ^ k % 2 ^ n) (x / 2 ^ (32 - k)) ≡ x * 2 ^ k % 2 ^ n + x / 2 ^ (32 - k)) e
    (parts x (32 - k) k (subst (λ (n : ℕ). x < 2 ^ n) (sym e') hx))

-- ---- the word that bytes spell

pub four : (k : List ℕ) → le_value (take 4 k) ≡ get_or k 0 0 + get_or k 1 0 * 256 + get_or k 2 0 * 65536 + get_or k 3 0 * 16777216
unfolding le_value
four [] = refl
four (a ∷ []) = omega arith
four (a ∷ b ∷ []) = omega arith
four (a ∷ b ∷ c ∷ []) = omega arith
four (a ∷ b ∷ c ∷ d ∷ k) = omega arith

pub word-is : (at : ℕ) (k : List ℕ)
    → le_value (take 4 (drop at k)) ≡ get_or k at 0 + get_or k (at + 1) 0 * 256 + get_or k (at + 2) 0 * 65536 + get_or k (at + 3) 0 * 16777216
word-is at k =
    let e : get_or (drop at k) 0 0 ≡ get_or k at 0 = get_or-drop at k 0 0 ∙ ap (λ (n : ℕ). get_or k n 0) (add-zero at) in
    omega (arith, four (drop at k), get_or-drop at k 1 0, get_or-drop at k 2 0, get_or-drop at k 3 0)

-- the bytes from a place on, as the code lends them, with an end
pub word_part : (n : ℕ) (k : List ℕ) → le_value (take 4 (take (length k - n) (drop n k))) ≡ le_value (take 4 (drop n k))
word_part n k = ap (λ (l : List ℕ). le_value (take 4 l)) (take_all (length k - n) (drop n k) (omega (arith, length-drop n k)))
