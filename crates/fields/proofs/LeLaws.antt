-- Laws of numbers as bytes: lengths, bounds, reading back, and the iterations of the loops that read and write them. Assumes nothing.
use mathlib.Core.Path.{◌≡◌, refl, sym, ap, ap₂, ◌∙◌, subst}
use mathlib.Core.List.{List, [], ◌∷◌}
use mathlib.Core.Logic.{⊎_elim}
use Prim.Native.Nat.{ℕ, zero, suc, ◌+◌, ◌-◌, ◌*◌, ◌/◌, ◌%◌, ◌^◌, ◌≤◌, ◌<◌, min}
use native.Mathlib.Nat.{le_of_suc-le-suc, not-suc-le-zero, div-one, div-div-eq-div-mul, pow-suc, pow-succ', lt_of_lt_of_le, pow-le-pow_right, min-le_left}
use native.Mathlib.Numerals.{add-one}
use native.Mathlib.Omega.{arith}
use lib.Dec.{lit≤}
use lib.ListN.{length, get_or, take, drop, set, length-take, length-drop, drop_of_length-le}
use lib.Seq.{length-take-le, take-length, take_all, get_or-take, get_or-drop, drop-cons}
use Rattle.error.specs.Lent.{over}
use Rattle.error.proofs.TestLaws.{le-or-lt}
use Rattle.error.proofs.OverLaws.{over-cut, down_next}
use Rattle.fields.specs.Le.{le_bytes, le_value}

-- ---- numbers as bytes

pub length-le : (w v : ℕ) → length (le_bytes w v) ≡ w
unfolding le_bytes
length-le zero v = refl
length-le (suc w) v = ap suc (length-le w (v / 256))

pub get_d_le : (w v i : ℕ) → i < w → get_or (le_bytes w v) i 0 ≡ v / 256 ^ i % 256
unfolding le_bytes
get_d_le zero v i h = absurd (not-suc-le-zero h)
get_d_le (suc w) v zero h = ap (λ (n : ℕ). n % 256) (sym (div-one v))
get_d_le (suc w) v (suc i) h =
    get_d_le w (v / 256) i (le_of_suc-le-suc h)
    ∙ ap (λ (n : ℕ). n % 256) (div-div-eq-div-mul v 256 (256 ^ i) ∙ ap (λ (n : ℕ). v / n) (sym (pow-succ' 256 i)))

-- what is written at a width is read back from it
pub read_back : (w v : ℕ) → v < 256 ^ w → le_value (le_bytes w v) ≡ v
unfolding le_bytes le_value
read_back zero v h = omega arith
read_back (suc w) v h =
    let q : v / 256 < 256 ^ w = fewer in
    let e : le_value (le_bytes w (v / 256)) ≡ v / 256 = read_back w (v / 256) q in
    omega arith
  where
    fewer : v / 256 < 256 ^ w
    fewer = omega (arith, pow-suc 256 w)

-- bytes of a width spell a number of that width
pub value-lt : (bs : List ℕ) → ((i : ℕ) → get_or bs i 0 < 256) → le_value bs < 256 ^ length bs
unfolding le_value
value-lt [] h = omega arith
value-lt (b ∷ bs) h =
    let l : le_value bs < 256 ^ length bs = value-lt bs (λ i. h (suc i)) in
    let m : b < 256 = h 0 in
    omega (arith, pow-suc 256 (length bs))

-- ---- the places that a slice has

pub take_min : (n : ℕ) (l : List ℕ) → take (min n (length l)) l ≡ take n l
take_min n l =
    ⊎_elim
    (λ (h : n ≤ length l). let e : min n (length l) ≡ n = omega arith in ap (λ (k : ℕ). take k l) e)
    (λ (h : length l < n).
    let e : min n (length l) ≡ length l = omega arith in
    let m : length l ≤ n = omega arith in
    ap (λ (k : ℕ). take k l) e ∙ take-length l ∙ sym (take_all n l m))
    (le-or-lt n (length l))

-- ---- reading, from the last byte down

-- past the last byte nothing is left to read
pub past_end : (n : ℕ) (d : List ℕ) (at : ℕ) → drop n (take n (drop at d)) ≡ []
past_end n d at =
    let l = take n (drop at d) in
    let h : length l ≤ n = simp length-take (min-le_left _ _) in
    drop_of_length-le l h

module _ (d : List ℕ) (at n i v : ℕ) (p : 0 < i) (l : i ≤ n) where
  pub get_step : at + n ≤ length d → v ≡ le_value (drop i (take n (drop at d))) → v * 256 + get_or d (at + (i - 1)) 0 ≡ le_value (drop (i - 1) (take n (drop at d)))
  unfolding le_value
  get_step fits e =
      let s : List ℕ = take n (drop at d) in
      let k : length s ≡ n = length-take-le n (drop at d) (simp length-drop (omega arith)) in
      let b : get_or s (i - 1) 0 ≡ get_or d (at + (i - 1)) 0 = get_or-take n (drop at d) (i - 1) 0 (omega arith) ∙ get_or-drop at d (i - 1) 0 in
      let c : drop (i - 1) s ≡ get_or s (i - 1) 0 ∷ drop (suc (i - 1)) s = drop-cons s (i - 1) 0 (omega arith) in
      let m : suc (i - 1) ≡ i = omega arith in
      let f : drop (suc (i - 1)) s ≡ drop i s = ap (λ (j : ℕ). drop j s) m in
      let g : le_value (drop (i - 1) s) ≡ get_or s (i - 1) 0 + 256 * le_value (drop i s) = ap le_value (c ∙ ap (λ (x : List ℕ). get_or s (i - 1) 0 ∷ x) f) in
      omega arith

  -- a number of fewer than eight bytes has room for one more
  pub room : n ≤ 8 → v < 256 ^ (n - i) → v < 256 ^ 7
  room e h = let k : n - i ≤ 7 = omega arith in lt_of_lt_of_le h (pow-le-pow_right (lit≤ tt) k)

  pub grows : (b : ℕ) → b < 256 → v < 256 ^ (n - i) → v * 256 + b < 256 ^ (n - (i - 1))
  grows b m h =
      let e : n - (i - 1) ≡ suc (n - i) = omega arith in
      subst (λ (k : ℕ). v * 256 + b < 256 ^ k) (sym e) (omega (arith, pow-suc 256 (n - i)))

-- ---- writing, from the first byte up

pub put_step : (d : List ℕ) (at w v i : ℕ) {out : List ℕ} {rest : ℕ} → i < w → rest ≡ v / 256 ^ i → out ≡ over at (take i (le_bytes w v)) d
    → set out (at + i) (rest % 256) ≡ over at (take (i + 1) (le_bytes w v)) d
put_step d at w v i {out} {rest} h r b =
    ap₂ (λ (l : List ℕ) (x : ℕ). set l (at + i) x) b (ap (λ (n : ℕ). n % 256) r ∙ sym (get_d_le w v i h))
    ∙ down_next at i (le_bytes w v) d (omega (arith, length-le w v))

pub rest_step : (v i : ℕ) {rest : ℕ} → rest ≡ v / 256 ^ i → rest / 256 ≡ v / 256 ^ (i + 1)
rest_step v i {rest} r =
    ap (λ (n : ℕ). n / 256) r ∙ div-div-eq-div-mul v (256 ^ i) 256 ∙ ap (λ (n : ℕ). v / n) (sym (ap (λ (n : ℕ). 256 ^ n) (add-one i) ∙ pow-suc 256 i))

-- the bytes that have a place are all of them, as far as the slice goes
pub put_all : (d : List ℕ) (at w v n : ℕ) → n ≡ min w (length d - at) → over at (take n (le_bytes w v)) d ≡ over at (le_bytes w v) d
put_all d at w v n e =
    ⊎_elim
    (λ (h : w ≤ length d - at). ap (λ (l : List ℕ). over at l d) (take_all n (le_bytes w v) (omega (arith, length-le w v))))
    (λ (h : length d - at < w). over-cut at n (le_bytes w v) d (omega arith))
    (le-or-lt w (length d - at))
