-- Laws of `over`: numbers written over a run from a place on. Since what would pass the end is dropped, few need a bound. Assumes nothing.
use mathlib.Core.Path.{◌≡◌, refl, sym, ap, ◌∙◌}
use mathlib.Core.List.{List, [], ◌∷◌, ◌++◌}
use Prim.Native.Nat.{ℕ, zero, suc, ◌+◌, ◌-◌, ◌≤◌, ◌<◌}
use native.Mathlib.Nat.{zero-add, sub-zero, suc-sub-suc, suc-add, add-suc, le_of_suc-le-suc, not-suc-le-zero, le_of_lt}
use native.Mathlib.Numerals.{add-one}
use native.Mathlib.Omega.{arith}
use lib.ListN.{length, take, drop, get_or, set, replicate, length-replicate, replicate-append-replicate, drop_of_length-le}
use lib.Seq.{length-take-le, take-suc, drop-cons, slice, length-slice, get_or-take, get_or-drop, paste, length_paste_head}
use Rattle.error.specs.Lent.{over}

pub length_over : (i : ℕ) (vs xs : List ℕ) → length (over i vs xs) ≡ length xs
length_over i vs [] = refl
length_over zero [] (x ∷ xs) = refl
length_over zero (v ∷ vs) (x ∷ xs) = ap suc (length_over zero vs xs)
length_over (suc i) vs (x ∷ xs) = ap suc (length_over i vs xs)

pub over-nil : (i : ℕ) (xs : List ℕ) → over i [] xs ≡ xs
over-nil i [] = refl
over-nil zero (x ∷ xs) = refl
over-nil (suc i) (x ∷ xs) = ap (λ (l : List ℕ). x ∷ l) (over-nil i xs)

-- written at the front
pub over-is : (vs xs : List ℕ) → length vs ≤ length xs → over 0 vs xs ≡ vs ++ drop (length vs) xs
over-is [] xs h = over-nil 0 xs
over-is (v ∷ vs) [] h = absurd (not-suc-le-zero h)
over-is (v ∷ vs) (x ∷ xs) h = ap (λ (l : List ℕ). v ∷ l) (over-is vs xs (le_of_suc-le-suc h))

-- written at the front of zeros
pub over_zeros : (vs : List ℕ) (n : ℕ) → length vs ≤ n → over 0 vs (replicate n 0) ≡ vs ++ replicate (n - length vs) 0
over_zeros [] n h = rw sub-zero (over-nil 0 (replicate n 0))
over_zeros (v ∷ vs) zero h = absurd (not-suc-le-zero h)
over_zeros (v ∷ vs) (suc n) h = rw suc-sub-suc (ap (λ (l : List ℕ). v ∷ l) (over_zeros vs n (le_of_suc-le-suc h)))

pub set-over : (xs : List ℕ) (i v : ℕ) → set xs i v ≡ over i (v ∷ []) xs
set-over [] i v = refl
set-over (x ∷ xs) zero v = ap (λ (l : List ℕ). v ∷ l) (sym (over-nil zero xs))
set-over (x ∷ xs) (suc i) v = ap (λ (l : List ℕ). x ∷ l) (set-over xs i v)

-- what is written next to it, after it or before it, is written with it
pub over_right : (i : ℕ) (vs ws xs : List ℕ) → over (i + length vs) ws (over i vs xs) ≡ over i (vs ++ ws) xs
over_right i vs ws [] = refl
over_right zero [] ws (x ∷ xs) = refl
over_right zero (v ∷ vs) ws (x ∷ xs) = rw add-suc (ap (λ (l : List ℕ). v ∷ l) (over_right zero vs ws xs))
over_right (suc i) vs ws (x ∷ xs) = rw suc-add (ap (λ (l : List ℕ). x ∷ l) (over_right i vs ws xs))

pub over-left : (i : ℕ) (vs ws xs : List ℕ) → over i vs (over (i + length vs) ws xs) ≡ over i (vs ++ ws) xs
over-left i vs ws [] = refl
over-left zero [] ws (x ∷ xs) = over-nil zero (over zero ws (x ∷ xs))
over-left zero (v ∷ vs) ws (x ∷ xs) = rw add-suc (ap (λ (l : List ℕ). v ∷ l) (over-left zero vs ws xs))
over-left (suc i) vs ws (x ∷ xs) = rw suc-add (ap (λ (l : List ℕ). x ∷ l) (over-left i vs ws xs))

-- a place that is not written holds what it held
pub get_or-below : (i k : ℕ) (vs xs : List ℕ) → k < i → get_or (over i vs xs) k 0 ≡ get_or xs k 0
get_or-below i k vs [] h = refl
get_or-below zero k vs (x ∷ xs) h = absurd (not-suc-le-zero h)
get_or-below (suc i) zero vs (x ∷ xs) h = refl
get_or-below (suc i) (suc k) vs (x ∷ xs) h = get_or-below i k vs xs (le_of_suc-le-suc h)

pub get_or-above : (i k : ℕ) (vs xs : List ℕ) → i + length vs ≤ k → get_or (over i vs xs) k 0 ≡ get_or xs k 0
get_or-above i k vs [] h = refl
get_or-above zero k [] (x ∷ xs) h = refl
get_or-above zero zero (v ∷ vs) (x ∷ xs) h = absurd (omega arith)
get_or-above zero (suc k) (v ∷ vs) (x ∷ xs) h = get_or-above zero k vs xs (omega arith)
get_or-above (suc i) zero vs (x ∷ xs) h = absurd (omega arith)
get_or-above (suc i) (suc k) vs (x ∷ xs) h = get_or-above i k vs xs (omega arith)

-- what stands before it may be written with it
pub over-front : (i : ℕ) (vs xs : List ℕ) → i ≤ length xs → over i vs xs ≡ over 0 (take i xs ++ vs) xs
over-front zero vs xs h = refl
over-front (suc i) vs [] h = refl
over-front (suc i) vs (x ∷ xs) h = ap (λ (l : List ℕ). x ∷ l) (over-front i vs xs (le_of_suc-le-suc h))

-- what would pass the end may be left out
pub over-cut : (i n : ℕ) (vs xs : List ℕ) → length xs ≤ i + n → over i (take n vs) xs ≡ over i vs xs
over-cut i n vs [] h = refl
over-cut zero zero vs (x ∷ xs) h = absurd (omega arith)
over-cut zero (suc n) [] (x ∷ xs) h = refl
over-cut zero (suc n) (v ∷ vs) (x ∷ xs) h = ap (λ (l : List ℕ). v ∷ l) (over-cut zero n vs xs (omega arith))
over-cut (suc i) n vs (x ∷ xs) h = ap (λ (l : List ℕ). x ∷ l) (over-cut i n vs xs (omega arith))

-- a copy from another list
pub over-paste : (i n : ℕ) (s xs : List ℕ) → i + n ≤ length xs → n ≤ length s → paste xs i s n ≡ over i (take n s) xs
over-paste i n s xs h k =
    let vs = take i xs ++ take n s in
    let m : length vs ≡ i + n = length_paste_head xs i s n (omega arith) k in
    ap (λ (j : ℕ). vs ++ drop j xs) (sym m)
    ∙ sym (over-is vs xs (omega arith))
    ∙ sym (over-front i (take n s) xs (omega arith))

-- at the end nothing is written
pub over-end : (i : ℕ) (vs xs : List ℕ) → length xs ≤ i → over i vs xs ≡ xs
over-end i vs xs h = sym (over-cut i 0 vs xs (omega arith)) ∙ over-nil i xs

-- ---- what was written, taken out again

pub drop-over : (i : ℕ) (vs xs : List ℕ) → drop i (over i vs xs) ≡ over 0 vs (drop i xs)
drop-over zero vs xs = refl
drop-over (suc i) vs [] = refl
drop-over (suc i) vs (x ∷ xs) = drop-over i vs xs

pub take-over : (vs xs : List ℕ) → length vs ≤ length xs → take (length vs) (over 0 vs xs) ≡ vs
take-over [] xs h = refl
take-over (v ∷ vs) [] h = absurd (omega arith)
take-over (v ∷ vs) (x ∷ xs) h = ap (λ (l : List ℕ). v ∷ l) (take-over vs xs (omega arith))

-- ---- one store of a loop that writes a run in order

pub store-after : (i p v : ℕ) (vs xs : List ℕ) → p ≡ i + length vs → set (over i vs xs) p v ≡ over i (vs ++ (v ∷ [])) xs
store-after i p v vs xs e = rw e (set-over (over i vs xs) (i + length vs) v ∙ over_right i vs (v ∷ []) xs)

pub store-before : (i p v : ℕ) (ws xs : List ℕ) → i ≡ suc p → set (over i ws xs) p v ≡ over p (v ∷ ws) xs
store-before i p v ws xs e =
    let q : i ≡ p + length (v ∷ []) = omega arith in
    rw q (set-over (over (p + length (v ∷ [])) ws xs) p v ∙ over-left p (v ∷ []) ws xs)

-- a store of a fill
pub fill_next : (from j v : ℕ) (xs : List ℕ) → from ≤ j → set (over from (replicate (j - from) v) xs) j v ≡ over from (replicate (j + 1 - from) v) xs
fill_next from j v xs h =
    let e : j ≡ from + length (replicate (j - from) v) = omega (arith, length-replicate (j - from) v) in
    let n : j - from + 1 ≡ j + 1 - from = omega arith in
    store-after from j v (replicate (j - from) v) xs e
    ∙ ap (λ (l : List ℕ). over from l xs) (replicate-append-replicate (j - from) 1 v)
    ∙ ap (λ (k : ℕ). over from (replicate k v) xs) n

-- a store of a copy of s, upwards, to the front, and downwards
pub down_next : (to j : ℕ) (s xs : List ℕ) → j < length s → set (over to (take j s) xs) (to + j) (get_or s j 0) ≡ over to (take (j + 1) s) xs
down_next to j s xs h =
    store-after to (to + j) (get_or s j 0) (take j s) xs (ap (λ (k : ℕ). to + k) (sym (length-take-le j s (le_of_lt h))))
    ∙ ap (λ (l : List ℕ). over to l xs) (sym (take-suc s j 0 h) ∙ ap (λ (k : ℕ). take k s) (sym (add-one j)))

pub front-next : (j : ℕ) (s xs : List ℕ) → j < length s → set (over 0 (take j s) xs) j (get_or s j 0) ≡ over 0 (take (j + 1) s) xs
front-next j s xs h = ap (λ (k : ℕ). set (over 0 (take j s) xs) k (get_or s j 0)) (sym (zero-add j)) ∙ down_next 0 j s xs h

pub up_next : (to j : ℕ) (s xs : List ℕ) → j < length s → set (over (to + suc j) (drop (suc j) s) xs) (to + j) (get_or s j 0) ≡ over (to + j) (drop j s) xs
up_next to j s xs h =
    store-before (to + suc j) (to + j) (get_or s j 0) (drop (suc j) s) xs (omega arith)
    ∙ ap (λ (l : List ℕ). over (to + j) l xs) (sym (drop-cons s j 0 h))

-- ---- the loop of `clear` before the first store, and what a part of a run holds

pub fill_start : (from v : ℕ) (xs : List ℕ) → xs ≡ over from (replicate (from - from) v) xs
fill_start from v xs =
    let z : from - from ≡ 0 = omega arith in
    sym (ap (λ (k : ℕ). over from (replicate k v) xs) z ∙ over-nil from xs)

pub get_or_slice : (f t j : ℕ) (xs : List ℕ) → f + j < t → get_or (slice f t xs) j 0 ≡ get_or xs (f + j) 0
get_or_slice f t j xs h = get_or-drop f (take t xs) j 0 ∙ get_or-take t xs (f + j) 0 h

-- two stores side by side
pub store_pair : (i a b : ℕ) (xs : List ℕ) → set (set xs i a) (i + 1) b ≡ over i (a ∷ b ∷ []) xs
store_pair i a b xs = ap (λ (l : List ℕ). set l (i + 1) b) (set-over xs i a) ∙ store-after i (i + 1) b (a ∷ []) xs refl
