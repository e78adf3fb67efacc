-- Laws of `decode` and `flat`: a run's pairs as records, and records as a run. Assumes nothing.
--   Form    how a record is a pair of numbers: its constructor, its two fields, and that these are what the constructor took
use mathlib.Core.Path.{◌≡◌, refl, sym, ap, ap₂, ◌∙◌}
use mathlib.Core.List.{List, [], ◌∷◌, ◌++◌, map, append-nil}
use Prim.Native.Nat.{ℕ, zero, suc, ◌+◌, ◌-◌, ◌*◌, ◌≤◌, ◌<◌}
use native.Mathlib.Nat.{le_of_suc-le-suc, not-suc-le-zero}
use native.Mathlib.Numerals.{add-one}
use native.Mathlib.Omega.{arith}
use lib.ListN.{length, take, drop, get_or, length-append, length-drop, drop_of_length-le}
use lib.Seq.{slice, length-take-le, take-take, drop-cons}
use Rattle.error.specs.Lent.{over}
use Rattle.error.proofs.OverLaws.{over-left, over_right, over-front}
use Rattle.pairs.specs.Pairs.{pair_at, decode, flat}
use Rattle.pairs.proofs.CopyLaws.{over-same}

double : (n : ℕ) → 2 * suc n ≡ suc (suc (2 * n))
double n = omega arith

-- ---- a run that has the room for n pairs

module _ {A : Type 0} (make : ℕ → ℕ → A) where
  pub length-decode : (n : ℕ) (xs : List ℕ) → 2 * n ≤ length xs → length (decode make n xs) ≡ n
  length-decode zero xs h = refl
  length-decode (suc n) [] h = absurd (omega arith)
  length-decode (suc n) (a ∷ []) h = absurd (omega arith)
  length-decode (suc n) (a ∷ b ∷ xs) h = ap suc (length-decode n xs (omega arith))

  -- the record that the code reads at i
  pub decode-at : (n i : ℕ) (xs : List ℕ) (d : A) → i < n → 2 * n ≤ length xs → get_or (decode make n xs) i d ≡ pair_at make xs i
  decode-at zero i xs d l h = absurd (not-suc-le-zero l)
  decode-at (suc n) i [] d l h = absurd (omega arith)
  decode-at (suc n) i (a ∷ []) d l h = absurd (omega arith)
  decode-at (suc n) zero (a ∷ b ∷ xs) d l h = refl
  decode-at (suc n) (suc i) (a ∷ b ∷ xs) d l h =
      let e : 2 * suc i + 1 ≡ suc (suc (2 * i + 1)) = omega arith in
      rw (e, double) (decode-at n i xs d (le_of_suc-le-suc l) (omega arith))

  -- what a loop over the records reads
  pub decode-drop : (n i : ℕ) (xs : List ℕ) → i < n → 2 * n ≤ length xs → drop i (decode make n xs) ≡ pair_at make xs i ∷ drop (i + 1) (decode make n xs)
  decode-drop n i xs l h =
      let d = make 0 0 in
      let k : i < length (decode make n xs) = omega (arith, length-decode n xs h) in
      drop-cons (decode make n xs) i d k ∙ ap₂ (λ (r : A) (j : ℕ). r ∷ drop j (decode make n xs)) (decode-at n i xs d l h) (sym (add-one i))

  pub decode-end : (n i : ℕ) (xs : List ℕ) → n ≤ i → 2 * n ≤ length xs → drop i (decode make n xs) ≡ []
  decode-end n i xs l h = drop_of_length-le (decode make n xs) {i = i} (omega (arith, length-decode n xs h))

  -- one pair more
  pub decode-last : (n : ℕ) (xs : List ℕ) → 2 * suc n ≤ length xs → decode make (suc n) xs ≡ decode make n xs ++ (pair_at make xs n ∷ [])
  decode-last n [] h = absurd (omega arith)
  decode-last n (a ∷ []) h = absurd (omega arith)
  decode-last zero (a ∷ b ∷ xs) h = refl
  decode-last (suc n) (a ∷ b ∷ xs) h =
      let e : 2 * suc n + 1 ≡ suc (suc (2 * n + 1)) = omega arith in
      rw (e, double) (ap (λ (l : List A). make a b ∷ l) (decode-last n xs (omega arith)))

  -- what is made of each record is made of each pair
  pub decode-map : {B : Type 0} (f : A → B) (n : ℕ) (xs : List ℕ) → map f (decode make n xs) ≡ decode (λ a b. f (make a b)) n xs
  decode-map f zero xs = refl
  decode-map f (suc n) [] = refl
  decode-map f (suc n) (a ∷ []) = refl
  decode-map {B} f (suc n) (a ∷ b ∷ xs) = ap (λ (l : List B). f (make a b) ∷ l) (decode-map f n xs)

-- ---- records as a run, and the run as records

pub record Form (A : Type 0) : Type 0 where
  pub make : ℕ → ℕ → A
  pub first : A → ℕ
  pub second : A → ℕ
  pub first_made : (a b : ℕ) → first (make a b) ≡ a
  pub second_made : (a b : ℕ) → second (make a b) ≡ b
  pub made : (r : A) → make (first r) (second r) ≡ r

module _ {A : Type 0} (f : Form A) where
  abbrev out : List A → List ℕ
  out rs = flat f.first f.second rs

  abbrev into : ℕ → List ℕ → List A
  into n xs = decode f.make n xs

  pub length-flat : (rs : List A) → length (out rs) ≡ 2 * length rs
  length-flat [] = refl
  length-flat (r ∷ rs) = ap (λ (k : ℕ). suc (suc k)) (length-flat rs) ∙ sym (double (length rs))

  pub flat_append : (rs ss : List A) → out (rs ++ ss) ≡ out rs ++ out ss
  flat_append [] ss = refl
  flat_append (r ∷ rs) ss = ap (λ (l : List ℕ). f.first r ∷ f.second r ∷ l) (flat_append rs ss)

  flat-take : (i : ℕ) (rs : List A) → out (take i rs) ≡ take (2 * i) (out rs)
  flat-take zero rs = refl
  flat-take (suc i) [] = rw double
  flat-take (suc i) (r ∷ rs) = rw double (ap (λ (l : List ℕ). f.first r ∷ f.second r ∷ l) (flat-take i rs))

  flat-drop : (i : ℕ) (rs : List A) → out (drop i rs) ≡ drop (2 * i) (out rs)
  flat-drop zero rs = refl
  flat-drop (suc i) [] = rw double
  flat-drop (suc i) (r ∷ rs) = rw double (flat-drop i rs)

  pub flat-decode : (n : ℕ) (xs : List ℕ) → 2 * n ≤ length xs → out (into n xs) ≡ take (2 * n) xs
  flat-decode zero xs h = refl
  flat-decode (suc n) [] h = absurd (omega arith)
  flat-decode (suc n) (a ∷ []) h = absurd (omega arith)
  flat-decode (suc n) (a ∷ b ∷ xs) h =
      rw (double, f.first_made a b, f.second_made a b) (ap (λ (l : List ℕ). a ∷ b ∷ l) (flat-decode n xs (omega arith)))

  pub decode-flat : (rs : List A) (xs : List ℕ) → into (length rs) (out rs ++ xs) ≡ rs
  decode-flat [] xs = refl
  decode-flat (r ∷ rs) xs = ap₂ (λ (q : A) (l : List A). q ∷ l) (f.made r) (decode-flat rs xs)

  -- ---- a run with pairs written over it

  pub decode-over : (rs : List A) (zs xs : List ℕ) → 2 * length rs ≤ length xs → into (length rs) (over 0 (out rs ++ zs) xs) ≡ rs
  decode-over [] zs xs h = refl
  decode-over (r ∷ rs) zs [] h = absurd (omega arith)
  decode-over (r ∷ rs) zs (x ∷ []) h = absurd (omega arith)
  decode-over (r ∷ rs) zs (x ∷ y ∷ xs) h = ap₂ (λ (q : A) (l : List A). q ∷ l) (f.made r) (decode-over rs zs xs (omega arith))

  -- the same with nothing after the pairs
  pub decode-put : (rs : List A) (xs : List ℕ) → 2 * length rs ≤ length xs → into (length rs) (over 0 (out rs) xs) ≡ rs
  decode-put rs xs h = ap (λ (l : List ℕ). into (length rs) (over 0 l xs)) (sym (append-nil (out rs))) ∙ decode-over rs [] xs h

  -- a run holds its own pairs
  pub over-own : (n : ℕ) (xs : List ℕ) → 2 * n ≤ length xs → over 0 (out (into n xs)) xs ≡ xs
  over-own n xs h = ap (λ (l : List ℕ). over 0 l xs) (flat-decode n xs h) ∙ over-same 0 (2 * n) xs

  -- pairs put after others are put with them
  pub over-flat : (k : ℕ) (rs ss : List A) (xs : List ℕ) → over (k + 2 * length rs) (out ss) (over k (out rs) xs) ≡ over k (out (rs ++ ss)) xs
  over-flat k rs ss xs =
      ap (λ (n : ℕ). over (k + n) (out ss) (over k (out rs) xs)) (sym (length-flat rs))
      ∙ over_right k (out rs) (out ss) xs
      ∙ ap (λ (l : List ℕ). over k l xs) (sym (flat_append rs ss))

  -- pairs from lo up to hi replaced by others: those from hi on are moved, and the new ones written
  module _ (xs : List ℕ) (n lo hi : ℕ) (new : List A) (lo-hi : lo ≤ hi) (hi-n : hi ≤ n) (room : 2 * n ≤ length xs) where
    abbrev all : List A
    all = into n xs

    pub length-spliced : length (take lo all ++ (new ++ drop hi all)) ≡ lo + length new + (n - hi)
    length-spliced =
        let d : length all ≡ n = length-decode f.make n xs room in
        length-append (take lo all) (new ++ drop hi all) ∙ omega (arith, length-take-le lo all (omega arith), length-append new (drop hi all), length-drop hi all)

    pub spliced-over : over (2 * lo) (out new) (over (2 * (lo + length new)) (slice (2 * hi) (2 * n) xs) xs) ≡ over 0 (out (take lo all ++ (new ++ drop hi all))) xs
    spliced-over =
        let c = slice (2 * hi) (2 * n) xs in
        let at : 2 * (lo + length new) ≡ 2 * lo + length (out new) = omega (arith, length-flat new) in
        let front : out (take lo all) ≡ take (2 * lo) xs =
        flat-take lo all ∙ ap (take (2 * lo)) (flat-decode n xs room) ∙ take-take (2 * lo) (2 * n) xs (omega arith) in
        let back : out (drop hi all) ≡ c = flat-drop hi all ∙ ap (drop (2 * hi)) (flat-decode n xs room) in
        ap (λ (j : ℕ). over (2 * lo) (out new) (over j c xs)) at
        ∙ over-left (2 * lo) (out new) c xs
        ∙ over-front (2 * lo) (out new ++ c) xs (omega arith)
        ∙ ap (λ (l : List ℕ). over 0 l xs)
        (sym (flat_append (take lo all) (new ++ drop hi all) ∙ ap₂ (λ (a b : List ℕ). a ++ b) front (flat_append new (drop hi all) ∙ ap (λ (l : List ℕ). out new ++ l) back)))
