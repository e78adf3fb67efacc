-- Laws of numbers written over others in a run, and of a part of a run that is copied within it. Assumes nothing.
use mathlib.Core.Path.{◌≡◌, refl, sym, ap, ◌∙◌}
use mathlib.Core.Logic.{⊎_elim}
use mathlib.Core.List.{List, [], ◌∷◌}
use Prim.Native.Nat.{ℕ, zero, suc, ◌+◌, ◌-◌, min, ◌≤◌, ◌<◌}
use native.Mathlib.Omega.{arith}
use lib.ListN.{length, take, drop, length-take, length-drop}
use lib.Seq.{slice, paste, take_all, take-take}
use Rattle.error.specs.Lent.{over}
use Rattle.error.proofs.OverLaws.{over-nil, over-cut, over-paste}
use Rattle.error.proofs.TestLaws.{le-or-lt}
use Rattle.fields.proofs.LayoutLaws.{drop-take}

-- what is written over is no more seen
pub over-again : (i : ℕ) (vs ws xs : List ℕ) → length ws ≤ length vs → over i vs (over i ws xs) ≡ over i vs xs
over-again i vs ws [] h = refl
over-again zero vs [] (x ∷ xs) h = refl
over-again zero [] (w ∷ ws) (x ∷ xs) h = absurd (omega arith)
over-again zero (v ∷ vs) (w ∷ ws) (x ∷ xs) h = ap (λ (l : List ℕ). v ∷ l) (over-again zero vs ws xs (omega arith))
over-again (suc i) vs ws (x ∷ xs) h = ap (λ (l : List ℕ). x ∷ l) (over-again i vs ws xs h)

pub over-same : (i e : ℕ) (xs : List ℕ) → over i (slice i e xs) xs ≡ xs
over-same i e [] = refl
over-same zero zero (x ∷ xs) = refl
over-same zero (suc e) (x ∷ xs) = ap (λ (l : List ℕ). x ∷ l) (over-same zero e xs)
over-same (suc i) zero (x ∷ xs) = ap (λ (l : List ℕ). x ∷ l) (over-nil i xs)
over-same (suc i) (suc e) (x ∷ xs) = ap (λ (l : List ℕ). x ∷ l) (over-same i e xs)

pub copied_same : (from end to : ℕ) (xs : List ℕ) → to ≡ from → xs ≡ over to (slice from end xs) xs
copied_same from end to xs e = sym (ap (λ (i : ℕ). over i (slice from end xs) xs) e ∙ over-same from end xs)

-- the lesser of two numbers, where the second is more
is-first : (n m l to : ℕ) → n ≡ min m (l - to) → to + n < l → m ≤ n
is-first n m l to e h = omega arith

-- what is copied is as many numbers as there are and fit
module _ (from end to : ℕ) (xs : List ℕ) (n : ℕ) (e : n ≡ min (min end (length xs) - from) (length xs - to)) where
  no_more : n ≤ end - from
  no_more = omega arith

  first : over to (take n (drop from xs)) xs ≡ over to (slice from end xs) xs
  first =
      let vs = slice from end xs in
      let many : length vs ≡ min end (length xs) - from = length-drop from (take end xs) ∙ ap (λ (k : ℕ). k - from) (length-take end xs) in
      ap (λ (l : List ℕ). over to l xs) (sym (take-take n (end - from) (drop from xs) no_more) ∙ ap (take n) (sym (drop-take from end xs)))
      ∙ ⊎_elim
      (λ h. over-cut to n vs xs h)
      (λ h. ap (λ (l : List ℕ). over to l xs) (take_all n vs (rw many (is-first n _ (length xs) to e h))))
      (le-or-lt (length xs) (to + n))

  pub copied_none : n ≡ 0 → xs ≡ over to (slice from end xs) xs
  copied_none z = sym (over-nil to xs) ∙ ap (λ (k : ℕ). over to (take k (drop from xs)) xs) (sym z) ∙ first

  pub copied : to + n ≤ length xs → from + n ≤ length xs → paste xs to (drop from xs) (from + n - from) ≡ over to (slice from end xs) xs
  copied t f =
      let k : from + n - from ≡ n = omega arith in
      ap (paste xs to (drop from xs)) k ∙ over-paste to n (drop from xs) xs t (omega (arith, length-drop from xs)) ∙ first
