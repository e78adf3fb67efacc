-- Steps of a pass over the regions of a run. Assumes nothing.
use Rattle.std.proofs.Common.{◌≡◌, ℕ, zero, suc, ◌-◌, ◌*◌, ◌/◌, ◌<◌, ◌≤◌, min, List, [], ◌∷◌, length, take, drop, get_or, sym, refl, ap, ◌∙◌, arith}
use Rattle.std.specs.Prelude.{Some, None}
use Rattle.std.proofs.Math.Seq.{take-nil}
use Rattle.std.proofs.lemmas.List.{take_rest}
use native.Mathlib.Nat.{zero-min, min-zero}
use Rattle.fsm_sections.specs.declared.FreeSection.{FreeSection}
use Rattle.fsm_sections.specs.Sections.{section, decode}
use Rattle.fsm_sections.specs.RunSteps.{regions_of, first_of}

-- ---- no more pairs are read than there are

decode-least : (n : ℕ) (xs : List ℕ) → decode n xs ≡ decode (min n (length xs / 2)) xs
decode-least zero xs = ap (λ (k : ℕ). decode k xs) (sym (zero-min (length xs / 2)))
decode-least (suc n) [] = ap (λ (k : ℕ). decode k []) (sym (min-zero (suc n)))
decode-least (suc n) (a ∷ []) = ap (λ (k : ℕ). decode k (a ∷ [])) (sym (min-zero (suc n)))
decode-least (suc n) (a ∷ s ∷ xs) =
    let e : min (suc n) (suc (suc (length xs)) / 2) ≡ suc (min n (length xs / 2)) = omega arith in
    ap (λ (l : List FreeSection). section a s ∷ l) (decode-least n xs) ∙ ap (λ (k : ℕ). decode k (a ∷ s ∷ xs)) (sym e)

pub decode-present : (m n : ℕ) (xs : List ℕ) → m ≡ min n (length xs / 2) → decode m xs ≡ decode n xs
decode-present m n xs e = ap (λ (k : ℕ). decode k xs) e ∙ sym (decode-least n xs)

-- ---- the regions of a run

regions-all : (xs : List ℕ) → regions_of xs ≡ decode (length xs / 2) xs
unfolding regions_of
regions-all [] = refl
regions-all (a ∷ []) = refl
regions-all (a ∷ s ∷ xs) = let e : suc (suc (length xs)) / 2 ≡ suc (length xs / 2) = omega arith in rw e (ap (λ (l : List FreeSection). section a s ∷ l) (regions-all xs))

decode-take : (m : ℕ) (xs : List ℕ) → regions_of (take (2 * m) xs) ≡ decode m xs
unfolding regions_of
decode-take zero xs = refl
decode-take (suc m) [] = ap regions_of (take-nil (2 * suc m))
decode-take (suc m) (a ∷ []) = let e : 2 * suc m ≡ suc (suc (2 * m)) = omega arith in rw e (ap (λ (l : List ℕ). regions_of (a ∷ l)) (take-nil (suc (2 * m))))
decode-take (suc m) (a ∷ s ∷ xs) = let e : 2 * suc m ≡ suc (suc (2 * m)) = omega arith in rw e (ap (λ (l : List FreeSection). section a s ∷ l) (decode-take m xs))

-- the first so many regions of a run, as many as it has
pub regions-new : (n : ℕ) (xs : List ℕ) (m : ℕ) → m ≡ min n (length xs / 2) → regions_of (take (2 * m) xs) ≡ decode n xs
regions-new n xs m e = decode-take m xs ∙ decode-present m n xs e

pub regions-few : (xs : List ℕ) → length xs < 2 → None ≡ first_of (regions_of xs)
unfolding regions_of
regions-few [] h = refl
regions-few (a ∷ []) h = refl
regions-few (a ∷ s ∷ xs) h = absurd (omega arith)

pub regions-first : (xs : List ℕ) → 2 ≤ length xs → Some (section (get_or xs 0 0) (get_or xs 1 0)) ≡ first_of (regions_of xs)
unfolding regions_of
regions-first [] h = absurd (omega arith)
regions-first (a ∷ []) h = absurd (omega arith)
regions-first (a ∷ s ∷ xs) h = refl

pub regions-some : (xs : List ℕ) (x : FreeSection) → Some x ≡ first_of (regions_of xs) → (2 ≤ length xs) × (regions_of xs ≡ x ∷ regions_of (take (length xs - 2) (drop 2 xs)))
unfolding regions_of
regions-some [] x e = let z : ◌≡◌ {A = ℕ} 0 1 = cc in absurd (omega arith)
regions-some (a ∷ []) x e = let z : ◌≡◌ {A = ℕ} 0 1 = cc in absurd (omega arith)
regions-some (a ∷ s ∷ xs) x e = let q : x ≡ section a s = cc in (omega arith, rw (take_rest (a ∷ s ∷ xs) 2) (ap (λ (y : FreeSection). y ∷ regions_of xs) (sym q)))

pub regions-length : (xs : List ℕ) → length (regions_of xs) ≡ length xs / 2
unfolding regions_of
regions-length [] = refl
regions-length (a ∷ []) = refl
regions-length (a ∷ s ∷ xs) = omega (arith, regions-length xs)
