-- Sizes in a window, each once, against how many sizes there are. Assumes nothing.
use Rattle.std.proofs.Common.{◌≡◌, ℕ, suc, ◌+◌, ◌-◌, ◌%◌, ◌^◌, ◌<◌, ◌≤◌, Bool, true, false, cond, ◌&&◌, ◌||◌, eqb, ltb, leb, List, [], ◌∷◌, ◌++◌, length, sym, refl, ap, ◌∙◌, ⊎_elim, arith, length-append, le-ltb, lt-ltb, eq-eqb, eqb-true, le-leb, leb-false, leb-true}
use borrow.Author.Tests.{lt-leb, eqb-false}
use Rattle.fields.specs.Ranges.{top}
use Rattle.error.proofs.TestLaws.{le-or-lt}
use Rattle.fsm_sections.specs.declared.FreeSection.{FreeSection}
use Rattle.fsm_sections.specs.Sections.{of_size, distinct, All}
use Rattle.fsm_sections.specs.Passes.{occurs}
use Rattle.fsm_sizes.specs.Windows.{at_least, sizes_from, Gathers}
use Rattle.fsm_sections.proofs.PassLaws.{occurs-append}

-- the difference wraps where z is below the bound
pub out_test : (from reach z v w : ℕ) → from ≤ reach → reach ≤ top → z ≤ top → v ≤ top → w ≤ top → (v + from) % 2 ^ 64 ≡ reach → (w + from) % 2 ^ 64 ≡ z
    → ltb v w ≡ (ltb z from || ltb reach z)
out_test from reach z v w h r l n m d e = ap (λ (x : ℕ). ltb x w) (omega arith) ∙ ⊎_elim below above (le-or-lt from z)
  where
    below : from ≤ z → ltb (reach - from) w ≡ (ltb z from || ltb reach z)
    below q =
        let d : w ≡ z - from = omega arith in
        rw (le-ltb z from q)
        (⊎_elim (λ (p : z ≤ reach). le-ltb (reach - from) w (omega arith) ∙ sym (le-ltb reach z p)) (λ (p : reach < z). lt-ltb (reach - from) w (omega arith) ∙ sym (lt-ltb reach z p))
        (le-or-lt z reach))

    above : z < from → ltb (reach - from) w ≡ (ltb z from || ltb reach z)
    above q = rw (lt-ltb z from q) (lt-ltb (reach - from) w (omega arith))

-- ---- lists in which each number stands equally often are equally long

unfoldable without : ℕ → List ℕ → List ℕ
without z [] = []
without z (x ∷ xs) = cond (eqb z x) xs (x ∷ without z xs)

without-occurs : (y z : ℕ) (xs : List ℕ) → 1 ≤ occurs z xs → occurs y xs ≡ cond (eqb y z) 1 0 + occurs y (without z xs)
unfolding occurs without
without-occurs y z [] h = absurd (omega arith)
without-occurs y z (x ∷ xs) h = pick (eqb z x) (eqb-true z x) h (without-occurs y z xs)
  where
    pick : (b : Bool) → (b ≡ true → z ≡ x) → 1 ≤ cond b 1 0 + occurs z xs → (1 ≤ occurs z xs → occurs y xs ≡ cond (eqb y z) 1 0 + occurs y (without z xs))
        → cond (eqb y x) 1 0 + occurs y xs ≡ cond (eqb y z) 1 0 + occurs y (cond b xs (x ∷ without z xs))
    pick true e l ih = rw (e refl)
    pick false e l ih = omega (arith, ih (omega arith))

without-length : (z : ℕ) (xs : List ℕ) → 1 ≤ occurs z xs → length xs ≡ suc (length (without z xs))
unfolding occurs without
without-length z [] h = absurd (omega arith)
without-length z (x ∷ xs) h = pick (eqb z x) h (without-length z xs)
  where
    pick : (b : Bool) → 1 ≤ cond b 1 0 + occurs z xs → (1 ≤ occurs z xs → length xs ≡ suc (length (without z xs))) → suc (length xs) ≡ suc (length (cond b xs (x ∷ without z xs)))
    pick true l ih = refl
    pick false l ih = ap suc (ih (omega arith))

pub equally_long : (xs ys : List ℕ) → ((z : ℕ) → occurs z xs ≡ occurs z ys) → length xs ≡ length ys
unfolding occurs
equally_long [] [] h = refl
equally_long [] (y ∷ ys) h = let e : 0 ≡ 1 + occurs y ys = h y ∙ rw (eq-eqb y y refl) in absurd (omega arith)
equally_long (x ∷ xs) ys h =
    let e : 1 + occurs x xs ≡ occurs x ys = rw (eq-eqb x x refl) at (h x) in
    let l : 1 ≤ occurs x ys = omega arith in
    ap suc (equally_long xs (without x ys) (λ z. omega (arith, h z, without-occurs z x ys l))) ∙ sym (without-length x ys l)

-- ---- the sizes of sections, each once

unfoldable pub sizes_of : List FreeSection → List ℕ
sizes_of [] = []
sizes_of (y ∷ l) = cond (eqb (of_size y.size l) 0) (y.size ∷ sizes_of l) (sizes_of l)

sizes-length : (l : List FreeSection) → length (sizes_of l) ≡ distinct l
unfolding sizes_of distinct
sizes-length [] = refl
sizes-length (y ∷ l) = pick (eqb (of_size y.size l) 0) (sizes-length l)
  where
    pick : (b : Bool) → length (sizes_of l) ≡ distinct l → length (cond b (y.size ∷ sizes_of l) (sizes_of l)) ≡ cond b 1 0 + distinct l
    pick true e = omega arith
    pick false e = omega arith

sizes-occurs : (z : ℕ) (l : List FreeSection) → occurs z (sizes_of l) ≡ cond (ltb 0 (of_size z l)) 1 0
unfolding occurs sizes_of of_size
sizes-occurs z [] = refl
sizes-occurs z (y ∷ l) = pick (eqb z y.size) refl (eqb (of_size y.size l) 0) refl (sizes-occurs z l)
  where
    pick : (b : Bool) → eqb z y.size ≡ b → (u : Bool) → eqb (of_size y.size l) 0 ≡ u → occurs z (sizes_of l) ≡ cond (ltb 0 (of_size z l)) 1 0
        → occurs z (cond u (y.size ∷ sizes_of l) (sizes_of l)) ≡ cond (ltb 0 (cond b 1 0 + of_size z l)) 1 0
    pick true e true f ih =
        let q = eqb-true z y.size e in
        let g : of_size z l ≡ 0 = ap (λ (x : ℕ). of_size x l) q ∙ eqb-true (of_size y.size l) 0 f in
        rw (e, ih, g)
    pick true e false f ih =
        let q = eqb-true z y.size e in
        let g : of_size z l ≡ of_size y.size l = ap (λ (x : ℕ). of_size x l) q in
        let n : of_size y.size l ≡ 0 → ⊥ = eqb-false (of_size y.size l) 0 f in
        ih ∙ rw (lt-ltb 0 (of_size z l) (omega arith), lt-ltb 0 (1 + of_size z l) (omega arith))
    pick false e true f ih = let w : 0 + of_size z l ≡ of_size z l = omega arith in rw (e, w) (omega (arith, ih))
    pick false e false f ih = let w : 0 + of_size z l ≡ of_size z l = omega arith in rw w ih

-- ---- sizes from a bound on

least_size : (z from : ℕ) (l : List FreeSection) → of_size z (at_least from l) ≡ cond (leb from z) (of_size z l) 0
unfolding at_least of_size
least_size z from [] = pick (leb from z)
  where
    pick : (b : Bool) → ◌≡◌ {A = ℕ} 0 (cond b 0 0)
    pick true = refl
    pick false = refl
least_size z from (y ∷ l) = pick (leb from y.size) refl (leb from z) refl (eqb z y.size) refl (least_size z from l)
  where
    pick : (b : Bool) → leb from y.size ≡ b → (u : Bool) → leb from z ≡ u → (v : Bool) → eqb z y.size ≡ v
        → of_size z (at_least from l) ≡ cond (leb from z) (of_size z l) 0
        → of_size z (cond b (y ∷ at_least from l) (at_least from l)) ≡ cond u (cond v 1 0 + of_size z l) 0
    pick true e true f v g ih = rw (g, ih, f)
    pick true e false f true g ih = absurd (omega (arith, leb-true from y.size e, leb-false from z f, eqb-true z y.size g))
    pick true e false f false g ih = rw (g, ih, f)
    pick false e true f true g ih = absurd (omega (arith, leb-false from y.size e, leb-true from z f, eqb-true z y.size g))
    pick false e true f false g ih = ih ∙ rw f (omega arith)
    pick false e false f v g ih = rw (ih, f)

least-all : (l : List FreeSection) → at_least 0 l ≡ l
unfolding at_least
least-all [] = refl
least-all (y ∷ l) = rw (le-leb 0 y.size (omega arith), least-all l)

pub from_all : (l : List FreeSection) → sizes_from 0 l ≡ distinct l
from_all l = ap distinct (least-all l)

least-none : (m : ℕ) (l : List FreeSection) → All (λ y. y.size ≤ m) l → at_least (m + 1) l ≡ []
unfolding at_least
least-none m [] h = refl
least-none m (y ∷ l) h = rw (lt-leb (m + 1) y.size (omega (arith, h.0)), least-none m l h.1)

pub from-none : (m : ℕ) (l : List FreeSection) → All (λ y. y.size ≤ m) l → sizes_from (m + 1) l ≡ 0
unfolding distinct
from-none m l h = ap distinct (least-none m l h)

-- ---- a window

module _ (from reach : ℕ) (up : from ≤ reach) (l : List FreeSection) (ks : List ℕ) (h : Gathers from reach (λ z. of_size z l) [] ks) where
  alike : (z : ℕ) → occurs z (ks ++ sizes_of (at_least (reach + 1) l)) ≡ occurs z (sizes_of (at_least from l))
  unfolding occurs
  alike z =
      occurs-append z ks (sizes_of (at_least (reach + 1) l))
      ∙ rw (h z, sizes-occurs z (at_least (reach + 1) l), sizes-occurs z (at_least from l), least_size z (reach + 1) l, least_size z from l) (pick (leb from z) refl (leb z reach) refl (leb (reach + 1) z) refl)
    where
      pick : (a : Bool) → leb from z ≡ a → (b : Bool) → leb z reach ≡ b → (c : Bool) → leb (reach + 1) z ≡ c
          → cond ((a && b) && ltb 0 (of_size z l)) 1 (occurs z []) + cond (ltb 0 (cond c (of_size z l) 0)) 1 0 ≡ cond (ltb 0 (cond a (of_size z l) 0)) 1 0
      pick true e true f true g = absurd (omega (arith, leb-true z reach f, leb-true (reach + 1) z g))
      pick true e true f false g = omega arith
      pick true e false f true g = omega arith
      pick true e false f false g = absurd (omega (arith, leb-false z reach f, leb-false (reach + 1) z g))
      pick false e b f true g = absurd (omega (arith, leb-false from z e, leb-true (reach + 1) z g))
      pick false e b f false g = omega arith

  pub window-count : length ks + sizes_from (reach + 1) l ≡ sizes_from from l
  window-count =
      omega (
        arith,
        equally_long (ks ++ sizes_of (at_least (reach + 1) l)) (sizes_of (at_least from l)) alike,
        length-append ks (sizes_of (at_least (reach + 1) l)),
        sizes-length (at_least (reach + 1) l),
        sizes-length (at_least from l),
      )
