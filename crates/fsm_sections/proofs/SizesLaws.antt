-- How many sections and sizes there are, in any order, and that a group stands for each size. Assumes nothing.
use Rattle.std.proofs.Common.{◌≡◌, ℕ, zero, suc, ◌+◌, ◌≤◌, Bool, true, false, cond, ◌&&◌, eqb, ltb, ◌≢◌, List, [], ◌∷◌, ◌++◌, length, sym, refl, ap, ◌∙◌, ⊎_elim, le_trans, arith, lt-ltb, eq-eqb, ne_eqb, eqb-true}
use borrow.Author.Tests.{eqb-false}
use Rattle.fsm_sections.specs.declared.FreeSection.{FreeSection}
use Rattle.fsm_sections.specs.Sections.{Group, count, All, Sorted, before, insert, by_size_then_addr, push, groups_of, of_size, distinct}
use Rattle.fsm_sections.proofs.SortLaws.{sorted-sorted}
use Rattle.fsm_sections.proofs.AllLaws.{all_map}
use Rattle.fsm_sections.specs.Chains.{chain}

pub of_size-append : (z : ℕ) (l m : List FreeSection) → of_size z (l ++ m) ≡ of_size z l + of_size z m
unfolding of_size
of_size-append z [] m = omega arith
of_size-append z (y ∷ l) m = omega (arith, of_size-append z l m)

pub distinct-few : (l : List FreeSection) → distinct l ≤ length l
unfolding distinct
distinct-few [] = omega arith
distinct-few (x ∷ l) = pick (eqb (of_size x.size l) 0) (distinct-few l)
  where
    pick : (t : Bool) → distinct l ≤ length l → cond t 1 0 + distinct l ≤ suc (length l)
    pick true h = omega arith
    pick false h = omega arith

pub length-chain : (a z c : ℕ) → length (chain a z c) ≡ c
unfolding chain
length-chain a z zero = refl
length-chain a z (suc c) = ap suc (length-chain (a + z) z c)

pub of_size-chain : (s a z c : ℕ) → of_size s (chain a z c) ≡ cond (eqb s z) c 0
unfolding chain of_size
of_size-chain s a z zero = pick (eqb s z)
  where
    pick : (t : Bool) → ◌≡◌ {A = ℕ} 0 (cond t 0 0)
    pick true = refl
    pick false = refl
of_size-chain s a z (suc c) = rw (of_size-chain s (a + z) z c) (pick (eqb s z))
  where
    pick : (t : Bool) → cond t 1 0 + cond t c 0 ≡ cond t (suc c) 0
    pick true = omega arith
    pick false = refl

-- a link adds a size if it is not empty and none of its size comes later
pub distinct-chain : (a z c : ℕ) (l : List FreeSection) → distinct (chain a z c ++ l) ≡ cond (ltb 0 c && eqb (of_size z l) 0) 1 0 + distinct l
unfolding chain distinct
distinct-chain a z zero l = omega arith
distinct-chain a z (suc zero) l = refl
distinct-chain a z (suc (suc c)) l =
    let e : of_size z (chain (a + z) z (suc c) ++ l) ≡ suc c + of_size z l =
    of_size-append z (chain (a + z) z (suc c)) l ∙ rw (of_size-chain z (a + z) z (suc c), eq-eqb z z refl) in
    let ih = distinct-chain (a + z) z (suc c) l in
    let i : distinct (chain (a + z) z (suc c) ++ l) ≡ cond (eqb (of_size z l) 0) 1 0 + distinct l = ih ∙ rw (lt-ltb 0 (suc c) (omega arith)) in
    rw (e, ne_eqb (suc c + of_size z l) 0 (λ q. omega arith), lt-ltb 0 (suc (suc c)) (omega arith)) (omega arith)

-- ---- counts do not see the order
of_size-insert : (z : ℕ) (s : FreeSection) (l : List FreeSection) → of_size z (insert s l) ≡ cond (eqb z s.size) 1 0 + of_size z l
unfolding of_size insert
of_size-insert z s [] = refl
of_size-insert z s (y ∷ l) = pick (before s y) (of_size-insert z s l)
  where
    pick : (b : Bool) → of_size z (insert s l) ≡ cond (eqb z s.size) 1 0 + of_size z l
        → of_size z (cond b (s ∷ y ∷ l) (y ∷ insert s l)) ≡ cond (eqb z s.size) 1 0 + (cond (eqb z y.size) 1 0 + of_size z l)
    pick true e = refl
    pick false e = omega arith

pub of_size-sorted : (z : ℕ) (l : List FreeSection) → of_size z (by_size_then_addr l) ≡ of_size z l
unfolding of_size by_size_then_addr
of_size-sorted z [] = refl
of_size-sorted z (s ∷ l) = of_size-insert z s (by_size_then_addr l) ∙ ap (λ (n : ℕ). cond (eqb z s.size) 1 0 + n) (of_size-sorted z l)

-- two in front, in either order
swap : (m n : ℕ) (x y : ℕ) (l : List FreeSection)
    → cond (eqb (cond (eqb x y) 1 0 + of_size x l) 0) 1 0 + cond (eqb (of_size y l) 0) 1 0
    ≡ cond (eqb (cond (eqb y x) 1 0 + of_size y l) 0) 1 0 + cond (eqb (of_size x l) 0) 1 0
swap m n x y l = pick (eqb x y) (eqb-true x y) (eqb-false x y)
  where
    pick : (t : Bool) → (t ≡ true → x ≡ y) → (t ≡ false → x ≡ y → ⊥)
        → cond (eqb (cond t 1 0 + of_size x l) 0) 1 0 + cond (eqb (of_size y l) 0) 1 0
        ≡ cond (eqb (cond (eqb y x) 1 0 + of_size y l) 0) 1 0 + cond (eqb (of_size x l) 0) 1 0
    pick true f g = rw (f refl, eq-eqb y y refl)
    pick false f g =
        let z : 0 + of_size x l ≡ of_size x l = omega arith in
        let w : 0 + of_size y l ≡ of_size y l = omega arith in
        rw (ne_eqb y x (λ e. g refl (sym e)), z, w) (omega arith)

distinct-insert : (s : FreeSection) (l : List FreeSection) → distinct (insert s l) ≡ cond (eqb (of_size s.size l) 0) 1 0 + distinct l
unfolding distinct insert of_size
distinct-insert s [] = refl
distinct-insert s (y ∷ l) = pick (before s y) (distinct-insert s l)
  where
    pick : (b : Bool) → distinct (insert s l) ≡ cond (eqb (of_size s.size l) 0) 1 0 + distinct l
        → distinct (cond b (s ∷ y ∷ l) (y ∷ insert s l))
        ≡ cond (eqb (cond (eqb s.size y.size) 1 0 + of_size s.size l) 0) 1 0 + (cond (eqb (of_size y.size l) 0) 1 0 + distinct l)
    pick true e = refl
    pick false e = rw (of_size-insert y.size s l) (omega (arith, e, swap 0 0 s.size y.size l))

pub distinct-sorted : (l : List FreeSection) → distinct (by_size_then_addr l) ≡ distinct l
unfolding distinct by_size_then_addr
distinct-sorted [] = refl
distinct-sorted (s ∷ l) = distinct-insert s (by_size_then_addr l) ∙ rw (of_size-sorted s.size l, distinct-sorted l)

-- ---- a group for each size
-- the sections of size z at the front of groups
unfoldable open_count : ℕ → List Group → ℕ
open_count z [] = 0
open_count z (g ∷ gs) = cond (eqb z g.size) (count g) 0

count-push : (z : ℕ) (x : FreeSection) (gs : List Group) → open_count z (push x gs) ≡ cond (eqb z x.size) (suc (open_count x.size gs)) 0
unfolding open_count push
count-push z x [] = refl
count-push z x (g ∷ gs) = pick (eqb x.size g.size) (eqb-true x.size g.size)
  where
    pick : (b : Bool) → (b ≡ true → x.size ≡ g.size)
        → open_count z (cond b (record { size = g.size; first = x.addr; more = g.first ∷ g.more } ∷ gs) (record { size = x.size; first = x.addr; more = [] } ∷ g ∷ gs))
        ≡ cond (eqb z x.size) (suc (cond b (count g) 0)) 0
    pick true e = rw (e refl)
    pick false e = refl

-- sizes at least z
abbrev From : ℕ → List FreeSection → Type 0
From z l = All (λ s. z ≤ s.size) l

from_sorted : (x : FreeSection) (l : List FreeSection) → Sorted (x ∷ l) → From x.size l
from_sorted x l h = all_map (λ s b. ⊎_elim (λ p. omega arith) (λ p. omega arith) b) l h.0

none-of-size : (z : ℕ) (l : List FreeSection) → From (suc z) l → of_size z l ≡ 0
unfolding of_size
none-of-size z [] h = refl
none-of-size z (x ∷ l) h = rw (ne_eqb z x.size (λ e. omega (arith, h.0)), none-of-size z l h.1)

-- in a sorted list the sections of the least size are all at the front
open_all : (z : ℕ) (l : List FreeSection) → Sorted l → From z l → open_count z (groups_of l) ≡ of_size z l
unfolding groups_of of_size open_count
open_all z [] h f = refl
open_all z (x ∷ l) h f = count-push z x (groups_of l) ∙ pick (eqb z x.size) (eqb-true z x.size) (eqb-false z x.size) (open_all x.size l h.1 (from_sorted x l h))
  where
    pick : (b : Bool) → (b ≡ true → z ≡ x.size) → (b ≡ false → z ≡ x.size → ⊥) → open_count x.size (groups_of l) ≡ of_size x.size l
        → cond b (suc (open_count x.size (groups_of l))) 0 ≡ cond b 1 0 + of_size z l
    pick true e n ih = ap suc ih ∙ ap (λ (m : ℕ). suc (of_size m l)) (sym (e refl)) ∙ omega arith
    pick false e n ih =
        let k : z ≢ x.size = n refl in
        let m : suc z ≤ x.size = omega (arith, f.0) in
        let q : of_size z l ≡ 0 = none-of-size z l (all_map (λ s b. le_trans m b) l (from_sorted x l h)) in
        omega arith

length_push : (x : FreeSection) (gs : List Group) → length (push x gs) ≡ cond (eqb (open_count x.size gs) 0) 1 0 + length gs
unfolding push open_count
length_push x [] = refl
length_push x (g ∷ gs) = pick (eqb x.size g.size)
  where
    pick : (b : Bool)
        → length (cond b (record { size = g.size; first = x.addr; more = g.first ∷ g.more } ∷ gs) (record { size = x.size; first = x.addr; more = [] } ∷ g ∷ gs))
        ≡ cond (eqb (cond b (count g) 0) 0) 1 0 + suc (length gs)
    pick true = rw (ne_eqb (count g) 0 (λ e. omega arith)) (omega arith)
    pick false = omega arith

groups_distinct : (l : List FreeSection) → Sorted l → length (groups_of l) ≡ distinct l
unfolding groups_of distinct
groups_distinct [] h = refl
groups_distinct (x ∷ l) h = length_push x (groups_of l) ∙ rw (open_all x.size l h.1 (from_sorted x l h), groups_distinct l h.1)

pub groups_of-sizes : (l : List FreeSection) → length (groups_of (by_size_then_addr l)) ≡ distinct l
groups_of-sizes l = groups_distinct (by_size_then_addr l) (sorted-sorted l) ∙ distinct-sorted l
