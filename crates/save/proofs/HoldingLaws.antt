-- How many sections hold a byte: of what is read, of the plan, and of the lists. Assumes nothing.
use mathlib.Core.Path.{◌≡◌, refl}
use mathlib.Core.Logic.{inl, inr, ⊎_elim, ◌↔◌}
use Prim.Native.Nat.{ℕ, suc, ◌+◌, ◌≤◌, ◌<◌}
use native.Mathlib.Omega.{arith}
use mathlib.Core.Bool.{Bool, true, false, cond, ◌||◌}
use mathlib.Core.List.{List, [], ◌∷◌, ◌++◌, map}
use Rattle.error.proofs.TestLaws.{le-or-lt, true_not_false}
use Rattle.free_regions.specs.declared.FreeRegion.{FreeRegion}
use Rattle.free_regions.specs.Regions.{end as end_of, Free, share_bytes}
use Rattle.free_regions.proofs.OkLaws.{Within}
use Rattle.free_regions.proofs.SetLaws.{free-between}
use Rattle.free_regions.proofs.ShareLaws.{lists_byte}
use Rattle.fsm_sections.specs.declared.FreeSection.{FreeSection}
use Rattle.fsm_sections.specs.Sections.{section}
use Rattle.fsm_sections.specs.Pages.{among, holding}
use Rattle.fsm_sections.proofs.PagesLaws.{among_in, among-low, among-high}
use Rattle.image.specs.Reading.{Listed, in_slot}

-- ---- the slots do not matter

abbrev pub found_in : List Listed → List FreeSection
found_in l = map (λ x. x.found) l

pub holding-nothing : (b : ℕ) → holding b [] ≡ 0
unfolding holding
holding-nothing b = refl

pub holding-slot : (b i : ℕ) (l : List FreeSection) (r : List Listed) → holding b (found_in (in_slot i l ++ r)) ≡ holding b l + holding b (found_in r)
unfolding holding
holding-slot b i [] r = omega arith
holding-slot b i (s ∷ l) r = omega (arith, holding-slot b i l r)

-- ---- a list holds a byte once if it is free, else not at all

abbrev sections : List FreeRegion → List FreeSection
sections rs = map (λ r. section r.addr r.len) rs

holding-none : (b : ℕ) (rs : List FreeRegion) → (Free rs b → ⊥) → holding b (sections rs) ≡ 0
unfolding holding
holding-none b [] n = refl
holding-none b (r ∷ rs) n =
    let out : among r.addr (end_of r) b ≡ 0 = ⊎_elim
    (λ (h : r.addr ≤ b). ⊎_elim (λ (k : end_of r ≤ b). among-high r.addr (end_of r) b k) (λ (k : b < end_of r). absurd (n (inl (h, k)))) (le-or-lt (end_of r) b))
    (λ (h : b < r.addr). among-low r.addr (end_of r) b h) (le-or-lt r.addr b) in
    omega (arith, holding-none b rs (λ f. n (inr f)))

holding-one : (low high b : ℕ) (rs : List FreeRegion) → Within low high rs → Free rs b → holding b (sections rs) ≡ 1
unfolding holding
holding-one low high b [] w f = absurd f
holding-one low high b (r ∷ rs) w (inl t) =
    omega (arith, among_in r.addr (end_of r) b t.0 t.1, holding-none b rs (λ g. let q = free-between (suc (end_of r)) high b rs w.3 g in omega arith))
holding-one low high b (r ∷ rs) w (inr t) =
    let q = free-between (suc (end_of r)) high b rs w.3 t in
    omega (arith, among-high r.addr (end_of r) b (omega arith), holding-one (suc (end_of r)) high b rs w.3 t)

pub holding-list : (low high b : ℕ) (rs : List FreeRegion) (t : Bool) → Within low high rs → Free rs b ↔ (t ≡ true) → holding b (sections rs) ≡ cond t 1 0
holding-list low high b rs true w e = holding-one low high b rs w (e.1 refl)
holding-list low high b rs false w e = holding-none b rs (λ f. true_not_false false (e.0 f) refl)

-- ---- lists that share no byte

pub in_both : (rs ss : List FreeRegion) (b : ℕ) → share_bytes rs ss ≡ false → Free rs b → Free ss b → ⊥
in_both rs ss b e f g = true_not_false (share_bytes rs ss) ((lists_byte rs ss).1 (b, f, g)) e

-- at most one of three
pub one_of : (x y z : Bool) → (x ≡ true → y ≡ true → ⊥) → (x ≡ true → z ≡ true → ⊥) → (y ≡ true → z ≡ true → ⊥)
    → ◌≡◌ {A = ℕ} (cond x 1 0 + (cond y 1 0 + cond z 1 0)) (cond (x || (y || z)) 1 0)
one_of true true z p q r = absurd (p refl refl)
one_of true false true p q r = absurd (q refl refl)
one_of true false false p q r = refl
one_of false true true p q r = absurd (r refl refl)
one_of false true false p q r = refl
one_of false false true p q r = refl
one_of false false false p q r = refl
