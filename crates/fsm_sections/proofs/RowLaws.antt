-- Regions of one size in a row, and what a step by rows takes. Assumes nothing.
use Rattle.std.proofs.Common.{◌≡◌, ℕ, zero, suc, ◌+◌, ◌-◌, ◌*◌, ◌<◌, ◌≤◌, Bool, true, false, cond, eqb, List, [], ◌∷◌, length, get_or, take, drop, ap, ◌∙◌, arith, length-drop}
use Rattle.std.proofs.lemmas.List.{take_rest}
use Rattle.fsm_sections.specs.declared.FreeSection.{FreeSection}
use Rattle.fsm_sections.specs.declared.Chain.{Chain}
use Rattle.fsm_sections.specs.declared.Part.{Part}
use Rattle.fsm_sections.specs.declared.Part.TheVariants.{Whole}
use Rattle.fsm_sections.specs.Sections.{of_size}
use Rattle.fsm_sections.specs.Chains.{sections_in, sections_of}
use Rattle.fsm_sections.specs.Sources.{part_of, chains_in, PartIs}
use Rattle.fsm_sections.specs.RunSteps.{regions_of, Alike}
use Rattle.fsm_sections.proofs.SizesLaws.{of_size-append, of_size-chain}
use Rattle.fsm_sections.proofs.SlotLaws.{whole_are}
use Rattle.fsm_sections.proofs.RunStepLaws.{regions-length}

-- ---- regions of one size at the front of a run

shorter : (n : ℕ) (run : List ℕ) → 2 * n ≤ length run → regions_of (take (length run - 2 * n) (drop (2 * n) run)) ≡ regions_of (drop (2 * n) run)
shorter n run h = ap regions_of (take_rest run (2 * n))

module _ (z x : ℕ) where
  alike-sizes : (n : ℕ) (run : List ℕ) → 2 * n ≤ length run → Alike z n run
      → of_size x (regions_of run) ≡ cond (eqb x z) n 0 + of_size x (regions_of (drop (2 * n) run))
  unfolding of_size regions_of
  alike-sizes zero run l a = none (eqb x z) (of_size x (regions_of run))
    where
      none : (b : Bool) (m : ℕ) → m ≡ cond b 0 0 + m
      none true m = omega arith
      none false m = omega arith
  alike-sizes (suc n) [] l a = absurd (omega arith)
  alike-sizes (suc n) (a ∷ []) l f = absurd (omega arith)
  alike-sizes (suc n) (a ∷ s ∷ run) l f =
      let e : 2 * suc n ≡ suc (suc (2 * n)) = omega arith in
      let z-is : s ≡ z = f 0 (omega arith) in
      rw e (one_more (eqb x s) (eqb x z) (ap (eqb x) z-is) _ _ (alike-sizes n run (omega arith) (λ k h. later k h)))
    where
      later : (k : ℕ) → k < n → get_or run (2 * k + 1) 0 ≡ z
      later k h = ap (λ (u : ℕ). get_or (a ∷ s ∷ run) u 0) (the-place k) ∙ f (k + 1) (omega arith)
        where
          the-place : (k : ℕ) → suc (suc (2 * k + 1)) ≡ 2 * (k + 1) + 1
          the-place k = omega arith

      one_more : (b c : Bool) → b ≡ c → (m k : ℕ) → m ≡ cond c n 0 + k → cond b 1 0 + m ≡ cond c (suc n) 0 + k
      one_more b true f m k h = rw f (omega arith)
      one_more b false f m k h = rw f (omega arith)

-- ---- a step by rows

pub rows-none : (q : Part) (page : ℕ) (l : List FreeSection) → l ≡ [] → sections_of (chains_in q page l) ≡ []
unfolding sections_of
rows-none q page l e = ap (λ (k : List FreeSection). sections_of (chains_in q page k)) e

module _ (l : List FreeSection) (y : FreeSection) (m : List FreeSection) (e : l ≡ y ∷ m) (q : Part) (page : ℕ) where
  pub row_part : (c : Chain) → PartIs q page y c
      → (x : ℕ) → of_size x (sections_of (chains_in q page l)) ≡ cond (eqb x c.size) c.count 0 + of_size x (sections_of (chains_in q page m))
  unfolding sections_of
  row_part c p x =
      let r = part_of q page y in
      ap (λ (k : List FreeSection). of_size x (sections_of (chains_in q page k))) e
      ∙ of_size-append x (sections_in r) (sections_of (chains_in q page m))
      ∙ rw (p.part_size, p.as_many, of_size-chain x r.addr r.size r.count)

  module _ (n : ℕ) (run : List ℕ) (room : 2 * n ≤ length run) (a : Alike y.size n run) (me : m ≡ regions_of run) where
    abbrev left : List FreeSection
    left = regions_of (take (length run - 2 * n) (drop (2 * n) run))

    pub row-whole : q ≡ Whole → (x : ℕ) → of_size x (sections_of (chains_in q page l)) ≡ cond (eqb x y.size) (1 + n) 0 + of_size x (sections_of (chains_in q page left))
    unfolding of_size
    row-whole f x =
        rw (f, whole_are page l, whole_are page left, e, me, shorter n run room)
        (one_more (eqb x y.size) _ _ (alike-sizes y.size x n run room a))
      where
        one_more : (c : Bool) (m k : ℕ) → m ≡ cond c n 0 + k → cond c 1 0 + m ≡ cond c (1 + n) 0 + k
        one_more true m k h = omega arith
        one_more false m k h = omega arith

    pub row-less : length left < length l
    row-less = rw (shorter n run room) (omega (arith, ap length e, ap length me, regions-length run, regions-length (drop (2 * n) run), length-drop (2 * n) run))
