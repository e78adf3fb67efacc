-- Numbers of sections and sums of sizes, run by run: what a region adds, and what the three runs come to. Assumes nothing.
use Rattle.std.proofs.Common.{◌≡◌, ℕ, ◌+◌, ◌*◌, ◌<◌, ◌≤◌, Bool, true, false, ◌||◌, ltb, ◌⊎◌, List, [], ◌∷◌, ◌++◌, length, sym, ap, ◌∙◌, inl, inr, ⊎_elim, arith, length-append, ltb-false, le-ltb, lt-ltb}
use Rattle.std.specs.Prelude.{Result, Ok, Err}
use Rattle.error.specs.Answers.{as_outcome}
use Rattle.error.specs.declared.Refusal.{Refusal}
use Rattle.error.specs.declared.Refusal.TheVariants.{Overflow}
use Rattle.error.specs.Outcome.{Outcome, answer, refused, when, sat}
use Rattle.error.proofs.TestLaws.{le-or-lt, or_false}
use Rattle.error.proofs.OutcomeLaws.{refuses, passes, first_answers, first_refuses}
use Rattle.fields.specs.Ranges.{top}
use Rattle.fsm_sections.specs.declared.FreeSection.{FreeSection}
use Rattle.fsm_sections.specs.declared.Part.{Part}
use Rattle.fsm_sections.specs.declared.Chain.{Chain}
use Rattle.fsm_sections.specs.declared.Source.{Source}
use Rattle.fsm_sections.specs.Sections.{decode, space, distinct}
use Rattle.fsm_sections.specs.Chains.{chain, sections_of}
use Rattle.fsm_sections.specs.Sources.{part_of, chains_in, chains_of, PartIs}
use Rattle.fsm_sections.proofs.SizesLaws.{length-chain, distinct-few}
use Rattle.fsm_sections.proofs.SpaceLaws.{space-append, space-chain}
use Rattle.fsm_sections.proofs.SourceLaws.{part_within, three}
use Rattle.fsm_sizes.specs.declared.totals.Sums.{Sums}
use Rattle.fsm_sizes.specs.Totals.{summed, totals_of}

-- ---- both up to 2^64 - 1, or one above

pub sum_over : (n z : ℕ) → top < z → refused Overflow ≡ summed n z
unfolding summed
sum_over n z h = refuses _ _ _ (rw (lt-ltb top z h))

pub number_over : (n z : ℕ) → top < n → refused Overflow ≡ summed n z
unfolding summed
number_over n z h = refuses _ _ _ (right (ltb top z) (ltb top n) (lt-ltb top n h))
  where
    right : (a b : Bool) → b ≡ true → (a || b) ≡ true
    right true b e = λ i. true
    right false b e = e

either_over : (n z : ℕ) → (top < z) ⊎ (top < n) → refused Overflow ≡ summed n z
either_over n z h = ⊎_elim (sum_over n z) (number_over n z) h

pub both_low : (n z m w : ℕ) → n ≡ m → z ≡ w → n ≤ top → z ≤ top → answer (record { count = n; space = z }) ≡ summed m w
unfolding summed
both_low n z m w e f h k =
    ap (λ (s : Sums). answer s) (λ i. record { count = e i; space = f i })
    ∙ passes _ _ _ (rw (le-ltb top w (omega arith), le-ltb top m (omega arith)))

module _ (c : (Result Sums Refusal)) (n z : ℕ) (e : as_outcome c ≡ summed n z) where
  pub summed-is : (t : Sums) → c ≡ Ok t → (t.count ≡ n) × (t.space ≡ z) × (n ≤ top) × (z ≤ top)
  unfolding summed
  summed-is t h =
      let q = first_answers (when (ltb top z || ltb top n) Overflow ∷ []) (record { count = n; space = z }) t (sym e ∙ ap as_outcome h) in
      let r = or_false (ltb top z) (ltb top n) q.0.0 in
      (sym (ap (λ (x : Sums). x.count) q.1), sym (ap (λ (x : Sums). x.space) q.1), ltb-false top n r.1, ltb-false top z r.0)

  pub summed-not : (r : Refusal) → c ≡ Err r → (top < z) ⊎ (top < n)
  summed-not r h = ⊎_elim (λ (p : z ≤ top). ⊎_elim (λ (q : n ≤ top). small p q) inr (le-or-lt n top)) inl (le-or-lt z top)
    where
      small : z ≤ top → n ≤ top → (top < z) ⊎ (top < n)
      small p q =
          let t : Sums = record { count = n; space = z } in
          let w : refused r ≡ answer t = ap as_outcome (sym h) ∙ e ∙ sym (both_low n z n z (λ i. n) (λ i. z) q p) in
          let y : ◌≡◌ {A = ℕ} 0 1 = cc in
          absurd (omega arith)

  -- the refusal is that of a sum or a number above top
  summed-err : (r : Refusal) → c ≡ Err r → ◌≡◌ {A = Outcome Sums} (refused r) (refused Overflow)
  summed-err r h = ap as_outcome (sym h) ∙ e ∙ sym (either_over n z (summed-not r h))

-- ---- a run's regions

module _ (q : Part) (page : ℕ) where
  -- the sections of regions
  abbrev pub sections : List FreeSection → List FreeSection
  sections l = sections_of (chains_in q page l)

  -- the first of them
  module _ (l : List FreeSection) (x : FreeSection) (m : List FreeSection) (e : l ≡ x ∷ m) (r : Chain) (p : PartIs q page x r) where
    abbrev c : Chain
    c = part_of q page x

    first : sections l ≡ chain c.addr c.size c.count ++ sections m
    unfolding sections_of
    first = ap sections e

    pub region-space : r.count * r.size ≤ x.size
    region-space = rw (p.part_size, p.as_many) (part_within q page x)

    pub space_step : space (sections l) ≡ r.count * r.size + space (sections m)
    space_step = ap space first ∙ space-append (chain c.addr c.size c.count) (sections m) ∙ rw (p.part_size, p.as_many, space-chain c.addr c.size c.count)

    pub count_step : length (sections l) ≡ r.count + length (sections m)
    count_step = ap length first ∙ length-append (chain c.addr c.size c.count) (sections m) ∙ rw (p.as_many, length-chain c.addr c.size c.count)

  pub space-end : (l : List FreeSection) → l ≡ [] → space (sections l) ≡ 0
  unfolding space sections_of
  space-end l e = ap (λ (m : List FreeSection). space (sections m)) e

  pub count-end : (l : List FreeSection) → l ≡ [] → length (sections l) ≡ 0
  unfolding sections_of
  count-end l e = ap (λ (m : List FreeSection). length (sections m)) e

-- ---- the three runs

module _ (s : Source) (a b c : List ℕ) where
  abbrev all : List FreeSection
  all = sections_of (chains_of s a b c)

  abbrev A : List FreeSection
  A = sections s.pa s.page (decode s.na a)

  abbrev B : List FreeSection
  B = sections s.pb s.page (decode s.nb b)

  abbrev C : List FreeSection
  C = sections s.pc s.page (decode s.nc c)

  lengths : length all ≡ length A + (length B + length C)
  lengths = three length length-append s a b c

  spaces : space all ≡ space A + (space B + space C)
  spaces = three space space-append s a b c

  module _ (x : (Result Sums Refusal)) (xe : as_outcome x ≡ summed (0 + length A) (0 + space A)) where
    pub first-over : (r : Refusal) → x ≡ Err r → refused r ≡ summed (length all) (space all)
    first-over r h =
        summed-err x _ _ xe r h ∙ either_over (length all) (space all)
        (⊎_elim (λ (p : top < 0 + space A). inl (omega (arith, spaces))) (λ (p : top < 0 + length A). inr (omega (arith, lengths))) (summed-not x _ _ xe r h))

    module _ (t : Sums) (te : x ≡ Ok t) (y : (Result Sums Refusal)) (ye : as_outcome y ≡ summed (t.count + length B) (t.space + space B)) where
      first-is : (t.count ≡ 0 + length A) × (t.space ≡ 0 + space A)
      first-is = let q = summed-is x _ _ xe t te in (q.0, q.1)

      pub second-over : (r : Refusal) → y ≡ Err r → refused r ≡ summed (length all) (space all)
      second-over r h =
          summed-err y _ _ ye r h ∙ either_over (length all) (space all)
          (⊎_elim (λ (p : top < t.space + space B). inl (omega (arith, spaces, first-is.1)))
          (λ (p : top < t.count + length B). inr (omega (arith, lengths, first-is.0))) (summed-not y _ _ ye r h))

      pub all_runs : (u : Sums) → y ≡ Ok u → summed (u.count + length C) (u.space + space C) ≡ summed (length all) (space all)
      all_runs u h =
          let q = summed-is y _ _ ye u h in
          let n : u.count + length C ≡ length all = omega (arith, lengths, first-is.0, q.0) in
          let z : u.space + space C ≡ space all = omega (arith, spaces, first-is.1, q.1) in
          λ i. summed (n i) (z i)

-- ---- with the number of sizes

pub sizes-fit : (l : List FreeSection) → length l ≤ top → sat (distinct l) ≡ distinct l
unfolding sat
sizes-fit l h = omega (arith, distinct-few l)

module _ (l : List FreeSection) (c : (Result Sums Refusal)) (e : as_outcome c ≡ summed (length l) (space l)) where
  pub totals_refused : (r : Refusal) → c ≡ Err r → refused r ≡ totals_of l
  unfolding summed totals_of
  totals_refused r h = first_refuses _ (record { count = length l; space = space l }) r _ (ap as_outcome (sym h) ∙ e)

  pub totals_are : (t : Sums) → c ≡ Ok t → (d : ℕ) → d ≡ sat (distinct l) → answer (record { count = t.count; sizes = d; space = t.space }) ≡ totals_of l
  unfolding totals_of
  totals_are t h d f =
      let q = summed-is c (length l) (space l) e t h in
      let g : d ≡ distinct l = f ∙ sizes-fit l q.2 in
      ap answer (λ i. record { count = q.0 i; sizes = g i; space = q.1 i })
      ∙ passes _ _ _ (rw (le-ltb top (space l) q.3, le-ltb top (length l) q.2))
