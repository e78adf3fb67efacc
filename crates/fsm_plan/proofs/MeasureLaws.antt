-- The measure of sections: by the branches of the code, and of sections that differ in order only. Assumes nothing.
use mathlib.Core.Path.{◌≡◌, refl, sym, ap, ◌∙◌}
use mathlib.Core.Logic.{◌⊎◌, inl, inr, ⊎_elim}
use Prim.Native.Nat.{ℕ, ◌+◌, ◌≤◌, ◌<◌}
use native.Mathlib.Omega.{arith}
use mathlib.Core.Bool.{Bool, true, false, cond, ◌||◌}
use mathlib.Core.List.{List}
use lib.Dec.{ltb, eqb}
use lib.ListN.{length}
use borrow.Author.Tests.{lt-ltb, le-ltb, ltb-false, eq-eqb, ne_eqb}
use Rattle.std.specs.Prelude.{Option, None, Some, SomeIff, Result, Ok, Err, ◌^◌}
use Rattle.std.specs.Option.{ok_or}
use Rattle.error.specs.Answers.{as_outcome}
use Rattle.error.specs.declared.Refusal.{Refusal}
use Rattle.error.specs.declared.Refusal.TheVariants.{Overflow}
use Rattle.error.specs.Outcome.{Outcome, answer, refused, first_of}
use Rattle.error.proofs.TestLaws.{le-or-lt, or_false}
use Rattle.error.proofs.OutcomeLaws.{NoneHolds, first-none, first_holds, first_passes, first_answers, first_refuses}
use Rattle.fields.specs.Ranges.{top}
use Rattle.fsm_sections.specs.declared.FreeSection.{FreeSection}
use Rattle.fsm_sections.specs.Sections.{by_size_then_addr, space, distinct}
use Rattle.fsm_sections.specs.Passes.{storable}
use Rattle.fsm_sections.proofs.SectionsLaws.{length-sorted}
use Rattle.fsm_sections.proofs.SizesLaws.{distinct-sorted}
use Rattle.fsm_sections.proofs.StoredLaws.{refused_alike, too_great, great_enough, stored_is, stored-not, stored_refusal}
use Rattle.fsm_sections.proofs.SpaceLaws.{space-sorted}
use Rattle.fsm_sizes.specs.declared.totals.Totals.{Totals}
use Rattle.fsm_sizes.specs.Totals.{totals_of}
use Rattle.fsm_blocks.specs.Fshd.{fshd_size}
use Rattle.fsm_blocks.specs.Settings.{starting_set, used_by, blocks_size}
use Rattle.fsm_blocks.proofs.LengthLaws.{size-length}
use Rattle.fsm_plan.specs.declared.measure.Measure.{Measure}
use Rattle.fsm_plan.specs.Blocks.{size_tests, measure_of, measured}

-- ---- the length of both blocks

module _ (O n d : ℕ) where
  abbrev len : ℕ
  len = cond (eqb n 0) 0 (fshd_size O + used_by O (starting_set O) n d)

  pub none_len : n ≡ 0 → answer 0 ≡ storable len
  none_len e = great_enough 0 len (sym (rw (eq-eqb n 0 e))) (omega arith)

  module _ (some : n ≡ 0 → ⊥) (c : (Result ℕ Refusal)) (e : as_outcome c ≡ storable (used_by O (starting_set O) n d)) where
    some_len : len ≡ fshd_size O + used_by O (starting_set O) n d
    some_len = rw (ne_eqb n 0 some)

    pub used_over : (r : Refusal) → c ≡ Err r → refused r ≡ storable len
    used_over r h = stored_refusal c _ e r h ∙ too_great len (omega (arith, some_len, stored-not c _ e r h))

    module _ (used : ℕ) (h : c ≡ Ok used) where
      blocks_over : top < 74 + O + used → refused Overflow ≡ storable len
      blocks_over k = too_great len (omega (arith, some_len, (stored_is c _ e used h).0))

      blocks_are : 74 + O + used ≤ top → answer (74 + O + used) ≡ storable len
      blocks_are k = great_enough (74 + O + used) len (omega (arith, some_len, (stored_is c _ e used h).0)) k

      -- the sum as std adds it
      pub blocks_by : (k : ℕ) → k ≡ O → (o : Option ℕ) → SomeIff o (74 + k + used < 2 ^ 64) (74 + k + used) → (r : Result ℕ Refusal) → r ≡ ok_or o Overflow → as_outcome r ≡ storable len
      blocks_by k ke None h r e = ap as_outcome e ∙ blocks_over not_less
        where
          not_less : top < 74 + O + used
          not_less = ⊎_elim (λ (l : 74 + O + used ≤ top). absurd (h (omega arith))) (λ (l : top < 74 + O + used). l) (le-or-lt (74 + O + used) top)
      blocks_by k ke (Some x) h r e = let q : x ≡ 74 + O + used = omega (arith, h.1) in ap as_outcome e ∙ ap answer q ∙ blocks_are (omega (arith, h.0))

-- ---- the totals

or-right : (a b : Bool) → b ≡ true → (a || b) ≡ true
or-right true b e = refl
or-right false b e = e

module _ (l : List FreeSection) (c : (Result Totals Refusal)) (e : as_outcome c ≡ totals_of l) where
  totals_low : space l ≤ top → length l ≤ top → answer (record { count = length l; sizes = distinct l; space = space l }) ≡ totals_of l
  unfolding totals_of
  totals_low h k = sym (first_passes _ Overflow _ _ (rw (le-ltb top (space l) h, le-ltb top (length l) k)) ∙ first-none _)

  totals_not : (r : Refusal) → c ≡ Err r → (top < space l) ⊎ (top < length l)
  totals_not r h = ⊎_elim (λ (p : space l ≤ top). ⊎_elim (λ (q : length l ≤ top). small p q) inr (le-or-lt (length l) top)) inl (le-or-lt (space l) top)
    where
      small : space l ≤ top → length l ≤ top → (top < space l) ⊎ (top < length l)
      small p q =
          let t : Totals = record { count = length l; sizes = distinct l; space = space l } in
          let w : refused r ≡ answer t = ap as_outcome (sym h) ∙ e ∙ sym (totals_low p q) in
          let y : ◌≡◌ {A = ℕ} 0 1 = cc in
          absurd (omega arith)

  totals-refusal : (r : Refusal) → c ≡ Err r → ◌≡◌ {A = Outcome Totals} (refused r) (refused Overflow)
  unfolding totals_of
  totals-refusal r h = ap as_outcome (sym h) ∙ e ∙ first_holds _ Overflow _ _ (⊎_elim left right (totals_not r h))
    where
      left : top < space l → (ltb top (space l) || ltb top (length l)) ≡ true
      left p = rw (lt-ltb top (space l) p)

      right : top < length l → (ltb top (space l) || ltb top (length l)) ≡ true
      right p = or-right (ltb top (space l)) _ (lt-ltb top (length l) p)

  totals_are : (t : Totals) → c ≡ Ok t → (t ≡ record { count = length l; sizes = distinct l; space = space l }) × (space l ≤ top)
  unfolding totals_of
  totals_are t h =
      let q = first_answers _ (record { count = length l; sizes = distinct l; space = space l }) t (sym e ∙ ap as_outcome h) in
      (sym q.1, ltb-false top (space l) (or_false (ltb top (space l)) (ltb top (length l)) q.0.0).0)

  -- ---- the measure, by the branches of the code

  module _ (O : ℕ) where
    sum_over : top < space l → refused Overflow ≡ measured O l
    unfolding measured
    sum_over h = sym (first_holds _ Overflow _ _ (lt-ltb top (space l) h))

    size-over : top < blocks_size O l → refused Overflow ≡ measured O l
    unfolding measured
    size-over k =
        ⊎_elim (λ (h : space l ≤ top). sym (first_passes _ Overflow _ _ (le-ltb top (space l) h) ∙ first_holds _ Overflow _ _ (lt-ltb top (blocks_size O l) k)))
        sum_over (le-or-lt (space l) top)

    pub measure_over : (r : Refusal) → c ≡ Err r → refused r ≡ measured O l
    measure_over r h = refused_alike r Overflow (totals-refusal r h) ∙ ⊎_elim sum_over (λ (k : top < length l). size-over (omega (arith, size-length O l))) (totals_not r h)

    module _ (t : Totals) (h : c ≡ Ok t) (d : (Result ℕ Refusal))
        (f : as_outcome d ≡ storable (cond (eqb t.count 0) 0 (fshd_size O + used_by O (starting_set O) t.count t.sizes))) where
      len_is : cond (eqb t.count 0) 0 (fshd_size O + used_by O (starting_set O) t.count t.sizes) ≡ blocks_size O l
      len_is = ap (λ (x : Totals). cond (eqb x.count 0) 0 (fshd_size O + used_by O (starting_set O) x.count x.sizes)) (totals_are t h).0

      pub length_over : (r : Refusal) → d ≡ Err r → refused r ≡ measured O l
      length_over r g = stored_refusal d _ f r g ∙ size-over (omega (arith, len_is, stored-not d _ f r g))

      pub measure_is : (n : ℕ) → d ≡ Ok n → answer (record { space = t.space; count = t.count; len = n }) ≡ measured O l
      unfolding measured
      measure_is n g =
          let q = totals_are t h in
          let k = stored_is d _ f n g in
          let m : record { space = t.space; count = t.count; len = n } ≡ measure_of O l =
          λ i. record { space = (q.0 i).space; count = (q.0 i).count; len = (k.0 ∙ len_is) i } in
          ap answer m
          ∙ sym (first_passes _ Overflow _ _ (le-ltb top (space l) q.1) ∙ first_passes _ Overflow _ _ (le-ltb top (blocks_size O l) (omega (arith, len_is, k.1))) ∙ first-none _)

-- ---- what the measure says

module _ (O : ℕ) (l : List FreeSection) (c : (Result Measure Refusal)) (e : as_outcome c ≡ measured O l) where
  pub measure_refused : (r : Refusal) → c ≡ Err r → {A : Type 0} (y : Outcome A) → refused r ≡ first_of (size_tests O l) y
  unfolding measured
  measure_refused r h y = first_refuses (size_tests O l) (measure_of O l) r y (ap as_outcome (sym h) ∙ e)

  pub measure_known : (m : Measure) → c ≡ Ok m → NoneHolds (size_tests O l) × (m ≡ measure_of O l)
  unfolding measured
  measure_known m h = let q = first_answers (size_tests O l) (measure_of O l) m (sym e ∙ ap as_outcome h) in (q.0, sym q.1)

-- ---- sections in another order have the same measure

pub measured-same : (O : ℕ) (l m : List FreeSection) → by_size_then_addr l ≡ by_size_then_addr m → measured O m ≡ measured O l
unfolding measured
measured-same O l m e = sym (rw (by space space-sorted, by length length-sorted, by distinct distinct-sorted))
  where
    by : (F : List FreeSection → ℕ) → ((k : List FreeSection) → F (by_size_then_addr k) ≡ F k) → F l ≡ F m
    by F h = sym (h l) ∙ ap F e ∙ h m
