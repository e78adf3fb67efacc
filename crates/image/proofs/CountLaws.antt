-- How many sections each slot has: the cases of `sections_in`, the loop of `slot_counts`, and the counts of an accepted reading. Assumes nothing.
use mathlib.Core.Path.{◌≡◌, refl, sym, ap, ap₂, ◌∙◌, subst}
use mathlib.Core.List.{List, [], ◌∷◌, ◌++◌, map}
use Prim.Native.Nat.{ℕ, zero, suc, ◌+◌, ◌-◌, ◌≤◌, ◌<◌}
use native.Mathlib.Nat.{le_of_suc-le-suc, not-suc-le-zero}
use native.Mathlib.Omega.{arith}
use lib.ListN.{length, take, get_or, set, replicate, length-map}
use lib.Seq.{take_all}
use Rattle.std.specs.Prelude.{Result, Ok, Err}
use Rattle.std.specs.Result.{result_unwrap_or}
use Rattle.error.specs.Answers.{as_outcome}
use Rattle.error.specs.declared.Refusal.{Refusal}
use Rattle.error.specs.Outcome.{Outcome, answer, nothing, refuse, first_of, and_then}
use Rattle.error.specs.Lent.{over}
use Rattle.error.proofs.OverLaws.{over_zeros, front-next}
use Rattle.fsm_sections.specs.declared.FreeSection.{FreeSection}
use Rattle.fsm_blocks.specs.declared.checks.Reading.{Reading}
use Rattle.fsm_blocks.specs.declared.checks.Reading.TheVariants.{Loose}
use Rattle.fsm_blocks.specs.Reading.{read_manager, read_slots}
use Rattle.fsm_blocks.specs.Parts.{got, Accepted, counted}
use Rattle.fsm_blocks.specs.Named.{manager_count}
use Rattle.fsm_blocks.proofs.AlikeLaws.{accepted-alike}
use Rattle.fsm_blocks.proofs.ThenLaws.{sized_is, both_accepted}
use Rattle.image.specs.Reading.{sections_in, counts_of}

-- ---- one slot

none-counted : (o : Outcome (List FreeSection)) (n : ℕ) (vs : List ℕ) → counted o ≡ refuse n vs → 0 ≡ length (got o)
unfolding and_then
none-counted (answer l) n vs e = let z : ◌≡◌ {A = ℕ} 0 1 = cc in absurd (omega arith)
none-counted nothing n vs e = refl
none-counted (refuse m ws) n vs e = refl

pub counted_or : (image : List ℕ) (slot : ℕ) (r : Result ℕ Refusal) → as_outcome r ≡ manager_count Loose 8 0 slot image → result_unwrap_or r 0 ≡ sections_in image slot
unfolding manager_count first_of
counted_or image slot (Ok n) e = sym (sized_is (read_manager Loose 8 0 slot image) length n (sym e)).1
counted_or image slot (Err x) e = none-counted (read_manager Loose 8 0 slot image) _ _ (sym e)

-- ---- the slots in order

pub record Counting (image slots counts : List ℕ) (i : ℕ) : Type 0 where
  pub within : i ≤ length slots
  pub same : counts ≡ over 0 (take i (map (sections_in image) slots)) (replicate 12 0)

module _ (image slots : List ℕ) where
  pub counts_start : Counting image slots (replicate 12 0) 0
  counts_start = record { within = omega arith; same = refl }

  get_or-counts : (slots : List ℕ) (i : ℕ) → i < length slots → get_or (map (sections_in image) slots) i 0 ≡ sections_in image (get_or slots i 0)
  get_or-counts [] i h = absurd (not-suc-le-zero h)
  get_or-counts (a ∷ slots) zero h = refl
  get_or-counts (a ∷ slots) (suc i) h = get_or-counts slots i (le_of_suc-le-suc h)

  module _ (counts : List ℕ) (i : ℕ) (now : Counting image slots counts i) where
    pub counts_step : i < length slots → (n : ℕ) → n ≡ sections_in image (get_or slots i 0) → Counting image slots (set counts i n) (i + 1)
    counts_step h n e =
        let s : List ℕ = map (sections_in image) slots in
        let l : i < length s = rw length-map h in
        record {
          within = omega arith;
          same = ap₂ (λ (c : List ℕ) (k : ℕ). set c i k) now.same (e ∙ sym (get_or-counts slots i h)) ∙ front-next i s (replicate 12 0) l;
        }

    pub counts_end : length slots ≤ i → counts ≡ over 0 (map (sections_in image) slots) (replicate 12 0)
    counts_end h = now.same ∙ ap (λ (s : List ℕ). over 0 s (replicate 12 0)) (take_all i (map (sections_in image) slots) (rw length-map h))

-- ---- the counts of an accepted reading

module _ (image : List ℕ) where
  slot_lengths : (slots : List ℕ) → Accepted (read_slots Loose 8 0 slots image) → map (sections_in image) slots ≡ map length (got (read_slots Loose 8 0 slots image))
  unfolding read_slots
  slot_lengths [] a = refl
  slot_lengths (s ∷ slots) a =
      let p = both_accepted (read_manager Loose 8 0 s image) (read_slots Loose 8 0 slots image) a in
      ap (λ (l : List ℕ). sections_in image s ∷ l) (slot_lengths slots p.0.1) ∙ sym (ap (map length) p.1)

  -- what a reading accepts is read loosely alike, so that its slots are counted without its checks
  pub counts_are : (how : Reading) (slots counts : List ℕ) → length slots ≤ 12 → Accepted (read_slots how 8 0 slots image)
      → counts ≡ over 0 (map (sections_in image) slots) (replicate 12 0) → counts ≡ counts_of (got (read_slots how 8 0 slots image))
  counts_are how slots counts few a e =
      let loosely = accepted-alike how 8 0 image slots a in
      let ls : List (List FreeSection) = got (read_slots how 8 0 slots image) in
      let q : map (sections_in image) slots ≡ map length ls =
      slot_lengths slots (subst Accepted (sym loosely) a) ∙ ap (λ (o : Outcome (List (List FreeSection))). map length (got o)) loosely in
      let n : length (map length ls) ≡ length ls = length-map ls length in
      let m : length (map (sections_in image) slots) ≡ length slots = length-map slots (sections_in image) in
      let k : length (map length ls) ≤ 12 = omega (arith, ap length q) in
      e
      ∙ ap (λ (s : List ℕ). over 0 s (replicate 12 0)) q
      ∙ over_zeros (map length ls) 12 k
      ∙ ap (λ (j : ℕ). map length ls ++ replicate (12 - j) 0) n
