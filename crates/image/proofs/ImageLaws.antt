-- The returns of `read_slots` and `read_by`, and what an answer of the latter says. Assumes nothing.
use mathlib.Core.Path.{◌≡◌, refl, sym, ap, ap₂, ◌∙◌}
use mathlib.Core.Bool.{Bool, true, false, not}
use mathlib.Core.List.{List, [], ◌∷◌}
use Prim.Native.Nat.{ℕ, ◌%◌}
use native.Mathlib.Omega.{arith}
use borrow.Author.Tests.{eq-eqb, ne_eqb}
use lib.Dec.{eqb}
use lib.ListN.{length}
use Rattle.std.specs.Prelude.{Result, Ok, Err}
use Rattle.error.specs.Answers.{as_outcome}
use Rattle.error.specs.declared.Refusal.{Refusal}
use Rattle.error.specs.declared.Refusal.TheVariants.{NotAList}
use Rattle.error.specs.Refusals.{number_of, values_of}
use Rattle.error.specs.Outcome.{Outcome, answer, nothing, refuse, refused, Condition, when, first_of, and_then}
use Rattle.error.specs.Lent.{With, with, Left, left, leaving}
use Rattle.error.proofs.OutcomeLaws.{passes, refuses, first_passes, then_first}
use Rattle.fsm_sections.specs.declared.FreeSection.{FreeSection}
use Rattle.fsm_blocks.specs.declared.checks.Reading.{Reading}
use Rattle.fsm_blocks.specs.Reading.{read_slots, joined, into_run, persisted}
use Rattle.fsm_blocks.specs.Parts.{got, Accepted}
use Rattle.file_space_info.specs.declared.FileSpaceInfo.{FileSpaceInfo}
use Rattle.file_space_info.specs.Message.{fixed_read}
use Rattle.image.specs.declared.ImageRead.{ImageRead}
use Rattle.image.specs.Answers.{image_outcome, counts_in, refused_read}
use Rattle.image.specs.Reading.{message_at, addresses_in, read_image, counts_of, read_into, image_into}

-- ---- what an outcome leaves, with another answer in the place of its own

module _ {A B M : Type 0} (m : M) (m' : M) where
  leaves-refused : (o : Outcome (With A M)) (f : With A M → Outcome (With B M)) (r : Refusal) → refused r ≡ (leaving m o).outcome → m' ≡ (leaving m o).memory
      → left (refused r) m' ≡ leaving m (and_then o f)
  unfolding and_then
  leaves-refused (answer w) f r e s = let z : ◌≡◌ {A = ℕ} 0 1 = cc in absurd (omega arith)
  leaves-refused nothing f r e s = let z : ◌≡◌ {A = ℕ} 0 1 = cc in absurd (omega arith)
  leaves-refused (refuse n vs) f r e s =
      let p : number_of r ≡ n = cc in
      let q : values_of r ≡ vs = cc in
      ap₂ left (ap₂ refuse p q) s

  leaves-answer : (o : Outcome (With A M)) (a : A) (b : B) → answer a ≡ (leaving m o).outcome → m' ≡ (leaving m o).memory
      → left (answer b) m' ≡ leaving m (and_then o (λ w. answer (with b w.memory)))
  unfolding and_then
  leaves-answer (answer w) a b e s = ap (left (answer b)) s
  leaves-answer nothing a b e s = let z : ◌≡◌ {A = ℕ} 0 1 = cc in absurd (omega arith)
  leaves-answer (refuse n vs) a b e s = let z : ◌≡◌ {A = ℕ} 0 1 = cc in absurd (omega arith)

-- ---- `read_slots`

module _ (out : List ℕ) where
  abbrev odd : Condition
  odd = when (not (eqb (length out % 2) 0)) NotAList

  abbrev run : Outcome (List (List FreeSection)) → Outcome (With ℕ (List ℕ))
  run o = first_of (odd ∷ []) (and_then o (λ ls. into_run out (joined ls)))

  -- the counts are answered in the place of the sum
  counts_for_sum : (o : Outcome (List (List FreeSection))) → read_into out o ≡ and_then (run o) (λ w. answer (with (counts_of (got o)) w.memory))
  unfolding and_then
  counts_for_sum (answer ls) = sym (then_first (odd ∷ []) (into_run out (joined ls)) (λ w. answer (with (counts_of ls) w.memory)))
  counts_for_sum nothing = sym (then_first (odd ∷ []) nothing (λ (w : With ℕ (List ℕ)). answer (with (counts_of []) w.memory)))
  counts_for_sum (refuse n vs) = sym (then_first (odd ∷ []) (refuse n vs) (λ (w : With ℕ (List ℕ)). answer (with (counts_of []) w.memory)))

  -- where an answer is given, the slots were read
  passed : (t : Bool) (r : Refusal) (x : Outcome (With ℕ (List ℕ))) (n : ℕ) → answer n ≡ (leaving out (first_of (when t r ∷ []) x)).outcome → answer n ≡ (leaving out x).outcome
  unfolding first_of
  passed true r x n e = let z : ◌≡◌ {A = ℕ} 0 1 = cc in absurd (omega arith)
  passed false r x n e = e

  run_accepts : (o : Outcome (List (List FreeSection))) (n : ℕ) → answer n ≡ (leaving out (and_then o (λ ls. into_run out (joined ls)))).outcome → Accepted o
  unfolding and_then
  run_accepts (answer ls) n e = refl
  run_accepts nothing n e = let z : ◌≡◌ {A = ℕ} 0 1 = cc in absurd (omega arith)
  run_accepts (refuse k vs) n e = let z : ◌≡◌ {A = ℕ} 0 1 = cc in absurd (omega arith)

  module _ (how : Reading) (slots image : List ℕ) (a : (Result ℕ Refusal)) (out' : List ℕ) (e : left (as_outcome a) out' ≡ leaving out (persisted how slots 0 8 image out)) where
    abbrev each : Outcome (List (List FreeSection))
    each = read_slots how 8 0 slots image

    as_run : left (as_outcome a) out' ≡ leaving out (run each)
    unfolding persisted
    as_run = e ∙ ap (leaving out) (first_passes _ _ _ _ refl)

    outcome-is : as_outcome a ≡ (leaving out (run each)).outcome
    outcome-is = ap (λ (x : Left ℕ (List ℕ)). x.outcome) as_run

    memory-is : out' ≡ (leaving out (run each)).memory
    memory-is = ap (λ (x : Left ℕ (List ℕ)). x.memory) as_run

    pub slots-refused : (r : Refusal) → a ≡ Err r → left (refused r) out' ≡ leaving out (read_into out each)
    slots-refused r q = leaves-refused out out' (run each) _ r (sym (ap as_outcome q) ∙ outcome-is) memory-is ∙ sym (ap (leaving out) (counts_for_sum each))

    module _ (n : ℕ) (q : a ≡ Ok n) where
      answered : answer n ≡ (leaving out (run each)).outcome
      answered = sym (ap as_outcome q) ∙ outcome-is

      pub slots-accepted : Accepted (read_slots how 8 0 slots image)
      slots-accepted = run_accepts each n (passed _ NotAList _ n answered)

      pub slots_read : (counts : List ℕ) → counts ≡ counts_of (got each) → left (answer counts) out' ≡ leaving out (read_into out each)
      slots_read counts c =
          ap (λ (l : List ℕ). left (answer l) out') c
          ∙ leaves-answer out out' (run each) n (counts_of (got each)) answered memory-is
          ∙ sym (ap (leaving out) (counts_for_sum each))

-- ---- `read_by`

-- a refused reading, as the code makes it
pub refused_as : {M : Type 0} (m : M) (left' : Left (List ℕ) M) (x : Refusal) {r : ImageRead} → r ≡ refused_read x → left (refused x) m ≡ left'
    → (left (image_outcome r) m ≡ left') × (r.counts ≡ counts_in (image_outcome r))
refused_as m left' x {r} e h =
    (ap (λ (y : ImageRead). left (image_outcome y) m) e ∙ h, ap (λ (y : ImageRead). y.counts) e ∙ sym (ap (λ (y : ImageRead). counts_in (image_outcome y)) e))

module _ (how : Reading) (place : ℕ) (image out : List ℕ) where
  pub image_odd : (length out % 2 ≡ 0 → ⊥) → left (refused NotAList) out ≡ leaving out (image_into how place image out)
  unfolding image_into
  image_odd h = ap (leaving out) (refuses _ _ _ (ap not (ne_eqb (length out % 2) 0 h)))

  pub image-refused : length out % 2 ≡ 0 → (r : Refusal) → refused r ≡ fixed_read 8 8 (message_at place image) → left (refused r) out ≡ leaving out (image_into how place image out)
  unfolding image_into read_image and_then
  image-refused even r e =
      ap (leaving out)
      (passes _ _ (refused r) (ap not (eq-eqb (length out % 2) 0 even))
      ∙ ap (λ (o : Outcome FileSpaceInfo). read_into out (and_then o (λ m. read_slots how 8 0 (addresses_in (message_at place image) m) image))) e)

  pub image-is : (m : FileSpaceInfo) → answer m ≡ fixed_read 8 8 (message_at place image) → (slots : List ℕ) → slots ≡ addresses_in (message_at place image) m
      → leaving out (read_into out (read_slots how 8 0 slots image)) ≡ leaving out (image_into how place image out)
  unfolding image_into read_image and_then
  image-is m e slots s =
      ap (λ (l : List ℕ). leaving out (read_into out (read_slots how 8 0 l image))) s
      ∙ ap (λ (o : Outcome FileSpaceInfo). leaving out (read_into out (and_then o (λ m. read_slots how 8 0 (addresses_in (message_at place image) m) image)))) e
