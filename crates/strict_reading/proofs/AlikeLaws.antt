-- A strict answer is the loose one: of the two entries and their lent runs, and as the code answers. Assumes nothing.
use mathlib.Core.Path.{◌≡◌, refl, sym, ap, ◌∙◌}
use mathlib.Core.List.{List}
use Prim.Native.Nat.{ℕ}
use native.Mathlib.Omega.{arith}
use Rattle.error.specs.Outcome.{Outcome, answer, nothing, refuse, Condition, first_of, and_then}
use Rattle.error.specs.Lent.{With, with, Left, left, leaving}
use Rattle.error.proofs.OutcomeLaws.{first_pass, first_shows, then_answers}
use Rattle.fsm_sections.specs.declared.FreeSection.{FreeSection}
use Rattle.fsm_blocks.specs.declared.checks.Reading.TheVariants.{Loose, Strict}
use Rattle.fsm_blocks.specs.Reading.{read_slots, persisted}
use Rattle.fsm_blocks.proofs.AlikeLaws.{slots-alike}
use Rattle.file_space_info.specs.declared.FileSpaceInfo.{FileSpaceInfo}
use Rattle.file_space_info.specs.Message.{fixed_read}
use Rattle.image.specs.Reading.{message_at, addresses_in, read_image, image_into}
use Rattle.strict_reading.specs.StrictReading.{Alike}

-- ---- what follows on an outcome, and conditions before it

then_alike : {A B : Type 0} (x y : Outcome A) (f : A → Outcome B) (b : B) → ((a : A) → x ≡ answer a → y ≡ answer a) → and_then x f ≡ answer b → and_then y f ≡ answer b
unfolding and_then
then_alike x y f b h e =
    let q = then_answers x f b e in
    ap (λ (o : Outcome _). and_then o f) (h q.0 q.1) ∙ q.2

first_alike : {A : Type 0} (cs : List Condition) (x y : Outcome A) (a : A) → (x ≡ answer a → y ≡ answer a) → first_of cs x ≡ answer a → first_of cs y ≡ answer a
first_alike cs x y a h e = let q = first_shows cs x a e in first_pass cs y q.0 ∙ h q.1

-- ---- the two entries

pub persisted-alike : (slots : List ℕ) (base O : ℕ) (bytes out : List ℕ) (w : With ℕ (List ℕ)) → persisted Strict slots base O bytes out ≡ answer w
    → persisted Loose slots base O bytes out ≡ answer w
unfolding persisted
persisted-alike slots base O bytes out w =
    first_alike _ _ _ w (then_alike (read_slots Strict O base slots bytes) (read_slots Loose O base slots bytes) _ w (slots-alike Strict O base bytes slots))

read_alike : (place : ℕ) (image : List ℕ) (ls : List (List FreeSection)) → read_image Strict place image ≡ answer ls → read_image Loose place image ≡ answer ls
unfolding read_image and_then
read_alike place image ls e =
    let m = fixed_read 8 8 (message_at place image) in
    let q = then_answers m (λ i. read_slots Strict 8 0 (addresses_in (message_at place image) i) image) ls e in
    ap (λ (o : Outcome FileSpaceInfo). and_then o (λ i. read_slots Loose 8 0 (addresses_in (message_at place image) i) image)) q.1
    ∙ slots-alike Strict 8 0 image (addresses_in (message_at place image) q.0) ls q.2

pub image-alike : (place : ℕ) (image out : List ℕ) (w : With (List ℕ) (List ℕ)) → image_into Strict place image out ≡ answer w → image_into Loose place image out ≡ answer w
unfolding image_into
image-alike place image out w = first_alike _ _ _ w (then_alike (read_image Strict place image) (read_image Loose place image) _ w (read_alike place image))

-- ---- as the code answers

module _ {A : Type 0} (strict loose : List ℕ → Outcome (With A (List ℕ))) (h : (out : List ℕ) (w : With A (List ℕ)) → strict out ≡ answer w → loose out ≡ answer w) where
  -- an answer was answered
  answered : (o : Outcome (With A (List ℕ))) (out : List ℕ) (a : A) → answer a ≡ (leaving out o).outcome → (m : List ℕ) × (o ≡ answer (with a m)) × ((leaving out o).memory ≡ m)
  answered (answer w) out a e = let k : w.value ≡ a = cc in (w.memory, ap (λ (v : A). answer (with v w.memory)) k, refl)
  answered nothing out a e = let z : ◌≡◌ {A = ℕ} 0 1 = cc in absurd (omega arith)
  answered (refuse n vs) out a e = let z : ◌≡◌ {A = ℕ} 0 1 = cc in absurd (omega arith)

  pub alike : (x y : Outcome A) (first first' second second' : List ℕ) → left x first' ≡ leaving first (strict first) → left y second' ≡ leaving second (loose second)
      → Alike x first first' y second second'
  alike x y first first' second second' e f a xe same =
      let q = answered (strict first) first a (sym xe ∙ ap (λ (s : Left A (List ℕ)). s.outcome) e) in
      let l : loose second ≡ answer (with a q.0) = ap loose (sym same) ∙ h first (with a q.0) q.1 in
      let g : left y second' ≡ left (answer a) q.0 = f ∙ ap (leaving second) l in (
        ap (λ (s : Left A (List ℕ)). s.outcome) g,
        ap (λ (s : Left A (List ℕ)). s.memory) g ∙ sym (ap (λ (s : Left A (List ℕ)). s.memory) e ∙ q.2),
      )
