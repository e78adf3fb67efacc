-- No text is longer than the limit, so that a buffer of that size holds any. Assumes nothing.
use mathlib.Core.Path.{◌≡◌, refl, sym, ap, ◌∙◌}
use mathlib.Core.Bool.{Bool, true, false}
use mathlib.Core.List.{List, [], ◌∷◌}
use Prim.Native.Nat.{ℕ, suc, ◌+◌, ◌*◌, ◌≤◌, ◌<◌, min}
use native.Mathlib.Omega.{arith}
use borrow.Author.Tests.{lt-ltb, le-ltb}
use lib.Dec.{ltb}
use lib.ListN.{length, take, drop, length-append}
use lib.Seq.{take_at}
use Rattle.std.specs.Prelude.{Result, Ok, Err, is_ok}
use Rattle.error.specs.Answers.{as_outcome}
use Rattle.error.specs.declared.Refusal.{Refusal}
use Rattle.error.specs.declared.Refusal.TheVariants.{OverCapacity}
use Rattle.error.specs.Outcome.{Outcome, answer, nothing, refuse, refused}
use Rattle.error.specs.Lent.{With, with, Left, left, leaving, over}
use Rattle.error.proofs.OutcomeLaws.{refuses, passes}
use Rattle.fsm_sections.specs.declared.FreeSection.{FreeSection}
use Rattle.fsm_blocks.specs.Reading.{read_manager, read_slots, joined}
use Rattle.fsm_blocks.proofs.ThenLaws.{Holds, holds-when, holds_then}
use Rattle.file_space_info.specs.Message.{fixed_len, fixed_read, present}
use Rattle.file_space_info.proofs.ReadLaws.{length-numbers}
use Rattle.fsm_blocks.specs.declared.checks.Reading.TheVariants.{Loose}
use Rattle.image.specs.Reading.{message_at, addresses_in, read_image}
use Rattle.image.proofs.PlaceLaws.{message_few}
use Rattle.text.specs.Text.{written}
use Rattle.holes_text.specs.Listing.{header, slot_text, slots_text, listing_text}
use Rattle.holes_text.proofs.LineLaws.{slot-at_most, refused-at_most}
use Rattle.holes_text.specs.Holes.{image_limit, section_limit, text_limit, at_most, holes_read, text_of, holes_text, holes_written}
use Rattle.error.proofs.OverLaws.{length_over, over-is}
use Rattle.holes_text.proofs.HolesLaws.{Few, few}

-- ---- at most twelve slots

-- what holds of every answer holds of this one
each : {A : Type 0} (P : A → Type 0) (o : Outcome A) → ((a : A) → P a) → Holds P o
each P (answer a) h = h a
each P nothing h = tt
each P (refuse n vs) h = tt

abbrev Slots : ℕ → List (List FreeSection) → Type 0
Slots n ls = length ls ≤ n

as_many : (slots image : List ℕ) → Holds (Slots (length slots)) (read_slots Loose 8 0 slots image)
unfolding read_slots
as_many [] image = omega arith
as_many (a ∷ slots) image =
    holds_then (Slots (suc (length slots))) (read_manager Loose 8 0 a image) _ (each (λ _. Unit {0}) (read_manager Loose 8 0 a image) (λ _. tt))
    (λ l _. holds_then (Slots (suc (length slots))) (read_slots Loose 8 0 slots image) _ (as_many slots image) (λ ls h. omega arith))

few-present : (n : ℕ) (persist : Bool) → n ≤ 125 → present 8 8 n persist ≤ 12
unfolding present
few-present n true h = omega arith
few-present n false h = omega arith

twelve : (image : List ℕ) → Holds (Slots 12) (read_image Loose 0 image)
unfolding read_image
twelve image =
    let bs = message_at 0 image in
    holds_then (Slots 12) (fixed_read 8 8 bs) _ (each (λ _. Unit {0}) (fixed_read 8 8 bs) (λ _. tt))
    (λ m _.
    let n = present 8 8 (length bs) m.persist in
    let e : length (addresses_in bs m) ≡ n = length-numbers 8 n (drop (fixed_len 8 8) bs) in
    let l : n ≤ 12 = few-present (length bs) m.persist (message_few 0 image) in
    weaker (length (addresses_in bs m)) (omega arith) (read_slots Loose 8 0 (addresses_in bs m) image) (as_many (addresses_in bs m) image))
  where
    weaker : (n : ℕ) → n ≤ 12 → (o : Outcome (List (List FreeSection))) → Holds (Slots n) o → Holds (Slots 12) o
    weaker n l (answer ls) h = omega arith
    weaker n l nothing h = tt
    weaker n l (refuse k vs) h = tt

-- ---- the text

slots-at_most : (i : ℕ) (ls : List (List FreeSection)) → i + length ls ≤ 100 → length (slots_text i ls) ≤ 45 * length (joined ls)
unfolding slots_text joined
slots-at_most i [] h = omega arith
slots-at_most i (l ∷ ls) h =
    omega (
      arith,
      length-append (slot_text i l) (slots_text (suc i) ls),
      length-append l (joined ls),
      slot-at_most i l (omega arith),
      slots-at_most (suc i) ls (omega arith),
    )

short_text : (o : Outcome (List (List FreeSection))) → Holds (Slots 12) o → Holds Few o → length (text_of o) ≤ text_limit
unfolding listing_text
short_text (answer ls) s f = omega (arith, length-append header (slots_text 0 ls), slots-at_most 0 ls (omega arith))
short_text nothing s f = omega arith
short_text (refuse n vs) s f = omega (arith, refused-at_most n)

pub text_fits : (image : List ℕ) → length (holes_text image) ≤ text_limit
unfolding holes_read
text_fits image =
    short_text (holes_read image)
    (holds-when (Slots 12) _ (OverCapacity (length image) image_limit) _
    (holds_then (Slots 12) (read_image Loose 0 image) (at_most section_limit) (twelve image) (λ ls h. holds-when (Slots 12) _ _ (answer ls) h)))
    (holds-when Few _ (OverCapacity (length image) image_limit) _ (few (read_image Loose 0 image)))

-- ---- the text made in memory of that size, then written to the lent bytes or refused

module _ (image memory : List ℕ) {n : ℕ} {m : List ℕ} (size : text_limit ≡ length memory) (e : with n m ≡ written 0 (holes_text image) memory) where
  abbrev text : List ℕ
  text = holes_text image

  text_length : n ≡ length text
  text_length =
      let f = text_fits image in
      let v : n ≡ min (0 + length text) (length memory) = ap (λ (w : With ℕ (List ℕ)). w.value) e in
      omega arith

  text_whole : take n m ≡ text
  text_whole =
      let f = text_fits image in
      ap (take n) (ap (λ (w : With ℕ (List ℕ)). w.memory) e ∙ over-is text memory (omega arith)) ∙ take_at text (drop (length text) memory) n (sym text_length)

  pub written-refused : (out : List ℕ) → length out < n → left (refused (OverCapacity n (length out))) out ≡ leaving out (holes_written image out)
  unfolding holes_written
  written-refused out h =
      let l : length out < length text = omega (arith, text_length) in
      ap (λ (k : ℕ). left (refused (OverCapacity k (length out))) out) text_length
      ∙ ap (leaving out) (refuses (ltb (length out) (length text)) (OverCapacity (length text) (length out)) (answer (with (length text) (over 0 text out))) (lt-ltb (length out) (length text) l))

  pub written-whole : (out : List ℕ) {r : ℕ} {p : List ℕ} → n ≤ length out → with r p ≡ written 0 (take n m) out → left (answer r) p ≡ leaving out (holes_written image out)
  unfolding holes_written
  written-whole out h f =
      let l : length text ≤ length out = omega (arith, text_length) in
      let k : min (0 + length text) (length out) ≡ length text = omega arith in
      ap (λ (w : With ℕ (List ℕ)). left (answer w.value) w.memory)
      (f ∙ ap (λ (s : List ℕ). written 0 s out) text_whole ∙ ap (λ (j : ℕ). with j (over 0 text out)) k)
      ∙ ap (leaving out) (passes (ltb (length out) (length text)) (OverCapacity (length text) (length out)) (answer (with (length text) (over 0 text out))) (le-ltb (length out) (length text) l))

-- ---- memory of that size is never refused, and holds the text then

module _ (image out : List ℕ) (h : text_limit ≤ length out) where
  fits : leaving out (holes_written image out) ≡ left (answer (length (holes_text image))) (over 0 (holes_text image) out)
  unfolding holes_written
  fits =
      let t = holes_text image in
      let f = text_fits image in
      let l : length t ≤ length out = omega arith in
      sym (ap (leaving out) (passes (ltb (length out) (length t)) (OverCapacity (length t) (length out)) (answer (with (length t) (over 0 t out))) (le-ltb (length out) (length t) l)))

  pub never-refused : (x : Refusal) {p : List ℕ} → left (refused x) p ≡ leaving out (holes_written image out) → ⊥
  never-refused x e =
      let q : refused x ≡ answer (length (holes_text image)) = ap (λ (l : Left ℕ (List ℕ)). l.outcome) (e ∙ fits) in
      let z : ◌≡◌ {A = ℕ} 0 1 = cc in
      absurd (omega arith)

  pub always_ok : (o : Result ℕ Refusal) {p : List ℕ} → left (as_outcome o) p ≡ leaving out (holes_written image out) → is_ok o ≡ true
  always_ok (Ok n) e = refl
  always_ok (Err x) e = absurd (never-refused x e)

  pub always_written : {n : ℕ} {p : List ℕ} → left (answer n) p ≡ leaving out (holes_written image out) → (n ≤ length p) × (take n p ≡ holes_text image)
  always_written {n} {p} e =
      let t = holes_text image in
      let f = text_fits image in
      let q : answer n ≡ answer (length t) = ap (λ (l : Left ℕ (List ℕ)). l.outcome) (e ∙ fits) in
      let v : n ≡ length t = cc in
      let m : p ≡ over 0 t out = ap (λ (l : Left ℕ (List ℕ)). l.memory) (e ∙ fits) in
      let k : length p ≡ length out = ap length m ∙ length_over 0 t out in
      (omega arith, ap (take n) (m ∙ over-is t out (omega arith)) ∙ take_at t (drop (length t) out) n (sym v))
