-- What an image reads as: one whose message does not persist, and one in which a save's blocks and message stand. Assumes nothing.
use mathlib.Core.Path.{◌≡◌, refl, sym, ap, ◌∙◌}
use Prim.Native.Nat.{ℕ, ◌+◌, ◌/◌, ◌%◌, ◌≤◌, ◌<◌}
use native.Mathlib.Nat.{add-zero}
use native.Mathlib.Omega.{arith}
use mathlib.Core.Bool.{Bool, true, cond}
use mathlib.Core.List.{List, []}
use borrow.Author.Tests.{eq-eqb, le-ltb}
use lib.Dec.{lit<, lit≤}
use lib.ListN.{length, drop, get_or, replicate}
use Rattle.error.specs.Outcome.{answer, first_of, and_then}
use Rattle.error.specs.Lent.{with, over}
use Rattle.error.proofs.OverLaws.{over-nil}
use Rattle.fields.specs.Layout.{AllFit, window, field_at}
use Rattle.fields.proofs.LayoutLaws.{length-window, get_d_window, le_at-one}
use Rattle.fsm_sections.specs.declared.FreeSection.{FreeSection}
use Rattle.fsm_sections.specs.Sections.{flat}
use Rattle.fsm_blocks.specs.Reading.{read_slots, joined}
use Rattle.file_space_info.specs.declared.FileSpaceInfo.{FileSpaceInfo}
use Rattle.file_space_info.specs.Message.{message_len, shape, fixed_len, message_row, message_bytes, present, numbers_at}
use Rattle.file_space_info.proofs.ReadLaws.{read_accepts}
use Rattle.file_space_info.proofs.MessageLaws as m
use Rattle.fsm_blocks.specs.declared.checks.Reading.{Reading}
use Rattle.image.specs.Reading.{message_at, addresses_in, read_image, listed, read_listed, counts_of, image_into}

-- ---- a message that does not persist

module _ (how : Reading) (place : ℕ) (image : List ℕ) (inside : place + message_len ≤ length image) where
  abbrev bs : List ℕ
  bs = message_at place image

  byte : (i : ℕ) → i < message_len → get_or bs i 0 ≡ get_or image (place + i) 0
  byte i h = get_d_window place message_len image i h

  pub reads_nothing : get_or image place 0 ≡ 1 → get_or image (place + 1) 0 ≤ 3 → get_or image (place + 2) 0 ≡ 0 → read_image how place image ≡ answer []
  unfolding read_image and_then present numbers_at read_slots
  reads_nothing v c p =
      let v' : field_at (shape 8 8) 0 bs ≡ 1 = le_at-one 0 bs ∙ byte 0 (lit< tt) ∙ rw add-zero v in
      let c' : field_at (shape 8 8) 1 bs ≤ 3 = rw (le_at-one 1 bs, byte 1 (lit< tt)) c in
      let p' : field_at (shape 8 8) 2 bs ≡ 0 = le_at-one 2 bs ∙ byte 2 (lit< tt) ∙ p in
      let l : fixed_len 8 8 ≤ length bs = rw (length-window place message_len image inside) (lit≤ tt) in
      rw (← read_accepts 8 8 bs refl l v' c', eq-eqb (field_at (shape 8 8) 2 bs) 0 p')

-- ---- a message that was written

module _ (how : Reading) (place : ℕ) (image : List ℕ) (info : FileSpaceInfo) (slots : List ℕ) (keeps : info.persist ≡ true) (fits : AllFit (message_row 8 8 info slots))
    (stands : window place message_len image ≡ message_bytes 8 8 info slots) where
  addresses_are : addresses_in (message_bytes 8 8 info slots) info ≡ slots
  addresses_are =
      ap (λ (n : ℕ). numbers_at 8 n (drop (fixed_len 8 8) (message_bytes 8 8 info slots))) (sym (m.count 8 8 info slots refl fits))
      ∙ m.addresses 8 8 info slots refl fits
      ∙ ap (λ (t : Bool). cond t slots []) keeps

  pub reads_slots : read_image how place image ≡ read_slots how 8 0 slots image
  unfolding read_image and_then
  reads_slots = rw (stands, ← m.accepts 8 8 info slots refl fits) (ap (λ (l : List ℕ). read_slots how 8 0 l image) addresses_are)

-- ---- what is read, with its slots and in a lent run

pub listed-is : (how : Reading) (place : ℕ) (image : List ℕ) (ls : List (List FreeSection)) → read_image how place image ≡ answer ls → read_listed how place image ≡ answer (listed 0 ls)
unfolding and_then
listed-is how place image ls e = rw e

pub into-is : (how : Reading) (place : ℕ) (image out : List ℕ) (ls : List (List FreeSection)) → read_image how place image ≡ answer ls → length out % 2 ≡ 0 → length (joined ls) ≤ length out / 2
    → image_into how place image out ≡ answer (with (counts_of ls) (over 0 (flat (joined ls)) out))
unfolding image_into first_of and_then
into-is how place image out ls e even room = rw (eq-eqb (length out % 2) 0 even, e, le-ltb (length out / 2) (length (joined ls)) room)

pub nothing-into : (how : Reading) (place : ℕ) (image out : List ℕ) → read_image how place image ≡ answer [] → length out % 2 ≡ 0 → image_into how place image out ≡ answer (with (replicate 12 0) out)
unfolding joined
nothing-into how place image out e even =
    into-is how place image out [] e even (omega arith) ∙ ap (λ (l : List ℕ). answer (with (replicate 12 0) l)) (over-nil 0 out)
