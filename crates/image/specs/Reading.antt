-- The reading of an image at a place: its message, at most 125 bytes of it, then its slots; offset and length size 8, base 0 (document 01,
-- "The save": "An image reads by this message, then its slots, with capacity for all"). The slots are read loosely or strictly (document 02,
-- P5). Assumes nothing.
--   message_at     the at most 125 bytes of message at a place ("Checked by hand": "message first (up to 125 bytes), sizes 8, base 0")
--   addresses_in   the addresses that stand in a message whose fixed part was read
--   read_image     each slot's sections, in slot order: refusals 7, 8, 9 of the message, then those of the slots
--   Listed         a section and the slot that it stands in
--   in_slot        the sections of one slot
--   listed         the sections of all slots from one on, in reading order
--   read_listed    the sections of an image with their slots
--   counts_of      how many sections each of the twelve slots has
--   read_into      the sections of slots in a lent run: refusal 3 for an odd run first, then the slots' own, 14 last; they fill the run from its
--                  front, and the counts are answered
--   image_into     `read_image` and `read_image_strict`: those of an image, so 3 comes before all others
--   sections_in    how many sections the manager has that a slot names, read loosely; 0 where it is refused: for a private function's contract
use Rattle.std.specs.Prelude.{ℕ, suc, ◌-◌, ◌%◌, not, List, [], ◌∷◌, ◌++◌, map, eqb, length, drop, replicate}
use Rattle.error.specs.declared.Refusal.TheVariants.{NotAList}
use Rattle.error.specs.Outcome.{Outcome, answer, when, first_of, and_then}
use Rattle.error.specs.Lent.{With, with}
use Rattle.fields.specs.Layout.{window}
use Rattle.fsm_sections.specs.declared.FreeSection.{FreeSection}
use Rattle.fsm_blocks.specs.declared.checks.Reading.{Reading}
use Rattle.fsm_blocks.specs.declared.checks.Reading.TheVariants.{Loose}
use Rattle.fsm_blocks.specs.Reading.{read_manager, read_slots, joined, into_run}
use Rattle.fsm_blocks.specs.Parts.{got}
use Rattle.file_space_info.specs.declared.FileSpaceInfo.{FileSpaceInfo}
use Rattle.file_space_info.specs.Message.{message_len, fixed_len, fixed_read, present, numbers_at}

abbrev pub message_at : ℕ → List ℕ → List ℕ
message_at place image = window place message_len image

abbrev pub addresses_in : List ℕ → FileSpaceInfo → List ℕ
addresses_in bs m = numbers_at 8 (present 8 8 (length bs) m.persist) (drop (fixed_len 8 8) bs)

unfoldable pub read_image : Reading → ℕ → List ℕ → Outcome (List (List FreeSection))
read_image how place image =
    and_then (fixed_read 8 8 (message_at place image)) (λ m. read_slots how 8 0 (addresses_in (message_at place image) m) image)

-- ---- the sections with their slots

pub record Listed : Type 0 where
  pub slot : ℕ
  pub found : FreeSection

abbrev pub in_slot : ℕ → List FreeSection → List Listed
in_slot i l = map (λ s. record { slot = i; found = s }) l

abbrev pub listed : ℕ → List (List FreeSection) → List Listed
listed i [] = []
listed i (l ∷ ls) = in_slot i l ++ listed (suc i) ls

abbrev pub read_listed : Reading → ℕ → List ℕ → Outcome (List Listed)
read_listed how place image = and_then (read_image how place image) (λ ls. answer (listed 0 ls))

-- ---- the entry that fills a lent run

abbrev pub counts_of : List (List FreeSection) → List ℕ
counts_of ls = map length ls ++ replicate (12 - length ls) 0

abbrev pub read_into : List ℕ → Outcome (List (List FreeSection)) → Outcome (With (List ℕ) (List ℕ))
read_into out slots =
    first_of (when (not (eqb (length out % 2) 0)) NotAList ∷ [])
    (and_then slots (λ ls. and_then (into_run out (joined ls)) (λ w. answer (with (counts_of ls) w.memory))))

unfoldable pub image_into : Reading → ℕ → List ℕ → List ℕ → Outcome (With (List ℕ) (List ℕ))
image_into how place image out = read_into out (read_image how place image)

-- ---- one slot

abbrev pub sections_in : List ℕ → ℕ → ℕ
sections_in image slot = length (got (read_manager Loose 8 0 slot image))
