-- Managers read from the bytes of a file, loosely or strictly: `parse_fsse`, `read_persisted_sections` and `read_persisted_sections_strict`.
-- Assumes nothing.
-- In quotes: document 01's words, from "Blocks on file", or those of document 02's request that is named. A strict reading makes its checks
-- (Checks.antt) of each block where the loose one parses it (P5: "The loose tests of place stay"); a loose one has no checks.
--   list_at       the section list where a header's FSSE field points: "Adding the base past 2^64−1", "or an FSSE outside the data is 10"; then the
--                 checks of its used bytes by the slot that named the header, and what it parses as
--   read_named    the same, but for the undefined address no sections (P2: "The reader skips 2^(8O)−1 at offset size O, and no other address, in a
--                 slot and in the FSSE field"). It is the number as it stands there, to which the base is not added yet
--   manager_at    the sections of the manager whose header is where a slot points: "a header start past the data" is 10; then the header's checks
--   read_manager  the same, but for the undefined address no sections (P2)
--   read_slots    each slot's sections: "slots in order"; "the first refusal ends the read"
--   joined        the sections of all slots, in order
--   into_run      the sections in the lent run, or refusal 14 with their number (at most 2^64 - 1) and its capacity: "Only after all succeed is 14
--                 considered, the needed count covering all managers"
--   parsed_fsse   `parse_fsse`: refusals 1, 3 (an odd run), then those of the list, 14 last
--   persisted     "`read_persisted_sections`, the wrapper that refuses more": refusals 1, 3, then slot by slot, 14 last; strictly the same of
--                 `read_persisted_sections_strict`
use Rattle.std.specs.Prelude.{ℕ, ◌+◌, ◌/◌, ◌%◌, cond, not, List, [], ◌∷◌, ◌++◌, ltb, eqb, length, drop}
use Rattle.error.specs.declared.Refusal.TheVariants.{Width, NotAList, InvalidManager, OverCapacity}
use Rattle.error.specs.Outcome.{Outcome, answer, when, first_of, and_then, sat}
use Rattle.error.specs.Lent.{With, with, over}
use Rattle.fields.specs.Layout.{window}
use Rattle.fields.specs.Ranges.{top, undefined_addr}
use Rattle.fields.specs.Width.{valid_width}
use Rattle.fsm_sections.specs.declared.FreeSection.{FreeSection}
use Rattle.fsm_sections.specs.Sections.{flat}
use Rattle.fsm_blocks.specs.declared.header.FsmHeader.{FsmHeader}
use Rattle.fsm_blocks.specs.Fshd.{Header, parse_fshd}
use Rattle.fsm_blocks.specs.Fsse.{parse_fsse}
use Rattle.fsm_blocks.specs.declared.checks.Reading.{Reading}
use Rattle.fsm_blocks.specs.Checks.{fshd_checks, fsse_checks}

-- how it is read, the offset size, and what is added to each block's address
module _ (how : Reading) (O base : ℕ) where
  abbrev pub list_at : ℕ → Header → List ℕ → Outcome (List FreeSection)
  list_at slot h bytes =
      let list = window (h.fsse + base) h.used bytes in
      first_of
      (when (ltb top (h.fsse + base)) InvalidManager
      ∷ when (ltb (length bytes) (h.fsse + base + h.used)) InvalidManager
      ∷ fsse_checks how O slot list)
      (parse_fsse O h.bits h.greatest h.total list)

  unfoldable pub read_named : ℕ → Header → List ℕ → Outcome (List FreeSection)
  read_named slot h bytes = cond (eqb h.fsse (undefined_addr O)) (answer []) (list_at slot h bytes)

  abbrev pub manager_at : ℕ → List ℕ → Outcome (List FreeSection)
  manager_at slot bytes =
      let header = drop (slot + base) bytes in
      first_of
      (when (ltb top (slot + base)) InvalidManager
      ∷ when (ltb (length bytes) (slot + base)) InvalidManager
      ∷ fshd_checks how O header)
      (and_then (parse_fshd O header) (λ h. read_named slot h bytes))

  unfoldable pub read_manager : ℕ → List ℕ → Outcome (List FreeSection)
  read_manager slot bytes = cond (eqb slot (undefined_addr O)) (answer []) (manager_at slot bytes)

  unfoldable pub read_slots : List ℕ → List ℕ → Outcome (List (List FreeSection))
  read_slots [] bytes = answer []
  read_slots (a ∷ slots) bytes = and_then (read_manager a bytes) (λ x. and_then (read_slots slots bytes) (λ y. answer (x ∷ y)))

unfoldable pub joined : List (List FreeSection) → List FreeSection
joined [] = []
joined (l ∷ ls) = l ++ joined ls

abbrev pub into_run : List ℕ → List FreeSection → Outcome (With ℕ (List ℕ))
into_run out l =
    first_of (when (ltb (length out / 2) (length l)) (OverCapacity (sat (length l)) (length out / 2)) ∷ [])
    (answer (with (length l) (over 0 (flat l) out)))

unfoldable pub parsed_fsse : FsmHeader → ℕ → List ℕ → List ℕ → Outcome (With ℕ (List ℕ))
parsed_fsse h O bytes out =
    first_of (when (not (valid_width O)) Width ∷ when (not (eqb (length out % 2) 0)) NotAList ∷ [])
    (and_then (parse_fsse O h.addr_space_bits h.max_section_size h.total_sections bytes) (into_run out))

unfoldable pub persisted : Reading → List ℕ → ℕ → ℕ → List ℕ → List ℕ → Outcome (With ℕ (List ℕ))
persisted how slots base O bytes out =
    first_of (when (not (valid_width O)) Width ∷ when (not (eqb (length out % 2) 0)) NotAList ∷ [])
    (and_then (read_slots how O base slots bytes) (λ ls. into_run out (joined ls)))
