-- DEMAND 2's round trip, one claim about the two blocks of a manager: what the serializers write is parsed and read again. Document 01,
-- "Blocks on file": "Writing keeps the multiset"; "Sizes ascend, addresses ascend within one. Size 0 and duplicates are written". Assumes nothing.
-- For every offset size, class, base, count and run of sections, if `serialize_fshd` and `serialize_fsse` accept, then of what they wrote:
--   every, ordered   what is read is every section of the run, each as often as there, by size and then address
--   header_parsed    `FsmHeader::parse` gives the header's six fields, whatever follows the block
--   list_parsed      `parse_fsse` by these fields gives the sections, into any lent run with room
--   manager_read     in any bytes in which the blocks stand, the manager reads as the sections, loosely and strictly (document 02, P5)
--   manager_counted, persisted_read   and so answer `manager_count`, `read_persisted_sections` and `read_persisted_sections_strict`, the latter two
--                    into any lent run with room
-- That numbers fit their fields is no premise, it follows from acceptance: no refusal 12, so each address fits; no refusal 4, so the sizes and
-- their sum do; no refusal 14, so count and length do, since memory has less than 2^64 bytes.
--   fields_of        the six fields: sum of sizes, count, address bits, greatest size, the list's address and its length
--   Standing         header and list stand whole in bytes, each at its address plus the base; neither address is the undefined one of the offset size,
--               which a reading skips (document 02, P2)
--   ReadBack         all this of one pair of blocks
--   RoundTrip        of every pair that was written
use Rattle.std.specs.Prelude.{ℕ, ◌+◌, ◌-◌, ◌*◌, ◌/◌, ◌%◌, ◌^◌, ◌≤◌, ◌<◌, ◌≡◌, List, [], ◌∷◌, ◌++◌, length, take}
use Rattle.error.specs.Outcome.{answer}
use Rattle.error.specs.Lent.{with, over}
use Rattle.fields.specs.Layout.{window}
use Rattle.fields.specs.Ranges.{undefined_addr}
use Rattle.fsm_sections.specs.declared.FreeSection.{FreeSection}
use Rattle.fsm_sections.specs.Sections.{decode, flat, space, times, by_size_then_addr, Sorted}
use Rattle.fsm_blocks.specs.declared.header.FsmHeader.{FsmHeader}
use Rattle.fsm_blocks.specs.Fshd.{kept, parsed_fshd}
use Rattle.fsm_blocks.specs.declared.checks.Reading.{Reading}
use Rattle.fsm_blocks.specs.Reading.{read_manager, parsed_fsse, persisted}
use Rattle.fsm_blocks.specs.Named.{manager_count}
use Rattle.fsm_writer.specs.Serializing.{written_fshd, written_fsse}

-- O is the offset size; the sections were written as the bytes `header` for the address fshd, and `list` for the address fsse
module _ (O : ℕ) (sections : List FreeSection) (fshd fsse : ℕ) (header list : List ℕ) where
  abbrev pub fields_of : FsmHeader
  fields_of = record {
    total_space = space sections;
    total_sections = length sections;
    addr_space_bits = 8 * O - 1;
    max_section_size = 2 ^ 63 - 1;
    fsse_addr = fsse;
    fsse_used = length list;
  }

  pub record Standing (base : ℕ) (bytes : List ℕ) : Type 0 where
    pub short : length bytes < 2 ^ 64
    pub fshd_defined : fshd ≡ undefined_addr O → ⊥
    pub fsse_defined : fsse ≡ undefined_addr O → ⊥
    pub header_there : window (fshd + base) (length header) bytes ≡ header
    pub list-there : window (fsse + base) (length list) bytes ≡ list

  pub record ReadBack : Type 0 where
    pub every : (s : FreeSection) → times s (by_size_then_addr sections) ≡ times s sections
    pub ordered : Sorted (by_size_then_addr sections)
    pub header_parsed : (rest : List ℕ) → kept (parsed_fshd O (header ++ rest)) ≡ answer fields_of
    pub list_parsed : (out : List ℕ) → length out % 2 ≡ 0 → length sections ≤ length out / 2
        → parsed_fsse fields_of O list out ≡ answer (with (length sections) (over 0 (flat (by_size_then_addr sections)) out))
    pub manager_read : (how : Reading) (base : ℕ) (bytes : List ℕ) → Standing base bytes → read_manager how O base fshd bytes ≡ answer (by_size_then_addr sections)
    pub manager_counted : (how : Reading) (base : ℕ) (bytes : List ℕ) → Standing base bytes → manager_count how O base fshd bytes ≡ answer (length sections)
    pub persisted_read : (how : Reading) (base : ℕ) (bytes : List ℕ) → Standing base bytes → (out : List ℕ) → length out % 2 ≡ 0 → length sections ≤ length out / 2
        → persisted how (fshd ∷ []) base O bytes out ≡ answer (with (length sections) (over 0 (flat (by_size_then_addr sections)) out))

-- whatever is written: a and b are the lengths that the serializers answer, x and y the bytes that were lent to them, u and v the same afterwards
abbrev pub RoundTrip : Type 0
RoundTrip =
    (O : ℕ) (run : List ℕ) (n fshd fsse class : ℕ) (x y : List ℕ) (a b : ℕ) (u v : List ℕ)
    → length y < 2 ^ 64
    → written_fshd O run n fsse x ≡ answer (with a u)
    → written_fsse O run n fshd class y ≡ answer (with b v)
    → ReadBack O (decode n run) fshd fsse (take a u) (take b v)
