-- The Free-space Section List, FSSE: its bytes, its length and its reading. From the HDF5 File Format Specification, section III.H.
-- Assumes nothing.
-- In quotes: document 01's words, from "Blocks on file".
--   bits_width   address bits rounded up to bytes
--   widths_of    the widths that a number of sections, a greatest size and address bits give: `enc_size` of the first two ("`enc_size` of the total
--                count"), and bits_width
--   fsse_head    "signature, version 0, FSHD address (O)"
--   fsse_bytes   a section list's bytes: head, groups by size then address, checksum
--   size_by      how many bytes n sections of d sizes take: "9+O + distinct sizes × (count width+8) + sections × (O+1)"
--   fsse_size    the number of these bytes
--   parse_fsse   n sections by address bits and greatest size: "Parsing FSSE tests length 9+O, signature, then address bits 0 or above 64 (10),
--                then groups"
use Rattle.std.specs.Prelude.{ℕ, ◌+◌, ◌-◌, ◌*◌, ◌/◌, ◌||◌, List, [], ◌∷◌, ◌++◌, ltb, eqb, length}
use Rattle.error.specs.declared.Refusal.TheVariants.{InvalidManager}
use Rattle.error.specs.Outcome.{Outcome, when, first_of}
use Rattle.fields.specs.Layout.{Field, field, layout, window}
use Rattle.fields.specs.Width.{enc_size}
use Rattle.fsm_sections.specs.declared.FreeSection.{FreeSection}
use Rattle.fsm_sections.specs.Sections.{by_size_then_addr, groups_of, distinct}
use Rattle.fsm_blocks.specs.Fshd.{signature, sealed, beginning}
use Rattle.fsm_blocks.specs.Groups.{Widths, group_bytes, parse_groups}

abbrev pub bits_width : ℕ → ℕ
bits_width bits = (bits + 7) / 8

abbrev pub widths_of : ℕ → ℕ → ℕ → Widths
widths_of n greatest bits = record { counts = enc_size n; sizes = enc_size greatest; addresses = bits_width bits }

abbrev pub fsse_head : ℕ → ℕ → List Field
fsse_head O back = signature 70 83 83 69 ++ (field 1 0 ∷ field O back ∷ [])

unfoldable pub fsse_bytes : (List ℕ → ℕ) → Widths → ℕ → ℕ → ℕ → List FreeSection → List ℕ
fsse_bytes sum w O back class l = sealed sum (layout (fsse_head O back) ++ group_bytes w class (groups_of (by_size_then_addr l)))

abbrev pub size_by : Widths → ℕ → ℕ → ℕ → ℕ
size_by w O n d = 9 + O + d * (w.counts + w.sizes) + n * (w.addresses + 1)

abbrev pub fsse_size : Widths → ℕ → List FreeSection → ℕ
fsse_size w O l = size_by w O (length l) (distinct l)

unfoldable pub parse_fsse : ℕ → ℕ → ℕ → ℕ → List ℕ → Outcome (List FreeSection)
parse_fsse O bits greatest n bs =
    first_of (beginning (9 + O) 83 69 bs ++ (when (eqb bits 0 || ltb 64 bits) InvalidManager ∷ []))
    (parse_groups (widths_of n greatest bits) n (window (5 + O) (length bs - (9 + O)) bs))
