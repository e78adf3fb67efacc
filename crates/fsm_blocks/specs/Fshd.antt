-- The Free-space Manager Header, FSHD, by the offset size O: its fields, bytes and reading. From the HDF5 File Format Specification,
-- section III.H, with lengths of 8 bytes as document 01 has them. Assumes nothing.
-- In quotes: document 01's words, from "Blocks on file".
--   Header        all that stands in a header but its signature and its checksum
--   signature     four letters as a row of fields: the specification's ASCII `FSHD` and `FSSE`
--   fshd_row      the header as a row of fields; their widths give the offsets listed ("signature at 0; version 0 at 4; client 1 at 5", and so on)
--   sealed        bytes with their checksum after them, over everything before it; `sum` is the checksum of bytes ("checksum at 70+O")
--   fshd_bytes    a header's bytes
--   fshd_size     their number: "FSHD, length 74+O"
--   signed        bytes begin with a signature of four
--   beginning     "length, then signature": fewer bytes than a block of some size has are 7, four that are not F, S and two letters 10
--   header_at     the header that stands in bytes, signature and checksum aside ("FSSE address at 54 (O); used and allocated length at 54+O and
--                 62+O")
--   taken         the six fields that the Rust keeps of a header, its `FsmHeader`
--   kept          these of a header that is read, or its refusal
--   parse_fshd    the reading after the test of the offset size: "Parsing FSHD tests length, then signature"
--   parsed_fshd   `FsmHeader::parse`: refusals 1, 7, 10
use Rattle.std.specs.Prelude.{ℕ, ◌+◌, Bool, ◌&&◌, not, List, [], ◌∷◌, ◌++◌, ltb, eqb, length}
use Rattle.error.specs.declared.Refusal.TheVariants.{Width, Short, InvalidManager}
use Rattle.error.specs.Outcome.{Outcome, answer, Condition, when, first_of, and_then}
use Rattle.fields.specs.Le.{le_bytes}
use Rattle.fields.specs.Layout.{Field, field, layout, le_at}
use Rattle.fields.specs.Width.{valid_width}
use Rattle.fsm_blocks.specs.declared.header.FsmHeader.{FsmHeader}

pub record Header : Type 0 where
  pub version : ℕ
  pub client : ℕ
  pub space : ℕ
  pub total : ℕ
  pub serialized : ℕ
  pub ghost : ℕ
  pub classes : ℕ
  pub shrink : ℕ
  pub expand : ℕ
  pub bits : ℕ
  pub greatest : ℕ
  pub fsse : ℕ
  pub used : ℕ
  pub allocated : ℕ

-- a signature's four letters: 70 F, 83 S, 72 H, 68 D, 69 E
abbrev pub signature : ℕ → ℕ → ℕ → ℕ → List Field
signature a b c d = field 1 a ∷ field 1 b ∷ field 1 c ∷ field 1 d ∷ []

abbrev pub fshd_row : ℕ → Header → List Field
fshd_row O h =
    signature 70 83 72 68
    ++ (field 1 h.version ∷ field 1 h.client ∷ field 8 h.space ∷ field 8 h.total ∷ field 8 h.serialized ∷ field 8 h.ghost
    ∷ field 2 h.classes ∷ field 2 h.shrink ∷ field 2 h.expand ∷ field 2 h.bits ∷ field 8 h.greatest ∷ field O h.fsse
    ∷ field 8 h.used ∷ field 8 h.allocated ∷ [])

abbrev pub sealed : (List ℕ → ℕ) → List ℕ → List ℕ
sealed sum body = body ++ le_bytes 4 (sum body)

unfoldable pub fshd_bytes : (List ℕ → ℕ) → ℕ → Header → List ℕ
fshd_bytes sum O h = sealed sum (layout (fshd_row O h))

abbrev pub fshd_size : ℕ → ℕ
fshd_size O = 74 + O

abbrev pub signed : ℕ → ℕ → ℕ → ℕ → List ℕ → Bool
signed a b c d bs = eqb (le_at 0 1 bs) a && (eqb (le_at 1 1 bs) b && (eqb (le_at 2 1 bs) c && eqb (le_at 3 1 bs) d))

abbrev pub beginning : ℕ → ℕ → ℕ → List ℕ → List Condition
beginning size c d bs = when (ltb (length bs) size) (Short size (length bs)) ∷ when (not (signed 70 83 c d bs)) InvalidManager ∷ []

abbrev pub header_at : ℕ → List ℕ → Header
header_at O bs = record {
  version = le_at 4 1 bs;
  client = le_at 5 1 bs;
  space = le_at 6 8 bs;
  total = le_at 14 8 bs;
  serialized = le_at 22 8 bs;
  ghost = le_at 30 8 bs;
  classes = le_at 38 2 bs;
  shrink = le_at 40 2 bs;
  expand = le_at 42 2 bs;
  bits = le_at 44 2 bs;
  greatest = le_at 46 8 bs;
  fsse = le_at 54 O bs;
  used = le_at (54 + O) 8 bs;
  allocated = le_at (62 + O) 8 bs;
}

abbrev pub taken : Header → FsmHeader
taken h = record {
  total_space = h.space;
  total_sections = h.total;
  addr_space_bits = h.bits;
  max_section_size = h.greatest;
  fsse_addr = h.fsse;
  fsse_used = h.used;
}

abbrev pub kept : Outcome Header → Outcome FsmHeader
kept o = and_then o (λ h. answer (taken h))

abbrev pub parse_fshd : ℕ → List ℕ → Outcome Header
parse_fshd O bs = first_of (beginning (fshd_size O) 72 68 bs) (answer (header_at O bs))

unfoldable pub parsed_fshd : ℕ → List ℕ → Outcome Header
parsed_fshd O bs = first_of (when (not (valid_width O)) Width ∷ []) (parse_fshd O bs)
