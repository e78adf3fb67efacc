-- The File Space Info message, version 1: its bytes, and its reading (HDF5 File Format Specification, IV.A.2, File Space Info).
-- O is the offset size, L the length size. Assumes nothing.
-- In quotes: document 01's words, from "The message", from the refusal of that number or from the heading named.
--   shape           the widths of the fixed part's fields: "Version 1, strategy", "persist, threshold, page size, 2-byte page_end threshold,
--                   end before managers"
--   fixed_len       the length of the fixed part
--   message_len     the bytes of a written message with its twelve slots: "125 with twelve slots"
--   bit             persist as it is written, 1 or 0
--   numbers_of      a message's numbers in the fields of the fixed part
--   address_row     addresses, O bytes each
--   message_row     the message as a row of fields: the fixed part, "then addresses if persist"
--   message_bytes   the message's bytes
--   serialized      `serialize`: the message, and its length: "Written fields are 8 bytes: 29 bytes, or 125 with twelve slots" (refusal 14:
--                   "needed and given", in bytes)
--   info_with       the fixed part as it is read, with a strategy: "any nonzero persist as yes"
--   info_of         the same, with the strategy of the code that stands there
--   present         how many addresses n bytes have after the fixed part, if persist: "all whole addresses present; a partial one is ignored"
--   numbers_at      the numbers of the first n fields of w bytes each
--   fixed_tests     the refusals of the fixed part, in this order: 1, 7, 8 ("with the byte: it isn't 1"), 9
--   fixed_read      the fixed part, where they pass
--   parsed          `parse`: "Reading takes the stated sizes"; the refusals of the fixed part, then 14, with the addresses present and the
--                   places given; the addresses fill the lent memory from its front
use Rattle.std.specs.Prelude.{ℕ, zero, suc, ◌-◌, ◌/◌, Bool, true, false, cond, not, ◌&&◌, List, [], ◌∷◌, ◌++◌, ltb, eqb, length, drop}
use Rattle.file_space_info.specs.declared.Parsed.{Parsed}
use Rattle.error.specs.declared.Refusal.TheVariants.{Width, Short, MessageVersion, OverCapacity}
use Rattle.error.specs.Outcome.{Outcome, answer, Condition, when, first_of}
use Rattle.error.specs.Lent.{With, with, over}
use Rattle.fields.specs.Width.{valid_width}
use Rattle.fields.specs.Layout.{Field, field, row, span, layout, le_at, field_at}
use Rattle.file_space_info.specs.declared.FileSpaceInfo.{FileSpaceInfo}
use Rattle.file_space_info.specs.declared.FileSpaceStrategy.{FileSpaceStrategy}
use Rattle.file_space_info.specs.Strategies.{code_of, strategy_of, code_test}

-- ---- the row

abbrev pub shape : ℕ → ℕ → List ℕ
shape O L = 1 ∷ 1 ∷ 1 ∷ L ∷ L ∷ 2 ∷ O ∷ []

abbrev pub fixed_len : ℕ → ℕ → ℕ
fixed_len O L = span (shape O L)

-- with twelve slots of 8 bytes
abbrev pub message_len : ℕ
message_len = 125

abbrev pub bit : Bool → ℕ
bit true = 1
bit false = 0

abbrev pub numbers_of : FileSpaceInfo → List ℕ
numbers_of m =
    1 ∷ code_of m.strategy ∷ bit m.persist ∷ m.threshold ∷ m.page_size ∷ m.page_end_meta_threshold ∷ m.eoa_pre_fsm ∷ []

abbrev pub address_row : ℕ → List ℕ → List Field
address_row O [] = []
address_row O (a ∷ rest) = field O a ∷ address_row O rest

abbrev pub message_row : ℕ → ℕ → FileSpaceInfo → List ℕ → List Field
message_row O L m addrs = row (shape O L) (numbers_of m) ++ cond m.persist (address_row O addrs) []

abbrev pub message_bytes : ℕ → ℕ → FileSpaceInfo → List ℕ → List ℕ
message_bytes O L m addrs = layout (message_row O L m addrs)

-- ---- writing

unfoldable pub serialized : FileSpaceInfo → List ℕ → List ℕ → Outcome (With ℕ (List ℕ))
serialized m addrs out =
    let bytes = message_bytes 8 8 m addrs in
    first_of (when (ltb (length out) (length bytes)) (OverCapacity (length bytes) (length out)) ∷ [])
    (answer (with (length bytes) (over 0 bytes out)))

-- ---- reading

abbrev pub info_with : ℕ → ℕ → FileSpaceStrategy → List ℕ → FileSpaceInfo
info_with O L s bs = record {
  strategy = s;
  persist = not (eqb (field_at (shape O L) 2 bs) 0);
  threshold = field_at (shape O L) 3 bs;
  page_size = field_at (shape O L) 4 bs;
  page_end_meta_threshold = field_at (shape O L) 5 bs;
  eoa_pre_fsm = field_at (shape O L) 6 bs;
}

abbrev pub info_of : ℕ → ℕ → List ℕ → FileSpaceInfo
info_of O L bs = info_with O L (strategy_of (field_at (shape O L) 1 bs)) bs

unfoldable pub present : ℕ → ℕ → ℕ → Bool → ℕ
present O L n persist = cond persist ((n - fixed_len O L) / O) 0

unfoldable pub numbers_at : ℕ → ℕ → List ℕ → List ℕ
numbers_at w zero bs = []
numbers_at w (suc n) bs = le_at 0 w bs ∷ numbers_at w n (drop w bs)

abbrev pub fixed_tests : ℕ → ℕ → List ℕ → List Condition
fixed_tests O L bs =
    let version = field_at (shape O L) 0 bs in
    when (not (valid_width O && valid_width L)) Width
    ∷ when (ltb (length bs) (fixed_len O L)) (Short (fixed_len O L) (length bs))
    ∷ when (not (eqb version 1)) (MessageVersion version)
    ∷ code_test (field_at (shape O L) 1 bs)
    ∷ []

unfoldable pub fixed_read : ℕ → ℕ → List ℕ → Outcome FileSpaceInfo
fixed_read O L bs = first_of (fixed_tests O L bs) (answer (info_of O L bs))

unfoldable pub parsed : List ℕ → ℕ → ℕ → List ℕ → Outcome (With Parsed (List ℕ))
parsed bs O L addrs =
    let m = info_of O L bs in
    let n = present O L (length bs) m.persist in
    first_of (fixed_tests O L bs ++ (when (ltb (length addrs) n) (OverCapacity n (length addrs)) ∷ []))
    (answer (with (record { info = m; count = n }) (over 0 (numbers_at O n (drop (fixed_len O L) bs)) addrs)))
