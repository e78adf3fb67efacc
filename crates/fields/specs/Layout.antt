-- A block of the format as a row of fields, and the bytes that stand at a place. FSHD, FSSE and the message are given so. Assumes nothing.
--   Field       a number, and how many bytes it takes
--   field       the field of a width and a number
--   row         the fields of these widths with these numbers, as far as both go
--   widths      the widths of a row
--   span        how many bytes fields of these widths take
--   layout      the bytes of a row, number after number (document 01, "Fourteen ways to say no": "unsigned, least byte first")
--   FieldFits   the number fits its bytes: for the proofs that a row reads back
--   AllFit      so does every number of a row
--   window      the n bytes from place p on
--   le_at       the number that the w bytes at place p spell
--   field_at    the number that stands in field i of fields of these widths; its place is the span of those before it
use Rattle.std.specs.Prelude.{ℕ, ◌+◌, ◌^◌, ◌<◌, List, [], ◌∷◌, ◌++◌, take, drop, get_or}
use Rattle.fields.specs.Le.{le_bytes, le_value}

pub record Field : Type 0 where
  pub width : ℕ
  pub value : ℕ

abbrev pub field : ℕ → ℕ → Field
field w v = record { width = w; value = v }

abbrev pub row : List ℕ → List ℕ → List Field
row [] vs = []
row (w ∷ ws) [] = []
row (w ∷ ws) (v ∷ vs) = field w v ∷ row ws vs

abbrev pub widths : List Field → List ℕ
widths [] = []
widths (f ∷ fs) = f.width ∷ widths fs

abbrev pub span : List ℕ → ℕ
span [] = 0
span (w ∷ ws) = w + span ws

unfoldable pub layout : List Field → List ℕ
layout [] = []
layout (f ∷ fs) = le_bytes f.width f.value ++ layout fs

abbrev pub FieldFits : Field → Type 0
FieldFits f = f.value < 256 ^ f.width

abbrev pub AllFit : List Field → Type 0
AllFit [] = Unit {0}
AllFit (f ∷ fs) = FieldFits f × AllFit fs

abbrev pub window : ℕ → ℕ → List ℕ → List ℕ
window p n l = take n (drop p l)

abbrev pub le_at : ℕ → ℕ → List ℕ → ℕ
le_at p w l = le_value (window p w l)

abbrev pub field_at : List ℕ → ℕ → List ℕ → ℕ
field_at ws i l = le_at (span (take i ws)) (get_or ws i 0) l
