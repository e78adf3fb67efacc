-- Laws of the numbers that bytes spell, at the widths that the parse has a function for, and of rows of fields. Assumes nothing.
use mathlib.Core.Path.{◌≡◌, ap, ◌∙◌}
use Prim.Native.Nat.{ℕ, suc, ◌+◌, ◌*◌, ◌-◌, ◌≤◌, ◌<◌, min}
use native.Mathlib.Omega.{arith}
use mathlib.Core.List.{List, ◌++◌}
use lib.ListN.{length, take, drop, get_or}
use lib.Seq.{drop-drop, drop-cons, take_all}
use Rattle.std.specs.Array.{IsWholeChunk}
use Rattle.fields.specs.Le.{le_value}
use Rattle.fields.specs.Layout.{Field, field, layout, widths, span, FieldFits, le_at}
use Rattle.fields.proofs.LayoutLaws.{le_at-one, field-read}

-- ---- numbers

-- one byte, and the rest
le_at-next : (p q n : ℕ) (l : List ℕ) → q ≡ suc p → p < length l → le_at p (suc n) l ≡ get_or l p 0 + 256 * le_at q n l
unfolding le_value
le_at-next p q n l e h = rw (drop-cons l p 0 h, e)

-- a number of two bytes, and one of eight, as one sum
pub le_at-two : (p : ℕ) (l : List ℕ) → p + 2 ≤ length l → get_or l p 0 + get_or l (p + 1) 0 * 256 ≡ le_at p 2 l
unfolding le_value
le_at-two p l h =
    let a = le_at-next p (p + 1) 1 l (omega arith) (omega arith) in
    let z = le_at-one (p + 1) l in
    omega arith

pub le_at_eight : (p : ℕ) (l : List ℕ) → p + 8 ≤ length l
    → get_or l p 0 + get_or l (p + 1) 0 * 256 + get_or l (p + 2) 0 * 65536 + get_or l (p + 3) 0 * 16777216
    + get_or l (p + 4) 0 * 4294967296 + get_or l (p + 5) 0 * 1099511627776 + get_or l (p + 6) 0 * 281474976710656 + get_or l (p + 7) 0 * 72057594037927936
    ≡ le_at p 8 l
unfolding le_value
le_at_eight p l h =
    let a = le_at-next p (p + 1) 7 l (omega arith) (omega arith) in
    let b = le_at-next (p + 1) (p + 2) 6 l (omega arith) (omega arith) in
    let c = le_at-next (p + 2) (p + 3) 5 l (omega arith) (omega arith) in
    let d = le_at-next (p + 3) (p + 4) 4 l (omega arith) (omega arith) in
    let e = le_at-next (p + 4) (p + 5) 3 l (omega arith) (omega arith) in
    let f = le_at-next (p + 5) (p + 6) 2 l (omega arith) (omega arith) in
    let g = le_at-next (p + 6) (p + 7) 1 l (omega arith) (omega arith) in
    let z = le_at-one (p + 7) l in
    omega arith

-- the bytes of a number, taken as an array
module _ (p n : ℕ) (l xs : List ℕ) (c : IsWholeChunk (take (p + n - p) (drop p l)) xs n) where
  pub chunk_length : length xs ≡ n
  chunk_length = ap length c.same ∙ c.long

  pub chunk_value : le_at 0 n xs ≡ le_at p n l
  chunk_value =
      let k : p + n - p ≡ n = omega arith in
      let e : length xs ≡ n = chunk_length in
      ap le_value (take_all n xs (omega arith) ∙ c.same ∙ ap (λ (m : ℕ). take m (drop p l)) k)

pub le_at-drop : (k p w : ℕ) (l : List ℕ) → le_at p w (drop k l) ≡ le_at (k + p) w l
le_at-drop k p w l = ap (λ (r : List ℕ). le_value (take w r)) (drop-drop p k l)

-- what `read_uint_le` gives, at a width within 8
pub as_read : (p w : ℕ) (l : List ℕ) → w ≤ 8 → le_value (take (min w 8) (drop p l)) ≡ le_at p w l
as_read p w l h = let e : min w 8 ≡ w = omega arith in ap (λ (n : ℕ). le_at p n l) e

-- ---- rows of fields

-- the i-th field, whatever follows the row, at a place and width that are stated otherwise
pub field_at : (fs : List Field) (i : ℕ) (rest : List ℕ) → i < length fs → FieldFits (get_or fs i (field 0 0))
    → (p w : ℕ) → span (take i (widths fs)) ≡ p → get_or (widths fs) i 0 ≡ w → le_at p w (layout fs ++ rest) ≡ (get_or fs i (field 0 0)).value
field_at fs i rest h v p w ep ew = rw (← ep, ← ew) (field-read fs i rest h v)
