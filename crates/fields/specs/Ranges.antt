-- Sums, ranges and multiples of 64-bit numbers, with their refusals. Assumes nothing.
-- In quotes: document 01's words, from the refusal of that number or from the heading named.
--   top               2^64 - 1, the greatest stored number (refusal 4: "exceeds 2^64−1")
--   enough            `ensure_len`: refusal 7, with the end that is asked for and the length that is there ("Eight files": "`ensure_len` gives 7
--                     alone; on overflow, expected saturates")
--   sum               `absolute`: the sum of two numbers (refusal 4: "address plus length or base")
--   Range             the places from start up to end
--   range             `slice_range` (refusal 4: "address plus length")
--   undefined_addr    the address of which all bits of O bytes are one: the undefined address of the HDF5 File Format Specification
--   undefined_at      `is_undefined_addr`: as the Rust's table, all ones at offset sizes 2, 4 and 8, no address at the other sizes
--                     (refusal 1: "outside 1 to 8")
--   first_multiple    the first multiple of a page at or after a number ("The list": "the first multiple of the unit at or after the address")
--   aligned_up        `align_up`: that multiple (refusal 2: "a page size to cut or round by is 0"; refusal 4: "a rounded-up value")
--   or_top            the number that an outcome has, all ones for a refusal or Nothing: what a C interface shows of it
--   left_or_top       that number, and the lent memory
use Rattle.std.specs.Prelude.{ℕ, ◌+◌, ◌-◌, ◌*◌, ◌/◌, ◌^◌, Bool, ◌&&◌, ◌||◌, not, [], ◌∷◌, ltb, eqb}
use Rattle.error.specs.declared.Refusal.TheVariants.{Width, Page, Overflow, Short}
use Rattle.error.specs.Outcome.{Outcome, answer, nothing, refuse, when, first_of, sat}
use Rattle.error.specs.Lent.{With, with, Left}
use Rattle.fields.specs.declared.convert.SliceRange.{SliceRange}
use Rattle.fields.specs.Width.{valid_width}

abbrev pub top : ℕ
top = 2 ^ 64 - 1

unfoldable pub enough : ℕ → ℕ → ℕ → Outcome (Unit {0})
enough available offset needed = first_of (when (ltb available (offset + needed)) (Short (sat (offset + needed)) available) ∷ []) (answer tt)

unfoldable pub sum : ℕ → ℕ → Outcome ℕ
sum a b = first_of (when (ltb top (a + b)) Overflow ∷ []) (answer (a + b))

abbrev pub Range : Type 0
Range = SliceRange

unfoldable pub range : ℕ → ℕ → Outcome Range
range offset len = first_of (when (ltb top (offset + len)) Overflow ∷ []) (answer (record { start = offset; end = offset + len }))

abbrev pub undefined_addr : ℕ → ℕ
undefined_addr O = 256 ^ O - 1

unfoldable pub undefined_at : ℕ → ℕ → Outcome Bool
undefined_at addr O =
    first_of (when (not (valid_width O)) Width ∷ [])
    (answer (eqb addr (undefined_addr O) && (eqb O 2 || (eqb O 4 || eqb O 8))))

unfoldable pub first_multiple : ℕ → ℕ → ℕ
first_multiple a u = (a + (u - 1)) / u * u

unfoldable pub aligned_up : ℕ → ℕ → Outcome ℕ
aligned_up value page =
    first_of (when (eqb page 0) Page ∷ when (ltb top (first_multiple value page)) Overflow ∷ []) (answer (first_multiple value page))

abbrev pub or_top : Outcome ℕ → ℕ
or_top (answer n) = n
or_top nothing = top
or_top (refuse n vs) = top

abbrev pub left_or_top : {M : Type 0} → Left ℕ M → With ℕ M
left_or_top d = with (or_top d.outcome) d.memory
