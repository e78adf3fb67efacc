-- The aligned interior of a region: the whole units inside it. Assumes nothing.
-- In quotes: document 01's words, from "The list" or from the heading named.
--   last_multiple      the last multiple of a unit at or before a number
--   interior_start     "the first multiple of the unit at or after the address"
--   interior_span      the bytes from there "to the last at or before the end"; 0 where there is no interior
--   interior           `aligned_interior`: refusal 4 where the region ends above 2^64 - 1; Nothing where there is none ("An aligned start beyond
--                     2^64−1, or unit 0, means no interior")
use Rattle.std.specs.Prelude.{ℕ, ◌-◌, ◌*◌, ◌/◌, cond, [], ◌∷◌, ltb, eqb}
use Rattle.free_regions.specs.declared.Whole.{Whole}
use Rattle.error.specs.declared.Refusal.TheVariants.{Overflow}
use Rattle.error.specs.Outcome.{Outcome, answer, nothing, when, first_of}
use Rattle.fields.specs.Ranges.{top, first_multiple}
use Rattle.free_regions.specs.declared.FreeRegion.{FreeRegion}
use Rattle.free_regions.specs.Regions.{end}

unfoldable pub last_multiple : ℕ → ℕ → ℕ
last_multiple e u = e / u * u

abbrev pub interior_start : ℕ → FreeRegion → ℕ
interior_start u r = first_multiple r.addr u

abbrev pub interior_span : ℕ → FreeRegion → ℕ
interior_span u r = cond (eqb u 0) 0 (last_multiple (end r) u - interior_start u r)

unfoldable pub interior : ℕ → FreeRegion → Outcome Whole
interior u r =
    first_of (when (ltb top (end r)) Overflow ∷ [])
    (cond (eqb (interior_span u r) 0) nothing (answer (record { start = interior_start u r; span = interior_span u r })))
