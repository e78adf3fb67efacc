-- The length of a section list by the sizes of its sections. Assumes nothing.
--   unplaced   sections of these sizes; the length does not depend on their addresses, so they stand at 0
--   fsse_len   `fsse_len`: the length of their section list by the starting settings (document 01, "Blocks on file": "Length: 9+O + distinct
--              sizes × (count width+8) + sections × (O+1)"); refusals 1, 4 ("a sum of section sizes")
use Rattle.std.specs.Prelude.{ℕ, not, List, [], ◌∷◌, map, ltb}
use Rattle.error.specs.declared.Refusal.TheVariants.{Width, Overflow}
use Rattle.error.specs.Outcome.{Outcome, answer, when, first_of}
use Rattle.fields.specs.Ranges.{top}
use Rattle.fields.specs.Width.{valid_width}
use Rattle.fsm_sections.specs.declared.FreeSection.{FreeSection}
use Rattle.fsm_sections.specs.Sections.{section, space}
use Rattle.fsm_blocks.specs.Settings.{starting_set, fsse_used}

abbrev pub unplaced : List ℕ → List FreeSection
unplaced zs = map (section 0) zs

unfoldable pub fsse_len : ℕ → List ℕ → Outcome ℕ
fsse_len O zs =
    first_of
    (when (not (valid_width O)) Width
    ∷ when (ltb top (space (unplaced zs))) Overflow
    ∷ [])
    (answer (fsse_used O (starting_set O) (unplaced zs)))
