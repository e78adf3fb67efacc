-- How many sections there are, how many sizes they have and what their sizes add up to. Assumes nothing.
--   summed           a number of sections and a sum of their sizes; refusal 4 where one of them is above top (document 01: "a sum of section
--                    sizes"; a number of sections above top makes a length above it)
--   totals_of        the same of sections, with the number of their sizes
use Rattle.std.specs.Prelude.{ℕ, ◌||◌, List, [], ◌∷◌, length, nat_lt}
use Rattle.error.specs.declared.Refusal.TheVariants.{Overflow}
use Rattle.error.specs.Outcome.{Outcome, answer, when, first_of}
use Rattle.fields.specs.Ranges.{top}
use Rattle.fsm_sections.specs.declared.FreeSection.{FreeSection}
use Rattle.fsm_sections.specs.Sections.{space, distinct}
use Rattle.fsm_sizes.specs.declared.totals.Sums.{Sums}
use Rattle.fsm_sizes.specs.declared.totals.Totals.{Totals}

unfoldable pub summed : ℕ → ℕ → Outcome Sums
summed n z = first_of (when (nat_lt top z || nat_lt top n) Overflow ∷ []) (answer (record { count = n; space = z }))

unfoldable pub totals_of : List FreeSection → Outcome Totals
totals_of l =
    first_of (when (nat_lt top (space l) || nat_lt top (length l)) Overflow ∷ [])
    (answer (record { count = length l; sizes = distinct l; space = space l }))
