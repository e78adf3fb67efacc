-- A pass over the regions of a lent run: what a step of it takes, and what is left then. Assumes nothing.
--   regions_of    the regions of a whole run
--   regions_left  those that are left of `Regions`
--   first_of      the first of a list
--   rows_left     the sections that are left of `Rows`
--   GivesRow      what a step of `Rows` gives: nothing, where no section is left; else there are as many sections of the row's size as it says, and
--                 their sizes otherwise are those of what is left then
--   Alike         the first n regions of a run have size z
use Rattle.std.specs.Prelude.{◌≡◌, ℕ, ◌+◌, ◌*◌, ◌<◌, cond, List, [], ◌∷◌, ◌==◌, slice_index, Option, None, Some}
use Rattle.fsm_sections.specs.declared.FreeSection.{FreeSection}
use Rattle.fsm_sections.specs.declared.run.Row.{Row}
use Rattle.fsm_sections.specs.declared.run.Rows.{Rows}
use Rattle.fsm_sections.specs.declared.run.Regions.{Regions}
use Rattle.fsm_sections.specs.Sections.{section, of_size}
use Rattle.fsm_sections.specs.Chains.{sections_of}
use Rattle.fsm_sections.specs.Sources.{chains_in}

unfoldable pub regions_of : List ℕ → List FreeSection
regions_of [] = []
regions_of (a ∷ []) = []
regions_of (a ∷ s ∷ xs) = section a s ∷ regions_of xs

abbrev pub regions_left : Regions → List FreeSection
regions_left r = regions_of r.run.now

abbrev pub first_of : List FreeSection → Option FreeSection
first_of [] = None
first_of (x ∷ l) = Some x

abbrev pub rows_left : Rows → List FreeSection
rows_left r = sections_of (chains_in r.part r.page (regions_left r.regions))

abbrev pub GivesRow : Rows → Option Row → Rows → Type 0
GivesRow old None new = rows_left old ≡ []
GivesRow old (Some r) new = (x : ℕ) → of_size x (rows_left old) ≡ cond (x == r.size) r.count 0 + of_size x (rows_left new)

abbrev pub Alike : ℕ → ℕ → List ℕ → Type 0
Alike z n run = (k : ℕ) → k < n → slice_index run (2 * k + 1) ≡ z
