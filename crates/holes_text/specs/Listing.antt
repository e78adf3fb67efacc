-- The text that lists sections, and that of a refusal: numbers in decimal, single spaces, a newline at the end of every line. Assumes nothing.
-- In quotes: document 01's words, from "Checked by hand".
--   header         "A line of names": slot address size
--   row_text       the line of a section in a slot: "values, single spaces, decimal"
--   slot_text      the lines of a slot's sections
--   slots_text     the lines of slots, the first of which has number i
--   listing_text   the listing of each slot's sections: the line of names, then a line for each section, slot by slot from slot 0
--   refused_line   the line "refused"
--   refused_text   "A refusal prints only the line `refused` and a line with the number"
--   slots_of       each slot's sections in a run: a slot has as many pairs as its count says, after those of the slots before it
use Rattle.std.specs.Prelude.{ℕ, suc, ◌*◌, List, [], ◌∷◌, ◌++◌, drop}
use Rattle.fsm_sections.specs.declared.FreeSection.{FreeSection}
use Rattle.fsm_sections.specs.Sections.{decode}
use Rattle.text.specs.Text.{word}

abbrev space : ℕ
space = 32

abbrev newline : ℕ
newline = 10

abbrev pub header : List ℕ
header =
    115 ∷ 108 ∷ 111 ∷ 116 ∷ space ∷ 97 ∷ 100 ∷ 100 ∷ 114 ∷ 101 ∷ 115 ∷ 115 ∷ space ∷ 115 ∷ 105 ∷ 122 ∷ 101 ∷ newline ∷ []

abbrev pub row_text : ℕ → FreeSection → List ℕ
row_text i s = word i space ++ (word s.addr space ++ word s.size newline)

unfoldable pub slot_text : ℕ → List FreeSection → List ℕ
slot_text i [] = []
slot_text i (s ∷ l) = row_text i s ++ slot_text i l

unfoldable pub slots_text : ℕ → List (List FreeSection) → List ℕ
slots_text i [] = []
slots_text i (l ∷ ls) = slot_text i l ++ slots_text (suc i) ls

unfoldable pub listing_text : List (List FreeSection) → List ℕ
listing_text ls = header ++ slots_text 0 ls

abbrev pub refused_line : List ℕ
refused_line = 114 ∷ 101 ∷ 102 ∷ 117 ∷ 115 ∷ 101 ∷ 100 ∷ newline ∷ []

unfoldable pub refused_text : ℕ → List ℕ
refused_text n = refused_line ++ word n newline

-- ---- sections in a run

unfoldable pub slots_of : List ℕ → List ℕ → List (List FreeSection)
slots_of [] run = []
slots_of (n ∷ counts) run = decode n run ∷ slots_of counts (drop (2 * n) run)
