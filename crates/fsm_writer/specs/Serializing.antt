-- The writer's public entries over a run of sections. Assumes nothing.
-- In quotes: document 01's words, from "Blocks on file", from the refusal of that number or from the heading named.
--   of_run           a run of sections and its count: refusals 1, 3 ("Runs of sections are tested for odd length and count alone"), 4 ("a sum of
--                    section sizes")
--   blocks_len       "`file_fsm_blocks_len` is 0 without sections, else both lengths added"
--   written_fshd     `serialize_fshd`: the header at the front of the lent bytes; refusals of of_run, 12, 14
--   written_fsse     `serialize_fsse`: the section list at the front of the lent bytes ("Size 0 and duplicates are written"); the same refusals
use Rattle.std.specs.Prelude.{ℕ, ◌/◌, ◌%◌, not, ◌||◌, List, [], ◌∷◌, ltb, eqb, length}
use Rattle.error.specs.declared.Refusal.TheVariants.{Width, NotAList, Overflow, WideAddress, OverCapacity}
use Rattle.error.specs.Outcome.{Outcome, answer, when, first_of, and_then}
use Rattle.error.specs.Lent.{With, with, over}
use Rattle.fields.specs.Ranges.{top}
use Rattle.fields.specs.Width.{valid_width}
use Rattle.checksum.specs.Lookup3.{lookup3}
use Rattle.fsm_sections.specs.declared.FreeSection.{FreeSection}
use Rattle.fsm_sections.specs.Sections.{decode, space}
use Rattle.fsm_sections.specs.Runs.{wide, any_wide}
use Rattle.fsm_blocks.specs.Fshd.{fshd_bytes, fshd_size}
use Rattle.fsm_blocks.specs.Settings.{starting_set, header_for, fsse_for, fsse_used, blocks_size}

unfoldable pub of_run : ℕ → List ℕ → ℕ → Outcome (List FreeSection)
of_run O run n =
    first_of
    (when (not (valid_width O)) Width
    ∷ when (not (eqb (length run % 2) 0) || ltb (length run / 2) n) NotAList
    ∷ when (ltb top (space (decode n run))) Overflow
    ∷ [])
    (answer (decode n run))

unfoldable pub blocks_len : ℕ → List ℕ → ℕ → Outcome ℕ
blocks_len O run n = and_then (of_run O run n) (λ l. answer (blocks_size O l))

unfoldable pub written_fshd : ℕ → List ℕ → ℕ → ℕ → List ℕ → Outcome (With ℕ (List ℕ))
written_fshd O run n fsse out =
    and_then (of_run O run n)
    (λ l. first_of
    (when (wide O fsse) WideAddress
    ∷ when (ltb (length out) (fshd_size O)) (OverCapacity (fshd_size O) (length out))
    ∷ [])
    (answer (with (fshd_size O) (over 0 (fshd_bytes lookup3 O (header_for O (starting_set O) fsse l)) out))))

unfoldable pub written_fsse : ℕ → List ℕ → ℕ → ℕ → ℕ → List ℕ → Outcome (With ℕ (List ℕ))
written_fsse O run n fshd class out =
    and_then (of_run O run n)
    (λ l. first_of
    (when (wide O fshd || any_wide O l) WideAddress
    ∷ when (ltb (length out) (fsse_used O (starting_set O) l)) (OverCapacity (fsse_used O (starting_set O) l) (length out))
    ∷ [])
    (answer (with (fsse_used O (starting_set O) l) (over 0 (fsse_for O (starting_set O) lookup3 fshd class l) out))))
