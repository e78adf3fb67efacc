-- `split_at_pages` over lent runs of pairs (document 01, "Pages and slots": "`split_at_pages` cuts at every page multiple; empty sections
-- vanish"). Assumes nothing.
--   split_tests     refusals 2, 3, 4, in this order
--   split_count     `split_count`: those; then how many pieces there are, at most 2^64 - 1
--   split_into      `split_at_pages`: refusals 2, 3, 4, then 14 with the exact number of pieces (at most 2^64 - 1); the pieces in input order
use Rattle.std.specs.Prelude.{ℕ, not, List, [], ◌∷◌, eqb, length}
use Rattle.error.specs.declared.Refusal.TheVariants.{Page, NotAList, Overflow}
use Rattle.error.specs.Outcome.{Outcome, answer, Condition, when, first_of, sat}
use Rattle.error.specs.Lent.{With}
use Rattle.pairs.specs.Pairs.{is_even, is_run}
use Rattle.fsm_sections.specs.Sections.{decode}
use Rattle.fsm_sections.specs.Pages.{split}
use Rattle.fsm_sections.specs.Runs.{ends_above}
use Rattle.fsm_blocks.specs.Reading.{into_run}

abbrev pub split_tests : List ℕ → ℕ → ℕ → List Condition
split_tests xs n page = when (eqb page 0) Page ∷ when (not (is_run xs n)) NotAList ∷ when (ends_above (decode n xs)) Overflow ∷ []

unfoldable pub split_count : List ℕ → ℕ → ℕ → Outcome ℕ
split_count xs n page = first_of (split_tests xs n page) (answer (sat (length (split page (decode n xs)))))

unfoldable pub split_into : List ℕ → ℕ → ℕ → List ℕ → Outcome (With ℕ (List ℕ))
split_into xs n page out =
    first_of
    (when (eqb page 0) Page
    ∷ when (not (is_run xs n)) NotAList
    ∷ when (not (is_even out)) NotAList
    ∷ when (ends_above (decode n xs)) Overflow
    ∷ [])
    (into_run out (split page (decode n xs)))
