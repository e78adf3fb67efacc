-- `split_at_pages` over a lent run of records (document 01, "Eight files": "`split_at_pages` also fills a lent run of FreeSection records").
-- Assumes nothing.
--   at_front        records at the front of a run, the rest of it unchanged
--   refusals        2, 3 and 4 as over pairs (a run of records has no odd length), then 14 with the exact number of pieces (at most 2^64 - 1)
--   split_records   `split_at_pages`: the pieces in input order at the front of the lent run, or the first refusal ("Language forms": "one thin
--                   function over &mut [FreeSection]")
--   split_answer    the same without the run: how many pieces there are, where a run of `room` records holds them
--   cut_off         sections with the first bytes of the first one cut off. This and the next serve contracts of private functions
--   pieces_left     the pieces that are left where d bytes of section i are cut
use Rattle.std.specs.Prelude.{ℕ, ◌+◌, ◌-◌, List, [], ◌∷◌, ◌++◌, ltb, length, drop}
use Rattle.error.specs.declared.Refusal.TheVariants.{OverCapacity}
use Rattle.error.specs.Outcome.{Outcome, answer, Condition, when, first_of, sat}
use Rattle.error.specs.Lent.{With, with}
use Rattle.fsm_sections.specs.declared.FreeSection.{FreeSection}
use Rattle.fsm_sections.specs.Sections.{section, decode}
use Rattle.fsm_sections.specs.Pages.{split}
use Rattle.fsm_pages.specs.Split.{split_tests}

abbrev pub at_front : List FreeSection → List FreeSection → List FreeSection
at_front l out = l ++ drop (length l) out

abbrev pub refusals : List ℕ → ℕ → ℕ → ℕ → List Condition
refusals xs n page room =
    let l = length (split page (decode n xs)) in
    split_tests xs n page ++ (when (ltb room l) (OverCapacity (sat l) room) ∷ [])

unfoldable pub split_records : List ℕ → ℕ → ℕ → List FreeSection → Outcome (With ℕ (List FreeSection))
split_records xs n page out =
    let l = split page (decode n xs) in
    first_of (refusals xs n page (length out)) (answer (with (length l) (at_front l out)))

unfoldable pub split_answer : List ℕ → ℕ → ℕ → ℕ → Outcome ℕ
split_answer xs n page room = first_of (refusals xs n page room) (answer (length (split page (decode n xs))))

abbrev pub cut_off : ℕ → List FreeSection → List FreeSection
cut_off d [] = []
cut_off d (s ∷ l) = section (s.addr + d) (s.size - d) ∷ l

unfoldable pub pieces_left : ℕ → ℕ → List ℕ → ℕ → ℕ → List FreeSection
pieces_left page n xs i d = split page (cut_off d (drop i (decode n xs)))
