-- `serialize_paged_managers`: all blocks of a paged file's managers, planned and written into a lent slice. Assumes nothing.
-- In quotes: document 01's words, from "Pages and slots" or "The save".
--   managers_in        the twelve managers of three runs of regions; managers_bytes the bytes of their blocks from an address on
--   written_managers   refusals 1 to 5 and 12 of the plan, then 14; the plan, and its blocks at the front of the lent bytes: "Non-empty slots
--                     get FSHD then FSSE, from `start` on, in order 0, 2, 6" ("Scratch receives all blocks of their plan")
use Rattle.std.specs.Prelude.{ℕ, List, [], ◌∷◌, ltb, length}
use Rattle.error.specs.declared.Refusal.TheVariants.{OverCapacity}
use Rattle.error.specs.Outcome.{Outcome, answer, when, first_of, and_then}
use Rattle.error.specs.Lent.{With, with, over}
use Rattle.checksum.specs.Lookup3.{lookup3}
use Rattle.fsm_sections.specs.Sections.{decode}
use Rattle.fsm_blocks.specs.Settings.{starting_set}
use Rattle.fsm_plan.specs.declared.Counts.{Counts}
use Rattle.fsm_plan.specs.declared.blocks.BlocksPlan.{BlocksPlan}
use Rattle.fsm_plan.specs.Managers.{Manager, managers_of, size_of, blocks_from}
use Rattle.fsm_plan.specs.Blocks.{planned_blocks}

module _ (a b c : List ℕ) (n : Counts) (page : ℕ) where
  abbrev pub managers_in : List Manager
  managers_in = managers_of page (decode n.meta a) (decode n.raw b) (decode n.unclassified c)

  abbrev pub managers_bytes : ℕ → ℕ → List ℕ
  managers_bytes start O = blocks_from O (starting_set O) lookup3 start managers_in

  unfoldable pub written_managers : ℕ → ℕ → List ℕ → Outcome (With BlocksPlan (List ℕ))
  written_managers start O out =
      let len = size_of O (starting_set O) managers_in in
      and_then (planned_blocks a b c n page start O)
      (λ p. first_of (when (ltb (length out) len) (OverCapacity len (length out)) ∷ [])
      (answer (with p (over 0 (managers_bytes start O) out))))
