-- `store_managers`: the blocks of a plan in the bytes of a file, and its slots as the file holds them. Assumes nothing.
-- In quotes: document 01's words, from the heading named, or those of document 02's request that is named.
--   stored_in        what O bytes hold of a number ("Fourteen ways to say no": "stored numbers are unsigned, least byte first")
--   stored_slots     the twelve slots of a plan as O bytes hold them. A plan has 2^64 - 1 for an unused slot at every offset size; in O bytes this is
--                    the address "when all bits of its stored width are one" (P2)
--   sections_by_slot each slot's sections by size and then address: what its manager reads as
--   stored_managers  the refusals of `serialize_paged_managers`, 14 by what the bytes have from the place of the first block on; the plan, and the
--                    bytes with its blocks, each at its address plus the base
use Rattle.std.specs.Prelude.{ℕ, ◌+◌, List, map, drop}
use Rattle.error.specs.Outcome.{Outcome, answer, and_then}
use Rattle.error.specs.Lent.{With, with, over}
use Rattle.fields.specs.Le.{le_bytes, le_value}
use Rattle.fsm_sections.specs.declared.FreeSection.{FreeSection}
use Rattle.fsm_sections.specs.Sections.{by_size_then_addr}
use Rattle.fsm_plan.specs.declared.Counts.{Counts}
use Rattle.fsm_plan.specs.declared.blocks.PagedManagerPlan.{PagedManagerPlan}
use Rattle.fsm_plan.specs.declared.blocks.BlocksPlan.{BlocksPlan}
use Rattle.fsm_plan.specs.Blocks.{slots_by}
use Rattle.fsm_writer.specs.Paged.{managers_in, managers_bytes, written_managers}

abbrev pub stored_in : ℕ → ℕ → ℕ
stored_in O a = le_value (le_bytes O a)

abbrev pub stored_slots : ℕ → PagedManagerPlan → List ℕ
stored_slots O p = map (stored_in O) (slots_by p)

module _ (a b c : List ℕ) (n : Counts) (page : ℕ) where
  abbrev pub sections_by_slot : List (List FreeSection)
  sections_by_slot = map (λ m. by_size_then_addr m.sections) (managers_in a b c n page)

  unfoldable pub stored_managers : ℕ → ℕ → ℕ → List ℕ → Outcome (With BlocksPlan (List ℕ))
  stored_managers start base O bytes =
      and_then (written_managers a b c n page start O (drop (start + base) bytes))
      (λ w. answer (with w.value (over (start + base) (managers_bytes a b c n page start O) bytes)))
