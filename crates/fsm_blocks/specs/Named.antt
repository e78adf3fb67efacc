-- Where a manager's section list stands, as the reader finds it. Assumes nothing.
-- In quotes: document 01's words, from "Blocks on file". The first three serve contracts of private functions.
--   full            a header of which only the six fields are known, the others 0
--   named_outcome   the sections of a section list that was found
--   Inside          the list that was found lies within the bytes
--   manager_count   `manager_count`: refusal 1, then the manager's own; how many sections it has ("Each manager's answer is taken apart")
--   slots_count     how many sections all slots have, at most 2^64 - 1 ("the needed count covering all managers")
use Rattle.std.specs.Prelude.{ℕ, ◌+◌, ◌≤◌, not, List, [], ◌∷◌, length, Result, Option, Ok, Err, Some, None}
use Rattle.fsm_blocks.specs.declared.manager.SectionList.{SectionList}
use Rattle.error.specs.declared.Refusal.{Refusal}
use Rattle.error.specs.declared.Refusal.TheVariants.{Width}
use Rattle.error.specs.Outcome.{Outcome, answer, refused, when, first_of, and_then, sat}
use Rattle.fields.specs.Layout.{window}
use Rattle.fields.specs.Width.{valid_width}
use Rattle.fsm_sections.specs.declared.FreeSection.{FreeSection}
use Rattle.fsm_blocks.specs.declared.header.FsmHeader.{FsmHeader}
use Rattle.fsm_blocks.specs.declared.checks.Reading.{Reading}
use Rattle.fsm_blocks.specs.Fshd.{Header}
use Rattle.fsm_blocks.specs.Reading.{read_manager, read_slots, joined}
use Rattle.fsm_blocks.specs.Parts.{counted, sections_by}

abbrev pub full : FsmHeader → Header
full h = record {
  version = 0;
  client = 0;
  space = h.total_space;
  total = h.total_sections;
  serialized = 0;
  ghost = 0;
  classes = 0;
  shrink = 0;
  expand = 0;
  bits = h.addr_space_bits;
  greatest = h.max_section_size;
  fsse = h.fsse_addr;
  used = h.fsse_used;
  allocated = 0;
}

abbrev pub named_outcome : ℕ → List ℕ → Result (Option SectionList) Refusal → Outcome (List FreeSection)
named_outcome O bytes (Ok None) = answer []
named_outcome O bytes (Ok (Some l)) = sections_by l.header O (window l.start l.header.fsse_used bytes)
named_outcome O bytes (Err r) = refused r

abbrev pub Inside : ℕ → Result (Option SectionList) Refusal → Type 0
Inside len (Ok None) = Unit {0}
Inside len (Ok (Some l)) = l.start + l.header.fsse_used ≤ len
Inside len (Err r) = Unit {0}

unfoldable pub manager_count : Reading → ℕ → ℕ → ℕ → List ℕ → Outcome ℕ
manager_count how O base slot bytes = first_of (when (not (valid_width O)) Width ∷ []) (counted (read_manager how O base slot bytes))

unfoldable pub slots_count : Reading → ℕ → ℕ → List ℕ → List ℕ → Outcome ℕ
slots_count how O base slots bytes = and_then (read_slots how O base slots bytes) (λ ls. answer (sat (length (joined ls))))
