-- What the functions within the reader take and answer, for the contracts of private functions. Assumes nothing.
--   got           the list that an outcome answers; none where it is a refusal
--   Accepted      the outcome is an answer
--   counted       how many sections an outcome answers
--   addresses     the addresses of c entries, each w bytes and a class byte
--   widths_in     the widths that the code holds
--   Narrow        they are at most 8, and a count takes a byte at least
--   WidthsOf      they are those of a header
--   sections_by   the sections of a section list, by its header: `parse_fsse` by the fields of an `FsmHeader`
use Rattle.std.specs.Prelude.{ℕ, zero, suc, ◌≤◌, ◌≡◌, List, [], ◌∷◌, length, drop}
use Rattle.error.specs.Outcome.{Outcome, answer, nothing, refuse, and_then}
use Rattle.fields.specs.Layout.{le_at}
use Rattle.fsm_sections.specs.declared.FreeSection.{FreeSection}
use Rattle.fsm_blocks.specs.declared.header.FsmHeader.{FsmHeader}
use Rattle.fsm_blocks.specs.declared.groups.GroupWidths.{GroupWidths}
use Rattle.fsm_blocks.specs.Groups.{Widths}
use Rattle.fsm_blocks.specs.Fsse.{widths_of, parse_fsse}

abbrev pub got : {A : Type 0} → Outcome (List A) → List A
got (answer l) = l
got nothing = []
got (refuse n vs) = []

abbrev pub Accepted : {A : Type 0} → Outcome (List A) → Type 0
Accepted o = o ≡ answer (got o)

abbrev pub counted : Outcome (List FreeSection) → Outcome ℕ
counted o = and_then o (λ l. answer (length l))

unfoldable pub addresses : ℕ → ℕ → List ℕ → List ℕ
addresses w zero bs = []
addresses w (suc c) bs = le_at 0 w bs ∷ addresses w c (drop (suc w) bs)

-- ---- widths

abbrev pub widths_in : GroupWidths → Widths
widths_in w = record { counts = w.counts; sizes = w.sizes; addresses = w.addresses }

pub record Narrow (w : GroupWidths) : Type 0 where
  pub some : 1 ≤ w.counts
  pub counts_few : w.counts ≤ 8
  pub sizes_few : w.sizes ≤ 8
  pub addresses_few : w.addresses ≤ 8

pub record WidthsOf (h : FsmHeader) (w : GroupWidths) : Type 0 where
  pub same : widths_in w ≡ widths_of h.total_sections h.max_section_size h.addr_space_bits
  pub narrow : Narrow w

-- ---- a section list by its header

abbrev pub sections_by : FsmHeader → ℕ → List ℕ → Outcome (List FreeSection)
sections_by h O bs = parse_fsse O h.addr_space_bits h.max_section_size h.total_sections bs
