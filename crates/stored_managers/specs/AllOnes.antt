-- DOCUMENT 02's P2, "All ones at narrow sizes", one claim about reading and plan at every offset size. Assumes nothing.
-- In quotes: P2's words.
--   Begins        where a slot has blocks, both begin below the undefined address
--   begins_at     a slot has blocks, and one begins at an address; any_begins_at one of the three of a plan has
--   blocks, sections   the bytes of a plan's blocks; the sections of all its slots, in reading order
--   StoredPlan    what holds of an accepted plan: its blocks begin below 2^(8O)−1. Stored in O bytes its slots are where its headers stand, and all
--                 ones where it has none. In any bytes in which its blocks stand at their addresses plus any base, these slots read as each slot's
--                 sections, by size and then address; and so answer `read_persisted_sections` and `read_persisted_sections_strict`, into any lent
--                 run with room. This and what follows of readings holds of the loose and of the strict one (P5)
--   AllOnes       "The reader skips 2^(8O)−1 at offset size O" (slot_skipped) "and no other address" (slot-other, and slot-there: a header that is
--                 read stands in the data) "in a slot and in the FSSE field" (list_skipped, list-other, list-there). Below 8 bytes 2^64 - 1 is an
--                 address past every file (greatest-refused). "a plan that begins a block there is 12", "In this alone": the plan is the one that
--                 asks only that addresses fit, and then this test (plan_is); so what a plan accepts is read back (stored). "8-byte ones as before":
--                 64 one bits are skipped (slot-at_8, list-at_8), and no plan meets the new test (plan_at_8)
use Rattle.std.specs.Prelude.{◌≡◌, ℕ, ◌+◌, ◌/◌, ◌%◌, ◌^◌, ◌≤◌, ◌<◌, Bool, cond, ◌&&◌, ◌||◌, not, List, [], ◌∷◌, eqb, length}
use Rattle.error.specs.declared.Refusal.TheVariants.{InvalidManager, WideAddress}
use Rattle.error.specs.Outcome.{answer, refused, when, first_of, and_then}
use Rattle.error.specs.Lent.{with, over}
use Rattle.fields.specs.Layout.{window}
use Rattle.fields.specs.Ranges.{top, undefined_addr}
use Rattle.fsm_sections.specs.declared.FreeSection.{FreeSection}
use Rattle.fsm_sections.specs.Sections.{flat}
use Rattle.fsm_blocks.specs.Fshd.{Header, fshd_size}
use Rattle.fsm_blocks.specs.Settings.{starting_set}
use Rattle.fsm_blocks.specs.declared.checks.Reading.{Reading}
use Rattle.fsm_blocks.specs.Reading.{list_at, read_named, manager_at, read_manager, read_slots, joined, persisted}
use Rattle.fsm_plan.specs.declared.Counts.{Counts}
use Rattle.fsm_plan.specs.declared.blocks.PagedManagerBlock.{PagedManagerBlock}
use Rattle.fsm_plan.specs.declared.blocks.PagedManagerPlan.{PagedManagerPlan}
use Rattle.fsm_plan.specs.declared.blocks.BlocksPlan.{BlocksPlan}
use Rattle.fsm_plan.specs.Managers.{slots_from}
use Rattle.fsm_plan.specs.Blocks.{planned_below, planned_blocks}
use Rattle.fsm_writer.specs.Paged.{managers_in, managers_bytes}
use Rattle.stored_managers.specs.Storing.{stored_slots, sections_by_slot}

abbrev pub Begins : ℕ → PagedManagerBlock → Type 0
Begins O b = (b.count ≡ 0 → ⊥) → (b.fshd_addr < undefined_addr O) × (b.fsse_addr < undefined_addr O)

-- a, b and c are runs of metadata, raw and unclassified regions, n says how many each has
module _ (a b c : List ℕ) (n : Counts) (page start O : ℕ) where
  abbrev pub blocks : List ℕ
  blocks = managers_bytes a b c n page start O

  abbrev pub sections : List FreeSection
  sections = joined (sections_by_slot a b c n page)

  pub record StoredPlan (p : BlocksPlan) : Type 0 where
    pub begins0 : Begins O p.managers.slot0
    pub begins2 : Begins O p.managers.slot2
    pub begins6 : Begins O p.managers.slot6
    pub slots : stored_slots O p.managers ≡ slots_from O (starting_set O) start (managers_in a b c n page)
    pub read : (how : Reading) (base : ℕ) (bytes : List ℕ) → length bytes < 2 ^ 64 → window (start + base) (length blocks) bytes ≡ blocks
        → read_slots how O base (stored_slots O p.managers) bytes ≡ answer (sections_by_slot a b c n page)
    pub persisted_read : (how : Reading) (base : ℕ) (bytes : List ℕ) → length bytes < 2 ^ 64 → window (start + base) (length blocks) bytes ≡ blocks
        → (out : List ℕ) → length out % 2 ≡ 0 → length sections ≤ length out / 2
        → persisted how (stored_slots O p.managers) base O bytes out ≡ answer (with (length sections) (over 0 (flat sections) out))

abbrev pub begins_at : ℕ → PagedManagerBlock → Bool
begins_at x b = not (eqb b.count 0) && (eqb b.fshd_addr x || eqb b.fsse_addr x)

abbrev pub any_begins_at : ℕ → PagedManagerPlan → Bool
any_begins_at x p = begins_at x p.slot0 || (begins_at x p.slot2 || begins_at x p.slot6)

pub record AllOnes : Type 0 where
  pub slot_skipped : (how : Reading) (O base : ℕ) (bytes : List ℕ) → read_manager how O base (undefined_addr O) bytes ≡ answer []
  pub slot-other : (how : Reading) (O base slot : ℕ) (bytes : List ℕ) → (slot ≡ undefined_addr O → ⊥) → read_manager how O base slot bytes ≡ manager_at how O base slot bytes
  pub slot-there : (how : Reading) (O base slot : ℕ) (bytes : List ℕ) (l : List FreeSection) → (slot ≡ undefined_addr O → ⊥) → read_manager how O base slot bytes ≡ answer l
      → slot + base + fshd_size O ≤ length bytes
  pub list_skipped : (how : Reading) (O base slot : ℕ) (h : Header) (bytes : List ℕ) → h.fsse ≡ undefined_addr O → read_named how O base slot h bytes ≡ answer []
  pub list-other : (how : Reading) (O base slot : ℕ) (h : Header) (bytes : List ℕ) → (h.fsse ≡ undefined_addr O → ⊥) → read_named how O base slot h bytes ≡ list_at how O base slot h bytes
  pub list-there : (how : Reading) (O base slot : ℕ) (h : Header) (bytes : List ℕ) (l : List FreeSection) → (h.fsse ≡ undefined_addr O → ⊥) → read_named how O base slot h bytes ≡ answer l
      → h.fsse + base + h.used ≤ length bytes
  pub greatest-refused : (how : Reading) (O base : ℕ) (bytes : List ℕ) → O < 8 → length bytes < top → read_manager how O base top bytes ≡ refused InvalidManager
  pub stored : (a b c : List ℕ) (n : Counts) (page start O : ℕ) (p : BlocksPlan) → planned_blocks a b c n page start O ≡ answer p
      → StoredPlan a b c n page start O p
  pub plan_is : (a b c : List ℕ) (n : Counts) (page start O : ℕ) → planned_blocks a b c n page start O
      ≡ and_then (planned_below a b c (256 ^ O) n page start O)
      (λ p. first_of (when (any_begins_at (undefined_addr O) p.managers) WideAddress ∷ []) (answer p))
  pub slot-at_8 : (how : Reading) (base slot : ℕ) (bytes : List ℕ) → read_manager how 8 base slot bytes ≡ cond (eqb slot top) (answer []) (manager_at how 8 base slot bytes)
  pub list-at_8 : (how : Reading) (base slot : ℕ) (h : Header) (bytes : List ℕ) → read_named how 8 base slot h bytes ≡ cond (eqb h.fsse top) (answer []) (list_at how 8 base slot h bytes)
  pub plan_at_8 : (a b c : List ℕ) (n : Counts) (page start : ℕ) → planned_blocks a b c n page start 8 ≡ planned_below a b c (256 ^ 8) n page start 8
