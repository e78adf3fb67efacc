-- `plan_blocks`: how many sections slots 0, 2 and 6 have, how long their blocks are, and where they stand. Assumes nothing.
-- In quotes: document 01's words, from "Pages and slots", from the refusal of that number or from the heading named, or those of document 02's
-- request that is named.
--   paged            three counts and a page size together
--   in_slot0, in_slot2, in_large   the sections of slots 0, 2 and 6: "metadata pieces below a page go to slot 0, raw ones to slot 2, whole pages of
--                    either to slot 6 with unclassified sections unsplit"
--   wide_sections    an address of one of them does not fit O bytes (refusal 12: "a written address doesn't fit the offset size")
--   size_tests       refusal 4: "a sum of section sizes", or the blocks' length, exceeds 2^64 - 1
--   measure_of       the sum of the sizes of sections, their number and the length of their blocks; measured the same after size_tests
--   measures_of      of the sections of slots 0, 2 and 6; slots_measured the same after the tests of each
--   address_in       a block's address in a slot of n sections: the undefined one of 8 bytes where it has none, at every offset size
--   block_at         the blocks of a slot from an address on: "Non-empty slots get FSHD then FSSE", and the class of its sections
--   end_at           where the blocks of all slots end
--   managers_at      the blocks "from `start` on, in order 0, 2, 6"; "Class 1 for slots 0 and 2, class 2 for slot 6"; and the end
--   slots_by         the twelve slots of the message by a plan ("The save": "unused ones all one bits")
--   blocks_at        with the measures
--   wide_block       a slot has blocks, and one begins at an address that is not below a limit; wide_managers one of the three has
--   Placed           the blocks end within 64 bits, and those of a slot with sections have room for its FSHD: for contracts of private functions
--   run_tests        refusals 1, 2, 3, and 4 for a region that ends above top ("address plus length")
--   planned_from     refusals 4 (the end: "a planned address"), 5 ("two slot 6 sections have one address"), 12 for a block that does not begin below
--                    the limit and for a section's address ("a written address doesn't fit the offset size"); the plan
--   planned_below    refusals 1 to 4 of the runs, 4 of each slot, and then planned_from
--   planned_blocks   `plan_blocks`: the limit is the undefined address of O bytes. A block that begins below it has an address that fits, and that no
--                    reader skips (P2: "a plan that begins a block there is 12")
--   Ready            what holds after run_tests and slots_measured: for contracts of private functions
use Rattle.std.specs.Prelude.{◌≡◌, ℕ, ◌+◌, ◌≤◌, Bool, false, cond, ◌&&◌, ◌||◌, not, List, [], ◌∷◌, ltb, leb, eqb, length}
use Rattle.error.specs.declared.Refusal.TheVariants.{Width, Page, NotAList, Overflow, SharedAddress, WideAddress}
use Rattle.error.specs.Outcome.{Outcome, answer, Condition, when, first_of, and_then}
use Rattle.fields.specs.Ranges.{top, undefined_addr}
use Rattle.fields.specs.Width.{valid_width}
use Rattle.pairs.specs.Pairs.{is_run}
use Rattle.fsm_sections.specs.declared.FreeSection.{FreeSection}
use Rattle.fsm_sections.specs.Sections.{decode, space}
use Rattle.fsm_sections.specs.Pages.{slot0, slot2, slot6}
use Rattle.fsm_sections.specs.Sources.{Given}
use Rattle.fsm_sections.specs.Runs.{ends_above, any_wide}
use Rattle.fsm_blocks.specs.Fshd.{fshd_size}
use Rattle.fsm_blocks.specs.Settings.{blocks_size}
use Rattle.fsm_plan.specs.declared.Counts.{Counts}
use Rattle.fsm_plan.specs.declared.chains.Paged.{Paged}
use Rattle.fsm_plan.specs.declared.measure.Measure.{Measure}
use Rattle.fsm_plan.specs.declared.blocks.Measures.{Measures}
use Rattle.fsm_plan.specs.declared.blocks.PagedManagerBlock.{PagedManagerBlock}
use Rattle.fsm_plan.specs.declared.blocks.PagedManagerPlan.{PagedManagerPlan}
use Rattle.fsm_plan.specs.declared.blocks.BlocksPlan.{BlocksPlan}
use Rattle.fsm_plan.specs.Order.{repeats, source_of}

-- ---- the sections of the slots

abbrev pub paged : Counts → ℕ → Paged
paged n page = record { na = n.meta; nb = n.raw; nc = n.unclassified; page = page }

module _ (s : Paged) (a b c : List ℕ) where
  abbrev pub in_slot0 : List FreeSection
  in_slot0 = slot0 s.page (decode s.na a)

  abbrev pub in_slot2 : List FreeSection
  in_slot2 = slot2 s.page (decode s.nb b)

  abbrev pub in_large : List FreeSection
  in_large = slot6 s.page (decode s.na a) (decode s.nb b) (decode s.nc c)

  abbrev pub wide_sections : ℕ → Bool
  wide_sections O = any_wide O in_slot0 || (any_wide O in_slot2 || any_wide O in_large)

-- ---- their measures

abbrev pub size_tests : ℕ → List FreeSection → List Condition
size_tests O l = when (ltb top (space l)) Overflow ∷ when (ltb top (blocks_size O l)) Overflow ∷ []

abbrev pub measure_of : ℕ → List FreeSection → Measure
measure_of O l = record { space = space l; count = length l; len = blocks_size O l }

unfoldable pub measured : ℕ → List FreeSection → Outcome Measure
measured O l = first_of (size_tests O l) (answer (measure_of O l))

module _ (s : Paged) (a b c : List ℕ) (O : ℕ) where
  abbrev pub measures_of : Measures
  measures_of = record { slot0 = measure_of O (in_slot0 s a b c); slot2 = measure_of O (in_slot2 s a b c); slot6 = measure_of O (in_large s a b c) }

  unfoldable pub slots_measured : Outcome Measures
  slots_measured =
      first_of (size_tests O (in_slot0 s a b c))
      (first_of (size_tests O (in_slot2 s a b c)) (first_of (size_tests O (in_large s a b c)) (answer measures_of)))

-- ---- where the blocks stand

abbrev pub address_in : ℕ → ℕ → ℕ
address_in n a = cond (eqb n 0) (undefined_addr 8) a

abbrev pub block_at : ℕ → ℕ → ℕ → Measure → PagedManagerBlock
block_at O class a m =
    record { fshd_addr = address_in m.count a; fsse_addr = address_in m.count (a + fshd_size O); class = class; count = m.count }

abbrev pub end_at : ℕ → Measures → ℕ
end_at start m = start + m.slot0.len + m.slot2.len + m.slot6.len

abbrev pub managers_at : ℕ → ℕ → Measures → PagedManagerPlan
managers_at O start m = record {
  slot0 = block_at O 1 start m.slot0;
  slot2 = block_at O 1 (start + m.slot0.len) m.slot2;
  slot6 = block_at O 2 (start + m.slot0.len + m.slot2.len) m.slot6;
  end_of_managers = end_at start m;
}

abbrev pub slots_by : PagedManagerPlan → List ℕ
slots_by p =
    p.slot0.fshd_addr ∷ top ∷ p.slot2.fshd_addr ∷ top ∷ top ∷ top ∷ p.slot6.fshd_addr ∷ top ∷ top ∷ top ∷ top ∷ top ∷ []

abbrev pub blocks_at : ℕ → ℕ → Measures → BlocksPlan
blocks_at O start m = record { managers = managers_at O start m; measures = m }

abbrev pub wide_block : ℕ → PagedManagerBlock → Bool
wide_block limit b = not (eqb b.count 0) && (leb limit b.fshd_addr || leb limit b.fsse_addr)

abbrev pub wide_managers : ℕ → PagedManagerPlan → Bool
wide_managers limit p = wide_block limit p.slot0 || (wide_block limit p.slot2 || wide_block limit p.slot6)

pub record Placed (O start : ℕ) (m : Measures) : Type 0 where
  pub end : end_at start m ≤ top
  pub room0 : (m.slot0.count ≡ 0 → ⊥) → fshd_size O ≤ m.slot0.len
  pub room2 : (m.slot2.count ≡ 0 → ⊥) → fshd_size O ≤ m.slot2.len
  pub room6 : (m.slot6.count ≡ 0 → ⊥) → fshd_size O ≤ m.slot6.len

-- ---- the plan

module _ (a b c : List ℕ) where
  abbrev pub run_tests : Counts → ℕ → ℕ → List Condition
  run_tests n page O =
      when (not (valid_width O)) Width
      ∷ when (eqb page 0) Page
      ∷ when (not (is_run a n.meta && (is_run b n.raw && is_run c n.unclassified))) NotAList
      ∷ when (ends_above (decode n.meta a) || (ends_above (decode n.raw b) || ends_above (decode n.unclassified c))) Overflow
      ∷ []

  unfoldable pub planned_from : ℕ → Paged → Measures → ℕ → ℕ → Outcome BlocksPlan
  planned_from limit s m start O =
      first_of
      (when (ltb top (end_at start m)) Overflow
      ∷ when (repeats (in_large s a b c)) SharedAddress
      ∷ when (wide_managers limit (managers_at O start m) || wide_sections s a b c O) WideAddress
      ∷ [])
      (answer (blocks_at O start m))

  abbrev pub planned_below : ℕ → Counts → ℕ → ℕ → ℕ → Outcome BlocksPlan
  planned_below limit n page start O =
      let s = paged n page in
      first_of (run_tests n page O)
      (and_then (slots_measured s a b c O) (λ m. planned_from limit s m start O))

  unfoldable pub planned_blocks : Counts → ℕ → ℕ → ℕ → Outcome BlocksPlan
  planned_blocks n page start O = planned_below (undefined_addr O) n page start O

  pub record Ready (s : Paged) (O : ℕ) (m : Measures) : Type 0 where
    pub width : not (valid_width O) ≡ false
    pub given : Given (source_of s) a b c
    pub fits_a : ends_above (decode s.na a) ≡ false
    pub fits_b : ends_above (decode s.nb b) ≡ false
    pub measures : m ≡ measures_of s a b c O
