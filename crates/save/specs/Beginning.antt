-- What the contracts of the private functions of a beginning say. No public contract cites this file. Assumes nothing.
--   counts_in      how many regions three lists have
--   away_tests     refusals 8, 9, and 13 for the message and the free regions: those that no plan is needed for; early_tests 5 before them
--   begun_after    a beginning where none of these holds: refusals 4, 13 for the blocks, 14; the record and the scratch
--   message_by     the message by a plan
use Rattle.std.specs.Prelude.{ℕ, ◌+◌, true, ◌&&◌, ◌||◌, not, List, [], ◌∷◌, ltb, eqb, length, get_or}
use Rattle.error.specs.declared.Refusal.TheVariants as refusal
use Rattle.error.specs.Outcome.{Outcome, answer, Condition, when, first_of}
use Rattle.error.specs.Lent.{With, with}
use Rattle.free_lists.specs.declared.FileLists.{FileLists}
use Rattle.free_lists.specs.Lists.{Regions, shared_byte}
use Rattle.fsm_plan.specs.declared.Counts.{Counts}
use Rattle.fsm_plan.specs.declared.blocks.PagedManagerPlan.{PagedManagerPlan}
use Rattle.fsm_plan.specs.Blocks.{slots_by}
use Rattle.file_space_info.specs.declared.FileSpaceStrategy.TheVariants as strategy
use Rattle.file_space_info.specs.Message.{message_len, message_bytes}
use Rattle.file_space_info.specs.Infos.{made}
use Rattle.save_step.specs.declared.Save.{Save}
use Rattle.save.specs.Saving.{block_len, too_large, message_in, blocks_out, any_in_the_way, first_record, filled}

abbrev pub counts_in : FileLists → Counts
counts_in f = record { meta = f.metadata.count; raw = f.raw.count; unclassified = f.unclassified.count }

-- ---- the tests

module _ (rs : Regions) (start place : ℕ) (image : List ℕ) where
  abbrev pub away_tests : List Condition
  away_tests =
      let version = get_or image place 0 in
      let code = get_or image (place + 1) 0 in
      when (message_in place image && not (eqb version 1)) (refusal.MessageVersion version)
      ∷ when (message_in place image && ltb 3 code) (refusal.Strategy code)
      ∷ when (not (message_in place image) || any_in_the_way start place rs) refusal.Place
      ∷ []

  abbrev pub early_tests : List Condition
  early_tests = when (shared_byte rs) refusal.SharedAddress ∷ away_tests

unfoldable pub begun_after : Regions → ℕ → ℕ → ℕ → List ℕ → List ℕ → Outcome (With Save (List ℕ))
begun_after rs page start place image scratch =
    let L = block_len page rs in
    first_of
    (when (too_large page start rs) refusal.Overflow
    ∷ when (blocks_out L start place image) refusal.Place
    ∷ when (ltb (length scratch) (L + message_len)) (refusal.OverCapacity (L + message_len) (length scratch))
    ∷ [])
    (answer (with (first_record rs page start place) (filled page start rs scratch)))

-- ---- the message

abbrev pub message_by : ℕ → ℕ → PagedManagerPlan → List ℕ
message_by page start p = message_bytes 8 8 (made true strategy.Page 1 page start) (slots_by p)
