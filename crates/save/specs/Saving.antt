-- The beginning of a save: the plan of the regions of three lists, the conditions under which it is refused, and what it puts into the scratch.
-- Offset size 8 and the starting set of the writer's settings. Assumes nothing.
-- In quotes: document 01's words, from "The save", from the refusal of that number or from the heading named.
--   as_sections     regions as sections
--   small, small_raw, large   the sections of slots 0, 2 and 6 ("Pages and slots")
--   plan            the twelve managers of "Three lists (metadata, raw, unclassified)"
--   block_len       "L block bytes": how many bytes all blocks of the plan are
--   block_bytes     these bytes ("Pages and slots": "from `start` on, in order 0, 2, 6")
--   slot_addrs      the twelve slots of the message: "unused ones all one bits"
--   message_of      "Message values: Page, persist, threshold 1, the page size, 0, `start`, slots"
--   too_large       refusal 4: "a sum of section sizes" of a slot, or where the blocks end ("a planned address")
--   message_in      the message's bytes are in the image: "its 125 bytes, if in the image, must be an accepted message, else 8 or 9"
--   blocks_out      there are blocks, and they leave the image or overlap the message
--   ends_past       a region ends past an address
--   in_the_way, any_in_the_way   a free region of a list, of three, "ends past `start` or meets the message"
--   misplaced       refusal 13: "message or blocks leave the image, they overlap each other", or a free region is in the way
--   place_tests     refusals 8, 9, 13 and 14, by the length of the blocks; late_tests 5 before them
--   region_tests    refusal 4 and then those: what is tested of regions
--   first_record    the record of a save of which no store is made
--   filled          "Scratch receives all blocks of their plan and then the message"; the rest is as it was
--   begun_of        a beginning of three lists of regions: the record and the scratch, where no condition holds
--   list_tests      refusals 2 and 3, which come first ("Fourteen ways to say no": "the lowest number is given")
--   begun           `save_begin`: these tests, and then a beginning of the lists' regions; in all 2, 3, 4, 5, 8, 9, 13, 14
use Rattle.std.specs.Prelude.{ℕ, ◌+◌, Bool, false, ◌&&◌, ◌||◌, not, List, [], ◌∷◌, ◌++◌, map, leb, ltb, eqb, length, get_or}
use Rattle.error.specs.declared.Refusal.TheVariants as refusal
use Rattle.error.specs.Outcome.{Outcome, answer, Condition, when, first_of}
use Rattle.error.specs.Lent.{With, with, over}
use Rattle.fields.specs.Ranges.{top}
use Rattle.checksum.specs.Lookup3.{lookup3}
use Rattle.free_regions.specs.declared.FreeRegion.{FreeRegion}
use Rattle.free_regions.specs.Regions.{region, end, meets, shares}
use Rattle.free_lists.specs.declared.calls.Which.TheVariants.{Metadata, Raw, Unclassified}
use Rattle.free_lists.specs.Lists.{Lists, Regions, regions_in, are_lists, shared_byte}
use Rattle.fsm_sections.specs.declared.FreeSection.{FreeSection}
use Rattle.fsm_sections.specs.Sections.{section, space}
use Rattle.fsm_sections.specs.Pages.{slot0, slot2, slot6}
use Rattle.fsm_blocks.specs.Settings.{starting_set}
use Rattle.fsm_plan.specs.Managers.{Manager, managers_of, size_of, blocks_from, slots_from}
use Rattle.file_space_info.specs.declared.FileSpaceStrategy.TheVariants as strategy
use Rattle.file_space_info.specs.Message.{message_len, message_bytes}
use Rattle.file_space_info.specs.Infos.{persistent_managers}
use Rattle.save_step.specs.declared.Save.{Save}

abbrev pub as_sections : List FreeRegion → List FreeSection
as_sections rs = map (λ r. section r.addr r.len) rs

-- ---- the plan

module _ (page : ℕ) (rs : Regions) where
  abbrev pub small : List FreeSection
  small = slot0 page (as_sections (rs Metadata))

  abbrev pub small_raw : List FreeSection
  small_raw = slot2 page (as_sections (rs Raw))

  abbrev pub large : List FreeSection
  large = slot6 page (as_sections (rs Metadata)) (as_sections (rs Raw)) (as_sections (rs Unclassified))

  abbrev pub plan : List Manager
  plan = managers_of page (as_sections (rs Metadata)) (as_sections (rs Raw)) (as_sections (rs Unclassified))

  abbrev pub block_len : ℕ
  block_len = size_of 8 (starting_set 8) plan

module _ (page start : ℕ) (rs : Regions) where
  abbrev pub block_bytes : List ℕ
  block_bytes = blocks_from 8 (starting_set 8) lookup3 start (plan page rs)

  abbrev pub slot_addrs : List ℕ
  slot_addrs = slots_from 8 (starting_set 8) start (plan page rs)

  abbrev pub message_of : List ℕ
  message_of = let m = persistent_managers strategy.Page 1 page slot_addrs start in message_bytes 8 8 m.info m.slots

  abbrev pub filled : List ℕ → List ℕ
  filled scratch = over 0 (block_bytes ++ message_of) scratch

  abbrev pub too_large : Bool
  too_large =
      ltb top (space (small page rs))
      || (ltb top (space (small_raw page rs)) || (ltb top (space (large page rs)) || ltb top (start + block_len page rs)))

-- ---- the conditions

abbrev pub ends_past : ℕ → List FreeRegion → Bool
ends_past a [] = false
ends_past a (r ∷ rs) = ltb a (end r) || ends_past a rs

abbrev pub in_the_way : ℕ → ℕ → List FreeRegion → Bool
in_the_way start place rs = ends_past start rs || shares (region place message_len) rs

abbrev pub message_in : ℕ → List ℕ → Bool
message_in place image = leb (place + message_len) (length image)

-- of L block bytes
abbrev pub blocks_out : ℕ → ℕ → ℕ → List ℕ → Bool
blocks_out L start place image = ltb 0 L && (ltb (length image) (start + L) || meets (region start L) (region place message_len))

abbrev pub any_in_the_way : ℕ → ℕ → Regions → Bool
any_in_the_way start place rs = in_the_way start place (rs Metadata) || (in_the_way start place (rs Raw) || in_the_way start place (rs Unclassified))

-- of L block bytes
module _ (rs : Regions) (L start place : ℕ) (image : List ℕ) where
  abbrev pub misplaced : Bool
  misplaced = not (message_in place image) || (blocks_out L start place image || any_in_the_way start place rs)

  -- `given` is the length of the scratch
  abbrev pub place_tests : ℕ → List Condition
  place_tests given =
      let version = get_or image place 0 in
      let code = get_or image (place + 1) 0 in
      when (message_in place image && not (eqb version 1)) (refusal.MessageVersion version)
      ∷ when (message_in place image && ltb 3 code) (refusal.Strategy code)
      ∷ when misplaced refusal.Place
      ∷ when (ltb given (L + message_len)) (refusal.OverCapacity (L + message_len) given)
      ∷ []

  abbrev pub late_tests : ℕ → List Condition
  late_tests given = when (shared_byte rs) refusal.SharedAddress ∷ place_tests given

-- ---- the beginning

-- of three lists of regions
module _ (rs : Regions) (page start place : ℕ) where
  -- `given` is the length of the scratch
  abbrev pub region_tests : List ℕ → ℕ → List Condition
  region_tests image given = when (too_large page start rs) refusal.Overflow ∷ late_tests rs (block_len page rs) start place image given

  abbrev pub first_record : Save
  first_record = record { start = start; place = place; len = block_len page rs; done = 0 }

  unfoldable pub begun_of : List ℕ → List ℕ → Outcome (With Save (List ℕ))
  begun_of image scratch = first_of (region_tests image (length scratch)) (answer (with first_record (filled page start rs scratch)))

abbrev pub list_tests : Lists → ℕ → List Condition
list_tests ls page = when (eqb page 0) refusal.Page ∷ when (not (are_lists ls)) refusal.NotAList ∷ []

unfoldable pub begun : Lists → ℕ → ℕ → ℕ → List ℕ → List ℕ → Outcome (With Save (List ℕ))
begun ls page start place image scratch = first_of (list_tests ls page) (begun_of (regions_in ls) page start place image scratch)
