-- Document 01's marked cases, M1 to M10, as one table over the definitions that the contracts cite. Assumes nothing.
--   of        the record of a list of so many regions with so many bytes
--   gives     the outcome of a call that gives an address and leaves a record and a run
--   lent      lent runs of any numbers
--   freeing   a `free` on the first list
--   m4_lists  three lists begun empty after the calls of M4 on the first
--   m9_regions   their regions after the one call of M9
--   m10_message   the message of M10
--   m10_bytes 124 bytes of a message with persist
--   Marked    the table
use Rattle.std.specs.Prelude.{ℕ, ◌+◌, ◌-◌, ◌^◌, ◌≡◌, List, [], ◌∷◌, map, take, replicate}
use Rattle.error.specs.Outcome.{Outcome, answer}
use Rattle.error.specs.Lent.{With, with}
use Rattle.fields.specs.Ranges.{top}
use Rattle.fields.specs.Width.{enc_size, fshd_len}
use Rattle.free_regions.specs.Regions.{region}
use Rattle.free_space.specs.declared.list.FreeList.{FreeList}
use Rattle.free_space.specs.declared.list.Given.{Given}
use Rattle.free_space.specs.Calls.{giving, allocated, allocated_units, range_taken}
use Rattle.free_lists.specs.declared.calls.Which.{Which}
use Rattle.free_lists.specs.declared.calls.Which.TheVariants.{Metadata, Raw, Unclassified}
use Rattle.free_lists.specs.declared.calls.ListCall.TheVariants.{Free}
use Rattle.free_lists.specs.Lists.{Lists, regions_of, Regions, regions_in}
use Rattle.free_lists.specs.History.{CallOn, on, lists_after, empty_lists}
use Rattle.fsm_sections.specs.Sections.{section}
use Rattle.fsm_lengths.specs.Lengths.{fsse_len}
use Rattle.fsm_pages.specs.Split.{split_into}
use Rattle.file_space_info.specs.declared.FileSpaceStrategy.TheVariants.{Page}
use Rattle.file_space_info.specs.declared.WithSlots.{WithSlots}
use Rattle.file_space_info.specs.Infos.{persistent_single_manager}
use Rattle.file_space_info.specs.Message.{message_bytes, parsed}
use Rattle.save_step.specs.Steps.{stores}
use Rattle.save.specs.Saving.{small, small_raw, large, block_len, slot_addrs}

abbrev pub of : ℕ → ℕ → FreeList
of n t = record { count = n; total = t }

abbrev pub gives : ℕ → FreeList → List ℕ → Outcome (With Given (List ℕ))
gives a l xs = answer (with (giving a l) xs)

-- any lent runs do, with room for what is freed
abbrev pub lent : Which → List ℕ
lent Metadata = 7 ∷ 7 ∷ 7 ∷ 7 ∷ []
lent Raw = []
lent Unclassified = []

abbrev pub freeing : ℕ → ℕ → CallOn
freeing a n = on Metadata (Free a n)

abbrev pub m4_lists : Lists
m4_lists = lists_after (freeing 100 50 ∷ freeing 200 50 ∷ freeing 150 50 ∷ []) (empty_lists lent)

abbrev pub m9_regions : Regions
m9_regions = regions_in (lists_after (freeing 4000 5000 ∷ []) (empty_lists lent))

abbrev pub m10_message : WithSlots
m10_message = persistent_single_manager Page 1 4096 20000 30000

abbrev pub m10_bytes : List ℕ
m10_bytes = take 124 (message_bytes 8 8 m10_message.info m10_message.slots)

pub record Marked : Type 0 where
  pub m1 : map enc_size (0 ∷ 255 ∷ 256 ∷ (2 ^ 64 - 1) ∷ []) ≡ 1 ∷ 1 ∷ 2 ∷ 8 ∷ []
  pub m2 : map fshd_len (1 ∷ 8 ∷ []) ≡ answer 75 ∷ answer 82 ∷ []
  pub m3 : map (fsse_len 8) ([] ∷ (16 ∷ 16 ∷ 32 ∷ []) ∷ replicate 255 16 ∷ replicate 256 16 ∷ []) ≡ answer 17 ∷ answer 62 ∷ answer 2321 ∷ answer 2331 ∷ []
  pub m4 : regions_of (m4_lists Metadata) ≡ region 100 150 ∷ []
  pub m5 : allocated (0 ∷ 16 ∷ 100 ∷ 16 ∷ []) (of 2 32) 16 ≡ gives 0 (of 1 16) (100 ∷ 16 ∷ 0 ∷ 0 ∷ [])
  pub m5_front : allocated (0 ∷ 64 ∷ 100 ∷ 16 ∷ []) (of 2 80) 10 ≡ gives 100 (of 2 70) (0 ∷ 64 ∷ 110 ∷ 6 ∷ [])
  pub m6 : allocated_units (5000 ∷ 10000 ∷ 0 ∷ 0 ∷ []) (of 1 10000) 4096 4096 ≡ gives 8192 (of 2 5904) (5000 ∷ 3192 ∷ 12288 ∷ 2712 ∷ [])
  pub m7 : range_taken (90 ∷ 40 ∷ 0 ∷ 0 ∷ []) (of 1 40) 100 10 ≡ answer (with (of 2 30) (90 ∷ 10 ∷ 110 ∷ 20 ∷ []))
  pub m8 : split_into (4000 ∷ 5000 ∷ []) 1 4096 (replicate 6 0) ≡ answer (with 3 (4000 ∷ 96 ∷ 4096 ∷ 4096 ∷ 8192 ∷ 808 ∷ []))
  pub m9_sections : small 4096 m9_regions ∷ small_raw 4096 m9_regions ∷ large 4096 m9_regions ∷ []
      ≡ (section 4000 96 ∷ section 8192 808 ∷ []) ∷ [] ∷ (section 4096 4096 ∷ []) ∷ []
  pub m9_slots : slot_addrs 4096 20000 m9_regions ≡ 20000 ∷ top ∷ top ∷ top ∷ top ∷ top ∷ 20135 ∷ top ∷ top ∷ top ∷ top ∷ top ∷ []
  pub m9_end : 20000 + block_len 4096 m9_regions ≡ 20252
  pub m9_stores : stores (block_len 4096 m9_regions) ≡ 378
  pub m10 : parsed m10_bytes 8 8 (replicate 11 0) ≡ answer (with (record { info = m10_message.info; count = 11 }) (20000 ∷ replicate 10 top))
