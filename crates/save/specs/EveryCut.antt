-- What every cut of a save leaves. Said of the lists that calls in a row leave, this is DEMAND 3: `EveryCutAfterCalls`, at the end. Assumes nothing.
-- To read before: regions and lists (free_lists, specs/Lists.antt), the calls and what they leave free by history (free_lists,
-- specs/History.antt), the plan (Saving.antt: `small`, `small_raw`, `large`; fsm_sections, specs/Pages.antt), what a beginning tests
-- (Saving.antt: `begun`), stores and steps (save_step, specs/Stores.antt and Steps.antt).
-- To skip: the bytes of blocks and message, how they are read, and lookup3 (what `block_bytes`, `message_of` and `read_listed` cite). That they are
-- HDF5's is demand 2; here it matters in which order they are stored, and which sections are then read.
-- In quotes: document 01's words, from "The save"; at the fields of EveryCut the user's words for demand 3, in their order.
--   OneSave, one_save   a save that was begun: the regions of its three lists, its page size, `start` and place, the image before it, and the
--                  record and the scratch that its beginning gave; these put together
--   blocks, all_stores, store_count   the bytes of the plan's blocks; all stores of the save, in order; how many they are, L+126
--   after_steps    record and image after k steps
--   image_after    that image, "the one before the save with those k stores made": what a cut after k stores leaves
--   record_at      the record of the save when k stores are made
--   metadata_slot, raw_slot, large_slot   the plan's sections of slots 0, 2 and 6, by size and then address
--   planned_in_slots   all of them with their slots, in reading order
--   planned_sections, planned_counts   the same without the slots; how many of them each of the twelve slots has
--   Room           a lent run is one of pairs and has room for all of them ("with capacity for all")
--   OneStoreAStep  the bookkeeping. The record begins at no store; each step makes one store, the next of all, and says and counts so; after
--                  the last, and no earlier, each step says finished and changes nothing; the image keeps its length (a save "that stores
--                  everything in its first step, stores nothing, or counts stores it didn't make" breaks this, "as does one that says finished
--                  early")
--   ReadInto       the three readings again, as the entries answer them that read an image into a lent run
--   EveryCut       what holds of every cut of a save: `free` says which bytes are free, and `beginning` how a save of the same lists begins, by image
--                  and scratch. Its readings are loose and strict ones (document 02, P5)
--   in_list, free_in   a byte lies in a region of a list; of one of three lists
--   EveryCutOfLists   of any three lists that pass refusals 3 and 5, whoever made them: free is what lies in one of them
--   EveryCutAfterCalls   DEMAND 3, of the lists that calls in a row leave: free is what is free by history ("one claim about all its calls in
--                  a row and every k")
use Rattle.std.specs.Prelude.{ℕ, suc, ◌+◌, ◌/◌, ◌%◌, ◌^◌, ◌≤◌, ◌<◌, ◌≡◌, ◌⊎◌, Bool, true, cond, ◌||◌, List, [], ◌∷◌, ◌++◌, map, length, get_or, replicate}
use Rattle.error.specs.Outcome.{Outcome, answer}
use Rattle.error.specs.Lent.{With, with, over}
use Rattle.free_regions.specs.declared.FreeRegion.{FreeRegion}
use Rattle.free_regions.specs.Regions.{region, ok_from, shares}
use Rattle.free_lists.specs.declared.calls.Which.{Which}
use Rattle.free_lists.specs.declared.calls.Which.TheVariants.{Metadata, Raw, Unclassified}
use Rattle.free_lists.specs.Lists.{Regions, regions_in}
use Rattle.free_lists.specs.History.{CallOn, lists_after, empty_lists, free_by_history}
use Rattle.fsm_sections.specs.declared.FreeSection.{FreeSection}
use Rattle.fsm_sections.specs.Sections.{by_size_then_addr, flat}
use Rattle.fsm_sections.specs.Pages.{holding}
use Rattle.file_space_info.specs.Message.{message_len}
use Rattle.save_step.specs.declared.Save.{Save}
use Rattle.save_step.specs.declared.Store.{Store}
use Rattle.save_step.specs.Stores.{no_store, make, after, save_stores}
use Rattle.save_step.specs.Steps.{stepped, Saving, saving, steps, stores}
use Rattle.save_step.specs.declared.Progress.TheVariants.{Stored, Finished}
use Rattle.save.specs.Saving.{small, small_raw, large, block_bytes, message_of, begun_of, begun}
use Rattle.fsm_blocks.specs.declared.checks.Reading.{Reading}
use Rattle.image.specs.Reading.{Listed, in_slot, read_listed, image_into}

-- ---- a save, its stores and its plan

pub record OneSave : Type 0 where
  pub regions : Regions
  pub page : ℕ
  pub start : ℕ
  pub place : ℕ
  pub image : List ℕ
  pub save : Save
  pub lent : List ℕ

abbrev pub one_save : Regions → ℕ → ℕ → ℕ → List ℕ → Save → List ℕ → OneSave
one_save rs page start place image save lent =
    record { regions = rs; page = page; start = start; place = place; image = image; save = save; lent = lent }

module _ (s : OneSave) where
  abbrev pub blocks : List ℕ
  blocks = block_bytes s.page s.start s.regions

  abbrev pub all_stores : List Store
  all_stores = save_stores s.place s.start blocks (message_of s.page s.start s.regions)

  abbrev pub store_count : ℕ
  store_count = stores (length blocks)

  abbrev pub after_steps : ℕ → Saving
  after_steps k = steps k s.lent (saving s.save s.image)

  abbrev pub image_after : ℕ → List ℕ
  image_after k = (after_steps k).image

  abbrev pub record_at : ℕ → Save
  record_at k = record { start = s.start; place = s.place; len = length blocks; done = k }

  abbrev pub metadata_slot : List FreeSection
  metadata_slot = by_size_then_addr (small s.page s.regions)

  abbrev pub raw_slot : List FreeSection
  raw_slot = by_size_then_addr (small_raw s.page s.regions)

  abbrev pub large_slot : List FreeSection
  large_slot = by_size_then_addr (large s.page s.regions)

  abbrev pub planned_in_slots : List Listed
  planned_in_slots = in_slot 0 metadata_slot ++ (in_slot 2 raw_slot ++ in_slot 6 large_slot)

  abbrev pub planned_sections : List FreeSection
  planned_sections = metadata_slot ++ (raw_slot ++ large_slot)

  abbrev pub planned_counts : List ℕ
  planned_counts = length metadata_slot ∷ 0 ∷ length raw_slot ∷ 0 ∷ 0 ∷ 0 ∷ length large_slot ∷ 0 ∷ 0 ∷ 0 ∷ 0 ∷ 0 ∷ []

  abbrev pub Room : List ℕ → Type 0
  Room out = (length out % 2 ≡ 0) × (length planned_sections ≤ length out / 2)

  -- ---- what holds of it

  pub record OneStoreAStep : Type 0 where
    pub begins : s.save ≡ record_at 0
    pub count : length all_stores ≡ store_count
    pub made : (k : ℕ) → k ≤ store_count → after_steps k ≡ saving (record_at k) (after k s.image all_stores)
    pub next : (k : ℕ) → k < store_count → stepped (after_steps k).save (image_after k) s.lent
        ≡ answer (with (Stored (record_at (suc k))) (make (get_or all_stores k no_store) (image_after k)))
    pub ended : (k : ℕ) → store_count ≤ k → stepped (after_steps k).save (image_after k) s.lent ≡ answer (with Finished (image_after store_count))
    pub long : (k : ℕ) → k ≤ store_count → length (image_after k) ≡ length s.image

  pub record ReadInto : Type 0 where
    pub nothing_stored : (how : Reading) (out : List ℕ) → image_into how s.place (image_after 0) out ≡ image_into how s.place s.image out
    pub in_between : (how : Reading) (k : ℕ) → 0 < k → k < store_count → (out : List ℕ) → length out % 2 ≡ 0
        → image_into how s.place (image_after k) out ≡ answer (with (replicate 12 0) out)
    pub after_last : (how : Reading) (out : List ℕ) → Room out → image_into how s.place (image_after store_count) out ≡ answer (with planned_counts (over 0 (flat planned_sections) out))

  pub record EveryCut (free : ℕ → Bool) (beginning : List ℕ → List ℕ → Outcome (With Save (List ℕ))) : Type 0 where
    -- "nothing stored, the image reads as before", refusals too
    pub nothing_stored : (how : Reading) → read_listed how s.place (image_after 0) ≡ read_listed how s.place s.image
    -- "in between, no sections"
    pub in_between : (how : Reading) (k : ℕ) → 0 < k → k < store_count → read_listed how s.place (image_after k) ≡ answer []
    -- "after the last store, exactly the plan's sections",
    pub after_last : (how : Reading) → read_listed how s.place (image_after store_count) ≡ answer planned_in_slots
    -- "in which each byte that is free by history lies exactly once and no other byte at all."
    pub each_once : (b : ℕ) → holding b (map (λ x. x.found) planned_in_slots) ≡ cond (free b) 1 0
    -- "Nothing outside blocks and message changes."
    pub outside : (k : ℕ) → k ≤ store_count → (j : ℕ) → (j < s.place) ⊎ (s.place + message_len ≤ j) → (j < s.start) ⊎ (s.start + length blocks ≤ j)
        → get_or (image_after k) j 0 ≡ get_or s.image j 0
    -- "A fresh save over any remainder": with its message there, also one of other regions, it begins as over the image before (`begun` has
    -- more tests, but none of the image);
    pub fresh_begins : (k : ℕ) → k ≤ store_count → (rs : Regions) (page start : ℕ) (scratch : List ℕ)
        → begun_of rs page start s.place (image_after k) scratch ≡ begun_of rs page start s.place s.image scratch
    -- of the same lists, with any scratch that has room, it "ends in the uncut image."
    pub fresh_ends : (k : ℕ) → k ≤ store_count → (scratch : List ℕ) → length blocks + message_len ≤ length scratch
        → (lent : List ℕ)
        × (beginning (image_after k) scratch ≡ answer (with s.save lent))
        × (steps store_count lent (saving s.save (image_after k)) ≡ after_steps store_count)
    pub into : ReadInto
    pub bookkeeping : OneStoreAStep

-- ---- which saves it holds of

-- the region of that one byte shares it with the list
abbrev pub in_list : List FreeRegion → ℕ → Bool
in_list rs b = shares (region b 1) rs

abbrev pub free_in : Regions → ℕ → Bool
free_in rs b = in_list (rs Metadata) b || (in_list (rs Raw) b || in_list (rs Unclassified) b)

-- three lists that pass refusal 3's test; an accepted beginning has tested that they share no byte. Page and start are 64-bit numbers, and
-- the page is not 0
abbrev pub EveryCutOfLists : Type 0
EveryCutOfLists =
    (rs : Regions) (page start place : ℕ) (image scratch : List ℕ) (save : Save) (lent : List ℕ)
    → page < 2 ^ 64 → start < 2 ^ 64 → 0 < page
    → ((i : Which) → ok_from 0 (rs i) ≡ true)
    → begun_of rs page start place image scratch ≡ answer (with save lent)
    → EveryCut (one_save rs page start place image save lent) (free_in rs) (begun_of rs page start place)

-- DEMAND 3. Whatever is lent, called and saved; page and start are 64-bit numbers
abbrev pub EveryCutAfterCalls : Type 0
EveryCutAfterCalls =
    (runs : Which → List ℕ) (calls : List CallOn) (page start place : ℕ) (image scratch : List ℕ) (save : Save) (lent : List ℕ)
    → let ls = lists_after calls (empty_lists runs) in
    page < 2 ^ 64 → start < 2 ^ 64
    → begun ls page start place image scratch ≡ answer (with save lent)
    → EveryCut (one_save (regions_in ls) page start place image save lent) (free_by_history calls (empty_lists runs)) (begun ls page start place)
