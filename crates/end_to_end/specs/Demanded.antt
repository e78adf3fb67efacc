-- Demand 3 of the code: what `call_save_read` answers and leaves after k steps is what demand 3 says of k. Assumes nothing.
-- In quotes: document 01's words, from "The save".
--   Shown      of a save that was begun, with what is free and how it begins again as in save, specs/EveryCut.antt, and of k steps of it:
--     demand       demand 3 holds of this save
--     record_is, image-is, scratch_is, reading_is   what the code answers and leaves is what demand 3 speaks of, after k steps
--     nothing_stored   no step: the image is as it was, and reads as before, refusals too
--     in_between   from the first store to the last but one: no sections
--     after_last   from the last store on: exactly the plan's sections stand in the lent run, and their counts are answered
--     each_once    of the sections that then stand in the lent run, exactly one holds each free byte, and none any other byte
--   lists      the lists that calls leave
--   Demanded   of calls, a save of what they leave, and k steps of it:
--     accepted     if the code answers a record, the beginning was accepted ("not the program's word")
--     shown        if the beginning was accepted, all of the above; free is what is free by history
--     refused      if it was refused, that is the answer, and image, scratch and lent run are as they were
use Rattle.std.specs.Prelude.{ℕ, ◌%◌, ◌≤◌, ◌<◌, min, ◌≡◌, Bool, cond, List, length, replicate}
use Rattle.error.specs.Outcome.{Outcome, answer, refuse}
use Rattle.error.specs.Lent.{With, with, left, leaving, over}
use Rattle.free_lists.specs.declared.calls.Which.{Which}
use Rattle.free_lists.specs.Lists.{Lists, regions_in}
use Rattle.free_lists.specs.History.{CallOn, lists_after, empty_lists, free_by_history}
use Rattle.fsm_sections.specs.Sections.{decode, flat}
use Rattle.fsm_sections.specs.Pages.{holding}
use Rattle.save_step.specs.declared.Save.{Save}
use Rattle.save.specs.Saving.{begun}
use Rattle.save.specs.EveryCut.{OneSave, one_save, store_count, image_after, record_at, planned_sections, planned_counts, Room, EveryCut}
use Rattle.fsm_blocks.specs.declared.checks.Reading.TheVariants.{Loose}
use Rattle.image.specs.Reading.{image_into}
use Rattle.end_to_end.specs.Cuts.{Cut, cut_with}

pub record Shown (s : OneSave) (free : ℕ → Bool) (beginning : List ℕ → List ℕ → Outcome (With Save (List ℕ))) (k : ℕ) (out : List ℕ) (x : Cut) : Type 0 where
  pub demand : EveryCut s free beginning
  pub record_is : x.outcome ≡ answer (record_at s (min k (store_count s)))
  pub image-is : x.image ≡ image_after s k
  pub scratch_is : x.scratch ≡ s.lent
  pub reading_is : left x.read x.out ≡ leaving out (image_into Loose s.place (image_after s k) out)
  pub nothing_stored : k ≡ 0 → (x.image ≡ s.image) × (left x.read x.out ≡ leaving out (image_into Loose s.place s.image out))
  pub in_between : 0 < k → k < store_count s → length out % 2 ≡ 0 → (x.read ≡ answer (replicate 12 0)) × (x.out ≡ out)
  pub after_last : store_count s ≤ k → Room s out → (x.read ≡ answer (planned_counts s)) × (x.out ≡ over 0 (flat (planned_sections s)) out)
  pub each_once : store_count s ≤ k → Room s out → (b : ℕ) → holding b (decode (length (planned_sections s)) x.out) ≡ cond (free b) 1 0

module _ (runs : Which → List ℕ) (calls : List CallOn) where
  abbrev pub lists : Lists
  lists = lists_after calls (empty_lists runs)

  pub record Demanded (page start place k : ℕ) (image scratch out : List ℕ) (x : Cut) : Type 0 where
    pub accepted : (after : Save) → x.outcome ≡ answer after
        → (save : Save) × (lent : List ℕ) × (begun lists page start place image scratch ≡ answer (with save lent))
    pub shown : (save : Save) (lent : List ℕ) → begun lists page start place image scratch ≡ answer (with save lent)
        → Shown (one_save (regions_in lists) page start place image save lent) (free_by_history calls (empty_lists runs)) (begun lists page start place) k out x
    pub refused : (n : ℕ) (vs : List ℕ) → begun lists page start place image scratch ≡ refuse n vs
        → x ≡ cut_with (refuse n vs) (refuse n vs) image scratch out
