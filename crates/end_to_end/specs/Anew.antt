-- A save cut after k steps, and a fresh save of the same lists over what the cut left, with another scratch. Assumes nothing.
-- In quotes: the user's words for demand 3. `beginning` says how a save of the lists begins, by image and scratch.
--   Stepped        what a beginning and steps come to: the record after the steps or the beginning's refusal, and image and scratch as they are left
--   stepped_with   these together
--   steps_of       k steps of what a beginning gave; where it was refused, image and scratch are as they were
--   stepped_after  a beginning and k steps of it
--   stepped_by     the code's answer, with the memory that it leaves
--   Anew           what both saves come to: the records after their steps or their refusals, and image and both scratches as they are left
--   anew_with      these together
--   anew_over      the second save, with all its steps, over what the first left; where the first was refused, none is begun, and it has that
--                 refusal
--   anew_after     `call_save_anew`, of the lists that its calls leave: the first save cut after k steps, and the second. Of this 2^64 - 1 steps
--                 are made; those after its last store change nothing
--   anew_by        the code's answer, with the memory that it leaves
--   EndsUncut      of calls, a save of what they leave, and k steps of it:
--     uncut         "A fresh save over any remainder ends in the uncut image": where the first beginning is accepted and the other scratch has
--                   room, the image at the end is the one that all steps of the first save would leave, and so is the second record; the first
--                   record is that after k steps
--     refused       where the first beginning is refused, that is the answer of both, and all lent memory is as it was
use Rattle.std.specs.Prelude.{ℕ, ◌+◌, ◌≤◌, min, ◌≡◌, List, length, Result}
use Rattle.error.specs.Answers.{as_outcome}
use Rattle.error.specs.declared.Refusal.{Refusal}
use Rattle.error.specs.Outcome.{Outcome, answer, nothing, refuse}
use Rattle.error.specs.Lent.{With, with}
use Rattle.fields.specs.Ranges.{top}
use Rattle.free_lists.specs.declared.calls.Which.{Which}
use Rattle.free_lists.specs.Lists.{regions_in}
use Rattle.free_lists.specs.History.{CallOn}
use Rattle.file_space_info.specs.Message.{message_len}
use Rattle.save_step.specs.declared.Save.{Save}
use Rattle.save_step.specs.Steps.{saving, steps}
use Rattle.save.specs.Saving.{begun}
use Rattle.save.specs.EveryCut.{one_save, blocks, store_count, image_after, record_at}
use Rattle.end_to_end.specs.declared.anew.SavedAnew.{SavedAnew}
use Rattle.end_to_end.specs.Demanded.{lists}

-- ---- a beginning and steps

pub record Stepped : Type 0 where
  pub outcome : Outcome Save
  pub image : List ℕ
  pub scratch : List ℕ

abbrev pub stepped_with : Outcome Save → List ℕ → List ℕ → Stepped
stepped_with o image scratch = record { outcome = o; image = image; scratch = scratch }

abbrev pub steps_of : ℕ → List ℕ → List ℕ → Outcome (With Save (List ℕ)) → Stepped
steps_of k image scratch (answer b) =
    let after = steps k b.memory (saving b.value image) in stepped_with (answer after.save) after.image b.memory
steps_of k image scratch nothing = stepped_with nothing image scratch
steps_of k image scratch (refuse n vs) = stepped_with (refuse n vs) image scratch

abbrev pub stepped_after : ℕ → (List ℕ → List ℕ → Outcome (With Save (List ℕ))) → List ℕ → List ℕ → Stepped
stepped_after k beginning image scratch = steps_of k image scratch (beginning image scratch)

abbrev pub stepped_by : Result Save Refusal → List ℕ → List ℕ → Stepped
stepped_by b image scratch = stepped_with (as_outcome b) image scratch

-- ---- and a fresh save

pub record Anew : Type 0 where
  pub first : Outcome Save
  pub second : Outcome Save
  pub image : List ℕ
  pub scratch : List ℕ
  pub other : List ℕ

abbrev pub anew_with : Outcome Save → Outcome Save → List ℕ → List ℕ → List ℕ → Anew
anew_with x y image scratch other = record { first = x; second = y; image = image; scratch = scratch; other = other }

-- by the outcome of the first save, the image and the scratch that it left
abbrev pub anew_over : (List ℕ → List ℕ → Outcome (With Save (List ℕ))) → List ℕ → Outcome Save → List ℕ → List ℕ → Anew
anew_over beginning other (answer s) image scratch =
    let second = stepped_after top beginning image other in anew_with (answer s) second.outcome second.image scratch second.scratch
anew_over beginning other nothing image scratch = anew_with nothing nothing image scratch other
anew_over beginning other (refuse n vs) image scratch = anew_with (refuse n vs) (refuse n vs) image scratch other

abbrev pub anew_after : ℕ → (List ℕ → List ℕ → Outcome (With Save (List ℕ))) → List ℕ → List ℕ → List ℕ → Anew
anew_after k beginning image scratch other =
    let first = stepped_after k beginning image scratch in anew_over beginning other first.outcome first.image first.scratch

abbrev pub anew_by : SavedAnew → List ℕ → List ℕ → List ℕ → Anew
anew_by r image scratch other = anew_with (as_outcome r.first) (as_outcome r.second) image scratch other

-- ---- the uncut image

pub record EndsUncut (runs : Which → List ℕ) (calls : List CallOn) (page start place k : ℕ) (image scratch other : List ℕ) (x : Anew) : Type 0 where
  pub uncut : (save : Save) (lent : List ℕ) → begun (lists runs calls) page start place image scratch ≡ answer (with save lent)
      → let s = one_save (regions_in (lists runs calls)) page start place image save lent in
      length (blocks s) + message_len ≤ length other
      → (x.image ≡ image_after s (store_count s)) × (x.second ≡ answer (record_at s (store_count s))) × (x.first ≡ answer (record_at s (min k (store_count s))))
  pub refused : (n : ℕ) (vs : List ℕ) → begun (lists runs calls) page start place image scratch ≡ refuse n vs
      → x ≡ anew_with (refuse n vs) (refuse n vs) image scratch other
