-- A step of a save, which makes one store, and steps in a row. Assumes nothing.
-- In quotes: document 01's words, from "The save" or from the heading named.
--   stores        how many stores a save with L block bytes has: "That is L+126"
--   all_made      all stores of the record's save are made
--   leaves        message or blocks of the record leave an image of a length, or a scratch of a length lacks bytes of them: "an earlier step
--                 whose places leave its image or scratch is 13"
--   Inside        what it means that they do not, for proofs
--   next_store    the store that a step makes ("the stores are, one a step"): number `done` of the save whose blocks are the first bytes of the
--                 scratch and whose message stands after them
--   one_more      the record with one store more
--   stepped       a step: "A step after the last changes nothing and says finished"; before, it is refusal 13 where places leave, and else makes
--                 one store
--   Saving        a save's record and image, "as the beginning or the last step left them"
--   saving        the pair of a record and an image
--   record_after  the record that a step leaves
--   go_on         record and image that a step leaves; after a refusal they are as before
--   step_on       record and image after one step
--   steps         record and image after k steps in a row: "the image is the one before the save with those k stores made"
use Rattle.std.specs.Prelude.{ℕ, zero, suc, ◌+◌, ◌≤◌, ◌<◌, Bool, cond, ◌&&◌, ◌||◌, List, [], ◌∷◌, ltb, leb, length, get_or, take}
use Rattle.save_step.specs.declared.Progress.{Progress}
use Rattle.save_step.specs.declared.Progress.TheVariants.{Stored, Finished}
use Rattle.error.specs.declared.Refusal.TheVariants.{Place}
use Rattle.error.specs.Outcome.{Outcome, answer, nothing, refuse, when, first_of}
use Rattle.error.specs.Lent.{With, with}
use Rattle.fields.specs.Layout.{window}
use Rattle.save_step.specs.declared.Save.{Save}
use Rattle.save_step.specs.declared.Store.{Store}
use Rattle.file_space_info.specs.Message.{message_len}
use Rattle.save_step.specs.Stores.{no_store, make, save_stores}

-- ---- one step

abbrev pub stores : ℕ → ℕ
stores L = L + 126

abbrev pub all_made : Save → Bool
all_made s = leb (stores s.len) s.done

abbrev pub leaves : Save → ℕ → ℕ → Bool
leaves s image scratch =
    ltb image (s.place + message_len)
    || (ltb scratch (s.len + message_len)
    || (ltb 0 s.len && ltb image (s.start + s.len)))

pub record Inside (s : Save) (image scratch : ℕ) : Type 0 where
  pub message_in : s.place + message_len ≤ image
  pub blocks_in : 0 < s.len → s.start + s.len ≤ image
  pub both_lent : s.len + message_len ≤ scratch

unfoldable pub next_store : Save → List ℕ → Store
next_store s scratch =
    get_or (save_stores s.place s.start (take s.len scratch) (window s.len message_len scratch)) s.done no_store

abbrev pub one_more : Save → Save
one_more s = record { start = s.start; place = s.place; len = s.len; done = s.done + 1 }

unfoldable pub stepped : Save → List ℕ → List ℕ → Outcome (With Progress (List ℕ))
stepped s image scratch =
    cond (all_made s) (answer (with Finished image))
    (first_of (when (leaves s (length image) (length scratch)) Place ∷ [])
    (answer (with (Stored (one_more s)) (make (next_store s scratch) image))))

-- ---- steps in a row

pub record Saving : Type 0 where
  pub save : Save
  pub image : List ℕ

abbrev pub saving : Save → List ℕ → Saving
saving s i = record { save = s; image = i }

abbrev pub record_after : Save → Progress → Save
record_after s (Stored t) = t
record_after s Finished = s

abbrev pub go_on : Saving → Outcome (With Progress (List ℕ)) → Saving
go_on x (answer a) = saving (record_after x.save a.value) a.memory
go_on x nothing = x
go_on x (refuse n vs) = x

abbrev pub step_on : List ℕ → Saving → Saving
step_on scratch x = go_on x (stepped x.save x.image scratch)

unfoldable pub steps : ℕ → List ℕ → Saving → Saving
steps zero scratch x = x
steps (suc k) scratch x = step_on scratch (steps k scratch x)
