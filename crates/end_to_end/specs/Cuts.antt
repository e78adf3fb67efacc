-- A save cut after k steps, and the reading of the image that the cut leaves (document 01, "The save": "A cut leaves the first k stores").
-- Assumes nothing.
--   Cut         what a save that was begun, cut and read comes to: the record after its steps or the beginning's refusal, the reading's counts or
--              its refusal, and image, scratch and the run of sections as they are left
--   cut_with    these together
--   cut_after   what a beginning comes to: where it was accepted, k steps and then a loose reading at a place; where it was refused, its refusal for
--              both, and all lent memory is as it was
--   cut_by      the code's answer, with the memory that it leaves
--   begun_with  an answer of a beginning, with the scratch that it left
--   not_begun   the code's answer where the beginning is refused
use Rattle.std.specs.Prelude.{ℕ, List, Err}
use Rattle.error.specs.Answers.{as_outcome}
use Rattle.error.specs.declared.Refusal.{Refusal}
use Rattle.error.specs.Outcome.{Outcome, answer, nothing, refuse}
use Rattle.error.specs.Lent.{With, with, leaving}
use Rattle.save_step.specs.declared.Save.{Save}
use Rattle.save_step.specs.Steps.{saving, steps}
use Rattle.image.specs.Answers.{image_outcome, refused_read}
use Rattle.fsm_blocks.specs.declared.checks.Reading.TheVariants.{Loose}
use Rattle.image.specs.Reading.{image_into}
use Rattle.end_to_end.specs.declared.Saved.{Saved}

pub record Cut : Type 0 where
  pub outcome : Outcome Save
  pub read : Outcome (List ℕ)
  pub image : List ℕ
  pub scratch : List ℕ
  pub out : List ℕ

abbrev pub cut_with : Outcome Save → Outcome (List ℕ) → List ℕ → List ℕ → List ℕ → Cut
cut_with o r image scratch out = record { outcome = o; read = r; image = image; scratch = scratch; out = out }

abbrev pub cut_after : ℕ → ℕ → List ℕ → List ℕ → List ℕ → Outcome (With Save (List ℕ)) → Cut
cut_after k place image scratch out (answer b) =
    let stepped = steps k b.memory (saving b.value image) in
    let read = leaving out (image_into Loose place stepped.image out) in
    cut_with (answer stepped.save) read.outcome stepped.image b.memory read.memory
cut_after k place image scratch out nothing = cut_with nothing nothing image scratch out
cut_after k place image scratch out (refuse n vs) = cut_with (refuse n vs) (refuse n vs) image scratch out

abbrev pub cut_by : Saved → List ℕ → List ℕ → List ℕ → Cut
cut_by r image scratch out = cut_with (as_outcome r.begin) (image_outcome r.read) image scratch out

abbrev pub begun_with : List ℕ → Outcome Save → Outcome (With Save (List ℕ))
begun_with scratch (answer s) = answer (with s scratch)
begun_with scratch nothing = nothing
begun_with scratch (refuse n vs) = refuse n vs

abbrev pub not_begun : Refusal → Saved
not_begun r = record { begin = Err r; read = refused_read r }
