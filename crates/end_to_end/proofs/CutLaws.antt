-- A save that began, cut after k steps, and the reading of its image. Assumes nothing.
use mathlib.Core.Path.{◌≡◌, sym, ap, ◌∙◌}
use Prim.Native.Nat.{ℕ}
use mathlib.Core.List.{List}
use Rattle.std.specs.Prelude.{Result, Ok, Err}
use Rattle.error.specs.Answers.{as_outcome}
use Rattle.error.specs.declared.Refusal.{Refusal}
use Rattle.error.specs.Outcome.{Outcome, answer, nothing, refuse}
use Rattle.error.specs.Lent.{With, Left, left, leaving}
use Rattle.free_lists.specs.Lists.{Lists}
use Rattle.save_step.specs.declared.Save.{Save}
use Rattle.save_step.specs.Steps.{Saving, saving, steps}
use Rattle.save.specs.Saving.{begun}
use Rattle.image.specs.declared.ImageRead.{ImageRead}
use Rattle.image.specs.Answers.{image_outcome, counts_in}
use Rattle.fsm_blocks.specs.declared.checks.Reading.TheVariants.{Loose}
use Rattle.image.specs.Reading.{image_into}
use Rattle.end_to_end.specs.declared.Saved.{Saved}
use Rattle.end_to_end.specs.Cuts.{Cut, cut_with, cut_after, cut_by, begun_with, not_begun}

module _ (k place : ℕ) (image scratch out : List ℕ) (begin : (Result Save Refusal)) where
  abbrev cut : Cut
  cut = cut_after k place image scratch out (begun_with scratch (as_outcome begin))

  -- a beginning that is refused
  pub cut-refused : (r : Refusal) → begin ≡ Err r → (a : Saved) → a ≡ not_begun r
      → (cut_by a image scratch out ≡ cut) × (a.read.counts ≡ counts_in (image_outcome a.read))
  cut-refused r e a f = (rw (e, f), rw f)

  -- steps and then a reading, of a save that began
  pub cut-stepped : (s : Save) → begin ≡ Ok s → (image₂ out₂ : List ℕ) (t : Save) (read : ImageRead)
      → saving t image₂ ≡ steps k scratch (saving s image) → left (image_outcome read) out₂ ≡ leaving out (image_into Loose place image₂ out)
      → cut_with (answer t) (image_outcome read) image₂ scratch out₂ ≡ cut
  cut-stepped s b image₂ out₂ t read e f =
      ap (λ (q : Left (List ℕ) (List ℕ)). cut_with (answer t) q.outcome image₂ scratch q.memory) f
      ∙ ap (λ (c : Saving). let q = leaving out (image_into Loose place c.image out) in cut_with (answer c.save) q.outcome c.image scratch q.memory) e
      ∙ sym (ap (λ (x : (Result Save Refusal)). cut_after k place image scratch out (begun_with scratch (as_outcome x))) b)

module _ (k place page start : ℕ) (image scratch out : List ℕ) where
  -- a beginning's answer and the scratch that it left are all that steps and reading take
  cut-begun : (scratch₂ : List ℕ) (o : Outcome Save) (b : Outcome (With Save (List ℕ)))
      → left o scratch₂ ≡ leaving scratch b → cut_after k place image scratch₂ out (begun_with scratch₂ o) ≡ cut_after k place image scratch out b
  cut-begun scratch₂ o (answer b) e = ap (λ (q : Left Save (List ℕ)). cut_after k place image q.memory out (begun_with q.memory q.outcome)) e
  cut-begun scratch₂ o nothing e = ap (λ (q : Left Save (List ℕ)). cut_after k place image q.memory out (begun_with q.memory q.outcome)) e
  cut-begun scratch₂ o (refuse n vs) e = ap (λ (q : Left Save (List ℕ)). cut_after k place image q.memory out (begun_with q.memory q.outcome)) e

  -- of the lists that calls left
  pub cut-of-lists : (ls ls₂ : Lists) → ls₂ ≡ ls → (begin : (Result Save Refusal)) (scratch₂ : List ℕ)
      → left (as_outcome begin) scratch₂ ≡ leaving scratch (begun ls₂ page start place image scratch)
      → (x : Cut) → x ≡ cut_after k place image scratch₂ out (begun_with scratch₂ (as_outcome begin))
      → x ≡ cut_after k place image scratch out (begun ls page start place image scratch)
  cut-of-lists ls ls₂ e begin scratch₂ h x f =
      f
      ∙ cut-begun scratch₂ (as_outcome begin) (begun ls₂ page start place image scratch) h
      ∙ ap (λ (l : Lists). cut_after k place image scratch out (begun l page start place image scratch)) e
