-- Laws of steps in a row: of any record, and of a save from its beginning, for any blocks and message. Assumes nothing.
use mathlib.Core.Path.{◌≡◌, refl, sym, ap, ◌∙◌}
use mathlib.Core.Logic.{◌⊎◌, inl, inr}
use mathlib.Core.Bool.{false, ◌&&◌}
use mathlib.Core.List.{List, ◌++◌}
use Prim.Native.Nat.{ℕ, zero, suc, ◌+◌, ◌-◌, ◌≤◌, ◌<◌}
use native.Mathlib.Nat.{add-suc, add-zero}
use native.Mathlib.Numerals.{add-one}
use native.Mathlib.Omega.{arith}
use lib.Dec.{ltb}
use lib.ListN.{length-set, length, get_or, length-append}
use lib.Seq.{take-append_seam, drop-append_seam, take_at}
use borrow.Author.Tests.{le-leb, lt-leb, lt-ltb, le-ltb}
use Rattle.error.specs.Outcome.{Outcome, answer, nothing, refuse}
use Rattle.error.specs.Lent.{With, with, Left, left, leaving}
use Rattle.error.proofs.TestLaws.{le-or-lt}
use Rattle.fields.specs.Layout.{window}
use Rattle.save_step.specs.declared.Save.{Save}
use Rattle.file_space_info.specs.Message.{message_len}
use Rattle.save_step.specs.Stores.{no_store, make_all, after, save_stores}
use Rattle.save_step.specs.Steps.{stores, leaves, next_store, one_more, stepped, Saving, saving, record_after, go_on, step_on, steps}
use Rattle.save_step.specs.declared.Progress.{Progress}
use Rattle.save_step.specs.declared.Progress.TheVariants.{Stored, Finished}
use Rattle.save_step.proofs.StoreLaws.{after-suc}
use Rattle.save_step.proofs.CutLaws.{Savable, number_of-stores, cut-length}
use Rattle.save_step.proofs.StepLaws.{step_ends, step_made}

-- ---- any record

-- a step after the last says finished and changes nothing, whatever it is given
pub step_ended : (s : Save) (image scratch : List ℕ) → stores s.len ≤ s.done → stepped s image scratch ≡ answer (with Finished image)
unfolding stepped
step_ended s image scratch h = rw (le-leb (stores s.len) s.done h)

pub steps-add : (m n : ℕ) (scratch : List ℕ) (x : Saving) → steps (m + n) scratch x ≡ steps n scratch (steps m scratch x)
unfolding steps
steps-add m zero scratch x = rw add-zero
steps-add m (suc n) scratch x = rw add-suc (ap (step_on scratch) (steps-add m n scratch x))

-- where a step changes nothing, no number of them does
pub steps_still : (scratch : List ℕ) (x : Saving) → step_on scratch x ≡ x → (k : ℕ) → steps k scratch x ≡ x
unfolding steps
steps_still scratch x e zero = refl
steps_still scratch x e (suc k) = ap (step_on scratch) (steps_still scratch x e k) ∙ e

pub steps-length : (k : ℕ) (scratch : List ℕ) (x : Saving) → length (steps k scratch x).image ≡ length x.image
unfolding steps
steps-length zero scratch x = refl
steps-length (suc k) scratch x =
    let y = steps k scratch x in
    let s = next_store y.save scratch in
    step_ends y.save y.image scratch (λ o. length (go_on y o).image ≡ length y.image) refl refl (length-set y.image s.place s.byte)
    ∙ steps-length k scratch x

-- ---- the loop of `save_steps`: o is the outcome of a step on c and image, and new the image after it

both : {x y : Left Progress (List ℕ)} → x ≡ y → (x.outcome ≡ y.outcome) × (x.memory ≡ y.memory)
both e = (ap (λ (l : Left Progress (List ℕ)). l.outcome) e, ap (λ (l : Left Progress (List ℕ)). l.memory) e)

module _ (c : Save) (image scratch : List ℕ) where
  goes : (new : List ℕ) (p : Progress) (x : Outcome (With Progress (List ℕ))) → left (answer p) new ≡ leaving image x → saving (record_after c p) new ≡ go_on (saving c image) x
  goes new p (answer a) e = let o = (both e).0 in let v : p ≡ a.value = cc in rw (v, (both e).1)
  goes new p nothing e = let o = (both e).0 in let z : ◌≡◌ {A = ℕ} 0 1 = cc in absurd (omega arith)
  goes new p (refuse n vs) e = let o = (both e).0 in let z : ◌≡◌ {A = ℕ} 0 1 = cc in absurd (omega arith)

  -- a step that says finished or refuses changes nothing
  stands : (new : List ℕ) (o : Outcome Progress) → ((t : Save) → o ≡ answer (Stored t) → ⊥) → left o new ≡ leaving image (stepped c image scratch)
      → (new ≡ image) × (step_on scratch (saving c image) ≡ saving c image)
  stands new o n =
      step_ends c image scratch (λ x. left o new ≡ leaving image x → (new ≡ image) × (go_on (saving c image) x ≡ saving c image))
      (λ e. ((both e).1, refl))
      (λ e. ((both e).1, refl))
      (λ e. absurd (n (one_more c) (both e).0))

  pub steps_step : (x : Saving) (i : ℕ) → saving c image ≡ steps i scratch x → (new : List ℕ) (o : Outcome Progress) (t : Save) → o ≡ answer (Stored t)
      → left o new ≡ leaving image (stepped c image scratch) → saving t new ≡ steps (i + 1) scratch x
  unfolding steps
  steps_step x i h new o t s e =
      goes new (Stored t) (stepped c image scratch) (ap (λ (q : Outcome Progress). left q new) (sym s) ∙ e) ∙ ap (step_on scratch) h ∙ rw add-one

  pub steps-stop : (x : Saving) (i : ℕ) → saving c image ≡ steps i scratch x → (new : List ℕ) (o : Outcome Progress) → ((t : Save) → o ≡ answer (Stored t) → ⊥)
      → left o new ≡ leaving image (stepped c image scratch) → (k : ℕ) → i ≤ k → saving c new ≡ steps k scratch x
  steps-stop x i h new o n e k l =
      let z : i + (k - i) ≡ k = omega arith in
      let s = stands new o n e in
      ap (saving c) s.0
      ∙ sym (steps_still scratch (saving c image) s.1 (k - i))
      ∙ ap (steps (k - i) scratch) h
      ∙ sym (steps-add i (k - i) scratch x)
      ∙ ap (λ (n : ℕ). steps n scratch x) z

-- ---- a save from its beginning: the scratch has the blocks, the message, and more

module _ (place start : ℕ) (blocks message image : List ℕ) (s : Savable place start blocks message image) (more : List ℕ) where
  abbrev L : ℕ
  L = length blocks

  abbrev cut : ℕ → List ℕ
  cut k = after k image (save_stores place start blocks message)

  abbrev lent : List ℕ
  lent = blocks ++ (message ++ more)

  abbrev done : ℕ → Save
  done k = record { start = start; place = place; len = L; done = k }

  lent_message : window L message_len lent ≡ message
  lent_message = rw (drop-append_seam blocks (message ++ more)) (take_at message more message_len s.message_long)

  stays : (k : ℕ) → leaves (done k) (length (cut k)) (length lent) ≡ false
  stays k =
      rw (
        cut-length place start blocks message image s k,
        le-ltb (length image) (place + message_len) s.message_in,
        le-ltb (length lent) (L + message_len) (omega (arith, s.message_long, length-append blocks (message ++ more), length-append message more)),
      )
      (blocks_stay (le-or-lt 1 L))
    where
      blocks_stay : (1 ≤ L) ⊎ (L < 1) → (ltb 0 L && ltb (length image) (start + L)) ≡ false
      blocks_stay (inl h) = rw (lt-ltb 0 L h, le-ltb (length image) (start + L) (s.blocks_in h))
      blocks_stay (inr h) = rw (le-ltb 0 L (omega arith))

  next-is : (k : ℕ) → next_store (done k) lent ≡ get_or (save_stores place start blocks message) k no_store
  unfolding next_store
  next-is k = rw (take-append_seam blocks (message ++ more), lent_message)

  -- step number k + 1 makes store number k, and counts it
  pub step_is : (k : ℕ) → k < stores L → stepped (done k) (cut k) lent ≡ answer (with (Stored (done (suc k))) (cut (suc k)))
  step_is k h =
      step_made (done k) (cut k) lent (lt-leb (stores L) k h) (stays k)
      ∙ rw (add-one, next-is k, after-suc k image (save_stores place start blocks message) (omega (arith, number_of-stores place start blocks message image s)))

  pub steps_are : (k : ℕ) → k ≤ stores L → steps k lent (saving (done 0) image) ≡ saving (done k) (cut k)
  unfolding steps make_all
  steps_are zero h = refl
  steps_are (suc k) h = rw (steps_are k (omega arith), step_is k h)

  -- the step after the last, and all that follow
  pub step_after : stepped (done (stores L)) (cut (stores L)) lent ≡ answer (with Finished (cut (stores L)))
  step_after = step_ended (done (stores L)) (cut (stores L)) lent (omega arith)

  pub steps-end : (k : ℕ) → stores L ≤ k → steps k lent (saving (done 0) image) ≡ saving (done (stores L)) (cut (stores L))
  steps-end k h =
      let z : stores L + (k - stores L) ≡ k = omega arith in
      ap (λ (n : ℕ). steps n lent (saving (done 0) image)) (sym z)
      ∙ steps-add (stores L) (k - stores L) lent (saving (done 0) image)
      ∙ ap (steps (k - stores L) lent) (steps_are (stores L) (omega arith))
      ∙ steps_still lent (saving (done (stores L)) (cut (stores L))) (rw step_after) (k - stores L)
