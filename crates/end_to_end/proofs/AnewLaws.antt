-- A save cut after k steps, and a fresh one over what it left. Assumes nothing.
use mathlib.Core.Path.{◌≡◌, sym, ap, ◌∙◌}
use Prim.Native.Nat.{ℕ, zero, suc, ◌+◌, ◌-◌, ◌^◌, ◌≤◌, ◌<◌, min}
use native.Mathlib.Nat.{le_refl}
use native.Mathlib.Omega.{arith}
use mathlib.Core.Logic.{⊎_elim}
use mathlib.Core.Bool.{Bool, true}
use mathlib.Core.List.{List}
use borrow.Author.Tests.{le-leb}
use lib.ListN.{length}
use Rattle.std.specs.Prelude.{Result, Ok, Err}
use Rattle.error.specs.Answers.{as_outcome}
use Rattle.error.specs.declared.Refusal.{Refusal}
use Rattle.error.specs.Outcome.{Outcome, answer, nothing, refuse}
use Rattle.error.specs.Lent.{With, with, Left, left, leaving}
use Rattle.error.proofs.TestLaws.{le-or-lt}
use Rattle.fields.specs.Ranges.{top}
use Rattle.free_lists.specs.declared.calls.Which.{Which}
use Rattle.free_lists.specs.Lists.{Lists, regions_in}
use Rattle.free_lists.specs.History.{CallOn, empty_lists, free_by_history}
use Rattle.file_space_info.specs.Message.{message_len}
use Rattle.save_step.specs.declared.Save.{Save}
use Rattle.save_step.specs.Steps.{all_made, stepped, Saving, saving, step_on, steps}
use Rattle.save.specs.Saving.{begun}
use Rattle.save.specs.EveryCut.{OneSave, one_save, blocks, store_count, after_steps, image_after, record_at, EveryCut}
use Rattle.save.proofs.AfterCallsLaws.{every-cut-after-calls}
use Rattle.end_to_end.specs.Cuts.{begun_with}
use Rattle.end_to_end.specs.Anew.{Stepped, stepped_with, steps_of, stepped_after, stepped_by, Anew, anew_with, anew_over, anew_after, EndsUncut}
use Rattle.end_to_end.specs.Demanded.{lists}
use Rattle.end_to_end.proofs.DemandedLaws.{counted, same_after}

-- ---- one save

module _ (k : ℕ) (image scratch : List ℕ) where
  -- a beginning's answer and the scratch that it left are all that steps take
  of-begun : (scratch₂ : List ℕ) (o : Outcome Save) (b : Outcome (With Save (List ℕ)))
      → left o scratch₂ ≡ leaving scratch b → steps_of k image scratch₂ (begun_with scratch₂ o) ≡ steps_of k image scratch b
  of-begun scratch₂ o (answer b) e = ap (λ (q : Left Save (List ℕ)). steps_of k image q.memory (begun_with q.memory q.outcome)) e
  of-begun scratch₂ o nothing e = ap (λ (q : Left Save (List ℕ)). steps_of k image q.memory (begun_with q.memory q.outcome)) e
  of-begun scratch₂ o (refuse n vs) e = ap (λ (q : Left Save (List ℕ)). steps_of k image q.memory (begun_with q.memory q.outcome)) e

  module _ (b : Outcome (With Save (List ℕ))) (begin : (Result Save Refusal)) (scratch₂ : List ℕ) (e : left (as_outcome begin) scratch₂ ≡ leaving scratch b) where
    -- a beginning that is refused
    pub refused-steps : (r : Refusal) → begin ≡ Err r → stepped_by (Err r) image scratch₂ ≡ steps_of k image scratch b
    refused-steps r f =
        sym (ap (λ (x : (Result Save Refusal)). steps_of k image scratch₂ (begun_with scratch₂ (as_outcome x))) f) ∙ of-begun scratch₂ (as_outcome begin) b e

    -- steps of a save that began
    pub begun-steps : (s : Save) → begin ≡ Ok s → (t : Save) (image₂ : List ℕ) → saving t image₂ ≡ steps k scratch₂ (saving s image)
        → stepped_by (Ok t) image₂ scratch₂ ≡ steps_of k image scratch b
    begun-steps s f t image₂ g =
        ap (λ (x : Saving). stepped_with (answer x.save) x.image scratch₂) g
        ∙ sym (ap (λ (x : (Result Save Refusal)). steps_of k image scratch₂ (begun_with scratch₂ (as_outcome x))) f)
        ∙ of-begun scratch₂ (as_outcome begin) b e

-- ---- the uncut image

-- steps after the last store change nothing, whatever the scratch
no_more : (t n : ℕ) (scratch : List ℕ) (x : Saving) → all_made (steps t scratch x).save ≡ true → steps (t + n) scratch x ≡ steps t scratch x
unfolding steps stepped
no_more t zero scratch x e = let z : t + 0 ≡ t = omega arith in ap (λ (n : ℕ). steps n scratch x) z
no_more t (suc n) scratch x e =
    let z : t + suc n ≡ suc (t + n) = omega arith in
    ap (λ (n : ℕ). steps n scratch x) z
    ∙ ap (step_on scratch) (no_more t n scratch x e)
    ∙ rw e

module _ (s : OneSave) (free : ℕ → Bool) (beginning : List ℕ → List ℕ → Outcome (With Save (List ℕ))) (d : EveryCut s free beginning) (k : ℕ) (other : List ℕ)
    (room : length (blocks s) + message_len ≤ length other) (low : length other < top) where
  -- the image that a cut leaves is one after at most all steps
  at_most : image_after s k ≡ image_after s (min k (store_count s))
  at_most = ⊎_elim
      (λ (h : k ≤ store_count s). let e : k ≡ min k (store_count s) = omega arith in ap (image_after s) e)
      (λ (h : store_count s < k).
      let e : store_count s ≡ min k (store_count s) = omega arith in
      ap (λ (x : Saving). x.image) (same_after s free beginning d k (omega arith)) ∙ ap (image_after s) e)
      (le-or-lt k (store_count s))

  abbrev left-image : List ℕ
  left-image = image_after s (min k (store_count s))

  again : (lent : List ℕ)
      × (beginning left-image other ≡ answer (with s.save lent))
      × (steps (store_count s) lent (saving s.save left-image) ≡ after_steps s (store_count s))
  again = d.fresh_ends (min k (store_count s)) (omega arith) other room

  last_record : after_steps s (store_count s) ≡ saving (record_at s (store_count s)) (image_after s (store_count s))
  last_record = ap (λ (x : Saving). saving x.save (image_after s (store_count s))) (d.bookkeeping.made (store_count s) (le_refl (store_count s)))

  all-steps : (lent : List ℕ) → steps (store_count s) lent (saving s.save left-image) ≡ after_steps s (store_count s)
      → steps top lent (saving s.save left-image) ≡ saving (record_at s (store_count s)) (image_after s (store_count s))
  all-steps lent e =
      let t : top ≡ store_count s + (top - store_count s) = omega (arith, room, low) in
      ap (λ (n : ℕ). steps n lent (saving s.save left-image)) t
      ∙ no_more (store_count s) (top - store_count s) lent (saving s.save left-image)
      (ap (λ (x : Saving). all_made x.save) (e ∙ last_record) ∙ le-leb (store_count s) (store_count s) (le_refl (store_count s)))
      ∙ e
      ∙ last_record

  second_is : stepped_after top beginning (image_after s k) other ≡ stepped_with (answer (record_at s (store_count s))) (image_after s (store_count s)) again.0
  second_is =
      ap (λ (i : List ℕ). stepped_after top beginning i other) at_most
      ∙ ap (steps_of top left-image other) again.1
      ∙ ap (λ (x : Saving). stepped_with (answer x.save) x.image again.0) (all-steps again.0 again.2)

  both_are : anew_over beginning other (answer (after_steps s k).save) (image_after s k) s.lent
      ≡ anew_with (answer (record_at s (min k (store_count s)))) (answer (record_at s (store_count s))) (image_after s (store_count s)) s.lent again.0
  both_are =
      ap (λ (r : Save). anew_over beginning other (answer r) (image_after s k) s.lent) (counted s free beginning d k)
      ∙ ap (λ (x : Stepped). anew_with (answer (record_at s (min k (store_count s)))) x.outcome x.image s.lent x.scratch) second_is

module _ (runs : Which → List ℕ) (calls : List CallOn) (page start place k : ℕ) (image scratch other : List ℕ) (x : Anew) where
  abbrev beginning : List ℕ → List ℕ → Outcome (With Save (List ℕ))
  beginning = begun (lists runs calls) page start place

  ends-uncut : page < 2 ^ 64 → start < 2 ^ 64 → length other < top → x ≡ anew_after k beginning image scratch other
      → EndsUncut runs calls page start place k image scratch other x
  ends-uncut p q low e = record {
    uncut = λ save lent h room.
        let s = one_save (regions_in (lists runs calls)) page start place image save lent in
        let d = every-cut-after-calls runs calls page start place image scratch save lent p q h in
        let both = is (answer (with save lent)) h ∙ both_are s (free_by_history calls (empty_lists runs)) beginning d k other room low in
        (ap (λ (a : Anew). a.image) both, ap (λ (a : Anew). a.second) both, ap (λ (a : Anew). a.first) both);
    refused = λ n vs h. is (refuse n vs) h;
  }
    where
      over-begun : Outcome (With Save (List ℕ)) → Anew
      over-begun b = let first = steps_of k image scratch b in anew_over beginning other first.outcome first.image first.scratch

      is : (b : Outcome (With Save (List ℕ))) → beginning image scratch ≡ b → x ≡ over-begun b
      is b h = e ∙ ap over-begun h

-- ---- two saves of the lists that calls left

module _ (runs : Which → List ℕ) (calls : List CallOn) (page start place k : ℕ) (image scratch other : List ℕ) (p : page < 2 ^ 64) (q : start < 2 ^ 64)
    (low : length other < top) (ls : Lists) (same : ls ≡ lists runs calls) (first : (Result Save Refusal)) (image₂ scratch₂ : List ℕ)
    (e : stepped_by first image₂ scratch₂ ≡ stepped_after k (begun ls page start place) image scratch) where
  abbrev Says : Anew → Type 0
  Says x = (x ≡ anew_after k (begun (lists runs calls) page start place) image scratch other) × EndsUncut runs calls page start place k image scratch other x

  says : (x : Anew) → x ≡ anew_over (begun ls page start place) other (as_outcome first) image₂ scratch₂ → Says x
  says x f =
      let anew : x ≡ anew_after k (begun (lists runs calls) page start place) image scratch other =
      f
      ∙ ap (λ (y : Stepped). anew_over (begun ls page start place) other y.outcome y.image y.scratch) e
      ∙ ap (λ (l : Lists). anew_after k (begun l page start place) image scratch other) same in
      (anew, ends-uncut runs calls page start place k image scratch other x p q low anew)

  -- the first save is refused
  pub none_anew : (r : Refusal) → first ≡ Err r → Says (anew_with (as_outcome (Err r)) (as_outcome (Err r)) image₂ scratch₂ other)
  none_anew r f = says _ (sym (ap (λ (b : (Result Save Refusal)). anew_over (begun ls page start place) other (as_outcome b) image₂ scratch₂) f))

  -- it began, and so there is a second
  pub both_anew : (s : Save) → first ≡ Ok s → (second : (Result Save Refusal)) (image₃ other₂ : List ℕ)
      → stepped_by second image₃ other₂ ≡ stepped_after top (begun ls page start place) image₂ other
      → Says (anew_with (as_outcome first) (as_outcome second) image₃ scratch₂ other₂)
  both_anew s f second image₃ other₂ g =
      says _ (rw f (ap (λ (y : Stepped). anew_with (answer s) y.outcome y.image scratch₂ y.scratch) g))
