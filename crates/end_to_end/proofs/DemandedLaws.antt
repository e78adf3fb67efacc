-- What a cut of the code's save shows is what demand 3 says. Assumes nothing.
use mathlib.Core.Path.{◌≡◌, refl, sym, ap, subst, ◌∙◌}
use Prim.Native.Nat.{ℕ, zero, suc, ◌+◌, ◌-◌, ◌^◌, ◌≤◌, ◌<◌, min}
use native.Mathlib.Nat.{le_refl}
use native.Mathlib.Omega.{arith}
use mathlib.Core.Logic.{⊎_elim}
use mathlib.Core.Bool.{Bool, cond}
use mathlib.Core.List.{List, [], ◌∷◌, ◌++◌, map}
use lib.ListN.{length, replicate}
use Rattle.error.specs.Outcome.{Outcome, answer, nothing, refuse}
use Rattle.error.specs.Lent.{With, with, Left, left, leaving, over}
use Rattle.error.proofs.TestLaws.{le-or-lt}
use Rattle.pairs.proofs.PairLaws.{decode-put}
use Rattle.free_lists.specs.declared.calls.Which.{Which}
use Rattle.free_lists.specs.Lists.{regions_in}
use Rattle.free_lists.specs.History.{CallOn, empty_lists, free_by_history}
use Rattle.fsm_sections.specs.declared.FreeSection.{FreeSection}
use Rattle.fsm_sections.specs.Sections.{decode, flat}
use Rattle.fsm_sections.specs.Pages.{holding}
use Rattle.fsm_sections.proofs.SectionsLaws.{section_form}
use Rattle.save_step.specs.declared.Save.{Save}
use Rattle.save_step.specs.Steps.{Saving, saving, steps, go_on}
use Rattle.save.specs.Saving.{begun}
use Rattle.save.specs.EveryCut.{OneSave, one_save, store_count, after_steps, record_at, metadata_slot, raw_slot, large_slot, planned_in_slots, planned_sections, planned_counts, Room, EveryCut}
use Rattle.save.proofs.AfterCallsLaws.{every-cut-after-calls}
use Rattle.fsm_blocks.specs.declared.checks.Reading.TheVariants.{Loose}
use Rattle.image.specs.Reading.{Listed, in_slot, image_into}
use Rattle.end_to_end.specs.Cuts.{Cut, cut_after}
use Rattle.end_to_end.specs.Demanded.{Shown, lists, Demanded}

found-slot : (i : ℕ) (l : List FreeSection) (r : List Listed) → map (λ x. x.found) (in_slot i l ++ r) ≡ l ++ map (λ x. x.found) r
found-slot i [] r = refl
found-slot i (s ∷ l) r = ap (λ (q : List FreeSection). s ∷ q) (found-slot i l r)

found-last : (i : ℕ) (l : List FreeSection) → map (λ x. x.found) (in_slot i l) ≡ l
found-last i [] = refl
found-last i (s ∷ l) = ap (λ (q : List FreeSection). s ∷ q) (found-last i l)

-- the reading of a cut
read_is : (x : Cut) (o : Left (List ℕ) (List ℕ)) → left x.read x.out ≡ o → (x.read ≡ o.outcome) × (x.out ≡ o.memory)
read_is x o e = (ap (λ (q : Left (List ℕ) (List ℕ)). q.outcome) e, ap (λ (q : Left (List ℕ) (List ℕ)). q.memory) e)

module _ (s : OneSave) (free : ℕ → Bool) (beginning : List ℕ → List ℕ → Outcome (With Save (List ℕ))) (d : EveryCut s free beginning) where
  abbrev t : ℕ
  t = store_count s

  abbrev at : ℕ → Saving
  at = after_steps s

  unchanged_image : (at 0).image ≡ s.image
  unfolding steps
  unchanged_image = refl

  -- steps after the last store change nothing
  later : (n : ℕ) → at (t + n) ≡ at t
  unfolding steps
  later zero = let e : t + 0 ≡ t = omega arith in ap at e
  later (suc n) =
      let e : t + suc n ≡ suc (t + n) = omega arith in
      ap at e
      ∙ ap (go_on (at (t + n))) (d.bookkeeping.ended (t + n) (omega arith))
      ∙ ap (λ (q : Saving). saving q.save (at t).image) (later n)

  pub same_after : (k : ℕ) → t ≤ k → at k ≡ at t
  same_after k h = let e : k ≡ t + (k - t) = omega arith in ap at e ∙ later (k - t)

  -- the record after k steps
  pub counted : (k : ℕ) → (at k).save ≡ record_at s (min k t)
  counted k = ⊎_elim
      (λ (h : k ≤ t). let e : k ≡ min k t = omega arith in ap (λ (q : Saving). q.save) (d.bookkeeping.made k h) ∙ ap (record_at s) e)
      (λ (h : t < k).
      let e : t ≡ min k t = omega arith in
      ap (λ (q : Saving). q.save) (same_after k (omega arith) ∙ d.bookkeeping.made t (le_refl t)) ∙ ap (record_at s) e)
      (le-or-lt k t)

  held : (b : ℕ) → holding b (planned_sections s) ≡ cond (free b) 1 0
  held b =
      let e : map (λ x. x.found) (planned_in_slots s) ≡ planned_sections s =
      found-slot 0 (metadata_slot s) (in_slot 2 (raw_slot s) ++ in_slot 6 (large_slot s))
      ∙ ap (λ (q : List FreeSection). metadata_slot s ++ q)
      (found-slot 2 (raw_slot s) (in_slot 6 (large_slot s)) ∙ ap (λ (q : List FreeSection). raw_slot s ++ q) (found-last 6 (large_slot s))) in
      ap (holding b) (sym e) ∙ d.each_once b

  module _ (k : ℕ) (out : List ℕ) where
    abbrev x : Cut
    x = cut_after k s.place s.image s.lent out (answer (with s.save s.lent))

    reading : (o : Outcome (With (List ℕ) (List ℕ))) → image_into Loose s.place (at k).image out ≡ o → (x.read ≡ (leaving out o).outcome) × (x.out ≡ (leaving out o).memory)
    reading o e = read_is x (leaving out o) (ap (leaving out) e)

    last-read : t ≤ k → Room s out → (x.read ≡ answer (planned_counts s)) × (x.out ≡ over 0 (flat (planned_sections s)) out)
    last-read h room =
        reading (answer (with (planned_counts s) (over 0 (flat (planned_sections s)) out)))
        (ap (λ (q : Saving). image_into Loose s.place q.image out) (same_after k h) ∙ d.into.after_last Loose out room)

    shown : Shown s free beginning k out x
    shown = record {
      demand = d;
      record_is = ap answer (counted k);
      image-is = refl;
      scratch_is = refl;
      reading_is = refl;
      nothing_stored = λ z. (
        ap (λ (n : ℕ). (at n).image) z ∙ unchanged_image,
        ap (leaving out) (ap (λ (n : ℕ). image_into Loose s.place (at n).image out) z ∙ d.into.nothing_stored Loose out),
      );
      in_between = λ l h e. reading (answer (with (replicate 12 0) out)) (d.into.in_between Loose k l h out e);
      after_last = last-read;
      each_once = λ h room b.
          ap (λ (o : List ℕ). holding b (decode (length (planned_sections s)) o)) (last-read h room).1
          ∙ ap (holding b) (decode-put section_form (planned_sections s) out (omega (arith, room.1)))
          ∙ held b;
    }

-- a record is answered only where the beginning is accepted
begins : (k place : ℕ) (image scratch out : List ℕ) (b : Outcome (With Save (List ℕ))) (after : Save)
    → (cut_after k place image scratch out b).outcome ≡ answer after → (save : Save) × (lent : List ℕ) × (b ≡ answer (with save lent))
begins k place image scratch out (answer b) after e = (b.value, b.memory, refl)
begins k place image scratch out nothing after e = let z : ◌≡◌ {A = ℕ} 0 1 = cc in absurd (omega arith)
begins k place image scratch out (refuse n vs) after e = let z : ◌≡◌ {A = ℕ} 0 1 = cc in absurd (omega arith)

module _ (runs : Which → List ℕ) (calls : List CallOn) (page start place k : ℕ) (image scratch out : List ℕ) (x : Cut) where
  abbrev B : Outcome (With Save (List ℕ))
  B = begun (lists runs calls) page start place image scratch

  pub demanded : page < 2 ^ 64 → start < 2 ^ 64 → x ≡ cut_after k place image scratch out B → Demanded runs calls page start place k image scratch out x
  demanded p s e = record {
    accepted = λ after h. begins k place image scratch out B after (ap (λ (c : Cut). c.outcome) (sym e) ∙ h);
    shown = λ save lent h.
        let one = one_save (regions_in (lists runs calls)) page start place image save lent in
        let free = free_by_history calls (empty_lists runs) in
        let again = begun (lists runs calls) page start place in
        subst (Shown one free again k out) (sym (is (answer (with save lent)) h))
        (shown one free again (every-cut-after-calls runs calls page start place image scratch save lent p s h) k out);
    refused = λ n vs h. is (refuse n vs) h;
  }
    where
      is : (b : Outcome (With Save (List ℕ))) → B ≡ b → x ≡ cut_after k place image scratch out b
      is b h = e ∙ ap (cut_after k place image scratch out) h
