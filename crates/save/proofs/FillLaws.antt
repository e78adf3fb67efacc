-- What a beginning does after its early tests: its refusals, and what it writes into the scratch. Assumes nothing.
use mathlib.Core.Path.{◌≡◌, refl, sym, ap, ap₂, ◌∙◌}
use mathlib.Core.Logic.{◌⊎◌, inl, inr, ⊎_elim}
use Prim.Native.Nat.{ℕ, zero, suc, ◌+◌, ◌-◌, ◌≤◌, ◌<◌, min}
use native.Mathlib.Omega.{arith}
use mathlib.Core.Bool.{Bool, true, false, cond}
use mathlib.Core.List.{List, [], ◌∷◌, ◌++◌}
use borrow.Author.Tests.{lt-ltb, le-ltb, ltb-false, ltb-true}
use lib.Dec.{ltb}
use lib.ListN.{length, get_or, take, drop, take-append-drop}
use lib.Seq.{length-take-le}
use Rattle.std.specs.Prelude.{Result, Ok, Err}
use Rattle.error.specs.Answers.{as_outcome}
use Rattle.error.specs.declared.Refusal.{Refusal}
use Rattle.error.specs.declared.Refusal.TheVariants.{Width, Page, NotAList, Overflow, SharedAddress, PartUnit, OtherKind, Short, MessageVersion, Strategy, InvalidManager, Checksum, WideAddress, Place, OverCapacity, VersionOrClient, BackAddress}
use Rattle.error.specs.Refusals.{number_of}
use Rattle.error.specs.Outcome.{Outcome, answer, refused, when, first_of}
use Rattle.error.specs.Lent.{With, with, Left, left, leaving, over}
use Rattle.error.proofs.OutcomeLaws.{passes, first-none, first_holds, first_passes}
use Rattle.error.proofs.OverLaws.{length_over, over-nil}
use Rattle.free_lists.specs.declared.FileLists.{FileLists}
use Rattle.free_lists.specs.Lists.{Regions, lists_in, regions_in, are_lists, shared_byte}
use Rattle.fsm_sections.proofs.StoredLaws.{refused_alike}
use Rattle.fsm_blocks.specs.Settings.{starting_set}
use Rattle.fsm_blocks.proofs.LengthLaws.{part_room, part_back}
use Rattle.fsm_plan.specs.declared.blocks.PagedManagerPlan.{PagedManagerPlan}
use Rattle.fsm_plan.specs.declared.blocks.BlocksPlan.{BlocksPlan}
use Rattle.fsm_plan.specs.Order.{repeats}
use Rattle.fsm_plan.specs.Blocks.{blocks_at, planned_blocks, slots_by}
use Rattle.fsm_plan.proofs.PlannedLaws.{length_blocks, plan_slots}
use Rattle.fsm_writer.specs.Paged.{written_managers}
use Rattle.fsm_writer.proofs.RowLaws.{over-after}
use Rattle.checksum.specs.Lookup3.{lookup3}
use Rattle.file_space_info.specs.declared.FileSpaceInfo.{FileSpaceInfo}
use Rattle.file_space_info.specs.declared.FileSpaceStrategy.TheVariants as strategy
use Rattle.file_space_info.specs.declared.WithSlots.{WithSlots}
use Rattle.file_space_info.specs.Infos.{made, persistent_managers}
use Rattle.file_space_info.specs.Message.{message_bytes, serialized}
use Rattle.file_space_info.proofs.MessageLaws.{length-twelve}
use Rattle.free_lists.specs.declared.calls.Which.TheVariants.{Metadata, Raw, Unclassified}
use Rattle.save_step.specs.declared.Save.{Save}
use Rattle.save.specs.Saving.{as_sections, large, block_len, block_bytes, message_of, plan, too_large, blocks_out}
use Rattle.save.specs.Beginning.{counts_in, message_by, begun_after}
use Rattle.save.proofs.PlaceLaws.{not_longer}
use Rattle.save.proofs.TieLaws.{M, later, wide_test, end_is, planned-is, written_is}

-- ---- the message

module _ (page start : ℕ) (p : PagedManagerPlan) (w : WithSlots) (we : w ≡ persistent_managers strategy.Page 1 page (slots_by p) start) where
  message_answers : (part : List ℕ) → 125 ≤ length part → serialized w.info w.slots part ≡ answer (with 125 (over 0 (message_by page start p) part))
  unfolding serialized
  message_answers part h =
      let long : length (message_by page start p) ≡ 125 = length-twelve (made true strategy.Page 1 page start) (slots_by p) refl refl in
      let fits : length (message_by page start p) ≤ length part = omega (arith, long) in
      ap₂ (λ (i : FileSpaceInfo) (s : List ℕ). serialized i s part) (ap (λ (q : WithSlots). q.info) we) (ap (λ (q : WithSlots). q.slots) we)
      ∙ sym (passes _ (OverCapacity (length (message_by page start p)) (length part)) _ (le-ltb (length part) (length (message_by page start p)) fits))
      ∙ ap (λ (n : ℕ). answer (with n (over 0 (message_by page start p) part))) long

  pub message_put : (d : List ℕ) (at : ℕ) → at + 125 ≤ length d → (r : (Result ℕ Refusal)) (ws : List ℕ)
      → left (as_outcome r) ws ≡ leaving (take (length d - at) (drop at d)) (serialized w.info w.slots (take (length d - at) (drop at d)))
      → take at d ++ (ws ++ drop (length d - at) (drop at d)) ≡ over at (message_by page start p) d
  message_put d at h r ws e =
      part_back d ws (message_by page start p) at
      (ap (λ (q : Left ℕ (List ℕ)). q.memory) (e ∙ ap (leaving (take (length d - at) (drop at d))) (message_answers _ (part_room d at 125 h))))

-- ---- the refusals 4 and 14 by their number

only_overflow : (r : Refusal) → number_of r ≡ 4 → r ≡ Overflow
only_overflow Width e = absurd (omega arith)
only_overflow Page e = absurd (omega arith)
only_overflow NotAList e = absurd (omega arith)
only_overflow Overflow e = refl
only_overflow SharedAddress e = absurd (omega arith)
only_overflow PartUnit e = absurd (omega arith)
only_overflow OtherKind e = absurd (omega arith)
only_overflow (Short a b) e = absurd (omega arith)
only_overflow (MessageVersion b) e = absurd (omega arith)
only_overflow (Strategy b) e = absurd (omega arith)
only_overflow InvalidManager e = absurd (omega arith)
only_overflow (Checksum a b) e = absurd (omega arith)
only_overflow WideAddress e = absurd (omega arith)
only_overflow Place e = absurd (omega arith)
only_overflow (OverCapacity n g) e = absurd (omega arith)
only_overflow (VersionOrClient b) e = absurd (omega arith)
only_overflow BackAddress e = absurd (omega arith)

only_capacity : (r : Refusal) → number_of r ≡ 14 → (n : ℕ) × (g : ℕ) × (r ≡ OverCapacity n g)
only_capacity Width e = absurd (omega arith)
only_capacity Page e = absurd (omega arith)
only_capacity NotAList e = absurd (omega arith)
only_capacity Overflow e = absurd (omega arith)
only_capacity SharedAddress e = absurd (omega arith)
only_capacity PartUnit e = absurd (omega arith)
only_capacity OtherKind e = absurd (omega arith)
only_capacity (Short a b) e = absurd (omega arith)
only_capacity (MessageVersion b) e = absurd (omega arith)
only_capacity (Strategy b) e = absurd (omega arith)
only_capacity InvalidManager e = absurd (omega arith)
only_capacity (Checksum a b) e = absurd (omega arith)
only_capacity WideAddress e = absurd (omega arith)
only_capacity Place e = absurd (omega arith)
only_capacity (OverCapacity n g) e = (n, g, refl)
only_capacity (VersionOrClient b) e = absurd (omega arith)
only_capacity BackAddress e = absurd (omega arith)

-- ---- a plan whose 4 comes first

module _ (xs ys zs : List ℕ) (f : FileLists) (page start : ℕ) (some : 0 < page) (lists : are_lists (lists_in xs ys zs f) ≡ true) (early : Refusal) where
  abbrev rs : Regions
  rs = regions_in (lists_in xs ys zs f)

  abbrev four : Bool → Outcome Save
  four t = first_of (when t Overflow ∷ []) (refused early)

  abbrev Plans : Outcome BlocksPlan → Type 0
  Plans x = x ≡ planned_blocks xs ys zs (counts_in f) page start 8

  outcome-is : (x : Outcome BlocksPlan) → Plans x → x ≡ first_of (when (too_large page start rs) Overflow ∷ later page start rs) (answer (blocks_at 8 start (M page start rs)))
  outcome-is x xe = xe ∙ planned-is xs ys zs f page start some lists

  pub early_four : Plans (refused Overflow) → refused Overflow ≡ four (too_large page start rs)
  unfolding first_of
  early_four xe = pick (too_large page start rs) (repeats (large page rs)) (wide_test page start rs) (outcome-is _ xe)
    where
      pick : (t u v : Bool) → refused Overflow ≡ cond t (refused Overflow) (cond u (refused SharedAddress) (cond v (refused WideAddress) (answer (blocks_at 8 start (M page start rs))))) → refused Overflow ≡ four t
      pick true u v e = refl
      pick false true v e = let z : ◌≡◌ {A = ℕ} 4 5 = cc in absurd (omega arith)
      pick false false true e = let z : ◌≡◌ {A = ℕ} 4 12 = cc in absurd (omega arith)
      pick false false false e = let z : ◌≡◌ {A = ℕ} 0 1 = cc in absurd (omega arith)

  -- of a plan, or another refusal: the end is not too large
  pub early_plan : (p : BlocksPlan) → Plans (answer p) → refused early ≡ four (too_large page start rs)
  unfolding first_of
  early_plan p xe = pick (too_large page start rs) (outcome-is _ xe)
    where
      pick : (t : Bool) → answer p ≡ cond t (refused Overflow) (first_of (later page start rs) (answer (blocks_at 8 start (M page start rs)))) → refused early ≡ four t
      pick true e = let z : ◌≡◌ {A = ℕ} 0 1 = cc in absurd (omega arith)
      pick false e = refl

  pub early_other : (r : Refusal) → (r ≡ Overflow → ⊥) → Plans (refused r) → refused early ≡ four (too_large page start rs)
  unfolding first_of
  early_other r n xe = pick (too_large page start rs) (outcome-is _ xe)
    where
      pick : (t : Bool) → refused r ≡ cond t (refused Overflow) (first_of (later page start rs) (answer (blocks_at 8 start (M page start rs)))) → refused early ≡ four t
      pick true e = let z : number_of r ≡ 4 = cc in absurd (n (only_overflow r z))
      pick false e = refl

-- ---- a beginning, by the branches of the code

-- what is left of a part at the front
front-over : (n : ℕ) (u d : List ℕ) → length u ≤ n → over 0 u (take n d) ++ drop n d ≡ over 0 u d
front-over zero [] d h = sym (over-nil 0 d)
front-over zero (x ∷ u) d h = absurd (omega arith)
front-over (suc n) u [] h = refl
front-over (suc n) [] (y ∷ d) h = ap (λ (l : List ℕ). y ∷ l) (take-append-drop n d)
front-over (suc n) (x ∷ u) (y ∷ d) h = ap (λ (l : List ℕ). x ∷ l) (front-over n u d (omega arith))

module _ (xs ys zs : List ℕ) (f : FileLists) (page start place : ℕ) (image d : List ℕ) (some : 0 < page) (lists : are_lists (lists_in xs ys zs f) ≡ true)
    (apart : shared_byte (regions_in (lists_in xs ys zs f)) ≡ false) (room : ℕ) (out : (L : ℕ) → blocks_out L start place image ≡ ltb room L) (lent : ℕ)
    (le : lent ≡ min room (length d - 125)) where
  abbrev Rs : Regions
  Rs = regions_in (lists_in xs ys zs f)

  abbrev L : ℕ
  L = block_len page Rs

  abbrev T : Bool
  T = too_large page start Rs

  abbrev B : BlocksPlan
  B = blocks_at 8 start (M page start Rs)

  abbrev bytes : List ℕ
  bytes = block_bytes page start Rs

  long : length bytes ≡ L
  long = length_blocks 8 (starting_set 8) lookup3 (plan page Rs) start

  D-long : length (take lent d) ≡ lent
  D-long = length-take-le lent d (omega arith)

  abbrev whole : Outcome (With Save (List ℕ))
  whole = begun_after Rs page start place image d

  module _ (x : (Result BlocksPlan Refusal)) (ys' : List ℕ) (e : left (as_outcome x) ys' ≡ leaving (take lent d) (written_managers xs ys zs (counts_in f) page start 8 (take lent d))) where
    abbrev after : List ℕ
    after = ys' ++ drop lent d

    abbrev Large : Type 0
    Large = (T ≡ true) × (as_outcome x ≡ refused Overflow) × (after ≡ d)

    abbrev Over : Type 0
    Over = (T ≡ false) × (lent < L) × (as_outcome x ≡ refused (OverCapacity L lent)) × (after ≡ d)

    abbrev Put : Type 0
    Put = (T ≡ false) × (L ≤ lent) × (as_outcome x ≡ answer B) × (after ≡ over 0 bytes d)

    -- the three ways in which the writing ends
    ways : Large ⊎ (Over ⊎ Put)
    unfolding first_of
    ways = pick T refl (ltb (length (take lent d)) L) refl (e ∙ ap (leaving (take lent d)) (written_is xs ys zs f page start some lists apart (take lent d)))
      where
        same : ys' ≡ take lent d → after ≡ d
        same h = ap (λ (l : List ℕ). l ++ drop lent d) h ∙ take-append-drop lent d

        pick : (t : Bool) → T ≡ t → (u : Bool) → ltb (length (take lent d)) L ≡ u
            → left (as_outcome x) ys' ≡ leaving (take lent d) (cond t (refused Overflow) (cond u (refused (OverCapacity L (length (take lent d)))) (answer (with B (over 0 bytes (take lent d))))))
            → Large ⊎ (Over ⊎ Put)
        pick true te u ue h = inl (te, ap (λ (q : Left BlocksPlan (List ℕ)). q.outcome) h, same (ap (λ (q : Left BlocksPlan (List ℕ)). q.memory) h))
        pick false te true ue h =
            inr (inl (
              te,
              (let k = ltb-true (length (take lent d)) L ue in omega (arith, D-long)),
              ap (λ (q : Left BlocksPlan (List ℕ)). q.outcome) h ∙ ap (λ (n : ℕ). refused (OverCapacity L n)) D-long,
              same (ap (λ (q : Left BlocksPlan (List ℕ)). q.memory) h),
            ))
        pick false te false ue h =
            let k = ltb-false (length (take lent d)) L ue in
            inr (inr (
              te,
              omega (arith, D-long),
              ap (λ (q : Left BlocksPlan (List ℕ)). q.outcome) h,
              ap (λ (l : List ℕ). l ++ drop lent d) (ap (λ (q : Left BlocksPlan (List ℕ)). q.memory) h) ∙ front-over lent bytes d (omega (arith, D-long, long)),
            ))

    -- a refusal that is no 14 is 4
    pub other_refused : (r : Refusal) → x ≡ Err r → ((m g : ℕ) → r ≡ OverCapacity m g → ⊥) → left (refused r) after ≡ leaving d whole
    unfolding begun_after
    other_refused r h n = ⊎_elim is (λ (z : Over ⊎ Put). ⊎_elim short put z) ways
      where
        said : as_outcome x ≡ refused r
        said = ap as_outcome h

        is : Large → left (refused r) after ≡ leaving d whole
        is w =
            ap₂ (λ (o : Outcome Save) (m : List ℕ). left o m) (refused_alike r Overflow (sym said ∙ w.1)) w.2
            ∙ ap (leaving d) (sym (first_holds _ Overflow _ _ w.0))

        short : Over → left (refused r) after ≡ leaving d whole
        short w =
            let q : refused r ≡ refused (OverCapacity L lent) = sym said ∙ w.2 in
            let z : number_of r ≡ 14 = cc in
            let o = only_capacity r z in
            absurd (n o.0 o.1 o.2)

        put : Put → left (refused r) after ≡ leaving d whole
        put w =
            let q : refused r ≡ answer B = sym said ∙ w.2 in
            let z : ◌≡◌ {A = ℕ} 0 1 = cc in
            absurd (omega arith)

    module _ (needed held : ℕ) (h : x ≡ Err (OverCapacity needed held)) where
      said : as_outcome x ≡ refused (OverCapacity needed held)
      said = ap as_outcome h

      is-short : Over
      is-short = ⊎_elim large (λ (z : Over ⊎ Put). ⊎_elim (λ (w : Over). w) put z) ways
        where
          large : Large → Over
          large w =
              let q : refused (OverCapacity needed held) ≡ refused Overflow = sym said ∙ w.1 in
              let z : ◌≡◌ {A = ℕ} 14 4 = cc in
              absurd (omega arith)

          put : Put → Over
          put w =
              let q : refused (OverCapacity needed held) ≡ answer B = sym said ∙ w.2 in
              let z : ◌≡◌ {A = ℕ} 0 1 = cc in
              absurd (omega arith)

      needed_is : needed ≡ L
      needed_is =
          let q : refused (OverCapacity needed held) ≡ refused (OverCapacity L lent) = sym said ∙ is-short.2 in
          let w : needed ∷ held ∷ [] ≡ L ∷ lent ∷ [] = cc in
          ap (λ (l : List ℕ). get_or l 0 0) w

      -- refusal 13 for the blocks
      pub blocks_refused : room < needed → left (refused Place) after ≡ leaving d whole
      unfolding begun_after
      blocks_refused b =
          ap (λ (m : List ℕ). left (refused Place) m) is-short.3
          ∙ ap (leaving d)
          (sym (first_passes _ Overflow _ _ is-short.0 ∙ first_holds _ Place _ _ (out L ∙ lt-ltb room L (omega (arith, needed_is)))))

      module _ (b : needed ≤ room) where
        pub needed_low : needed ≤ length image
        needed_low = not_longer needed start place image (ltb room needed) (sym (out needed)) (le-ltb room needed b)

        -- refusal 14
        pub scratch-refused : (o : Outcome Save) → o ≡ refused (OverCapacity (needed + 125) (length d)) → left o after ≡ leaving d whole
        unfolding begun_after
        scratch-refused o e =
            ap₂ (λ (o : Outcome Save) (m : List ℕ). left o m) (e ∙ ap (λ (n : ℕ). refused (OverCapacity (n + 125) (length d))) needed_is) is-short.3
            ∙ ap (leaving d)
            (sym (first_passes _ Overflow _ _ is-short.0 ∙ first_passes _ Place _ _ (out L ∙ le-ltb room L (omega (arith, needed_is)))
            ∙ first_holds _ (OverCapacity (L + 125) (length d)) _ _ (lt-ltb (length d) (L + 125) (omega (arith, is-short.1, needed_is)))))

    module _ (p : BlocksPlan) (h : x ≡ Ok p) where
      is-put : Put
      is-put = ⊎_elim large (λ (z : Over ⊎ Put). ⊎_elim short (λ (w : Put). w) z) ways
        where
          large : Large → Put
          large w =
              let q : answer p ≡ refused Overflow = sym (ap as_outcome h) ∙ w.1 in
              let z : ◌≡◌ {A = ℕ} 0 1 = cc in
              absurd (omega arith)

          short : Over → Put
          short w =
              let q : answer p ≡ refused (OverCapacity L lent) = sym (ap as_outcome h) ∙ w.2 in
              let z : ◌≡◌ {A = ℕ} 0 1 = cc in
              absurd (omega arith)

      plan_is : p ≡ B
      plan_is = let q : answer p ≡ answer B = sym (ap as_outcome h) ∙ is-put.2 in cc

      ends_at : p.managers.end_of_managers ≡ start + L
      ends_at = ap (λ (q : BlocksPlan). q.managers.end_of_managers) plan_is ∙ end_is page start Rs

      pub plan_start : start ≤ p.managers.end_of_managers
      plan_start = omega (arith, ends_at)

      pub plan_len : p.managers.end_of_managers - start ≡ L
      plan_len = omega (arith, ends_at)

      pub len_low : p.managers.end_of_managers - start ≤ length d
      len_low = omega (arith, plan_len, is-put.1)

      -- a scratch that has no room for a message
      pub message_refused : length d < 125 → (o : Outcome Save) → o ≡ refused (OverCapacity (p.managers.end_of_managers - start + 125) (length d)) → left o after ≡ leaving d whole
      unfolding begun_after
      message_refused b o e =
          let z : L ≡ 0 = omega (arith, is-put.1) in
          let m : after ≡ d = is-put.3 ∙ ap (λ (u : List ℕ). over 0 u d) (none bytes (omega (arith, long))) ∙ over-nil 0 d in
          ap₂ (λ (o : Outcome Save) (q : List ℕ). left o q) (e ∙ ap (λ (n : ℕ). refused (OverCapacity (n + 125) (length d))) plan_len) m
          ∙ ap (leaving d)
          (sym (first_passes _ Overflow _ _ is-put.0 ∙ first_passes _ Place _ _ (out L ∙ le-ltb room L (omega arith))
          ∙ first_holds _ (OverCapacity (L + 125) (length d)) _ _ (lt-ltb (length d) (L + 125) (omega arith))))
        where
          none : (l : List ℕ) → length l ≤ 0 → l ≡ []
          none [] k = refl
          none (y ∷ l) k = absurd (omega arith)

      module _ (b : 125 ≤ length d) where
        after-long : length after ≡ length d
        after-long = ap length is-put.3 ∙ length_over 0 bytes d

        pub message_room : p.managers.end_of_managers - start + 125 ≤ length after
        message_room = omega (arith, plan_len, after-long, is-put.1)

        message_is : message_by page start p.managers ≡ message_of page start Rs
        message_is =
            ap (λ (q : BlocksPlan). message_bytes 8 8 (made true strategy.Page 1 page start) (slots_by q.managers)) plan_is
            ∙ ap (λ (s : List ℕ). message_bytes 8 8 (made true strategy.Page 1 page start) s)
            (sym (plan_slots 8 page (as_sections (Rs Metadata)) (as_sections (Rs Raw)) (as_sections (Rs Unclassified)) start))

        pub begun : (z : List ℕ) → z ≡ over (p.managers.end_of_managers - start) (message_by page start p.managers) after
            → left (answer (record { start = start; place = place; len = p.managers.end_of_managers - start; done = 0 })) z ≡ leaving d whole
        unfolding begun_after
        begun z ze =
            let m : z ≡ over 0 (bytes ++ message_of page start Rs) d =
            ze ∙ ap₂ (λ (n : ℕ) (u : List ℕ). over n u after) (plan_len ∙ sym long) message_is
            ∙ ap (over (length bytes) (message_of page start Rs)) is-put.3 ∙ over-after bytes (message_of page start Rs) d in
            ap₂ (λ (n : ℕ) (q : List ℕ). left (answer (record { start = start; place = place; len = n; done = 0 })) q) plan_len m
            ∙ ap (leaving d)
            (sym (first_passes _ Overflow _ _ is-put.0 ∙ first_passes _ Place _ _ (out L ∙ le-ltb room L (omega (arith, is-put.1)))
            ∙ first_passes _ (OverCapacity (L + 125) (length d)) _ _ (le-ltb (length d) (L + 125) (omega (arith, is-put.1))) ∙ first-none _))
