-- Every cut of a save of any three lists of regions, proved. Assumes nothing.
use mathlib.Core.Path.{◌≡◌, refl, sym, ap, ap₂, ◌∙◌, subst}
use mathlib.Core.Logic.{⊎_elim, ◌↔◌}
use Prim.Native.Nat.{ℕ, suc, ◌+◌, ◌^◌, ◌≤◌, ◌<◌}
use native.Mathlib.Nat.{add-zero, le_refl}
use native.Mathlib.Omega.{arith}
use mathlib.Core.Bool.{Bool, true, false, cond}
use mathlib.Core.List.{List, [], ◌++◌, map, append-nil}
use lib.Dec.{lit<, lit≤}
use lib.ListN.{length, drop, get_or}
use Rattle.error.specs.Outcome.{answer}
use Rattle.error.specs.Lent.{with, over}
use Rattle.fields.specs.Le.{le_bytes}
use Rattle.fields.specs.Layout.{layout, window}
use Rattle.fields.specs.Ranges.{top}
use Rattle.checksum.specs.Lookup3.{lookup3}
use Rattle.free_regions.specs.declared.FreeRegion.{FreeRegion}
use Rattle.free_regions.specs.Regions.{region, Free, share_bytes}
use Rattle.free_regions.proofs.OkLaws.{ok_prop}
use Rattle.free_regions.proofs.ShareLaws.{shares_byte}
use Rattle.free_lists.specs.declared.calls.Which.{Which}
use Rattle.free_lists.specs.declared.calls.Which.TheVariants.{Metadata, Raw, Unclassified}
use Rattle.free_lists.specs.Lists.{Regions}
use Rattle.fsm_sections.specs.declared.FreeSection.{FreeSection}
use Rattle.fsm_sections.specs.Sections.{by_size_then_addr, flat, All}
use Rattle.fsm_sections.specs.Pages.{holding}
use Rattle.fsm_sections.proofs.PagesLaws.{slots_hold}
use Rattle.fsm_blocks.specs.Settings.{starting_set}
use Rattle.fsm_blocks.specs.Reading.{joined}
use Rattle.file_space_info.specs.declared.FileSpaceStrategy.TheVariants as strategy
use Rattle.file_space_info.specs.Infos.{made}
use Rattle.file_space_info.proofs.MessageLaws.{length-twelve}
use Rattle.save_step.specs.declared.Save.{Save}
use Rattle.file_space_info.specs.Message.{message_len}
use Rattle.save_step.specs.Stores.{after, save_stores}
use Rattle.save_step.specs.Steps.{stores, Saving, saving, steps}
use Rattle.save_step.specs.declared.Progress.TheVariants.{Stored}
use Rattle.save_step.proofs.CutLaws as c
use Rattle.save_step.proofs.CutLaws.{Savable}
use Rattle.save_step.proofs.StoreLaws.{after-suc}
use Rattle.save_step.proofs.RowLaws.{step_is, steps_are, step_after, steps-end}
use Rattle.fsm_plan.proofs.PlannedLaws.{holding-sorted, length-slots, length_blocks}
use Rattle.save.specs.Saving.{as_sections, small, small_raw, large, plan, block_len, block_bytes, slot_addrs, message_of, filled, begun_of}
use Rattle.fsm_blocks.specs.declared.checks.Reading.{Reading}
use Rattle.image.specs.Reading.{Listed, in_slot, listed as listedFrom, read_image, counts_of}
use Rattle.save.specs.EveryCut.{OneSave, one_save, after_steps, image_after, metadata_slot, raw_slot, large_slot, planned_in_slots, planned_sections, planned_counts, OneStoreAStep, ReadInto, EveryCut, in_list, free_in, EveryCutOfLists}
use Rattle.stored_managers.proofs.SlotsLaws.{slots_read, sorted}
use Rattle.save.proofs.FitLaws.{Ends, list-ends, plan_fits, slots-fit, small_plan}
use Rattle.save.proofs.BeginLaws.{Planned, Accepted, accepted, filled_is, begun-same}
use Rattle.save.proofs.ReadLaws.{reads_nothing, reads_slots, listed-is, into-is, nothing-into}
use Rattle.save.proofs.HoldingLaws.{found_in, holding-nothing, holding-slot, holding-list, in_both, one_of}

-- ---- what the twelve slots of a plan read as

module _ (s : OneSave) where
  abbrev found : List (List FreeSection)
  found = map sorted (plan s.page s.regions)

  slots-listed : listedFrom 0 found ≡ planned_in_slots s
  unfolding by_size_then_addr
  slots-listed = ap (λ (r : List Listed). in_slot 0 (metadata_slot s) ++ (in_slot 2 (raw_slot s) ++ r)) (append-nil (in_slot 6 (large_slot s)))

  slots-joined : joined found ≡ planned_sections s
  unfolding by_size_then_addr joined
  slots-joined = ap (λ (r : List FreeSection). metadata_slot s ++ (raw_slot s ++ r)) (append-nil (large_slot s))

  slots-counted : counts_of found ≡ planned_counts s
  unfolding by_size_then_addr
  slots-counted = refl

-- ---- the addresses

-- the test says what it is to be free in a list
pub in_list_lem : (rs : List FreeRegion) (b : ℕ) → Free rs b ↔ (in_list rs b ≡ true)
in_list_lem rs b =
    let q = shares_byte (region b 1) rs in (
      λ f. q.1 (b, (omega arith, omega arith), f),
      λ e. let x = q.0 e in let same : x.0 ≡ b = omega (arith, x.1) in subst (Free rs) same x.2,
    )

module _ (s : OneSave) (p : Planned s.regions s.page s.start) where
  abbrev lies : Which → ℕ → Bool
  lies i b = in_list (s.regions i) b

  held_in : (i : Which) (b : ℕ) → holding b (as_sections (s.regions i)) ≡ cond (lies i b) 1 0
  held_in i b = holding-list 0 top b (s.regions i) (lies i b) ((ok_prop 0 (s.regions i)).0 (p.valid i)) (in_list_lem (s.regions i) b)

  not_both : (i j : Which) (b : ℕ) → share_bytes (s.regions i) (s.regions j) ≡ false → lies i b ≡ true → lies j b ≡ true → ⊥
  not_both i j b e x y = in_both (s.regions i) (s.regions j) b e ((in_list_lem (s.regions i) b).1 x) ((in_list_lem (s.regions j) b).1 y)

  held_once : (b : ℕ) → holding b (found_in (planned_in_slots s)) ≡ cond (free_in s.regions b) 1 0
  held_once b =
      let M : List FreeSection = as_sections (s.regions Metadata) in
      let W : List FreeSection = as_sections (s.regions Raw) in
      let U : List FreeSection = as_sections (s.regions Unclassified) in
      let all : holding b (found_in (planned_in_slots s)) ≡ holding b M + (holding b W + holding b U) =
      ap (λ (r : List Listed). holding b (found_in (in_slot 0 (metadata_slot s) ++ (in_slot 2 (raw_slot s) ++ r)))) (sym (append-nil (in_slot 6 (large_slot s))))
      ∙ omega (
        arith,
        holding-slot b 0 (metadata_slot s) (in_slot 2 (raw_slot s) ++ (in_slot 6 (large_slot s) ++ [])),
        holding-slot b 2 (raw_slot s) (in_slot 6 (large_slot s) ++ []),
        holding-slot b 6 (large_slot s) [],
        holding-nothing b,
        holding-sorted b (small s.page s.regions),
        holding-sorted b (small_raw s.page s.regions),
        holding-sorted b (large s.page s.regions),
        slots_hold s.page M W U b p.some,
      ) in
      all
      ∙ ap₂ (λ (m n : ℕ). m + n) (held_in Metadata b) (ap₂ (λ (m n : ℕ). m + n) (held_in Raw b) (held_in Unclassified b))
      ∙ one_of (lies Metadata b) (lies Raw b) (lies Unclassified b)
      (not_both Metadata Raw b p.apart01)
      (not_both Metadata Unclassified b p.apart02)
      (not_both Raw Unclassified b p.apart12)

-- ---- the save

module _ (rs : Regions) (page start place : ℕ) (image scratch : List ℕ) (save : Save) (lent : List ℕ) (p64 : page < 2 ^ 64) (s64 : start < 2 ^ 64)
    (a : Accepted rs page start place image scratch save lent) where
  abbrev B : List ℕ
  B = block_bytes page start rs

  abbrev M : List ℕ
  M = message_of page start rs

  abbrev L : ℕ
  L = length B

  abbrev T : ℕ
  T = stores L

  abbrev recorded : ℕ → Save
  recorded k = record { start = start; place = place; len = L; done = k }

  -- the image after k stores
  abbrev img : ℕ → List ℕ
  img k = after k image (save_stores place start B M)

  -- a scratch as the beginning leaves it: blocks, message, and what it had after them
  abbrev more : List ℕ → List ℕ
  more scratch₂ = drop (length (B ++ M)) scratch₂

  abbrev row : List ℕ → List ℕ
  row scratch₂ = B ++ (M ++ more scratch₂)

  abbrev one : OneSave
  one = one_save rs page start place image (recorded 0) (row scratch)

  len : L ≡ block_len page rs
  len = length_blocks 8 (starting_set 8) lookup3 (plan page rs) start

  s : Savable place start B M image
  unfolding layout le_bytes
  s = record {
    message_long = length-twelve (made true strategy.Page 1 page start) (slot_addrs page start rs) refl (length-slots 8 (starting_set 8) (plan page rs) start);
    new_persist = refl;
    message_in = a.placed.inside;
    blocks_in = rw len a.placed.blocks_in;
    apart = rw len a.placed.blocks_apart;
  }

  -- ---- version and strategy stay those of an accepted message

  version-kept : (k : ℕ) → get_or (img k) place 0 ≡ 1
  unfolding layout le_bytes
  version-kept k = ⊎_elim (λ e. e ∙ a.placed.version) (λ e. e) (c.version_byte place start B M image s k)

  strategy_kept : (k : ℕ) → get_or (img k) (place + 1) 0 ≤ 3
  unfolding layout le_bytes
  strategy_kept k = ⊎_elim (λ e. rw e a.placed.strategy) (λ e. rw e (lit≤ tt)) (c.strategy_byte place start B M image s k)

  begins-same : (k : ℕ) (rs₂ : Regions) (page₂ start₂ : ℕ) (scratch₂ : List ℕ) → begun_of rs₂ page₂ start₂ place (img k) scratch₂ ≡ begun_of rs₂ page₂ start₂ place image scratch₂
  begins-same k rs₂ page₂ start₂ scratch₂ =
      begun-same rs₂ page₂ start₂ place image (img k) scratch₂ a.placed.inside (c.cut-length place start B M image s k)
      a.placed.version (version-kept k) a.placed.strategy (strategy_kept k)

  -- ---- the reading

  none_between : (how : Reading) (k : ℕ) → 0 < k → k < T → read_image how place (img k) ≡ answer []
  none_between how k h l =
      reads_nothing how place (img k) (rw (c.cut-length place start B M image s k) a.placed.inside) (version-kept k) (strategy_kept k)
      (c.persist_off place start B M image s k h (omega arith))

  ends : (i : Which) → All (Ends top) (as_sections (rs i))
  ends i = list-ends 0 top (rs i) ((ok_prop 0 (rs i)).0 (a.planned.valid i))

  all_saved : (how : Reading) → read_image how place (img T) ≡ answer (found one)
  all_saved how =
      reads_slots how place (img T) (made true strategy.Page 1 page start) (slot_addrs page start rs) refl
      (lit< tt, (lit< tt, (lit< tt, (lit< tt, (p64, (lit< tt, (s64, slots-fit (plan page rs) start a.planned.last)))))))
      (c.message_stands place start B M image s)
      ∙ slots_read 8 (starting_set 8) 0 how (img T) (plan page rs) start stand
      (plan_fits (plan page rs) start a.planned.last (small_plan page rs ends a.planned.sum0 a.planned.sum2 a.planned.sum6))
    where
      stand : window (start + 0) (block_len page rs) (img T) ≡ B
      stand = rw (add-zero start, ← len) (c.blocks_stand place start B M image s)

  -- ---- the steps

  row_is : (scratch₂ : List ℕ) → block_len page rs + message_len ≤ length scratch₂ → filled page start rs scratch₂ ≡ row scratch₂
  row_is scratch₂ r = filled_is B M scratch₂ (omega (arith, len, s.message_long))

  steps-made : (k : ℕ) → k ≤ T → after_steps one k ≡ saving (recorded k) (img k)
  steps-made k h = steps_are place start B M image s (more scratch) k h

  image-made : (k : ℕ) → k ≤ T → image_after one k ≡ img k
  image-made k h = ap (λ (x : Saving). x.image) (steps-made k h)

  -- after the last store
  ended_at : (k : ℕ) → T ≤ k → after_steps one k ≡ saving (recorded T) (img T)
  ended_at k h = steps-end place start B M image s (more scratch) k h

  -- the same save over what a cut left
  over-again : (k : ℕ) (scratch₂ : List ℕ) → L + message_len ≤ length scratch₂
      → (lent₂ : List ℕ)
      × (begun_of rs page start place (img k) scratch₂ ≡ answer (with (recorded 0) lent₂))
      × (steps T lent₂ (saving (recorded 0) (img k)) ≡ saving (recorded T) (img T))
  over-again k scratch₂ r = (
    row scratch₂,
    begins-same k rs page start scratch₂
        ∙ a.begins scratch₂ (rw len at r)
        ∙ ap₂ (λ (n : ℕ) (l : List ℕ). answer (with (record { start = start; place = place; len = n; done = 0 }) l)) (sym len) (row_is scratch₂ (rw len at r)),
    steps_are place start B M (img k) (c.savable_again place start B M image s k) (more scratch₂) T (le_refl T)
        ∙ ap (saving (recorded T)) (c.saved-again place start B M image s k),
  )

  readings : ReadInto one
  unfolding steps
  readings = record {
    nothing_stored = λ how out. refl;
    in_between = λ how k h l out e. rw (image-made k (omega arith)) (nothing-into how place (img k) out (none_between how k h l) e);
    after_last = λ how out room.
        rw (image-made T (le_refl T))
        (into-is how place (img T) out (found one) (all_saved how) room.0 (rw (slots-joined one) room.1)
        ∙ ap₂ (λ (n : List ℕ) (l : List FreeSection). answer (with n (over 0 (flat l) out))) (slots-counted one) (slots-joined one));
  }

  one-store_a_step : OneStoreAStep one
  one-store_a_step = record {
    begins = refl;
    count = c.number_of-stores place start B M image s;
    made = steps-made;
    next = λ k h.
        rw (steps-made k (omega arith), image-made k (omega arith))
        (step_is place start B M image s (more scratch) k h
        ∙ ap (λ (i : List ℕ). answer (with (Stored (recorded (suc k))) i)) (after-suc k image (save_stores place start B M) (omega (arith, c.number_of-stores place start B M image s))));
    ended = λ k h.
        rw (ended_at k h, ap (λ (x : Saving). x.image) (ended_at k h), image-made T (le_refl T)) (step_after place start B M image s (more scratch));
    long = λ k h. rw (image-made k h) (c.cut-length place start B M image s k);
  }

  holds : EveryCut one (free_in rs) (begun_of rs page start place)
  unfolding steps
  holds = record {
    nothing_stored = λ how. refl;
    in_between = λ how k h l. rw (image-made k (omega arith)) (listed-is how place (img k) [] (none_between how k h l));
    after_last = λ how. rw (image-made T (le_refl T)) (listed-is how place (img T) (found one) (all_saved how) ∙ ap answer (slots-listed one));
    each_once = held_once one a.planned;
    outside = λ k h j p b. rw (image-made k h) (c.frame place start B M image s k j b p);
    fresh_begins = λ k h rs₂ page₂ start₂ scratch₂. rw (image-made k h) (begins-same k rs₂ page₂ start₂ scratch₂);
    fresh_ends = λ k h scratch₂ r. rw (image-made k h, steps-made T (le_refl T)) (over-again k scratch₂ r);
    into = readings;
    bookkeeping = one-store_a_step;
  }

  -- record and scratch are those that the beginning gave
  held : EveryCut (one_save rs page start place image save lent) (free_in rs) (begun_of rs page start place)
  held =
      subst (λ (x : Save). EveryCut (one_save rs page start place image x lent) (free_in rs) (begun_of rs page start place))
      (ap (λ (n : ℕ). record { start = start; place = place; len = n; done = 0 }) len ∙ a.save_is)
      (subst (λ (l : List ℕ). EveryCut (one_save rs page start place image (recorded 0) l) (free_in rs) (begun_of rs page start place)) (sym (row_is scratch a.room) ∙ a.lent_is) holds)

pub every-cut-of-lists : EveryCutOfLists
every-cut-of-lists rs page start place image scratch save lent p64 s64 some valid e =
    held rs page start place image scratch save lent p64 s64 (accepted rs page start place image scratch save lent some valid e)
