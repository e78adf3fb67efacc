-- What an accepted beginning says, and that a beginning sees the image only by its length and by version and strategy of its message. Assumes nothing.
--   Planned    what the conditions leave of the regions and their plan
--   Placed     what they leave of the image
--   Accepted   both, with the record and the scratch that are given
--   Listed     what refusals 2 and 3 leave of lists: their regions are in order, and a beginning of them is one of their regions
use mathlib.Core.Path.{◌≡◌, ap, ◌∙◌}
use mathlib.Core.Logic.{◌⊎◌, inl, inr, ⊎_elim}
use Prim.Native.Nat.{ℕ, ◌+◌, ◌≤◌, ◌<◌, min, max}
use native.Mathlib.Omega.{arith}
use mathlib.Core.Bool.{true, false, ◌&&◌, ◌||◌, not}
use mathlib.Core.List.{List, ◌++◌, append_assoc}
use borrow.Author.Tests.{le-leb, lt-ltb, le-ltb, leb-true, ltb-false, eqb-true, eqb-false, not-false}
use lib.Dec.{ltb}
use lib.ListN.{length, get_or, drop, length-append}
use Rattle.error.specs.Outcome.{answer, first_of}
use Rattle.error.specs.Lent.{With, with, over}
use Rattle.error.proofs.TestLaws.{le-or-lt, and_true, and_false, or_false}
use Rattle.error.proofs.OutcomeLaws.{NoneHolds, first_pass, first_answers, first-append}
use Rattle.error.proofs.OverLaws.{over-is}
use Rattle.fields.specs.Ranges.{top}
use Rattle.free_regions.specs.Regions.{region, ok_from, meets, share_bytes}
use Rattle.free_space.specs.Runs.{is_list}
use Rattle.free_space.proofs.ListLaws.{listed}
use Rattle.free_lists.specs.declared.calls.Which.{Which}
use Rattle.free_lists.specs.declared.calls.Which.TheVariants.{Metadata, Raw, Unclassified}
use Rattle.free_lists.specs.Lists.{Lists, regions_of, Regions, regions_in}
use Rattle.fsm_sections.specs.Sections.{space}
use Rattle.save_step.specs.declared.Save.{Save}
use Rattle.file_space_info.specs.Message.{message_len}
use Rattle.save.specs.Saving.{small, small_raw, large, block_len, message_in, region_tests, list_tests, first_record, filled, begun_of, begun}

-- ---- the facts

pub record Planned (rs : Regions) (page start : ℕ) : Type 0 where
  pub some : 0 < page
  pub valid : (i : Which) → ok_from 0 (rs i) ≡ true
  pub sum0 : space (small page rs) ≤ top
  pub sum2 : space (small_raw page rs) ≤ top
  pub sum6 : space (large page rs) ≤ top
  pub last : start + block_len page rs ≤ top
  pub apart01 : share_bytes (rs Metadata) (rs Raw) ≡ false
  pub apart02 : share_bytes (rs Metadata) (rs Unclassified) ≡ false
  pub apart12 : share_bytes (rs Raw) (rs Unclassified) ≡ false

pub record Placed (start place L : ℕ) (image : List ℕ) : Type 0 where
  pub inside : place + message_len ≤ length image
  pub version : get_or image place 0 ≡ 1
  pub strategy : get_or image (place + 1) 0 ≤ 3
  pub blocks_in : 0 < L → start + L ≤ length image
  pub blocks_apart : 0 < L → (place + message_len ≤ start) ⊎ (start + L ≤ place)

-- regions that do not meet stand on either side of each other
apart : (start place L : ℕ) → meets (region start L) (region place message_len) ≡ false → 0 < L → (place + message_len ≤ start) ⊎ (start + L ≤ place)
apart start place L e h =
    let m : min (start + L) (place + message_len) ≤ max start place = ltb-false _ _ e in
    ⊎_elim (λ (k : place + message_len ≤ start). inl k) (λ (k : start < place + message_len). inr (omega arith)) (le-or-lt (place + message_len) start)

module _ (rs : Regions) (page start place : ℕ) (image : List ℕ) (given : ℕ) (some : 0 < page) (valid : (i : Which) → ok_from 0 (rs i) ≡ true)
    (h : NoneHolds (region_tests rs page start place image given)) where
  abbrev L : ℕ
  L = block_len page rs

  planned : Planned rs page start
  planned =
      let t0 = or_false (ltb top (space (small page rs))) _ h.0 in
      let t2 = or_false (ltb top (space (small_raw page rs))) _ t0.1 in
      let t6 = or_false (ltb top (space (large page rs))) _ t2.1 in
      let s0 = or_false (share_bytes (rs Metadata) (rs Raw)) _ h.1.0 in
      let s1 = or_false (share_bytes (rs Metadata) (rs Unclassified)) _ s0.1 in
      record {
        some = some;
        valid = valid;
        sum0 = ltb-false top (space (small page rs)) t0.0;
        sum2 = ltb-false top (space (small_raw page rs)) t2.0;
        sum6 = ltb-false top (space (large page rs)) t6.0;
        last = ltb-false top (start + L) t6.1;
        apart01 = s0.0;
        apart02 = s1.0;
        apart12 = s1.1;
      }

  placed : Placed start place L image
  placed =
      let m = or_false (not (message_in place image)) _ h.1.1.1.1.0 in
      let i : message_in place image ≡ true = not-false _ m.0 in
      let b = or_false (ltb 0 L && (ltb (length image) (start + L) || meets (region start L) (region place message_len))) _ m.1 in
      record {
        inside = leb-true (place + message_len) (length image) i;
        version = eqb-true (get_or image place 0) 1 (not-false _ (and_false (message_in place image) _ h.1.1.0 i));
        strategy = ltb-false 3 (get_or image (place + 1) 0) (and_false (message_in place image) _ h.1.1.1.0 i);
        blocks_in = λ k. ltb-false (length image) (start + L) (within b.0 k).0;
        blocks_apart = λ k. apart start place L (within b.0 k).1 k;
      }
    where
      within : (ltb 0 L && (ltb (length image) (start + L) || meets (region start L) (region place message_len))) ≡ false → 0 < L
          → (ltb (length image) (start + L) ≡ false) × (meets (region start L) (region place message_len) ≡ false)
      within e k = or_false (ltb (length image) (start + L)) _ (and_false (ltb 0 L) _ e (lt-ltb 0 L k))

  room : L + message_len ≤ given
  room = ltb-false given (L + message_len) h.1.1.1.1.1.0

  -- with any scratch that has room
  begun_again : (scratch : List ℕ) → L + message_len ≤ length scratch
      → begun_of rs page start place image scratch ≡ answer (with (first_record rs page start place) (filled page start rs scratch))
  unfolding begun_of
  begun_again scratch r =
      first_pass (region_tests rs page start place image (length scratch)) _
      (h.0, (h.1.0, (h.1.1.0, (h.1.1.1.0, (h.1.1.1.1.0, (le-ltb (length scratch) (L + message_len) r, tt))))))

-- ---- an accepted beginning

pub record Accepted (rs : Regions) (page start place : ℕ) (image scratch : List ℕ) (save : Save) (lent : List ℕ) : Type 0 where
  pub planned : Planned rs page start
  pub placed : Placed start place (block_len page rs) image
  pub room : block_len page rs + message_len ≤ length scratch
  pub save_is : first_record rs page start place ≡ save
  pub lent_is : filled page start rs scratch ≡ lent
  pub begins : (scratch₂ : List ℕ) → block_len page rs + message_len ≤ length scratch₂
      → begun_of rs page start place image scratch₂ ≡ answer (with (first_record rs page start place) (filled page start rs scratch₂))

pub accepted : (rs : Regions) (page start place : ℕ) (image scratch : List ℕ) (save : Save) (lent : List ℕ)
    → 0 < page → ((i : Which) → ok_from 0 (rs i) ≡ true) → begun_of rs page start place image scratch ≡ answer (with save lent) → Accepted rs page start place image scratch save lent
unfolding begun_of
accepted rs page start place image scratch save lent some valid e =
    let q = first_answers (region_tests rs page start place image (length scratch)) _ _ e in
    record {
      planned = planned rs page start place image (length scratch) some valid q.0;
      placed = placed rs page start place image (length scratch) some valid q.0;
      room = room rs page start place image (length scratch) some valid q.0;
      save_is = ap (λ (w : With Save (List ℕ)). w.value) q.1;
      lent_is = ap (λ (w : With Save (List ℕ)). w.memory) q.1;
      begins = begun_again rs page start place image (length scratch) some valid q.0;
    }

pub filled_is : (blocks message scratch : List ℕ) → length blocks + length message ≤ length scratch
    → over 0 (blocks ++ message) scratch ≡ blocks ++ (message ++ drop (length (blocks ++ message)) scratch)
filled_is blocks message scratch h = over-is (blocks ++ message) scratch (rw length-append h) ∙ append_assoc blocks message _

-- ---- another image of the same length that has an accepted message at the place too

pub begun-same : (rs : Regions) (page start place : ℕ) (image image₂ scratch : List ℕ) → place + message_len ≤ length image → length image₂ ≡ length image
    → get_or image place 0 ≡ 1 → get_or image₂ place 0 ≡ 1 → get_or image (place + 1) 0 ≤ 3 → get_or image₂ (place + 1) 0 ≤ 3
    → begun_of rs page start place image₂ scratch ≡ begun_of rs page start place image scratch
unfolding begun_of first_of
begun-same rs page start place image image₂ scratch i e v v₂ s s₂ =
    rw (e, v, v₂, le-ltb 3 (get_or image (place + 1) 0) s, le-ltb 3 (get_or image₂ (place + 1) 0) s₂, le-leb (place + message_len) (length image) i)

-- ---- a beginning of lists is one of their regions, once refusals 2 and 3 are past

-- what refusals 2 and 3 leave
pub record Listed (ls : Lists) (page : ℕ) : Type 0 where
  pub some : 0 < page
  pub valid : (i : Which) → ok_from 0 (regions_of (ls i)) ≡ true
  pub passes : (start place : ℕ) (image scratch : List ℕ) → begun ls page start place image scratch ≡ begun_of (regions_in ls) page start place image scratch

pub listed-lists : (ls : Lists) (page start place : ℕ) (image scratch : List ℕ) (w : With Save (List ℕ))
    → begun ls page start place image scratch ≡ answer w → Listed ls page
unfolding begun begun_of
listed-lists ls page start place image scratch w e =
    let h = (first_answers (list_tests ls page ++ region_tests (regions_in ls) page start place image (length scratch)) _ w
    (first-append (list_tests ls page) (region_tests (regions_in ls) page start place image (length scratch)) _ ∙ e)).0 in
    let v0 = and_true (is_list (ls Metadata).run (ls Metadata).list) _ (not-false _ h.1.0) in
    let v1 = and_true (is_list (ls Raw).run (ls Raw).list) _ v0.1 in
    record {
      some = let z : page ≡ 0 → ⊥ = eqb-false page 0 h.0 in omega arith;
      valid = each v0.0 v1.0 v1.1;
      passes = λ start place image scratch. first_pass (list_tests ls page) _ (h.0, (h.1.0, tt));
    }
  where
    ok : (i : Which) → is_list (ls i).run (ls i).list ≡ true → ok_from 0 (regions_of (ls i)) ≡ true
    ok i e = (listed (ls i).run (ls i).list e).ok

    each : is_list (ls Metadata).run (ls Metadata).list ≡ true → is_list (ls Raw).run (ls Raw).list ≡ true
        → is_list (ls Unclassified).run (ls Unclassified).list ≡ true → (i : Which) → ok_from 0 (regions_of (ls i)) ≡ true
    each a b c Metadata = ok Metadata a
    each a b c Raw = ok Raw b
    each a b c Unclassified = ok Unclassified c
