-- The plan and the blocks of lists' runs are those of the lists' regions. Assumes nothing.
--   Passed    what refusal 3's test leaves of a run for the plan's own tests
use mathlib.Core.Path.{◌≡◌, refl, sym, ap, ◌∙◌}
use Prim.Native.Nat.{ℕ, ◌+◌, ◌/◌, ◌%◌, ◌≤◌, ◌<◌}
use native.Mathlib.Omega.{arith}
use mathlib.Core.Bool.{Bool, true, false, cond, ◌||◌}
use mathlib.Core.List.{List, [], ◌∷◌, map}
use borrow.Author.Tests.{le-ltb, le-leb, lt-ltb, eq-eqb, ne_eqb, ltb-true, ltb-false}
use lib.Dec.{ltb}
use lib.ListN.{length}
use Rattle.error.specs.declared.Refusal.TheVariants.{Overflow, SharedAddress, WideAddress, OverCapacity}
use Rattle.error.specs.Outcome.{Outcome, answer, refused, Condition, when, first_of, and_then}
use Rattle.error.specs.Lent.{With, with, over}
use Rattle.error.proofs.TestLaws.{and_true, or_false}
use Rattle.error.proofs.OutcomeLaws.{NoneHolds, first_pass, first-append, then_first}
use Rattle.fields.specs.Ranges.{top}
use Rattle.checksum.specs.Lookup3.{lookup3}
use Rattle.free_regions.specs.Regions.{region, ok_from}
use Rattle.free_regions.proofs.OkLaws.{ok_prop}
use Rattle.free_space.specs.declared.list.FreeList.{FreeList}
use Rattle.free_space.specs.Runs.{is_list, decode as decodeRegions}
use Rattle.free_space.proofs.ListLaws.{listed}
use Rattle.pairs.specs.Pairs.{is_run}
use Rattle.pairs.proofs.PairLaws.{decode-map}
use Rattle.free_lists.specs.declared.FileLists.{FileLists}
use Rattle.free_lists.specs.declared.calls.Which.{Which}
use Rattle.free_lists.specs.declared.calls.Which.TheVariants.{Metadata, Raw, Unclassified}
use Rattle.free_lists.specs.Lists.{Regions, lists_in, regions_in, are_lists, shared_byte}
use Rattle.fsm_sections.specs.declared.FreeSection.{FreeSection}
use Rattle.fsm_sections.specs.Sections.{section, decode, space, All}
use Rattle.fsm_sections.specs.Pages.{end, slot0, slot2, slot6}
use Rattle.fsm_sections.specs.Runs.{ends_above, any_wide}
use Rattle.fsm_blocks.specs.Settings.{starting_set, blocks_size}
use Rattle.fsm_plan.specs.declared.Counts.{Counts}
use Rattle.fsm_plan.specs.declared.blocks.Measures.{Measures}
use Rattle.fsm_plan.specs.declared.blocks.BlocksPlan.{BlocksPlan}
use Rattle.fsm_plan.specs.Managers.{managers_of, size_of, blocks_from}
use Rattle.fsm_plan.specs.Order.{repeats}
use Rattle.fsm_plan.specs.Blocks.{paged, in_slot0, in_slot2, in_large, measure_of, measures_of, slots_measured, size_tests, end_at, managers_at, blocks_at, wide_managers, run_tests, planned_from, planned_blocks}
use Rattle.fsm_plan.proofs.LimitLaws.{managers_narrow}
use Rattle.fsm_plan.proofs.PlannedLaws.{plan_size}
use Rattle.fsm_writer.specs.Paged.{written_managers}
use Rattle.save.specs.Saving.{as_sections, small, small_raw, large, block_len, block_bytes, too_large}
use Rattle.save.specs.Beginning.{counts_in}
use Rattle.save.proofs.FitLaws.{Ends, list-ends, narrow-all, small_plan}
use Rattle.save.proofs.OnceLaws.{slot6-once}

-- ---- a run that is a list passes the plan's tests

decode-sections : (n : ℕ) (xs : List ℕ) → decode n xs ≡ map (λ r. section r.addr r.len) (decodeRegions n xs)
decode-sections n xs = sym (decode-map region (λ r. section r.addr r.len) n xs)

none_late : (rs : List FreeSection) → All (Ends top) rs → ends_above rs ≡ false
none_late [] h = refl
none_late (r ∷ rs) h = rw (le-ltb top (end r) h.0) (none_late rs h.1)

record Passed (xs : List ℕ) (l : FreeList) : Type 0 where
  run : is_run xs l.count ≡ true
  ends : ends_above (decode l.count xs) ≡ false

fine : (xs : List ℕ) (l : FreeList) → is_list xs l ≡ true → Passed xs l
fine xs l e =
    let p = listed xs l e in
    let n = l.count in
    record {
      run = rw (eq-eqb (length xs % 2) 0 p.even, le-leb n (length xs / 2) (omega (arith, p.room)));
      ends = rw (decode-sections n xs) (none_late (map (λ r. section r.addr r.len) (decodeRegions n xs)) (list-ends 0 top (decodeRegions n xs) ((ok_prop 0 (decodeRegions n xs)).0 p.ok)));
    }

-- three lists that pass refusal 3's test, each by itself
pub each-list : (xs ys zs : List ℕ) (f : FileLists) → are_lists (lists_in xs ys zs f) ≡ true
    → (is_list xs f.metadata ≡ true) × (is_list ys f.raw ≡ true) × (is_list zs f.unclassified ≡ true)
each-list xs ys zs f e =
    let p = and_true (is_list xs f.metadata) _ e in
    let q = and_true (is_list ys f.raw) (is_list zs f.unclassified) p.1 in
    (p.0, q.0, q.1)

-- ---- conditions in a row

-- refusal 4 by seven tests, and by four: the lengths are among the end
seven : {A : Type 0} (p p' q q' r r' e : Bool) (cs : List Condition) (x : Outcome A) → (p' ≡ true → e ≡ true) → (q' ≡ true → e ≡ true) → (r' ≡ true → e ≡ true)
    → first_of (when p Overflow ∷ when p' Overflow ∷ [])
    (first_of (when q Overflow ∷ when q' Overflow ∷ []) (first_of (when r Overflow ∷ when r' Overflow ∷ []) (first_of (when e Overflow ∷ cs) x)))
    ≡ first_of (when (p || (q || (r || e))) Overflow ∷ cs) x
unfolding first_of
seven true p' q q' r r' e cs x f g h = refl
seven {A} false p' true q' r r' e cs x f g h = pick p'
  where
    pick : (t : Bool) → cond t (refused {A = A} Overflow) (refused Overflow) ≡ refused Overflow
    pick true = refl
    pick false = refl
seven {A} false p' false q' true r' e cs x f g h = pick p' q'
  where
    pick : (t u : Bool) → cond t (refused {A = A} Overflow) (cond u (refused Overflow) (refused Overflow)) ≡ refused Overflow
    pick true u = refl
    pick false true = refl
    pick false false = refl
seven {A} false p' false q' false r' true cs x f g h = pick p' q' r'
  where
    pick : (t u v : Bool) → cond t (refused {A = A} Overflow) (cond u (refused Overflow) (cond v (refused Overflow) (refused Overflow))) ≡ refused Overflow
    pick true u v = refl
    pick false true v = refl
    pick false false true = refl
    pick false false false = refl
seven false p' false q' false r' false cs x f g h = rw (no p' f, no q' g, no r' h)
  where
    no : (t : Bool) → (t ≡ true → false ≡ true) → t ≡ false
    no true k = sym (k refl)
    no false k = refl

-- ---- the plan of three lists

module _ (page start : ℕ) (rs : Regions) where
  abbrev S : List FreeSection
  S = small page rs

  abbrev R : List FreeSection
  R = small_raw page rs

  abbrev G : List FreeSection
  G = large page rs

  abbrev pub M : Measures
  M = record { slot0 = measure_of 8 S; slot2 = measure_of 8 R; slot6 = measure_of 8 G }

  pub len_is : block_len page rs ≡ blocks_size 8 S + blocks_size 8 R + blocks_size 8 G
  len_is = plan_size 8 page (as_sections (rs Metadata)) (as_sections (rs Raw)) (as_sections (rs Unclassified))

  pub end_is : end_at start M ≡ start + block_len page rs
  end_is = omega (arith, len_is)

  -- what refusal 4 leaves
  pub record Sums : Type 0 where
    pub sum0 : space S ≤ top
    pub sum2 : space R ≤ top
    pub sum6 : space G ≤ top
    pub last : start + block_len page rs ≤ top

  pub sums : too_large page start rs ≡ false → Sums
  sums e =
      let p = or_false (ltb top (space S)) _ e in
      let q = or_false (ltb top (space R)) _ p.1 in
      let r = or_false (ltb top (space G)) (ltb top (start + block_len page rs)) q.1 in
      record {
        sum0 = ltb-false top (space S) p.0;
        sum2 = ltb-false top (space R) q.0;
        sum6 = ltb-false top (space G) r.0;
        last = ltb-false top (start + block_len page rs) r.1;
      }

  abbrev pub wide_test : Bool
  wide_test = wide_managers top (managers_at 8 start M) || (any_wide 8 S || (any_wide 8 R || any_wide 8 G))

  abbrev pub later : List Condition
  later = when (repeats G) SharedAddress ∷ when wide_test WideAddress ∷ []

  in_four : first_of (size_tests 8 S) (first_of (size_tests 8 R) (first_of (size_tests 8 G) (first_of (when (ltb top (end_at start M)) Overflow ∷ later) (answer (blocks_at 8 start M)))))
      ≡ first_of (when (too_large page start rs) Overflow ∷ later) (answer (blocks_at 8 start M))
  in_four =
      ap (λ (n : ℕ). first_of (size_tests 8 S) (first_of (size_tests 8 R) (first_of (size_tests 8 G) (first_of (when (ltb top n) Overflow ∷ later) (answer (blocks_at 8 start M)))))) end_is
      ∙ seven (ltb top (space S)) (ltb top (blocks_size 8 S)) (ltb top (space R)) (ltb top (blocks_size 8 R)) (ltb top (space G)) (ltb top (blocks_size 8 G))
      (ltb top (start + block_len page rs)) later (answer (blocks_at 8 start M))
      (λ t. let k = ltb-true top (blocks_size 8 S) t in lt-ltb top (start + block_len page rs) (omega (arith, len_is)))
      (λ t. let k = ltb-true top (blocks_size 8 R) t in lt-ltb top (start + block_len page rs) (omega (arith, len_is)))
      (λ t. let k = ltb-true top (blocks_size 8 G) t in lt-ltb top (start + block_len page rs) (omega (arith, len_is)))

  module _ (ends : (i : Which) → All (Ends top) (as_sections (rs i))) where
    no_wide : too_large page start rs ≡ false → wide_test ≡ false
    no_wide e =
        let s = sums e in
        let p = small_plan page rs ends s.sum0 s.sum2 s.sum6 in
        let b : wide_managers top (managers_at 8 start M) ≡ false = managers_narrow top (omega arith) start S R G (omega (arith, s.last, end_is)) in
        rw (b, narrow-all S p.0.1, narrow-all R p.1.1.0.1, narrow-all G p.1.1.1.1.1.1.0.1)

-- ---- by the runs

module _ (xs ys zs : List ℕ) (f : FileLists) (page start : ℕ) (some : 0 < page) (lists : are_lists (lists_in xs ys zs f) ≡ true) where
  abbrev rs : Regions
  rs = regions_in (lists_in xs ys zs f)

  abbrev n : Counts
  n = counts_in f

  runs_pass : NoneHolds (run_tests xs ys zs n page 8)
  runs_pass =
      let v = each-list xs ys zs f lists in
      let p = fine xs f.metadata v.0 in
      let q = fine ys f.raw v.1 in
      let r = fine zs f.unclassified v.2 in
      (refl, (ne_eqb page 0 (λ z. omega arith), (rw (p.run, q.run, r.run), (rw (p.ends, q.ends, r.ends), tt))))

  pub valid : (i : Which) → ok_from 0 (rs i) ≡ true
  valid Metadata = (listed xs f.metadata (each-list xs ys zs f lists).0).ok
  valid Raw = (listed ys f.raw (each-list xs ys zs f lists).1).ok
  valid Unclassified = (listed zs f.unclassified (each-list xs ys zs f lists).2).ok

  ends : (i : Which) → All (Ends top) (as_sections (rs i))
  ends i = list-ends 0 top (rs i) ((ok_prop 0 (rs i)).0 (valid i))

  abbrev e0 : decode f.metadata.count xs ≡ as_sections (rs Metadata)
  e0 = decode-sections f.metadata.count xs

  abbrev e2 : decode f.raw.count ys ≡ as_sections (rs Raw)
  e2 = decode-sections f.raw.count ys

  abbrev e6 : decode f.unclassified.count zs ≡ as_sections (rs Unclassified)
  e6 = decode-sections f.unclassified.count zs

  abbrev Ms : List FreeSection → List FreeSection → List FreeSection → Measures
  Ms m r u = record { slot0 = measure_of 8 (slot0 page m); slot2 = measure_of 8 (slot2 page r); slot6 = measure_of 8 (slot6 page m r u) }

  -- the plan of three lists of sections, after the tests of their runs
  abbrev plan_of : List FreeSection → List FreeSection → List FreeSection → Outcome BlocksPlan
  plan_of m r u =
      first_of (size_tests 8 (slot0 page m))
      (first_of (size_tests 8 (slot2 page r))
      (first_of (size_tests 8 (slot6 page m r u))
      (first_of
      (when (ltb top (end_at start (Ms m r u))) Overflow
      ∷ when (repeats (slot6 page m r u)) SharedAddress
      ∷ when (wide_managers top (managers_at 8 start (Ms m r u)) || (any_wide 8 (slot0 page m) || (any_wide 8 (slot2 page r) || any_wide 8 (slot6 page m r u)))) WideAddress
      ∷ [])
      (answer (blocks_at 8 start (Ms m r u))))))

  pub planned-is : planned_blocks xs ys zs n page start 8 ≡ first_of (when (too_large page start rs) Overflow ∷ later page start rs) (answer (blocks_at 8 start (M page start rs)))
  unfolding planned_blocks slots_measured planned_from and_then
  planned-is =
      first_pass (run_tests xs ys zs n page 8) _ runs_pass
      ∙ then_first (size_tests 8 (in_slot0 (paged n page) xs ys zs)) _ (λ m. planned_from xs ys zs top (paged n page) m start 8)
      ∙ ap (first_of (size_tests 8 (in_slot0 (paged n page) xs ys zs)))
      (then_first (size_tests 8 (in_slot2 (paged n page) xs ys zs)) _ (λ m. planned_from xs ys zs top (paged n page) m start 8)
      ∙ ap (first_of (size_tests 8 (in_slot2 (paged n page) xs ys zs)))
      (then_first (size_tests 8 (in_large (paged n page) xs ys zs)) (answer (measures_of (paged n page) xs ys zs 8)) (λ m. planned_from xs ys zs top (paged n page) m start 8)))
      ∙ (λ i. plan_of (e0 i) (e2 i) (e6 i))
      ∙ in_four page start rs

  -- ---- and its blocks, where no two lists share a byte

  module _ (apart : shared_byte rs ≡ false) (d : List ℕ) where
    abbrev L : ℕ
    L = block_len page rs

    none-later : too_large page start rs ≡ false → NoneHolds (later page start rs)
    none-later e = (slot6-once page rs some valid apart, (no_wide page start rs ends e, tt))

    after_first : {A : Type 0} (t : Bool) (cs : List Condition) (y : Outcome A) → (t ≡ false → NoneHolds cs) → first_of (when t Overflow ∷ cs) y ≡ first_of (when t Overflow ∷ []) y
    unfolding first_of
    after_first true cs y h = refl
    after_first false cs y h = first_pass cs y (h refl)

    abbrev short : BlocksPlan → Outcome (With BlocksPlan (List ℕ))
    short p = first_of (when (ltb (length d) L) (OverCapacity L (length d)) ∷ []) (answer (with p (over 0 (block_bytes page start rs) d)))

    pub written_is : written_managers xs ys zs n page start 8 d
        ≡ first_of (when (too_large page start rs) Overflow ∷ when (ltb (length d) L) (OverCapacity L (length d)) ∷ [])
        (answer (with (blocks_at 8 start (M page start rs)) (over 0 (block_bytes page start rs) d)))
    unfolding written_managers and_then
    written_is =
        (λ i. let ms = managers_of page (e0 i) (e2 i) (e6 i) in
        and_then (planned-is i)
        (λ p. first_of (when (ltb (length d) (size_of 8 (starting_set 8) ms)) (OverCapacity (size_of 8 (starting_set 8) ms) (length d)) ∷ [])
        (answer (with p (over 0 (blocks_from 8 (starting_set 8) lookup3 start ms) d)))))
        ∙ then_first (when (too_large page start rs) Overflow ∷ later page start rs) (answer (blocks_at 8 start (M page start rs))) short
        ∙ last
      where
        last : first_of (when (too_large page start rs) Overflow ∷ later page start rs) (and_then (answer (blocks_at 8 start (M page start rs))) short)
            ≡ first_of (when (too_large page start rs) Overflow ∷ when (ltb (length d) L) (OverCapacity L (length d)) ∷ [])
            (answer (with (blocks_at 8 start (M page start rs)) (over 0 (block_bytes page start rs) d)))
        last =
            after_first (too_large page start rs) (later page start rs) (short (blocks_at 8 start (M page start rs))) none-later
            ∙ sym (first-append (when (too_large page start rs) Overflow ∷ []) (when (ltb (length d) L) (OverCapacity L (length d)) ∷ []) _)
