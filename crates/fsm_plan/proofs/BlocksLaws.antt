-- The plan of the blocks, by the branches of the code, and what an accepted one says. Assumes nothing.
use mathlib.Core.Path.{◌≡◌, refl, sym, ap, ◌∙◌, subst}
use Prim.Native.Nat.{ℕ, ◌≤◌, ◌<◌}
use native.Mathlib.Omega.{arith}
use mathlib.Core.Bool.{Bool, true, false, ◌||◌}
use mathlib.Core.List.{List}
use lib.Dec.{ltb}
use lib.ListN.{length}
use borrow.Author.Tests.{ltb-false}
use Rattle.std.specs.Prelude.{Result, Ok, Err}
use Rattle.error.specs.Answers.{as_outcome}
use Rattle.error.specs.declared.Refusal.{Refusal}
use Rattle.error.specs.declared.Refusal.TheVariants.{Overflow, SharedAddress, WideAddress}
use Rattle.error.specs.Outcome.{Outcome, answer, refused, first_of, and_then}
use Rattle.error.proofs.TestLaws.{or_false, or_decides, or-leaves}
use Rattle.error.proofs.OutcomeLaws.{first-none, first_holds, first_passes, first_pass, first_shows, then_answers}
use Rattle.fields.specs.Ranges.{top, undefined_addr}
use Rattle.fields.proofs.WidthLaws.{width_in}
use Rattle.fsm_sections.specs.declared.FreeSection.{FreeSection}
use Rattle.fsm_sections.specs.declared.Source.{Source}
use Rattle.fsm_sections.specs.Sections.{decode, space}
use Rattle.fsm_sections.specs.Pages.{slot0}
use Rattle.fsm_sections.specs.Chains.{sections_of}
use Rattle.fsm_sections.specs.Runs.{any_wide}
use Rattle.fsm_sections.specs.Sources.{chains_of, small_source, Given}
use Rattle.fsm_sections.proofs.SlotLaws.{slot6-runs}
use Rattle.fsm_blocks.specs.Fshd.{fshd_size}
use Rattle.fsm_blocks.proofs.LengthLaws.{size-least}
use Rattle.fsm_plan.specs.declared.Counts.{Counts}
use Rattle.fsm_plan.specs.declared.chains.Paged.{Paged}
use Rattle.fsm_plan.specs.declared.measure.Measure.{Measure}
use Rattle.fsm_plan.specs.declared.blocks.Measures.{Measures}
use Rattle.fsm_plan.specs.declared.blocks.PagedManagerPlan.{PagedManagerPlan}
use Rattle.fsm_plan.specs.declared.blocks.BlocksPlan.{BlocksPlan}
use Rattle.fsm_plan.specs.Order.{repeats, source_of}
use Rattle.fsm_plan.specs.Blocks.{paged, in_slot0, in_slot2, in_large, wide_sections, size_tests, measure_of, measured, measures_of, slots_measured}
use Rattle.fsm_plan.specs.Blocks.{end_at, managers_at, blocks_at, wide_block, wide_managers, Placed, run_tests, planned_from, planned_blocks, Ready}
use Rattle.fsm_plan.proofs.RunsLaws.{Tested, tests_refuse, tests_pass, tests_show, small_same, large_given}
use Rattle.fsm_plan.proofs.MeasureLaws.{measure_refused, measure_known, measured-same}

-- ---- the sections of a slot as its source gives them

module _ (O page : ℕ) (some : 0 < page) (s : Source) (c : (Result Measure Refusal)) where
  pub small_measured : (m : ℕ) (xs : List ℕ) → s ≡ small_source page m → as_outcome c ≡ measured O (sections_of (chains_of s xs xs xs))
      → as_outcome c ≡ measured O (slot0 page (decode m xs))
  small_measured m xs e f =
      f ∙ ap (λ (x : Source). measured O (sections_of (chains_of x xs xs xs))) e
      ∙ measured-same O (slot0 page (decode m xs)) (sections_of (chains_of (small_source page m) xs xs xs)) (small_same page m xs some)

  pub large_measured : (n : Counts) (xs ys zs : List ℕ) → s ≡ source_of (paged n page) → as_outcome c ≡ measured O (sections_of (chains_of s xs ys zs))
      → as_outcome c ≡ measured O (in_large (paged n page) xs ys zs)
  large_measured n xs ys zs e f =
      f ∙ ap (λ (x : Source). measured O (sections_of (chains_of x xs ys zs))) e
      ∙ ap (measured O) (sym (slot6-runs page n.meta n.raw n.unclassified xs ys zs some))

-- ---- the slots in order

module _ (s : Paged) (a b c : List ℕ) (O : ℕ) (x : (Result Measure Refusal)) (xe : as_outcome x ≡ measured O (in_slot0 s a b c)) where
  pub slots-first : (r : Refusal) → x ≡ Err r → refused r ≡ slots_measured s a b c O
  unfolding slots_measured
  slots-first r h = measure_refused O (in_slot0 s a b c) x xe r h _

  module _ (m0 : Measure) (h0 : x ≡ Ok m0) (y : (Result Measure Refusal)) (ye : as_outcome y ≡ measured O (in_slot2 s a b c)) where
    after_first : slots_measured s a b c O ≡ first_of (size_tests O (in_slot2 s a b c)) (first_of (size_tests O (in_large s a b c)) (answer (measures_of s a b c O)))
    unfolding slots_measured
    after_first = first_pass (size_tests O (in_slot0 s a b c)) _ (measure_known O (in_slot0 s a b c) x xe m0 h0).0

    pub slots-second : (r : Refusal) → y ≡ Err r → refused r ≡ slots_measured s a b c O
    slots-second r h = measure_refused O (in_slot2 s a b c) y ye r h _ ∙ sym after_first

    module _ (m2 : Measure) (h2 : y ≡ Ok m2) (z : (Result Measure Refusal)) (ze : as_outcome z ≡ measured O (in_large s a b c)) where
      after-second : slots_measured s a b c O ≡ first_of (size_tests O (in_large s a b c)) (answer (measures_of s a b c O))
      after-second = after_first ∙ first_pass (size_tests O (in_slot2 s a b c)) _ (measure_known O (in_slot2 s a b c) y ye m2 h2).0

      pub slots_third : (r : Refusal) → z ≡ Err r → refused r ≡ slots_measured s a b c O
      slots_third r h = measure_refused O (in_large s a b c) z ze r h _ ∙ sym after-second

      pub slots_are : (m6 : Measure) → z ≡ Ok m6 → answer (record { slot0 = m0; slot2 = m2; slot6 = m6 }) ≡ slots_measured s a b c O
      slots_are m6 h =
          let p = (measure_known O (in_slot0 s a b c) x xe m0 h0).1 in
          let q = (measure_known O (in_slot2 s a b c) y ye m2 h2).1 in
          let r = measure_known O (in_large s a b c) z ze m6 h in
          let e : record { slot0 = m0; slot2 = m2; slot6 = m6 } ≡ measures_of s a b c O = λ i. record { slot0 = p i; slot2 = q i; slot6 = r.1 i } in
          ap answer e ∙ sym (after-second ∙ first_pass (size_tests O (in_large s a b c)) _ r.0)

-- ---- `plan_from`, by its branches

module _ (a b c : List ℕ) (s : Paged) (O : ℕ) (m : Measures) (h : Ready a b c s O m) (start : ℕ) where
  room : (l : List FreeSection) (x : Measure) → x ≡ measure_of O l → (x.count ≡ 0 → ⊥) → fshd_size O ≤ x.len
  room l x e n =
      let k : length l ≡ 0 → ⊥ = λ z. n (ap (λ (y : Measure). y.count) e ∙ z) in
      omega (arith, ap (λ (y : Measure). y.len) e, size-least O l k)

  -- the source of slot 6
  pub from-given : (S : Source) → S ≡ source_of s → Given S a b c
  from-given S e = subst (λ (q : Source). Given q a b c) (sym e) h.given

  module _ (t : Bool) (te : t ≡ ltb top (end_at start m)) where
    pub from_late : t ≡ true → refused Overflow ≡ planned_from a b c (undefined_addr O) s m start O
    unfolding planned_from
    from_late e = sym (first_holds _ Overflow _ _ (sym te ∙ e))

    module _ (tf : t ≡ false) where
      pub from-placed : Placed O start m
      from-placed = record {
        end = ltb-false top (end_at start m) (sym te ∙ tf);
        room0 = room (in_slot0 s a b c) m.slot0 (ap (λ (x : Measures). x.slot0) h.measures);
        room2 = room (in_slot2 s a b c) m.slot2 (ap (λ (x : Measures). x.slot2) h.measures);
        room6 = room (in_large s a b c) m.slot6 (ap (λ (x : Measures). x.slot6) h.measures);
      }

      module _ (S : Source) (Se : S ≡ source_of s) (u : Bool) (ue : u ≡ repeats (sections_of (chains_of S a b c))) where
        shared-is : u ≡ repeats (in_large s a b c)
        shared-is = ue ∙ ap (λ (q : Source). repeats (sections_of (chains_of q a b c))) Se ∙ ap repeats (sym (slot6-runs s.page s.na s.nb s.nc a b c h.given.some))

        pub from-shared : u ≡ true → refused SharedAddress ≡ planned_from a b c (undefined_addr O) s m start O
        unfolding planned_from
        from-shared e = sym (first_passes _ Overflow _ _ (sym te ∙ tf) ∙ first_holds _ SharedAddress _ _ (sym shared-is ∙ e))

        module _ (uf : u ≡ false) (p : PagedManagerPlan) (pe : p ≡ managers_at O start m) (v : Bool) (ve : v ≡ wide_managers (undefined_addr O) p) where
          blocks_wide : v ≡ wide_managers (undefined_addr O) (managers_at O start m)
          blocks_wide = ve ∙ ap (wide_managers (undefined_addr O)) pe

          abbrev test : Bool
          test = wide_managers (undefined_addr O) (managers_at O start m) || wide_sections s a b c O

          wide-holds : test ≡ true → refused WideAddress ≡ planned_from a b c (undefined_addr O) s m start O
          unfolding planned_from
          wide-holds e =
              sym (first_passes _ Overflow _ _ (sym te ∙ tf) ∙ first_passes _ SharedAddress _ _ (sym shared-is ∙ uf) ∙ first_holds _ WideAddress _ _ e)

          pub from-wide : v ≡ true → refused WideAddress ≡ planned_from a b c (undefined_addr O) s m start O
          from-wide e = wide-holds (sym (or_decides v _ (wide_sections s a b c O) blocks_wide e))

          module _ (vf : v ≡ false) (w : Bool) (we : w ≡ wide_sections s a b c O) where
            wide_is : w ≡ test
            wide_is = we ∙ or-leaves v _ (wide_sections s a b c O) blocks_wide vf

            pub from-wide-section : w ≡ true → refused WideAddress ≡ planned_from a b c (undefined_addr O) s m start O
            from-wide-section e = wide-holds (sym wide_is ∙ e)

            pub from_plan : w ≡ false → answer (record { managers = p; measures = m }) ≡ planned_from a b c (undefined_addr O) s m start O
            unfolding planned_from
            from_plan e =
                ap (λ (x : PagedManagerPlan). answer (record { managers = x; measures = m })) pe
                ∙ sym (first_passes _ Overflow _ _ (sym te ∙ tf) ∙ first_passes _ SharedAddress _ _ (sym shared-is ∙ uf)
                ∙ first_passes _ WideAddress _ _ (sym wide_is ∙ e) ∙ first-none _)

-- ---- `plan_blocks`, by its branches

module _ (a b c : List ℕ) (n : Counts) (page start O : ℕ) (x : (Result (Unit {0}) Refusal)) (xe : as_outcome x ≡ first_of (run_tests a b c n page O) (answer tt)) where
  abbrev s : Paged
  s = paged n page

  pub blocks_tested : (r : Refusal) → x ≡ Err r → refused r ≡ planned_blocks a b c n page start O
  unfolding planned_blocks
  blocks_tested r h = tests_refuse a b c n page O x xe r h _

  module _ (h : x ≡ (Ok tt)) (y : (Result Measures Refusal)) (ye : as_outcome y ≡ slots_measured s a b c O) where
    then_from : and_then (as_outcome y) (λ m. planned_from a b c (undefined_addr O) s m start O) ≡ planned_blocks a b c n page start O
    unfolding planned_blocks
    then_from =
        ap (λ (z : Outcome Measures). and_then z (λ m. planned_from a b c (undefined_addr O) s m start O)) ye
        ∙ tests_pass a b c n page O x xe h _

    pub blocks_measured : (r : Refusal) → y ≡ Err r → refused r ≡ planned_blocks a b c n page start O
    unfolding and_then
    blocks_measured r g = ap (λ (z : (Result Measures Refusal)). and_then (as_outcome z) (λ m. planned_from a b c (undefined_addr O) s m start O)) (sym g) ∙ then_from

    module _ (m : Measures) (g : y ≡ Ok m) where
      pub blocks_from : planned_from a b c (undefined_addr O) s m start O ≡ planned_blocks a b c n page start O
      unfolding and_then
      blocks_from = ap (λ (z : (Result Measures Refusal)). and_then (as_outcome z) (λ m. planned_from a b c (undefined_addr O) s m start O)) (sym g) ∙ then_from

      pub blocks_ready : Ready a b c s O m
      unfolding slots_measured
      blocks_ready =
          let t = tests_show a b c n page O x xe h in
          let p = first_shows (size_tests O (in_slot0 s a b c)) _ m (sym ye ∙ ap as_outcome g) in
          let q = first_shows (size_tests O (in_slot2 s a b c)) _ m p.1 in
          let r = first_shows (size_tests O (in_large s a b c)) _ m q.1 in
          let e : answer (measures_of s a b c O) ≡ answer m = r.1 in
          record {
            width = width_in O t.low t.high;
            given = large_given a b c n page O t;
            fits_a = t.late_x;
            fits_b = t.late_y;
            measures = cc;
          }

-- ---- an accepted plan

pub record Accepted (a b c : List ℕ) (n : Counts) (page start O : ℕ) (p : BlocksPlan) : Type 0 where
  pub tested : Tested a b c n page O
  pub sum0 : space (in_slot0 (paged n page) a b c) ≤ top
  pub sum2 : space (in_slot2 (paged n page) a b c) ≤ top
  pub sum6 : space (in_large (paged n page) a b c) ≤ top
  pub plan : p ≡ blocks_at O start (measures_of (paged n page) a b c O)
  pub end : end_at start (measures_of (paged n page) a b c O) ≤ top
  pub once : repeats (in_large (paged n page) a b c) ≡ false
  -- the blocks of each slot begin below the limit, and the addresses of its sections fit
  pub low0 : wide_block (undefined_addr O) (managers_at O start (measures_of (paged n page) a b c O)).slot0 ≡ false
  pub low2 : wide_block (undefined_addr O) (managers_at O start (measures_of (paged n page) a b c O)).slot2 ≡ false
  pub low6 : wide_block (undefined_addr O) (managers_at O start (measures_of (paged n page) a b c O)).slot6 ≡ false
  pub narrow0 : any_wide O (in_slot0 (paged n page) a b c) ≡ false
  pub narrow2 : any_wide O (in_slot2 (paged n page) a b c) ≡ false
  pub narrow6 : any_wide O (in_large (paged n page) a b c) ≡ false

module _ (a b c : List ℕ) (n : Counts) (page start O : ℕ) (p : BlocksPlan) (e : planned_blocks a b c n page start O ≡ answer p) where
  pub accepted : Accepted a b c n page start O p
  unfolding planned_blocks slots_measured planned_from
  accepted =
      let s = paged n page in
      let f = first_shows (run_tests a b c n page O) _ p e in
      let g = then_answers (slots_measured s a b c O) (λ m. planned_from a b c (undefined_addr O) s m start O) p f.1 in
      let m = g.0 in
      let p0 = first_shows (size_tests O (in_slot0 s a b c)) _ m g.1 in
      let p2 = first_shows (size_tests O (in_slot2 s a b c)) _ m p0.1 in
      let p6 = first_shows (size_tests O (in_large s a b c)) _ m p2.1 in
      let me : answer (measures_of s a b c O) ≡ answer m = p6.1 in
      let mm : m ≡ measures_of s a b c O = cc in
      let q : planned_from a b c (undefined_addr O) s (measures_of s a b c O) start O ≡ answer p = ap (λ (x : Measures). planned_from a b c (undefined_addr O) s x start O) (sym mm) ∙ g.2 in
      let k = first_shows _ _ p q in
      let pe : answer (blocks_at O start (measures_of s a b c O)) ≡ answer p = k.1 in
      let r = managers_at O start (measures_of s a b c O) in
      let w = or_false (wide_managers (undefined_addr O) r) (wide_sections s a b c O) k.0.1.1.0 in
      let b0 = or_false (wide_block (undefined_addr O) r.slot0) (wide_block (undefined_addr O) r.slot2 || wide_block (undefined_addr O) r.slot6) w.0 in
      let b2 = or_false (wide_block (undefined_addr O) r.slot2) (wide_block (undefined_addr O) r.slot6) b0.1 in
      let s0 = or_false (any_wide O (in_slot0 s a b c)) (any_wide O (in_slot2 s a b c) || any_wide O (in_large s a b c)) w.1 in
      let s2 = or_false (any_wide O (in_slot2 s a b c)) (any_wide O (in_large s a b c)) s0.1 in
      record {
        tested = tests_show a b c n page O (Ok tt) (sym (first_pass (run_tests a b c n page O) (answer tt) f.0)) refl;
        sum0 = ltb-false top _ p0.0.0;
        sum2 = ltb-false top _ p2.0.0;
        sum6 = ltb-false top _ p6.0.0;
        plan = cc;
        end = ltb-false top _ k.0.0;
        once = k.0.1.0;
        low0 = b0.0;
        low2 = b2.0;
        low6 = b2.1;
        narrow0 = s0.0;
        narrow2 = s2.0;
        narrow6 = s2.1;
      }
