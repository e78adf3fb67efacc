-- The tests of three runs of regions, and what the sources of the slots are where they pass. Assumes nothing.
use mathlib.Core.Path.{◌≡◌, sym, ap, ◌∙◌}
use Prim.Native.Nat.{ℕ, zero, suc, ◌+◌, ◌*◌, ◌/◌, ◌%◌, ◌≤◌, ◌<◌}
use native.Mathlib.Nat.{div-mul-le_self, div-add-mod'}
use native.Mathlib.Omega.{arith}
use mathlib.Core.Bool.{Bool, true, false, cond, ◌&&◌, ◌||◌, not}
use mathlib.Core.List.{List, [], ◌∷◌, ◌++◌}
use lib.Dec.{leb, eqb}
use borrow.Author.Tests.{leb-true, eqb-false, not-false, eq-eqb, ne_eqb}
use Rattle.std.specs.Prelude.{Result, Ok, Err}
use Rattle.error.specs.Answers.{as_outcome}
use Rattle.error.specs.declared.Refusal.{Refusal}
use Rattle.error.specs.declared.Refusal.TheVariants.{Width, Page, NotAList, Overflow}
use Rattle.error.specs.Outcome.{Outcome, answer, refused, when, first_of}
use Rattle.error.proofs.TestLaws.{and_true, or_false}
use Rattle.error.proofs.OutcomeLaws.{NoneHolds, first-none, first_holds, first_passes, first_pass, first_answers, first_refuses}
use Rattle.fields.specs.Ranges.{top}
use Rattle.fields.specs.Width.{valid_width}
use Rattle.pairs.specs.Pairs.{is_run}
use Rattle.fsm_sections.specs.declared.FreeSection.{FreeSection}
use Rattle.fsm_sections.specs.declared.Part.{Part}
use Rattle.fsm_sections.specs.declared.Part.TheVariants.{Head, Pages, Tail, Whole}
use Rattle.fsm_sections.specs.Sections.{decode, by_size_then_addr, All}
use Rattle.fsm_sections.specs.Pages.{end, slot0}
use Rattle.fsm_sections.specs.Chains.{chain, sections_of}
use Rattle.fsm_sections.specs.Sources.{head_size, body_size, part_of, chains_in, chains_of, PartFits, Given, small_source}
use Rattle.fsm_sections.specs.Passes.{Numbers}
use Rattle.fsm_sections.proofs.AllLaws.{all_append, all_map}
use Rattle.fsm_sections.proofs.SlotLaws.{sections-append, slot0-runs, same-order}
use Rattle.fsm_sections.specs.Runs.{ends_above}
use Rattle.fsm_sections.proofs.AnyLaws.{none_above}
use Rattle.fsm_plan.specs.declared.Counts.{Counts}
use Rattle.fsm_plan.specs.Order.{source_of}
use Rattle.fsm_plan.specs.Blocks.{run_tests, paged}

-- ---- the tests in their order

module _ (xs ys zs : List ℕ) (n : Counts) (page O : ℕ) where
  -- what the tests show
  pub record Tested : Type 0 where
    pub low : 1 ≤ O
    pub high : O ≤ 8
    pub some : 0 < page
    pub late_x : ends_above (decode n.meta xs) ≡ false
    pub late_y : ends_above (decode n.raw ys) ≡ false
    pub ends_x : All (λ r. end r ≤ top) (decode n.meta xs)
    pub ends_y : All (λ r. end r ≤ top) (decode n.raw ys)
    pub ends_z : All (λ r. end r ≤ top) (decode n.unclassified zs)

  abbrev tests : Outcome (Unit {0})
  tests = first_of (run_tests xs ys zs n page O) (answer tt)

  pub test_width : not (valid_width O) ≡ true → refused Width ≡ tests
  test_width h = sym (first_holds _ Width _ _ h)

  module _ (v : not (valid_width O) ≡ false) where
    pub test_page : page ≡ 0 → refused Page ≡ tests
    test_page h = sym (first_passes _ Width _ _ v ∙ first_holds _ Page _ _ (eq-eqb page 0 h))

    module _ (p : page ≡ 0 → ⊥) (t : Bool) (te : t ≡ (is_run xs n.meta && (is_run ys n.raw && is_run zs n.unclassified))) where
      pub test_lists : t ≡ false → refused NotAList ≡ tests
      test_lists h =
          sym (first_passes _ Width _ _ v ∙ first_passes _ Page _ _ (ne_eqb page 0 p) ∙ first_holds _ NotAList _ _ (ap not (sym te ∙ h)))

      module _ (h : t ≡ true) (u : Bool) (ue : u ≡ (ends_above (decode n.meta xs) || (ends_above (decode n.raw ys) || ends_above (decode n.unclassified zs)))) where
        three : tests ≡ first_of (when (ends_above (decode n.meta xs) || (ends_above (decode n.raw ys) || ends_above (decode n.unclassified zs))) Overflow ∷ []) (answer tt)
        three = first_passes _ Width _ _ v ∙ first_passes _ Page _ _ (ne_eqb page 0 p) ∙ first_passes _ NotAList _ _ (ap not (sym te ∙ h))

        pub test_ends : u ≡ true → refused Overflow ≡ tests
        test_ends q = sym (three ∙ first_holds _ Overflow _ _ (sym ue ∙ q))

        pub test_fine : u ≡ false → answer tt ≡ tests
        test_fine q = sym (three ∙ first_passes _ Overflow _ _ (sym ue ∙ q) ∙ first-none (answer tt))

  -- ---- what the answer says

  module _ (c : (Result (Unit {0}) Refusal)) (e : as_outcome c ≡ tests) where
    pub tests_refuse : {A : Type 0} (r : Refusal) → c ≡ Err r → (x : Outcome A) → refused r ≡ first_of (run_tests xs ys zs n page O) x
    tests_refuse r h x = first_refuses (run_tests xs ys zs n page O) tt r x (ap as_outcome (sym h) ∙ e)

    module _ (h : c ≡ (Ok tt)) where
      none : NoneHolds (run_tests xs ys zs n page O)
      none = (first_answers (run_tests xs ys zs n page O) tt tt (sym e ∙ ap as_outcome h)).0

      pub tests_pass : {A : Type 0} (x : Outcome A) → x ≡ first_of (run_tests xs ys zs n page O) x
      tests_pass x = sym (first_pass (run_tests xs ys zs n page O) x none)

      pub tests_show : Tested
      tests_show =
          let v = and_true (leb 1 O) (leb O 8) (not-false (valid_width O) none.0) in
          let p : page ≡ 0 → ⊥ = eqb-false page 0 none.1.0 in
          let f = or_false (ends_above (decode n.meta xs)) (ends_above (decode n.raw ys) || ends_above (decode n.unclassified zs)) none.1.1.1.0 in
          let g = or_false (ends_above (decode n.raw ys)) (ends_above (decode n.unclassified zs)) f.1 in
          record {
            low = leb-true 1 O v.0;
            high = leb-true O 8 v.1;
            some = omega arith;
            late_x = f.0;
            late_y = g.0;
            ends_x = none_above (decode n.meta xs) f.0;
            ends_y = none_above (decode n.raw ys) g.0;
            ends_z = none_above (decode n.unclassified zs) g.1;
          }

-- ---- sections of regions that end within 64 bits

fits : (q : Part) (r : FreeSection) → end r ≤ top → PartFits q r
fits Head r h = omega arith
fits Pages r h = omega arith
fits Tail r h = omega arith
fits Whole r h = tt

part_end : (q : Part) (page : ℕ) (r : FreeSection) → (part_of q page r).addr + (part_of q page r).count * (part_of q page r).size ≤ end r
unfolding part_of
part_end Head page r = pick (eqb (head_size page r) 0)
  where
    pick : (t : Bool) → r.addr + cond t 0 1 * head_size page r ≤ end r
    pick true = omega arith
    pick false = omega arith
part_end Pages page r = omega (arith, div-mul-le_self (body_size page r) page)
part_end Tail page r = pick (eqb (body_size page r % page) 0)
  where
    pick : (t : Bool) → r.addr + head_size page r + body_size page r / page * page + cond t 0 1 * (body_size page r % page) ≤ end r
    pick true = omega (arith, div-add-mod' (body_size page r) page)
    pick false = omega (arith, div-add-mod' (body_size page r) page)
part_end Whole page r = omega arith

chain-numbers : (a z c : ℕ) → a + c * z ≤ top → Numbers (chain a z c)
unfolding chain
chain-numbers a z zero h = tt
chain-numbers a z (suc c) h = ((omega arith, omega arith), chain-numbers (a + z) z c (omega arith))

part_numbers : (q : Part) (page : ℕ) (rs : List FreeSection) → All (λ r. end r ≤ top) rs → Numbers (sections_of (chains_in q page rs))
unfolding sections_of
part_numbers q page [] h = tt
part_numbers q page (r ∷ rs) h =
    let p = part_of q page r in
    let b : p.addr + p.count * p.size ≤ top = omega (arith, part_end q page r, h.0) in
    all_append _ (chain p.addr p.size p.count) (sections_of (chains_in q page rs)) (chain-numbers p.addr p.size p.count b) (part_numbers q page rs h.1)

-- ---- the source of each slot

three-numbers : (page : ℕ) (p q r : Part) (us vs ws : List FreeSection) → All (λ r. end r ≤ top) us → All (λ r. end r ≤ top) vs → All (λ r. end r ≤ top) ws
    → Numbers (sections_of (chains_in p page us ++ (chains_in q page vs ++ chains_in r page ws)))
three-numbers page p q r us vs ws f g i =
    rw (sections-append (chains_in p page us) (chains_in q page vs ++ chains_in r page ws), sections-append (chains_in q page vs) (chains_in r page ws))
    (all_append _ (sections_of (chains_in p page us)) (sections_of (chains_in q page vs) ++ sections_of (chains_in r page ws)) (part_numbers p page us f)
    (all_append _ (sections_of (chains_in q page vs)) (sections_of (chains_in r page ws)) (part_numbers q page vs g) (part_numbers r page ws i)))

module _ (page m : ℕ) (xs : List ℕ) (some : 0 < page) where
  pub small_same : by_size_then_addr (slot0 page (decode m xs)) ≡ by_size_then_addr (sections_of (chains_of (small_source page m) xs xs xs))
  small_same = same-order _ _ (λ x. slot0-runs page m xs xs x some)

  module _ (ends : All (λ r. end r ≤ top) (decode m xs)) where
    pub small_given : Given (small_source page m) xs xs xs
    small_given = record {
      some = some;
      fit_a = all_map (fits Head) (decode m xs) ends;
      fit_b = all_map (fits Tail) (decode m xs) ends;
      fit_c = tt;
    }

    pub small_numbers : Numbers (sections_of (chains_of (small_source page m) xs xs xs))
    unfolding chains_of
    small_numbers = three-numbers page Head Tail Whole (decode m xs) (decode m xs) [] ends ends tt

module _ (xs ys zs : List ℕ) (n : Counts) (page O : ℕ) (h : Tested xs ys zs n page O) where
  pub large_given : Given (source_of (paged n page)) xs ys zs
  large_given = record {
    some = h.some;
    fit_a = all_map (fits Pages) (decode n.meta xs) h.ends_x;
    fit_b = all_map (fits Pages) (decode n.raw ys) h.ends_y;
    fit_c = all_map (fits Whole) (decode n.unclassified zs) h.ends_z;
  }

  pub large_numbers : Numbers (sections_of (chains_of (source_of (paged n page)) xs ys zs))
  unfolding chains_of
  large_numbers = three-numbers page Pages Pages Whole (decode n.meta xs) (decode n.raw ys) (decode n.unclassified zs) h.ends_x h.ends_y h.ends_z
