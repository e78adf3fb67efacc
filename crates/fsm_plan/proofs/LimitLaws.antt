-- Where the blocks of a plan begin: below the limit if no test refuses them. At offset size 8 refusal 4 leaves no block at 2^64 - 1, so the plan is
-- the same with every limit from that address on. Assumes nothing.
use mathlib.Core.Path.{◌≡◌, refl, sym, ap, ◌∙◌}
use Prim.Native.Nat.{ℕ, ◌+◌, ◌≤◌, ◌<◌}
use native.Mathlib.Omega.{arith}
use mathlib.Core.Bool.{Bool, true, false, cond, ◌&&◌, ◌||◌, not}
use mathlib.Core.List.{List}
use lib.Dec.{ltb, leb, eqb}
use borrow.Author.Tests.{ltb-false, leb-false, lt-leb, ne_eqb, eqb-false}
use Rattle.error.specs.declared.Refusal.TheVariants.{Overflow}
use Rattle.error.specs.Outcome.{Outcome, answer, first_of}
use Rattle.error.proofs.TestLaws.{or_false}
use Rattle.error.proofs.OutcomeLaws.{first_holds, first_shows, then_alike}
use Rattle.fields.specs.Ranges.{top, undefined_addr}
use Rattle.fsm_sections.specs.declared.FreeSection.{FreeSection}
use Rattle.fsm_blocks.specs.Fshd.{fshd_size}
use Rattle.fsm_blocks.proofs.LengthLaws.{size-some}
use Rattle.fsm_plan.specs.declared.Counts.{Counts}
use Rattle.fsm_plan.specs.declared.chains.Paged.{Paged}
use Rattle.fsm_plan.specs.declared.measure.Measure.{Measure}
use Rattle.fsm_plan.specs.declared.blocks.Measures.{Measures}
use Rattle.fsm_plan.specs.declared.blocks.PagedManagerBlock.{PagedManagerBlock}
use Rattle.fsm_plan.specs.declared.blocks.BlocksPlan.{BlocksPlan}
use Rattle.fsm_plan.specs.Blocks.{paged, in_slot0, in_slot2, in_large, size_tests, measure_of, measures_of, slots_measured, block_at, end_at, managers_at}
use Rattle.fsm_plan.specs.Blocks.{wide_block, wide_managers, run_tests, planned_from, planned_below, planned_blocks}

-- ---- blocks that no test refuses

pub block_below : (limit : ℕ) (b : PagedManagerBlock) → (b.count ≡ 0 → ⊥) → wide_block limit b ≡ false → (b.fshd_addr < limit) × (b.fsse_addr < limit)
block_below limit b some w =
    let either = leb limit b.fshd_addr || leb limit b.fsse_addr in
    let q : either ≡ false = sym (ap (λ (t : Bool). not t && either) (ne_eqb b.count 0 some)) ∙ w in
    let r = or_false (leb limit b.fshd_addr) (leb limit b.fsse_addr) q in
    (leb-false limit b.fshd_addr r.0, leb-false limit b.fsse_addr r.1)

-- ---- at offset size 8, with a limit of at least 2^64 - 1

module _ (limit : ℕ) (high : top ≤ limit) where
  block_narrow : (class a : ℕ) (m : Measure) → ((m.count ≡ 0 → ⊥) → a + fshd_size 8 < top) → wide_block limit (block_at 8 class a m) ≡ false
  block_narrow class a m h = pick (eqb m.count 0) (eqb-false m.count 0)
    where
      pick : (t : Bool) → (t ≡ false → m.count ≡ 0 → ⊥)
          → (not t && (leb limit (cond t (undefined_addr 8) a) || leb limit (cond t (undefined_addr 8) (a + fshd_size 8)))) ≡ false
      pick true f = refl
      pick false f = let k : a + fshd_size 8 < top = h (f refl) in rw (lt-leb limit a (omega arith), lt-leb limit (a + fshd_size 8) (omega arith))

  module _ (start : ℕ) (l0 l2 l6 : List FreeSection) where
    abbrev m : Measures
    m = record { slot0 = measure_of 8 l0; slot2 = measure_of 8 l2; slot6 = measure_of 8 l6 }

    -- where the blocks end within 64 bits, none begins at 2^64 - 1: a list comes after each header
    pub managers_narrow : end_at start m ≤ top → wide_managers limit (managers_at 8 start m) ≡ false
    managers_narrow e =
        let a2 = start + m.slot0.len in
        let a6 = a2 + m.slot2.len in
        let b0 = block_narrow 1 start m.slot0 (λ n. omega (arith, size-some 8 l0 n)) in
        let b2 = block_narrow 1 a2 m.slot2 (λ n. omega (arith, size-some 8 l2 n)) in
        let b6 = block_narrow 2 a6 m.slot6 (λ n. omega (arith, size-some 8 l6 n)) in
        rw (b0, b2, b6)

-- ---- so the plan is what it is with any such limit, as with 256 ^ 8, at which an address does not fit

module _ (limit : ℕ) (high : top ≤ limit) (a b c : List ℕ) (s : Paged) (start : ℕ) where
  abbrev M : Measures
  M = measures_of s a b c 8

  from-alike : planned_from a b c (undefined_addr 8) s M start 8 ≡ planned_from a b c limit s M start 8
  unfolding planned_from
  from-alike = pick (ltb top (end_at start M)) refl
    where
      pick : (t : Bool) → ltb top (end_at start M) ≡ t → planned_from a b c (undefined_addr 8) s M start 8 ≡ planned_from a b c limit s M start 8
      pick true e = first_holds _ Overflow _ _ e ∙ sym (first_holds _ Overflow _ _ e)
      pick false e =
          let k : end_at start M ≤ top = ltb-false top (end_at start M) e in
          let u = managers_narrow (undefined_addr 8) (omega arith) start (in_slot0 s a b c) (in_slot2 s a b c) (in_large s a b c) k in
          let v = managers_narrow limit high start (in_slot0 s a b c) (in_slot2 s a b c) (in_large s a b c) k in
          rw (u, v)

  measures_are : (m : Measures) → slots_measured s a b c 8 ≡ answer m → m ≡ M
  unfolding slots_measured
  measures_are m e =
      let p = first_shows (size_tests 8 (in_slot0 s a b c)) _ m e in
      let q = first_shows (size_tests 8 (in_slot2 s a b c)) _ m p.1 in
      let r = first_shows (size_tests 8 (in_large s a b c)) _ m q.1 in
      let z : answer M ≡ answer m = r.1 in
      cc

pub same-at_8 : (limit : ℕ) → top ≤ limit → (a b c : List ℕ) (n : Counts) (page start : ℕ)
    → planned_blocks a b c n page start 8 ≡ planned_below a b c limit n page start 8
unfolding planned_blocks
same-at_8 limit high a b c n page start =
    let s = paged n page in
    let by : ℕ → Measures → Outcome BlocksPlan = λ l m. planned_from a b c l s m start 8 in
    ap (first_of (run_tests a b c n page 8))
    (then_alike (slots_measured s a b c 8) (by (undefined_addr 8)) (by limit)
    (λ m e.
    let k : m ≡ measures_of s a b c 8 = measures_are limit high a b c s start m e in
    ap (by (undefined_addr 8)) k ∙ from-alike limit high a b c s start ∙ ap (by limit) (sym k)))
