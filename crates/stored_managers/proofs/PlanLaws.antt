-- The plan is the one that asks only that addresses fit, and then refusal 12 where a block begins at the undefined address. Assumes nothing.
use mathlib.Core.Path.{◌≡◌, refl, sym, ap, ◌∙◌}
use Prim.Native.Nat.{ℕ, ◌-◌, ◌^◌, ◌≤◌, ◌<◌}
use native.Mathlib.Omega.{arith}
use mathlib.Core.Logic.{⊎_elim}
use mathlib.Core.Bool.{Bool, true, false, ◌&&◌, ◌||◌, not}
use mathlib.Core.List.{List, [], ◌∷◌}
use lib.Dec.{ltb, leb, eqb}
use borrow.Author.Tests.{le-leb, lt-leb, eq-eqb, ne_eqb}
use Rattle.error.specs.declared.Refusal.TheVariants.{Overflow, SharedAddress, WideAddress}
use Rattle.error.specs.Outcome.{Outcome, answer, when, first_of, and_then}
use Rattle.error.proofs.TestLaws.{le-or-lt}
use Rattle.error.proofs.OutcomeLaws.{then_first, then_then, then_same}
use Rattle.fields.specs.Ranges.{top, undefined_addr}
use Rattle.fields.proofs.WidthLaws.{some_power}
use Rattle.fsm_plan.specs.declared.Counts.{Counts}
use Rattle.fsm_plan.specs.declared.chains.Paged.{Paged}
use Rattle.fsm_plan.specs.declared.blocks.Measures.{Measures}
use Rattle.fsm_plan.specs.declared.blocks.PagedManagerBlock.{PagedManagerBlock}
use Rattle.fsm_plan.specs.declared.blocks.PagedManagerPlan.{PagedManagerPlan}
use Rattle.fsm_plan.specs.declared.blocks.BlocksPlan.{BlocksPlan}
use Rattle.fsm_plan.specs.Order.{repeats}
use Rattle.fsm_plan.specs.Blocks.{paged, in_large, wide_sections, slots_measured, end_at, managers_at, blocks_at, wide_block, wide_managers, run_tests, planned_from, planned_below, planned_blocks}
use Rattle.stored_managers.specs.AllOnes.{begins_at, any_begins_at}

-- ---- an address that is not below a limit is the limit, or not below the next

module _ (limit : ℕ) (some : 1 ≤ limit) where
  next : (x : ℕ) → leb (limit - 1) x ≡ (leb limit x || eqb x (limit - 1))
  next x = ⊎_elim high (λ (h : x < limit). ⊎_elim (last h) (low h) (le-or-lt (limit - 1) x)) (le-or-lt limit x)
    where
      high : limit ≤ x → leb (limit - 1) x ≡ (leb limit x || eqb x (limit - 1))
      high h = rw (le-leb limit x h, le-leb (limit - 1) x (omega arith))

      last : x < limit → limit - 1 ≤ x → leb (limit - 1) x ≡ (leb limit x || eqb x (limit - 1))
      last h k = let e : x ≡ limit - 1 = omega arith in rw (lt-leb limit x h, le-leb (limit - 1) x k, eq-eqb x (limit - 1) e)

      low : x < limit → x < limit - 1 → leb (limit - 1) x ≡ (leb limit x || eqb x (limit - 1))
      low h k = rw (lt-leb limit x h, lt-leb (limit - 1) x k, ne_eqb x (limit - 1) (λ e. omega arith))

  -- and so of a block, and of three slots
  block_next : (b : PagedManagerBlock) → wide_block (limit - 1) b ≡ (wide_block limit b || begins_at (limit - 1) b)
  block_next b = rw (next b.fshd_addr, next b.fsse_addr) (sort (eqb b.count 0) (leb limit b.fshd_addr) (eqb b.fshd_addr (limit - 1)) (leb limit b.fsse_addr) (eqb b.fsse_addr (limit - 1)))
    where
      sort : (e p q r s : Bool) → (not e && ((p || q) || (r || s))) ≡ ((not e && (p || r)) || (not e && (q || s)))
      sort true p q r s = refl
      sort false true q r s = refl
      sort false false true true s = refl
      sort false false true false s = refl
      sort false false false true s = refl
      sort false false false false s = refl

  managers_next : (p : PagedManagerPlan) → wide_managers (limit - 1) p ≡ (wide_managers limit p || any_begins_at (limit - 1) p)
  managers_next p =
      rw (block_next p.slot0, block_next p.slot2, block_next p.slot6)
      (sort (wide_block limit p.slot0) (begins_at (limit - 1) p.slot0) (wide_block limit p.slot2) (begins_at (limit - 1) p.slot2)
      (wide_block limit p.slot6) (begins_at (limit - 1) p.slot6))
    where
      sort : (p q r s t u : Bool) → ((p || q) || ((r || s) || (t || u))) ≡ ((p || (r || t)) || (q || (s || u)))
      sort true q r s t u = refl
      sort false true true s t u = refl
      sort false true false s true u = refl
      sort false true false s false u = refl
      sort false false true s t u = refl
      sort false false false true true u = refl
      sort false false false true false u = refl
      sort false false false false t u = refl

-- ---- the tests of a plan

-- a test of which one part comes later
later : {A : Type 0} (l s p q w : Bool) (x : A) → first_of (when l Overflow ∷ when s SharedAddress ∷ when ((p || q) || w) WideAddress ∷ []) (answer x)
    ≡ first_of (when l Overflow ∷ when s SharedAddress ∷ when (p || w) WideAddress ∷ []) (first_of (when q WideAddress ∷ []) (answer x))
unfolding first_of
later true s p q w x = refl
later false true p q w x = refl
later false false true q w x = refl
later false false false true true x = refl
later false false false true false x = refl
later false false false false true x = refl
later false false false false false x = refl

module _ (a b c : List ℕ) (start O : ℕ) where
  abbrev test : BlocksPlan → Outcome BlocksPlan
  test p = first_of (when (any_begins_at (undefined_addr O) p.managers) WideAddress ∷ []) (answer p)

  from_is : (s : Paged) (m : Measures) → planned_from a b c (undefined_addr O) s m start O ≡ and_then (planned_from a b c (256 ^ O) s m start O) test
  unfolding planned_from and_then
  from_is s m =
      let q = managers_at O start m in
      let l = ltb top (end_at start m) in
      let r = repeats (in_large s a b c) in
      let w = wide_sections s a b c O in
      let x = blocks_at O start m in
      rw (managers_next (256 ^ O) (some_power O) q)
      (later l r (wide_managers (256 ^ O) q) (any_begins_at (undefined_addr O) q) w x
      ∙ sym (then_first (when l Overflow ∷ when r SharedAddress ∷ when (wide_managers (256 ^ O) q || w) WideAddress ∷ []) (answer x) test))

  pub plan_is : (n : Counts) (page : ℕ) → planned_blocks a b c n page start O ≡ and_then (planned_below a b c (256 ^ O) n page start O) test
  unfolding planned_blocks
  plan_is n page =
      let s = paged n page in
      ap (first_of (run_tests a b c n page O))
      (then_same (slots_measured s a b c O) _ _ (from_is s)
      ∙ sym (then_then (slots_measured s a b c O) (λ m. planned_from a b c (256 ^ O) s m start O) test))
      ∙ sym (then_first (run_tests a b c n page O) _ test)
