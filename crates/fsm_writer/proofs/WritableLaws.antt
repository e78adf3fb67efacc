-- What an accepted plan says: the sections that it puts, and that no writer refuses the blocks of its slots. Assumes nothing.
use mathlib.Core.Path.{◌≡◌, sym, ap, ◌∙◌}
use Prim.Native.Nat.{ℕ, ◌+◌, ◌/◌, ◌%◌, ◌^◌, ◌≤◌, ◌<◌}
use native.Mathlib.Omega.{arith}
use mathlib.Core.Bool.{true, false, not}
use mathlib.Core.List.{List, [], ◌∷◌}
use lib.Dec.{ltb, eqb}
use lib.ListN.{length}
use borrow.Author.Tests.{le-leb, lt-leb, le-ltb, eq-eqb}
use Rattle.error.specs.declared.Refusal.TheVariants.{Width, Page, NotAList, OverCapacity}
use Rattle.error.specs.Outcome.{answer, Condition, when, first_of, and_then}
use Rattle.error.specs.Lent.{With, with, over}
use Rattle.error.proofs.OutcomeLaws.{first_answers, first_shows, then_answers}
use Rattle.fields.specs.Ranges.{top, undefined_addr}
use Rattle.fields.specs.Width.{valid_width}
use Rattle.pairs.specs.Pairs.{is_even}
use Rattle.checksum.specs.Lookup3.{lookup3}
use Rattle.fsm_sections.specs.declared.FreeSection.{FreeSection}
use Rattle.fsm_sections.specs.Sections.{decode, flat, space, times, by_size_then_addr}
use Rattle.fsm_sections.specs.Runs.{wide, any_wide}
use Rattle.fsm_sections.proofs.AnyLaws.{any_sorted}
use Rattle.fsm_sections.proofs.SlotLaws.{same-order}
use Rattle.fsm_sections.proofs.SpaceLaws.{space-sorted}
use Rattle.fsm_blocks.specs.Fshd.{fshd_bytes, fshd_size}
use Rattle.fsm_blocks.specs.Settings.{starting_set, header_for, fsse_for, fsse_used, blocks_size}
use Rattle.fsm_plan.specs.declared.Counts.{Counts}
use Rattle.fsm_plan.specs.declared.chains.Paged.{Paged}
use Rattle.fsm_plan.specs.declared.blocks.PagedManagerBlock.{PagedManagerBlock}
use Rattle.fsm_plan.specs.declared.blocks.PagedManagerPlan.{PagedManagerPlan}
use Rattle.fsm_plan.specs.declared.blocks.BlocksPlan.{BlocksPlan}
use Rattle.fsm_plan.specs.Blocks.{paged, in_slot0, in_slot2, in_large, measure_of, measures_of, block_at, managers_at, wide_block, planned_blocks}
use Rattle.fsm_plan.specs.Plan.{plan_sections, plan_count, planned_into, planned}
use Rattle.fsm_plan.proofs.BlocksLaws.{Accepted, accepted}
use Rattle.fsm_plan.proofs.LimitLaws.{block_below}
use Rattle.fsm_writer.specs.Serializing.{of_run, written_fshd, written_fsse}

-- ---- the writers accept its blocks

-- what a slot's sections and the addresses of its blocks are in an accepted plan
pub record Writable (O fshd fsse : ℕ) (l : List FreeSection) : Type 0 where
  pub width : valid_width O ≡ true
  pub small : space l ≤ top
  pub addresses : any_wide O l ≡ false
  pub fshd_fits : (length l ≡ 0 → ⊥) → wide O fshd ≡ false
  pub fsse_fits : (length l ≡ 0 → ⊥) → wide O fsse ≡ false
  -- a reading skips neither: the premise of the round trip
  pub fshd_defined : (length l ≡ 0 → ⊥) → fshd ≡ undefined_addr O → ⊥
  pub fsse_defined : (length l ≡ 0 → ⊥) → fsse ≡ undefined_addr O → ⊥

-- a run that holds these sections, in whatever order
module _ (O fshd fsse : ℕ) (l : List FreeSection) (w : Writable O fshd fsse l) (some : length l ≡ 0 → ⊥) (run : List ℕ) (n : ℕ)
    (even : length run % 2 ≡ 0) (room : n ≤ length run / 2) (same : (x : FreeSection) → times x (decode n run) ≡ times x l) where
  abbrev held : List FreeSection
  held = decode n run

  order_is : by_size_then_addr held ≡ by_size_then_addr l
  order_is = same-order held l same

  space-is : space held ≡ space l
  space-is = sym (space-sorted held) ∙ ap space order_is ∙ space-sorted l

  narrow : any_wide O held ≡ false
  narrow = sym (any_sorted (λ s. wide O s.addr) held) ∙ ap (any_wide O) order_is ∙ any_sorted (λ s. wide O s.addr) l ∙ w.addresses

  accepts : of_run O run n ≡ answer held
  unfolding of_run first_of
  accepts = rw (w.width, eq-eqb (length run % 2) 0 even, le-ltb (length run / 2) n room, le-ltb top (space held) (omega (arith, space-is, w.small)))

  pub fshd_accepted : (bytes : List ℕ) → fshd_size O ≤ length bytes
      → written_fshd O run n fsse bytes ≡ answer (with (fshd_size O) (over 0 (fshd_bytes lookup3 O (header_for O (starting_set O) fsse held)) bytes))
  unfolding written_fshd and_then first_of
  fshd_accepted bytes h = rw (accepts, w.fsse_fits some, le-ltb (length bytes) (fshd_size O) h)

  pub fsse-accepted : (class : ℕ) (bytes : List ℕ) → fsse_used O (starting_set O) held ≤ length bytes
      → written_fsse O run n fshd class bytes ≡ answer (with (fsse_used O (starting_set O) held) (over 0 (fsse_for O (starting_set O) lookup3 fshd class held) bytes))
  unfolding written_fsse and_then first_of
  fsse-accepted class bytes h = rw (accepts, w.fshd_fits some, narrow, le-ltb (length bytes) (fsse_used O (starting_set O) held) h)

-- ---- an accepted plan

module _ (O : ℕ) (v : valid_width O ≡ true) (l : List FreeSection) (class a : ℕ) (b : PagedManagerBlock) where
  slot_writable : b ≡ block_at O class a (measure_of O l) → space l ≤ top → any_wide O l ≡ false → wide_block (undefined_addr O) (block_at O class a (measure_of O l)) ≡ false
      → Writable O b.fshd_addr b.fsse_addr l
  slot_writable be z n w = record {
    width = v;
    small = z;
    addresses = n;
    fshd_fits = λ h. lt-leb (256 ^ O) b.fshd_addr (omega (arith, (below h).0));
    fsse_fits = λ h. lt-leb (256 ^ O) b.fsse_addr (omega (arith, (below h).1));
    fshd_defined = λ h q. omega (arith, (below h).0);
    fsse_defined = λ h q. omega (arith, (below h).1);
  }
    where
      below : (length l ≡ 0 → ⊥) → (b.fshd_addr < undefined_addr O) × (b.fsse_addr < undefined_addr O)
      below h =
          block_below (undefined_addr O) b (λ e. h (sym (ap (λ (x : PagedManagerBlock). x.count) be) ∙ e)) (ap (wide_block (undefined_addr O)) be ∙ w)

module _ (a b c : List ℕ) (n : Counts) (page start O : ℕ) (out : List ℕ) (p : PagedManagerPlan) (mem : List ℕ) (e : planned a b c n page start O out ≡ answer (with p mem)) where
  abbrev s : Paged
  s = paged n page

  abbrev fronts : List Condition
  fronts = when (not (valid_width O)) Width ∷ when (eqb page 0) Page ∷ when (not (is_even out)) NotAList ∷ []

  whole : (q : BlocksPlan) × (planned_blocks a b c n page start O ≡ answer q) × (planned_into s a b c q.managers out ≡ answer (with p mem))
  unfolding planned
  whole = then_answers (planned_blocks a b c n page start O) (λ q. planned_into s a b c q.managers out) (with p mem) (first_shows fronts _ (with p mem) e).1

  shown : with whole.0.managers (over 0 (flat (plan_sections s a b c)) out) ≡ with p mem
  unfolding planned_into
  shown = (first_answers (when (ltb (length out / 2) (plan_count s a b c)) (OverCapacity (plan_count s a b c) (length out / 2)) ∷ []) _ (with p mem) whole.2).1

  pub plan_written : mem ≡ over 0 (flat (plan_sections s a b c)) out
  plan_written = sym (ap (λ (x : With PagedManagerPlan (List ℕ)). x.memory) shown)

  abbrev h : Accepted a b c n page start O whole.0
  h = accepted a b c n page start O whole.0 whole.1

  plan_is : p ≡ managers_at O start (measures_of s a b c O)
  plan_is = sym (ap (λ (x : With PagedManagerPlan (List ℕ)). x.value) shown) ∙ ap (λ (x : BlocksPlan). x.managers) h.plan

  valid : valid_width O ≡ true
  valid = rw (le-leb 1 O h.tested.low, le-leb O 8 h.tested.high)

  -- no writer refuses the blocks of its slots, `fshd_accepted`, `fsse-accepted`, and no reading skips them
  pub slot0_writable : Writable O p.slot0.fshd_addr p.slot0.fsse_addr (in_slot0 s a b c)
  slot0_writable =
      slot_writable O valid (in_slot0 s a b c) 1 start p.slot0 (ap (λ (x : PagedManagerPlan). x.slot0) plan_is) h.sum0 h.narrow0 h.low0

  pub slot2_writable : Writable O p.slot2.fshd_addr p.slot2.fsse_addr (in_slot2 s a b c)
  slot2_writable =
      slot_writable O valid (in_slot2 s a b c) 1 (start + blocks_size O (in_slot0 s a b c)) p.slot2 (ap (λ (x : PagedManagerPlan). x.slot2) plan_is) h.sum2
      h.narrow2 h.low2

  pub slot6_writable : Writable O p.slot6.fshd_addr p.slot6.fsse_addr (in_large s a b c)
  slot6_writable =
      slot_writable O valid (in_large s a b c) 2 (start + blocks_size O (in_slot0 s a b c) + blocks_size O (in_slot2 s a b c)) p.slot6 (ap (λ (x : PagedManagerPlan). x.slot6) plan_is) h.sum6
      h.narrow6 h.low6
