-- The blocks of an accepted plan in bytes: where they begin, which slots are stored, and that these are read back. Assumes nothing.
use mathlib.Core.Path.{◌≡◌, refl, sym, ap, ◌∙◌, subst}
use Prim.Native.Nat.{ℕ, zero, suc, ◌+◌, ◌-◌, ◌*◌, ◌/◌, ◌%◌, ◌^◌, ◌≤◌, ◌<◌}
use native.Mathlib.Nat.{pow-suc}
use native.Mathlib.Omega.{arith}
use mathlib.Core.Bool.{Bool, true, false, cond}
use mathlib.Core.List.{List, []}
use lib.Dec.{eqb}
use lib.ListN.{length}
use borrow.Author.Tests.{le-ltb, eq-eqb, ne_eqb, eqb-false}
use Rattle.error.specs.Outcome.{answer, first_of, and_then}
use Rattle.error.specs.Lent.{with, over}
use Rattle.fields.specs.Le.{le_bytes, le_value}
use Rattle.fields.specs.Layout.{window}
use Rattle.fields.specs.Ranges.{top, undefined_addr}
use Rattle.fields.specs.Width.{enc_size}
use Rattle.fields.proofs.LeLaws.{read_back}
use Rattle.fields.proofs.WidthLaws.{width_in, some_power}
use Rattle.checksum.specs.Lookup3.{lookup3}
use Rattle.fsm_sections.specs.declared.FreeSection.{FreeSection}
use Rattle.fsm_sections.specs.Sections.{decode, flat, space}
use Rattle.fsm_sections.specs.Runs.{any_wide}
use Rattle.fsm_blocks.specs.Fshd.{fshd_size}
use Rattle.fsm_blocks.specs.Settings.{starting_set, fsse_used, blocks_size}
use Rattle.fsm_blocks.specs.declared.checks.Reading.{Reading}
use Rattle.fsm_blocks.specs.Reading.{read_slots, joined, persisted}
use Rattle.fsm_blocks.proofs.ImageLaws.{held}
use Rattle.fsm_blocks.proofs.LengthLaws.{widths_are, size-some}
use Rattle.fsm_plan.specs.declared.Counts.{Counts}
use Rattle.fsm_plan.specs.declared.chains.Paged.{Paged}
use Rattle.fsm_plan.specs.declared.blocks.Measures.{Measures}
use Rattle.fsm_plan.specs.declared.blocks.PagedManagerBlock.{PagedManagerBlock}
use Rattle.fsm_plan.specs.declared.blocks.PagedManagerPlan.{PagedManagerPlan}
use Rattle.fsm_plan.specs.declared.blocks.BlocksPlan.{BlocksPlan}
use Rattle.fsm_plan.specs.Managers.{manager, manager_size, slots_from}
use Rattle.fsm_plan.specs.Blocks.{paged, in_slot0, in_slot2, in_large, measure_of, measures_of, block_at, managers_at, wide_block, planned_blocks}
use Rattle.fsm_plan.proofs.BlocksLaws.{Accepted, accepted}
use Rattle.fsm_plan.proofs.LimitLaws.{block_below}
use Rattle.fsm_plan.proofs.PlannedLaws.{size_is, plan_size, plan_slots, length_blocks}
use Rattle.fsm_writer.specs.Paged.{managers_in, managers_bytes}
use Rattle.fsm_writer.proofs.RoundTripLaws.{row_fits, sections-fit}
use Rattle.stored_managers.specs.Storing.{stored_in, stored_slots, sections_by_slot}
use Rattle.stored_managers.specs.AllOnes.{Begins, StoredPlan}
use Rattle.stored_managers.proofs.SlotsLaws.{ManagerFits, PlanFits, slots_read}

-- ---- what O bytes hold

-- of a number whose bits are all one
ones_in : (w k : ℕ) → stored_in w (256 ^ (w + k) - 1) ≡ 256 ^ w - 1
unfolding le_bytes le_value
ones_in zero k = refl
ones_in (suc w) k =
    let v = 256 ^ (suc w + k) - 1 in
    let n : suc w + k ≡ suc (w + k) = omega arith in
    let e : 256 ^ (suc w + k) ≡ 256 ^ (w + k) * 256 = ap (λ (i : ℕ). 256 ^ i) n ∙ pow-suc 256 (w + k) in
    let r : v % 256 ≡ 255 = omega (arith, some_power (w + k)) in
    let q : v / 256 ≡ 256 ^ (w + k) - 1 = omega (arith, some_power (w + k)) in
    rw (r, q, ones_in w k) (omega (arith, pow-suc 256 w, some_power w))

-- of 2^64 - 1
stored_ones : (O : ℕ) → O ≤ 8 → stored_in O top ≡ undefined_addr O
stored_ones O h = let e : O + (8 - O) ≡ 8 = omega arith in ap (λ (n : ℕ). stored_in O (256 ^ n - 1)) (sym e) ∙ ones_in O (8 - O)

-- of the address in a slot
stored_head : (O : ℕ) (l : List FreeSection) (x : ℕ) → O ≤ 8 → ((length l ≡ 0 → ⊥) → x < undefined_addr O)
    → stored_in O (cond (eqb (length l) 0) (undefined_addr 8) x) ≡ cond (eqb (length l) 0) (undefined_addr O) x
stored_head O l x h f = pick (eqb (length l) 0) (eqb-false (length l) 0)
  where
    pick : (t : Bool) → (t ≡ false → length l ≡ 0 → ⊥) → stored_in O (cond t (undefined_addr 8) x) ≡ cond t (undefined_addr O) x
    pick true g = stored_ones O h
    pick false g = read_back O x (omega (arith, f (g refl)))

-- ---- the blocks of a slot fit

pub pair_fits : (O base a : ℕ) (l : List FreeSection) → 1 ≤ O → O ≤ 8 → a + base + (fshd_size O + fsse_used O (starting_set O) l) ≤ top → a + fshd_size O < undefined_addr O
    → space l ≤ top → any_wide O l ≡ false → ManagerFits O (starting_set O) base a l
pair_fits O base a l low high room below small narrow = record {
  room = room;
  defined = below;
  header = row_fits O (a + fshd_size O) l high (omega arith) small (omega arith);
  bits_some = omega arith;
  bits-few = omega arith;
  sections-fit = rw (widths_are O (length l)) (sections-fit (enc_size (length l)) O l narrow small);
}

-- ---- an accepted plan

module _ (a b c : List ℕ) (n : Counts) (page start O : ℕ) (p : BlocksPlan) (e : planned_blocks a b c n page start O ≡ answer p) where
  abbrev s : Paged
  s = paged n page

  abbrev h : Accepted a b c n page start O p
  h = accepted a b c n page start O p e

  abbrev l0 : List FreeSection
  l0 = in_slot0 s a b c

  abbrev l2 : List FreeSection
  l2 = in_slot2 s a b c

  abbrev l6 : List FreeSection
  l6 = in_large s a b c

  abbrev m : Measures
  m = measures_of s a b c O

  abbrev q : PagedManagerPlan
  q = managers_at O start m

  plan_is : p.managers ≡ q
  plan_is = ap (λ (x : BlocksPlan). x.managers) h.plan

  abbrev limit : ℕ
  limit = undefined_addr O

  begins : (f : PagedManagerPlan → PagedManagerBlock) → wide_block limit (f q) ≡ false → Begins O (f p.managers)
  begins f w some = block_below limit (f p.managers) some (ap (λ (x : PagedManagerPlan). wide_block limit (f x)) plan_is ∙ w)

  -- the list of a slot with sections begins below the undefined address
  low : (l : List FreeSection) (class x : ℕ) → wide_block limit (block_at O class x (measure_of O l)) ≡ false → (length l ≡ 0 → ⊥) → x + fshd_size O < limit
  low l class x w some = subst (λ (y : ℕ). y < limit) (rw (ne_eqb (length l) 0 some)) (block_below limit (block_at O class x (measure_of O l)) some w).1

  slots_are : stored_slots O p.managers ≡ slots_from O (starting_set O) start (managers_in a b c n page)
  slots_are =
      let o = h.tested.high in
      let z = stored_ones O o in
      let u = stored_head O l0 start o (λ k. omega (arith, low l0 1 start h.low0 k)) in
      let v = stored_head O l2 (start + blocks_size O l0) o (λ k. omega (arith, low l2 1 (start + blocks_size O l0) h.low2 k)) in
      let w = stored_head O l6 (start + blocks_size O l0 + blocks_size O l2) o (λ k. omega (arith, low l6 2 (start + blocks_size O l0 + blocks_size O l2) h.low6 k)) in
      ap (stored_slots O) plan_is
      ∙ rw (u, v, w, z) (sym (plan_slots O page (decode n.meta a) (decode n.raw b) (decode n.unclassified c) start))

  -- ---- its blocks in bytes

  abbrev blocks : List ℕ
  blocks = managers_bytes a b c n page start O

  total : length blocks ≡ blocks_size O l0 + blocks_size O l2 + blocks_size O l6
  total =
      length_blocks O (starting_set O) lookup3 (managers_in a b c n page) start
      ∙ plan_size O page (decode n.meta a) (decode n.raw b) (decode n.unclassified c)

  module _ (base : ℕ) (bytes : List ℕ) (short : length bytes < 2 ^ 64) (there : window (start + base) (length blocks) bytes ≡ blocks) where
    slot-fits : (l : List FreeSection) (class x y : ℕ) → y ≡ x → wide_block limit (block_at O class x (measure_of O l)) ≡ false → space l ≤ top → any_wide O l ≡ false
        → start ≤ x → x + blocks_size O l ≤ start + length blocks → 0 < length l → ManagerFits O (starting_set O) base y l
    slot-fits l class x y yx w small wide first last some =
        let k : length l ≡ 0 → ⊥ = λ z. omega arith in
        let z = size-some O l k in
        let r : 0 < length blocks → start + base + length blocks ≤ length bytes = held (start + base) (length blocks) bytes blocks there refl in
        pair_fits O base y l h.tested.low h.tested.high (omega (arith, z, r (omega (arith, z)))) (omega (arith, low l class x w k)) small wide

    fits : PlanFits O (starting_set O) base start (managers_in a b c n page)
    fits =
        let x2 = start + blocks_size O l0 in
        let x6 = start + blocks_size O l0 + blocks_size O l2 in
        let y2 = start + manager_size O (starting_set O) (manager 1 l0) + 0 in
        let y6 = y2 + manager_size O (starting_set O) (manager 1 l2) + 0 + 0 + 0 in
        let f0 = slot-fits l0 1 start start refl h.low0 h.sum0 h.narrow0 (omega arith) (omega (arith, total)) in
        let f2 = slot-fits l2 1 x2 y2 (omega (arith, size_is O 1 l0)) h.low2 h.sum2 h.narrow2 (omega arith) (omega (arith, total)) in
        let f6 = slot-fits l6 2 x6 y6 (omega (arith, size_is O 1 l0, size_is O 1 l2)) h.low6 h.sum6 h.narrow6 (omega arith) (omega (arith, total)) in
        (f0, (none, (f2, (none, (none, (none, (f6, (none, (none, (none, (none, (none, tt))))))))))))
      where
        none : {y : ℕ} → 0 < 0 → ManagerFits O (starting_set O) base y []
        none k = absurd (omega arith)

    reads : (how : Reading) → read_slots how O base (stored_slots O p.managers) bytes ≡ answer (sections_by_slot a b c n page)
    reads how =
        rw slots_are
        (slots_read O (starting_set O) base how bytes (managers_in a b c n page) start
        (rw (← length_blocks O (starting_set O) lookup3 (managers_in a b c n page) start) there) fits)

    abbrev all : List FreeSection
    all = joined (sections_by_slot a b c n page)

    reads_into : (how : Reading) (out : List ℕ) → length out % 2 ≡ 0 → length all ≤ length out / 2
        → persisted how (stored_slots O p.managers) base O bytes out ≡ answer (with (length all) (over 0 (flat all) out))
    unfolding persisted first_of and_then
    reads_into how out even room =
        rw (width_in O h.tested.low h.tested.high, eq-eqb (length out % 2) 0 even, reads how, le-ltb (length out / 2) (length all) room)

  pub stored_plan : StoredPlan a b c n page start O p
  stored_plan = record {
    begins0 = begins (λ x. x.slot0) h.low0;
    begins2 = begins (λ x. x.slot2) h.low2;
    begins6 = begins (λ x. x.slot6) h.low6;
    slots = slots_are;
    read = λ how base bytes short there. reads base bytes short there how;
    persisted_read = λ how base bytes short there. reads_into base bytes short there how;
  }
