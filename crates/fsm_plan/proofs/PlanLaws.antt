-- The sections of a plan's slots put into a lent run, by the branches of the code. Assumes nothing.
use mathlib.Core.Path.{◌≡◌, sym, ap, ap₂, ◌∙◌, subst}
use Prim.Native.Nat.{ℕ, ◌+◌, ◌-◌, ◌*◌, ◌/◌, ◌%◌, ◌≤◌, ◌<◌}
use native.Mathlib.Omega.{arith}
use mathlib.Core.Bool.{true, false, not}
use mathlib.Core.List.{List, ◌++◌}
use lib.ListN.{length, take, drop}
use borrow.Author.Tests.{lt-ltb, le-ltb, eq-eqb, ne_eqb}
use Rattle.std.specs.Prelude.{Result, Ok, Err}
use Rattle.error.specs.Answers.{as_outcome}
use Rattle.error.specs.declared.Refusal.{Refusal}
use Rattle.error.specs.declared.Refusal.TheVariants.{Width, Page, NotAList, OverCapacity}
use Rattle.error.specs.Outcome.{Outcome, answer, refused, and_then}
use Rattle.error.specs.Lent.{With, left, leaving, over}
use Rattle.error.proofs.OutcomeLaws.{first-none, first_holds, first_passes}
use Rattle.error.proofs.OverLaws.{length_over}
use Rattle.fields.specs.Width.{valid_width}
use Rattle.pairs.proofs.PairLaws.{over-flat}
use Rattle.fsm_sections.specs.declared.FreeSection.{FreeSection}
use Rattle.fsm_sections.specs.declared.Source.{Source}
use Rattle.fsm_sections.specs.Sections.{flat}
use Rattle.fsm_sections.specs.Chains.{sections_of}
use Rattle.fsm_sections.specs.Sources.{chains_of, Given}
use Rattle.fsm_sections.proofs.SectionsLaws.{section_form}
use Rattle.fsm_sections.proofs.SlotLaws.{slot6-runs}
use Rattle.fsm_blocks.proofs.LengthLaws.{size-length, part_room, part_back}
use Rattle.fsm_plan.specs.declared.Counts.{Counts}
use Rattle.fsm_plan.specs.declared.chains.Paged.{Paged}
use Rattle.fsm_plan.specs.declared.blocks.PagedManagerPlan.{PagedManagerPlan}
use Rattle.fsm_plan.specs.declared.blocks.BlocksPlan.{BlocksPlan}
use Rattle.fsm_plan.specs.Order.{by_addr, source_of, in_slot6}
use Rattle.fsm_plan.specs.Blocks.{paged, in_slot0, in_slot2, in_large, planned_blocks}
use Rattle.fsm_plan.specs.Plan.{Counted, plan_sections, plan_count, planned_into, planned}
use Rattle.fsm_plan.proofs.BlocksLaws.{Accepted, accepted}

-- ---- the sections of the three slots, put

module _ (s : Paged) (a b c : List ℕ) (out : List ℕ) where
  abbrev s0 : List FreeSection
  s0 = in_slot0 s a b c

  abbrev s2 : List FreeSection
  s2 = in_slot2 s a b c

  abbrev s6 : List FreeSection
  s6 = in_large s a b c

  module _ (p : 0 < s.page) where
    large_is : in_slot6 s a b c ≡ s6
    large_is = sym (slot6-runs s.page s.na s.nb s.nc a b c p)

    module _ (room : 2 * plan_count s a b c ≤ length out) (x : List ℕ) (k : ℕ) (xe : x ≡ over 0 (flat s0) out) (ke : k ≡ 0 + 2 * length s0) where
      x_length : length x ≡ length out
      x_length = ap length xe ∙ length_over 0 (flat s0) out

      pub second-room : k + 2 * length s2 ≤ length x
      second-room = omega (arith, x_length)

      module _ (y : List ℕ) (j : ℕ) (ye : y ≡ over k (flat s2) x) (je : j ≡ k + 2 * length s2) where
        y_length : length y ≡ length out
        y_length = ap length ye ∙ length_over k (flat s2) x ∙ x_length

        -- the source of slot 6
        module _ (S : Source) (Se : S ≡ source_of s) where
          from_source : sections_of (chains_of S a b c) ≡ s6
          from_source = ap (λ (q : Source). sections_of (chains_of q a b c)) Se ∙ large_is

          pub third_asked : Given (source_of s) a b c → Given S a b c × (2 * length (sections_of (chains_of S a b c)) ≤ length (take (length y - j) (drop j y)))
          third_asked g =
              (subst (λ (q : Source). Given q a b c) (sym Se) g, part_room y j (2 * length (sections_of (chains_of S a b c))) (omega (arith, y_length, ap length from_source)))

          pub slots-put : (z : List ℕ) → z ≡ over 0 (flat (by_addr (sections_of (chains_of S a b c)))) (take (length y - j) (drop j y))
              → take j y ++ (z ++ drop (length y - j) (drop j y)) ≡ over 0 (flat (plan_sections s a b c)) out
          slots-put z ze =
              let q = by_addr s6 in
              part_back y z (flat q) j (ze ∙ ap (λ (m : List FreeSection). over 0 (flat (by_addr m)) (take (length y - j) (drop j y))) from_source)
              ∙ ap₂ (λ (i : ℕ) (m : List ℕ). over i (flat q) m) je ye
              ∙ over-flat section_form k s2 q x
              ∙ ap₂ (λ (i : ℕ) (m : List ℕ). over i (flat (s2 ++ q)) m) ke xe
              ∙ over-flat section_form 0 s0 (s2 ++ q) out

  -- ---- `put_plan`, by its branches

  module _ (p : PagedManagerPlan) (h : Counted s a b c p) where
    total-is : p.slot0.count + p.slot2.count + p.slot6.count ≡ plan_count s a b c
    total-is = omega (arith, h.number0, h.number2, h.number6)

    pub into-over : length out / 2 < p.slot0.count + p.slot2.count + p.slot6.count
        → left (refused (OverCapacity (p.slot0.count + p.slot2.count + p.slot6.count) (length out / 2))) out ≡ leaving out (planned_into s a b c p out)
    unfolding planned_into
    into-over f =
        ap (λ (k : ℕ). left (refused (OverCapacity k (length out / 2))) out) total-is
        ∙ ap (leaving out) (sym (first_holds _ (OverCapacity (plan_count s a b c) (length out / 2)) _ _ (lt-ltb (length out / 2) (plan_count s a b c) (omega (arith, total-is)))))

    module _ (f : p.slot0.count + p.slot2.count + p.slot6.count ≤ length out / 2) where
      pub into-room : 2 * plan_count s a b c ≤ length out
      into-room = omega (arith, total-is)

      pub into-put : (x : List ℕ) → x ≡ over 0 (flat (plan_sections s a b c)) out → left (answer p) x ≡ leaving out (planned_into s a b c p out)
      unfolding planned_into
      into-put x e =
          ap (λ (y : List ℕ). left (answer p) y) e
          ∙ ap (leaving out) (sym (first_passes _ (OverCapacity (plan_count s a b c) (length out / 2)) _ _ (le-ltb (length out / 2) (plan_count s a b c) (omega (arith, total-is))) ∙ first-none _))

-- ---- `plan_paged_managers`, by its branches

module _ (a b c : List ℕ) (n : Counts) (page start O : ℕ) (out : List ℕ) where
  abbrev whole : Outcome (With PagedManagerPlan (List ℕ))
  whole = planned a b c n page start O out

  abbrev into : BlocksPlan → Outcome (With PagedManagerPlan (List ℕ))
  into p = planned_into (paged n page) a b c p.managers out

  pub planned-width : not (valid_width O) ≡ true → left (refused Width) out ≡ leaving out whole
  unfolding planned
  planned-width h = ap (leaving out) (sym (first_holds _ Width _ _ h))

  module _ (v : not (valid_width O) ≡ false) where
    pub planned-page : page ≡ 0 → left (refused Page) out ≡ leaving out whole
    unfolding planned
    planned-page h = ap (leaving out) (sym (first_passes _ Width _ _ v ∙ first_holds _ Page _ _ (eq-eqb page 0 h)))

    module _ (p : page ≡ 0 → ⊥) where
      pub planned_odd : (length out % 2 ≡ 0 → ⊥) → left (refused NotAList) out ≡ leaving out whole
      unfolding planned
      planned_odd h =
          ap (leaving out)
          (sym (first_passes _ Width _ _ v ∙ first_passes _ Page _ _ (ne_eqb page 0 p) ∙ first_holds _ NotAList _ _ (ap not (ne_eqb (length out % 2) 0 h))))

      module _ (e : length out % 2 ≡ 0) (x : (Result BlocksPlan Refusal)) (xe : as_outcome x ≡ planned_blocks a b c n page start O) where
        after : and_then (as_outcome x) into ≡ whole
        unfolding planned
        after =
            ap (λ (z : Outcome BlocksPlan). and_then z into) xe
            ∙ sym (first_passes _ Width _ _ v ∙ first_passes _ Page _ _ (ne_eqb page 0 p) ∙ first_passes _ NotAList _ _ (ap not (eq-eqb (length out % 2) 0 e)) ∙ first-none _)

        pub planned-refused : (r : Refusal) → x ≡ Err r → left (refused r) out ≡ leaving out whole
        unfolding and_then
        planned-refused r h = ap (leaving out) (ap (λ (z : (Result BlocksPlan Refusal)). and_then (as_outcome z) into) (sym h) ∙ after)

        module _ (plan : BlocksPlan) (h : x ≡ Ok plan) where
          pub planned-into : leaving out (into plan) ≡ leaving out whole
          unfolding and_then
          planned-into = ap (leaving out) (ap (λ (z : (Result BlocksPlan Refusal)). and_then (as_outcome z) into) (sym h) ∙ after)

          pub planned-accepted : Accepted a b c n page start O plan
          planned-accepted = accepted a b c n page start O plan (sym xe ∙ ap as_outcome h)

pub accepted-counted : (a b c : List ℕ) (n : Counts) (page start O : ℕ) (p : BlocksPlan) → Accepted a b c n page start O p → Counted (paged n page) a b c p.managers
accepted-counted a b c n page start O p h =
    let s = paged n page in
    record {
      number0 = ap (λ (x : BlocksPlan). x.managers.slot0.count) h.plan;
      number2 = ap (λ (x : BlocksPlan). x.managers.slot2.count) h.plan;
      number6 = ap (λ (x : BlocksPlan). x.managers.slot6.count) h.plan;
      few = omega (arith, h.end, size-length O (in_slot0 s a b c), size-length O (in_slot2 s a b c), size-length O (in_large s a b c));
    }
