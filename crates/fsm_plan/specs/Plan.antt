-- `plan_paged_managers`: the plan of the blocks, and the sections of slots 0, 2 and 6 in a lent run. Assumes nothing.
-- In quotes: document 01's words, from "Pages and slots" or from the heading named.
--   plan_sections     the sections as the lent run holds them: those of slots 0 and 2 in input order, those of slot 6 "by address"
--   plan_count        how many they are
--   Counted           the counts of a plan are theirs: for contracts of private functions
--   planned_into      refusal 14; the managers of a plan, and the sections in the lent run
--   planned           `plan_paged_managers`: refusals 1, 2, 3 (also an odd output run), the others of `plan_blocks`, then planned_into
use Rattle.std.specs.Prelude.{◌≡◌, ℕ, ◌+◌, ◌/◌, ◌≤◌, not, List, [], ◌∷◌, ◌++◌, ltb, eqb, length}
use Rattle.error.specs.declared.Refusal.TheVariants.{Width, Page, NotAList, OverCapacity}
use Rattle.error.specs.Outcome.{Outcome, answer, when, first_of, and_then}
use Rattle.error.specs.Lent.{With, with, over}
use Rattle.fields.specs.Ranges.{top}
use Rattle.fields.specs.Width.{valid_width}
use Rattle.pairs.specs.Pairs.{is_even}
use Rattle.fsm_sections.specs.declared.FreeSection.{FreeSection}
use Rattle.fsm_sections.specs.Sections.{flat}
use Rattle.fsm_plan.specs.declared.Counts.{Counts}
use Rattle.fsm_plan.specs.declared.chains.Paged.{Paged}
use Rattle.fsm_plan.specs.declared.blocks.PagedManagerPlan.{PagedManagerPlan}
use Rattle.fsm_plan.specs.Order.{by_addr}
use Rattle.fsm_plan.specs.Blocks.{paged, in_slot0, in_slot2, in_large, planned_blocks}

module _ (s : Paged) (a b c : List ℕ) where
  abbrev pub plan_sections : List FreeSection
  plan_sections = in_slot0 s a b c ++ (in_slot2 s a b c ++ by_addr (in_large s a b c))

  abbrev pub plan_count : ℕ
  plan_count = length (in_slot0 s a b c) + (length (in_slot2 s a b c) + length (in_large s a b c))

  pub record Counted (p : PagedManagerPlan) : Type 0 where
    pub number0 : p.slot0.count ≡ length (in_slot0 s a b c)
    pub number2 : p.slot2.count ≡ length (in_slot2 s a b c)
    pub number6 : p.slot6.count ≡ length (in_large s a b c)
    pub few : plan_count ≤ top

  unfoldable pub planned_into : PagedManagerPlan → List ℕ → Outcome (With PagedManagerPlan (List ℕ))
  planned_into p out =
      first_of (when (ltb (length out / 2) plan_count) (OverCapacity plan_count (length out / 2)) ∷ [])
      (answer (with p (over 0 (flat plan_sections) out)))

unfoldable pub planned : List ℕ → List ℕ → List ℕ → Counts → ℕ → ℕ → ℕ → List ℕ → Outcome (With PagedManagerPlan (List ℕ))
planned a b c n page start O out =
    first_of
    (when (not (valid_width O)) Width
    ∷ when (eqb page 0) Page
    ∷ when (not (is_even out)) NotAList
    ∷ [])
    (and_then (planned_blocks a b c n page start O) (λ p. planned_into (paged n page) a b c p.managers out))
