use mathlib.Core.Path.{sym, ap, ◌∙◌}
use mathlib.Core.List.{List}
use Prim.Native.Nat.{ℕ}
use native.Mathlib.Omega.{arith}
use Rattle.free_lists.specs.Lists.{lists_in}
use Rattle.free_lists.specs.History.{lists_after}
use Rattle.paged_lists.specs.PagedHistory.{on_shared}
use Rattle.paged_calls.specs.Encoding.{frees_of}
use Rattle.paged_calls.proofs.HistoryLaws.{free_step, free-end}
use Rattle.paged_calls.proofs.history.free_ranges.Goals as goal

pub loop-range-preserved : goal.loop-range-preserved
loop-range-preserved c =
    let l = c.loop-range in
    let steps = c.in-Some.ensures.steps in (
      steps.0 ∙ l.invariant.0,
      l.invariant.1 ∙ ap (λ (rest : List ℕ). lists_after (on_shared (frees_of rest)) (lists_in l.metadata l.raw l.unclassified l.lists)) steps.1.0
          ∙ free_step _ _ _ _ (steps.1.1 ∙ l.invariant.0) c.apply-applied.ensures.lists,
    )

pub returns : goal.returns
returns c =
    let l = c.loop-range in
    let steps = c.in-None.ensures.steps in
    sym (l.invariant.1 ∙ free-end _ _ (omega (arith, steps.1.0, l.invariant.0)))
