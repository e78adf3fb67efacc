use mathlib.Core.Path.{sym, ap, ◌∙◌}
use mathlib.Core.List.{List}
use Prim.Native.Nat.{ℕ}
use native.Mathlib.Omega.{arith}
use Rattle.paged_lists.specs.PagedCalls.{paged_in}
use Rattle.paged_lists.specs.PagedHistory.{paged_after}
use Rattle.paged_calls.specs.Encoding.{paged_calls_of}
use Rattle.paged_calls.proofs.HistoryLaws.{call_step, call_end}
use Rattle.paged_calls.proofs.history.make_in_pages.Goals as goal

pub loop-row-preserved : goal.loop-row-preserved
loop-row-preserved c =
    let l = c.loop-row in
    let steps = c.in-Some.ensures.steps in (
      steps.0 ∙ l.invariant.0,
      l.invariant.1 ∙ ap (λ (rest : List ℕ). paged_after c.args.page (paged_calls_of rest) (paged_in l.metadata l.raw l.unclassified l.marks l.lists)) steps.1.0
          ∙ call_step _ _ _ _ _ _ _ _ (steps.1.1 ∙ l.invariant.0) c.type_of.ensures c.paged_call_of-call.ensures c.perform-applied.ensures,
    )

pub returns : goal.returns
returns c =
    let l = c.loop-row in
    let steps = c.in-None.ensures.steps in
    sym (l.invariant.1 ∙ call_end _ _ _ (omega (arith, steps.1.0, l.invariant.0)))
