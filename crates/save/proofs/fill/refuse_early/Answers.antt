use mathlib.Core.Path.{sym, ap, ◌∙◌}
use Rattle.std.specs.Prelude.{Err}
use Rattle.error.specs.Answers.{as_outcome}
use Rattle.error.specs.declared.Refusal.{Refusal}
use Rattle.fsm_plan.specs.declared.Counts.{Counts}
use Rattle.fsm_plan.specs.Blocks.{planned_blocks}
use Rattle.save.proofs.FillLaws.{early_four, early_plan, early_other}
use Rattle.save.proofs.fill.refuse_early.Goals as goal

pub returns-in-Overflow : goal.returns-in-Overflow
returns-in-Overflow c =
    let a = c.args in
    let x = c.plan_blocks.ensures ∙ ap (λ (n : Counts). planned_blocks a.meta.now a.raw.now a.unclassified.now n a.q.to.page a.q.to.start 8) c.counts_of-n.ensures in
    let e = ap as_outcome (sym (c.in-Err.is ∙ ap (λ (r : Refusal). Err r) c.in-Overflow.is)) ∙ x in
    rw c.in-Overflow.is (early_four a.meta.now a.raw.now a.unclassified.now a.q.lists a.q.to.page a.q.to.start c.requires.0 c.requires.1 a.early e)

pub returns-in-Ok : goal.returns-in-Ok
returns-in-Ok c =
    let a = c.args in
    let x = c.plan_blocks.ensures ∙ ap (λ (n : Counts). planned_blocks a.meta.now a.raw.now a.unclassified.now n a.q.to.page a.q.to.start 8) c.counts_of-n.ensures in
    early_plan a.meta.now a.raw.now a.unclassified.now a.q.lists a.q.to.page a.q.to.start c.requires.0 c.requires.1 a.early _ (ap as_outcome (sym c.in-Ok.is) ∙ x)

pub returns-in_default : goal.returns-in_default
returns-in_default c =
    let a = c.args in
    let x = c.plan_blocks.ensures ∙ ap (λ (n : Counts). planned_blocks a.meta.now a.raw.now a.unclassified.now n a.q.to.page a.q.to.start 8) c.counts_of-n.ensures in
    early_other a.meta.now a.raw.now a.unclassified.now a.q.lists a.q.to.page a.q.to.start c.requires.0 c.requires.1 a.early _ c.in_default.not-Overflow (ap as_outcome (sym c.in-Err.is) ∙ x)
