use Rattle.std.proofs.Common.{sym, ap, ◌∙◌}
use Rattle.fsm_sections.proofs.StepLaws.{rest_all, can_go}
use Rattle.fsm_plan.specs.Order.{repeats}
use Rattle.fsm_plan.proofs.sharing.is_shared.Goals as goal

pub ascends-requires : goal.ascends-requires
ascends-requires c = let a = c.args in can_go a.s a.a.now a.b.now a.c.now _ c.new-all.ensures c.requires

pub clashes-requires : goal.clashes-requires
clashes-requires c = let a = c.args in can_go a.s a.a.now a.b.now a.c.now _ c.new-all.ensures c.requires

pub returns-then-not-ascends : goal.returns-then-not-ascends
returns-then-not-ascends c =
    let a = c.args in c.clashes.ensures ∙ ap repeats (rest_all a.s a.a.now a.b.now a.c.now _ c.new-all.ensures)

pub returns-else-not-ascends : goal.returns-else-not-ascends
returns-else-not-ascends c =
    let a = c.args in
    rw c.if-not-ascends.false (sym (c.ascends.ensures c.if-not-ascends.false) ∙ ap repeats (rest_all a.s a.a.now a.b.now a.c.now _ c.new-all.ensures))
