use Rattle.std.proofs.Common.{refl}
use Rattle.fsm_sections.specs.Steps.{rest}
use Rattle.fsm_plan.proofs.SharingLaws.{apart_start, apart_found, apart_step, apart_end}
use Rattle.fsm_plan.proofs.sharing.clashes.Goals as goal

pub loop-t-init : goal.loop-t-init
loop-t-init c = apart_start (rest c.args.all) c.args.all c.requires refl

pub loop-t-preserved : goal.loop-t-preserved
loop-t-preserved c =
    apart_step (rest c.args.all) c.loop-t.left c.in-Some.t c.next.new.self c.in-Some.ensures.steps c.loop-t.invariant c.meets.result c.meets.ensures c.if-meets.false

pub returns-then-meets : goal.returns-then-meets
returns-then-meets c =
    apart_found (rest c.args.all) c.loop-t.left c.in-Some.t c.next.new.self c.in-Some.ensures.steps c.loop-t.invariant c.meets.result c.meets.ensures c.if-meets.true

pub returns : goal.returns
returns c = apart_end c.loop-t.left c.in_default.ensures.steps (rest c.args.all) c.loop-t.invariant
