use Rattle.fsm_plan.proofs.PlanLaws.{into-over, into-room, into-put}
use Rattle.fsm_plan.proofs.plan.put_plan.Goals as goal

pub returns-then-capacity-needed : goal.returns-then-capacity-needed
returns-then-capacity-needed c =
    let a = c.args in
    into-over a.s a.meta.now a.raw.now a.unclassified.now a.out.now a.p c.requires.counted c.if-capacity-needed.true

pub put_slots-requires : goal.put_slots-requires
put_slots-requires c =
    let a = c.args in
    record { given = c.requires.given; fits = c.requires.fits; room = into-room a.s a.meta.now a.raw.now a.unclassified.now a.out.now a.p c.requires.counted c.if-capacity-needed.false }

pub returns : goal.returns
returns c =
    let a = c.args in
    into-put a.s a.meta.now a.raw.now a.unclassified.now a.out.now a.p c.requires.counted c.if-capacity-needed.false _ c.put_slots.ensures
