use Rattle.std.proofs.Common.{false, refl}
use Rattle.error.proofs.TestLaws.{true_not_false}
use Rattle.fsm_sections.specs.Steps.{rest}
use Rattle.fsm_plan.proofs.SharingLaws.{below_start, below_step, below_end}
use Rattle.fsm_plan.proofs.sharing.ascends.Goals as goal

pub loop-t-init : goal.loop-t-init
loop-t-init c = rw c.into_iter-t-iterator.ensures.into_iter_gives (below_start (rest c.args.all) c.args.all c.requires refl)

pub raised-requires : goal.raised-requires
raised-requires c = c.in-Some.ensures.steps.fits c.loop-t.invariant.go

pub returns-in_default : goal.returns-in_default
returns-in_default c = λ e. true_not_false false e (λ i. false)

pub loop-t-preserved : goal.loop-t-preserved
loop-t-preserved c =
    let l = c.loop-t in
    below_step (rest c.args.all) l.t-iterator c.in-Some.t c.next.new.self c.in-Some.ensures.steps l.floor l.invariant c.in-Some-raised.f
    c.raised.result c.raised.ensures c.in-Some-raised.is

pub returns : goal.returns
returns c = λ e. below_end c.loop-t.t-iterator c.in-None.ensures.steps (rest c.args.all) c.loop-t.floor c.loop-t.invariant
