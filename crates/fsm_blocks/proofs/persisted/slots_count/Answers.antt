use native.Mathlib.Omega.{arith}
use Rattle.error.specs.Outcome.{sat}
use Rattle.std.proofs.lemmas.Result.{err_from_is_err_and}
use Rattle.fsm_blocks.proofs.SlotsLaws.{sum_start, sum_refused, sum_step, sum_end}
use Rattle.fsm_blocks.proofs.persisted.slots_count.Goals as goal

pub loop-slot-init : goal.loop-slot-init
loop-slot-init c = let a = c.args in sum_start a.reading a.size.bytes a.base.0 a.bytes.now a.slots.now

pub returns-in_err-n : goal.returns-in_err-n
returns-in_err-n c =
    let a = c.args in
    let l = c.loop-slot in
    let p = err_from_is_err_and c.from_residual.result c.from_residual.ensures.1 in rw (p.1, p.2)
    (sum_refused a.reading a.size.bytes a.base.0 a.bytes.now a.slots.now l.needed l.slot-index l.invariant c.loop-slot-test.true c.args.size.width _ c.in_err-n.was c.manager_count.ensures)

pub loop-slot-preserved : goal.loop-slot-preserved
unfolding sat
loop-slot-preserved c =
    let a = c.args in
    let l = c.loop-slot in
    sum_step a.reading a.size.bytes a.base.0 a.bytes.now a.slots.now l.needed l.slot-index l.invariant c.loop-slot-test.true c.args.size.width _ c.in_ok-n.was c.manager_count.ensures _ (omega arith)

pub returns : goal.returns
returns c =
    let a = c.args in
    let l = c.loop-slot in
    sum_end a.reading a.size.bytes a.base.0 a.bytes.now a.slots.now l.needed l.slot-index l.invariant c.loop-slot-test.false
