use native.Mathlib.Omega.{arith}
use Rattle.fsm_lengths.proofs.LengthLaws.{added, too_great, all_added}
use Rattle.fsm_lengths.proofs.sum_overflows.Goals as goal

pub loop-size-init : goal.loop-size-init
loop-size-init c = (omega arith, omega arith)

pub returns-then-n-size : goal.returns-then-n-size
returns-then-n-size c =
    let a = c.args in
    let l = c.loop-size in
    too_great a.sizes.now l.size-index l.n l.invariant.1 c.loop-size-test.true (omega (arith, c.if-n-size.true))

pub overflow_add-n : goal.overflow_add-n
overflow_add-n c = omega (arith, c.if-n-size.false)

pub loop-size-preserved : goal.loop-size-preserved
loop-size-preserved c =
    let a = c.args in
    let l = c.loop-size in
    (omega (arith, c.if-n-size.false), added a.sizes.now l.size-index l.n l.invariant.1 c.loop-size-test.true)

pub returns : goal.returns
returns c =
    let a = c.args in all_added a.sizes.now c.loop-size.size-index c.loop-size.n c.loop-size.invariant.1 c.loop-size-test.false c.loop-size.invariant.0
