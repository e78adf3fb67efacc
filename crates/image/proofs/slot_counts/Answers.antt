use Rattle.image.proofs.CountLaws.{counts_start, counts_step, counts_end}
use Rattle.image.proofs.slot_counts.Goals as goal

pub loop-i-init : goal.loop-i-init
loop-i-init c = let a = c.args in counts_start a.image.now a.slots.now

pub loop-i-preserved : goal.loop-i-preserved
loop-i-preserved c =
    let a = c.args in
    let l = c.loop-i in
    counts_step a.image.now a.slots.now l.counts l.i l.invariant c.loop-i-test.true _ c.sections_in.ensures

pub returns : goal.returns
returns c =
    let a = c.args in
    let l = c.loop-i in
    counts_end a.image.now a.slots.now l.counts l.i l.invariant c.loop-i-test.false
