use Prim.Native.Nat.{◌+◌, ◌*◌}
use Rattle.error.proofs.OverLaws.{store_pair}
use Rattle.fsm_blocks.proofs.PutLaws.{fill_step, fill_end}
use Rattle.fsm_blocks.proofs.groups.put_entries.Goals as goal

pub loop-i-preserved : goal.loop-i-preserved
loop-i-preserved c =
    let a = c.args in
    let l = c.loop-i in
    fill_step a.groups.now a.width a.size a.out.now a.at a.count a.from l.out l.i l.invariant c.loop-i-test.true _ c.field_at-addr.ensures _ (store_pair (a.from + 2 * l.i) c.field_at-addr.result a.size l.out)

pub returns : goal.returns
returns c =
    let a = c.args in
    let l = c.loop-i in
    fill_end a.groups.now a.width a.size a.out.now a.at a.count a.from l.out l.i l.invariant c.loop-i-test.false
