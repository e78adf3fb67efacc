use Rattle.std.proofs.Common.{◌∙◌, arith, rules}
use Rattle.std.proofs.lemmas.List.{places}
use Rattle.checksum.proofs.LastBlockLaws.{copy_next, copy_end}
use Rattle.checksum.proofs.last_block.Goals as goal

pub loop-i-preserved : goal.loop-i-preserved
loop-i-preserved c =
    let l = c.loop-i in
    let next = copy_next c.args.bytes.now l.i (search (rules, places)) in
    rw l.invariant (grind (arith, places, next))

pub returns : goal.returns
returns c =
    let l = c.loop-i in
    l.invariant ∙ copy_end c.args.bytes.now l.i (search (rules, places)) (search (rules, places))
