use Rattle.checksum.proofs.LastBlockLaws.{last_block}
use Rattle.std.proofs.Common.{rules}
use Rattle.checksum.proofs.add_tail.Goals as goal

pub returns : goal.returns
returns c =
    rw (c.add_block.ensures, c.last_block.ensures)
    (last_block.adds c.args.bytes.now c.args.w c.requires (record { low_a = search rules; low_b = search rules; low_c = search rules }))
