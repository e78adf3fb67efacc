-- The loop's invariant: the first i bytes stand over zeros.
use Rattle.std.proofs.Common.{◌≡◌}
use Rattle.checksum.proofs.LastBlockLaws.{copied}
use Rattle.checksum.proofs.last_block.Given as goal

abbrev pub invariant-loop-i : goal.invariant-loop-i
invariant-loop-i l = l.block ≡ copied l.bytes l.i
