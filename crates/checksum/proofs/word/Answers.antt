use Rattle.std.proofs.Common.{arith}
use Rattle.checksum.proofs.WordLaws.{four}
use Rattle.checksum.proofs.word.Goals as goal

pub returns : goal.returns
returns c = omega (arith, c.from_le_bytes.ensures, four c.args.bytes.now)
