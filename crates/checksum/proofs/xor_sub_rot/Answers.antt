use Rattle.std.proofs.Common.{ap}
use Rattle.checksum.specs.Lookup3.{xor32, sub32}
use Rattle.checksum.proofs.xor_sub_rot.Goals as goal

pub returns : goal.returns
unfolding xor32 sub32
returns c = let a = c.args in ap (sub32 (xor32 a.x a.z)) c.rot.ensures
