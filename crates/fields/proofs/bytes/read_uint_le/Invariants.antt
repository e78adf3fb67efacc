use Rattle.std.proofs.Common.{◌≡◌, ◌-◌, ◌^◌, ◌<◌, take, drop}
use Rattle.fields.specs.Le.{le_value}
use Rattle.fields.proofs.bytes.read_uint_le.Given as goal

abbrev pub invariant-loop-i : goal.invariant-loop-i
invariant-loop-i l = (l.v ≡ le_value (drop l.i (take l.n (drop l.at l.bytes)))) × (l.v < 256 ^ (l.n - l.i))
