use Rattle.std.proofs.Common.{◌≡◌, ◌/◌, ◌^◌, take}
use Rattle.error.specs.Lent.{over}
use Rattle.fields.specs.Le.{le_bytes}
use Rattle.fields.proofs.bytes.write_uint_le.Given as goal

abbrev pub invariant-loop-i : goal.invariant-loop-i
invariant-loop-i l = (l.rest ≡ l.value / 256 ^ l.i) × (l.out ≡ over l.at (take l.i (le_bytes l.width l.value)) l.initial.out)
