use mathlib.Core.Path.{◌≡◌}
use Prim.Native.Nat.{◌-◌, ◌<◌}
use Rattle.split_records.specs.Records.{pieces_left}
use Rattle.split_records.proofs.next_piece.Given as goal

abbrev pub invariant-loop-i : goal.invariant-loop-i
invariant-loop-i l = (l.i < l.count) × (pieces_left l.page l.count l.sections l.fn.at.section l.fn.at.done ≡ pieces_left l.page l.count l.sections l.i l.d)

abbrev pub decreases-loop-i : goal.decreases-loop-i
decreases-loop-i l = l.count - l.i
