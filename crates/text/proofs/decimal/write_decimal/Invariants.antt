use mathlib.Core.Path.{◌≡◌}
use Prim.Native.Nat.{◌+◌, ◌-◌, ◌/◌, ◌^◌}
use lib.ListN.{length, drop}
use Rattle.error.specs.Lent.{over}
use Rattle.text.specs.Decimal.{decimal}
use Rattle.text.proofs.decimal.write_decimal.Given as goal

abbrev pub invariant-loop-i : goal.invariant-loop-i
invariant-loop-i l =
    (l.rest ≡ l.n / 10 ^ (length (decimal l.n) - l.i)) × (l.out ≡ over (l.at + l.i) (drop l.i (decimal l.n)) l.initial.out)
