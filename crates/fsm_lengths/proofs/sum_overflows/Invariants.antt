use mathlib.Core.Path.{◌≡◌}
use Prim.Native.Nat.{◌+◌, ◌≤◌}
use lib.ListN.{drop}
use Rattle.fields.specs.Ranges.{top}
use Rattle.fsm_sections.specs.Sections.{space}
use Rattle.fsm_lengths.specs.Lengths.{unplaced}
use Rattle.fsm_lengths.proofs.sum_overflows.Given as goal

abbrev pub invariant-loop-size : goal.invariant-loop-size
invariant-loop-size l = (l.n ≤ top) × (l.n + space (unplaced (drop l.size-index l.sizes)) ≡ space (unplaced l.sizes))
