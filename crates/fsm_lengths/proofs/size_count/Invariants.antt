use mathlib.Core.Path.{◌≡◌}
use Prim.Native.Nat.{◌+◌, ◌≤◌}
use lib.ListN.{drop}
use Rattle.fsm_sections.specs.Sections.{distinct}
use Rattle.fsm_lengths.specs.Lengths.{unplaced}
use Rattle.fsm_lengths.proofs.size_count.Given as goal

abbrev pub invariant-loop-i : goal.invariant-loop-i
invariant-loop-i l = (l.n ≤ l.i) × (l.n + distinct (unplaced (drop l.i l.sizes)) ≡ distinct (unplaced l.sizes))
