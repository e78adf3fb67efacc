use Prim.Native.Nat.{◌+◌}
use Rattle.free_lists.proofs.TrailingLaws.{Walking}
use Rattle.free_lists.proofs.walk_down.Given as goal

abbrev pub invariant-loop-r : goal.invariant-loop-r
invariant-loop-r l = Walking l.meta l.raw l.unclassified l.eof l.initial.at l.start l.at

abbrev pub decreases-loop-r : goal.decreases-loop-r
decreases-loop-r l = l.at.meta + (l.at.raw + l.at.unclassified)
