use Prim.Native.Nat.{◌-◌}
use lib.ListN.{length}
use Rattle.fsm_blocks.specs.Parts.{widths_in}
use Rattle.fsm_blocks.proofs.CountLaws.{Scan}
use Rattle.fsm_blocks.proofs.groups.groups_count.Given as goal

abbrev pub invariant-loop-left : goal.invariant-loop-left
invariant-loop-left l = Scan l.groups (widths_in l.w) l.total l.at l.left

abbrev pub decreases-loop-left : goal.decreases-loop-left
decreases-loop-left l = length l.groups - l.at
