use Prim.Native.Nat.{◌-◌}
use lib.ListN.{length}
use Rattle.fsm_blocks.specs.Parts.{widths_in}
use Rattle.fsm_blocks.proofs.PutLaws.{Putting}
use Rattle.fsm_blocks.proofs.groups.put_groups.Given as goal

abbrev pub invariant-loop-left : goal.invariant-loop-left
invariant-loop-left l = Putting l.groups (widths_in l.w) l.total l.from l.initial.out l.out l.at l.left l.k

abbrev pub decreases-loop-left : goal.decreases-loop-left
decreases-loop-left l = length l.groups - l.at
