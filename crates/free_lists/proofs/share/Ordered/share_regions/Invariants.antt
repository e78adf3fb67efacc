use Prim.Native.Nat.{◌+◌, ◌-◌}
use Rattle.free_lists.proofs.SharingLaws.{Compared}
use Rattle.free_lists.proofs.share.Ordered.share_regions.Given as goal

abbrev pub invariant-loop-i : goal.invariant-loop-i
invariant-loop-i l = Compared l.self.run.now l.self.count l.other.run.now l.other.count l.i l.j

abbrev pub decreases-loop-i : goal.decreases-loop-i
decreases-loop-i l = (l.self.count - l.i) + (l.other.count - l.j)
