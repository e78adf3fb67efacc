use Rattle.std.proofs.Common.{◌≡◌, ◌-◌, ◌%◌, ◌≤◌}
use Rattle.free_space.specs.Splices.{Tested}
use Rattle.free_space.proofs.check.rest_is_list.Given as goal

abbrev pub invariant-loop-i : goal.invariant-loop-i
invariant-loop-i l = Tested l.run l.list l.i l.prev l.sum × (l.i ≤ l.stop) × ((l.stop - l.i) % 2 ≡ 0)

abbrev pub decreases-loop-i : goal.decreases-loop-i
decreases-loop-i l = l.stop - l.i
