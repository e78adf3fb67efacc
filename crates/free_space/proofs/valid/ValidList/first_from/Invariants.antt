use Rattle.std.proofs.Common.{◌-◌, ◌<◌}
use Rattle.free_space.specs.Runs.{region_at, regions}
use Rattle.free_space.specs.Splices.{Goes}
use Rattle.free_space.proofs.valid.ValidList.first_from.Given as goal

abbrev pub invariant-loop-i : goal.invariant-loop-i
invariant-loop-i l = (l.lo < l.i → (region_at l.self.run.now (l.i - 1)).addr < l.e) × Goes (regions l.self.run.now l.self.list) l.lo l.i l.gone
