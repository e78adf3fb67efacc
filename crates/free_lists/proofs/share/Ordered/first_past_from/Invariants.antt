use Prim.Native.Nat.{◌-◌, ◌≤◌, ◌<◌}
use Rattle.free_regions.specs.Regions.{end}
use Rattle.free_space.specs.Runs.{region_at}
use Rattle.free_lists.proofs.share.Ordered.first_past_from.Given as goal

abbrev pub invariant-loop-ahead : goal.invariant-loop-ahead
invariant-loop-ahead l = (l.from ≤ l.low) × (l.low ≤ l.self.count) × (l.from < l.low → end (region_at l.self.run.now (l.low - 1)) ≤ l.a)

abbrev pub decreases-loop-ahead : goal.decreases-loop-ahead
decreases-loop-ahead l = l.self.count - l.low
