use Rattle.std.proofs.Common.{◌≡◌, ◌≤◌, length}
use Rattle.fields.specs.Ranges.{top}
use Rattle.fsm_sizes.specs.Chained.{Room, Cleared}
use Rattle.fsm_sizes.proofs.windows.window_of.Given as goal

abbrev pub invariant-loop-found : goal.invariant-loop-found
invariant-loop-found l = Room l.of l.link l.slot × Cleared l.slot × (l.from ≤ l.reach) × (length l.of ≡ length l.initial.of) × (l.reach ≤ top)

abbrev pub decreases-loop-found : goal.decreases-loop-found
decreases-loop-found l = l.reach
