use Rattle.std.proofs.Common.{◌*◌, ◌-◌, ◌≤◌, length}
use Rattle.fsm_sections.specs.RunSteps.{Alike}
use Rattle.fsm_sections.proofs.run.alike.Given as goal

abbrev pub invariant-loop-n : goal.invariant-loop-n
invariant-loop-n l = (2 * l.n ≤ length l.run) × Alike l.size l.n l.run

abbrev pub decreases-loop-n : goal.decreases-loop-n
decreases-loop-n l = length l.run - l.n

abbrev pub invariant-loop-n-2 : goal.invariant-loop-n-2
invariant-loop-n-2 l = (2 * l.n ≤ length l.run) × Alike l.size l.n l.run

abbrev pub decreases-loop-n-2 : goal.decreases-loop-n-2
decreases-loop-n-2 l = length l.run - l.n
