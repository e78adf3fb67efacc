use Rattle.fsm_sections.specs.Steps.{rest, left}
use Rattle.fsm_plan.proofs.SharingLaws.{Apart}
use Rattle.fsm_plan.proofs.sharing.clashes.Given as goal

abbrev pub invariant-loop-t : goal.invariant-loop-t
invariant-loop-t l = Apart (rest l.fn.all) l.left

abbrev pub decreases-loop-t : goal.decreases-loop-t
decreases-loop-t l = left l.left
