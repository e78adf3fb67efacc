use Rattle.fsm_sections.specs.Steps.{rest}
use Rattle.fsm_plan.proofs.SharingLaws.{Below}
use Rattle.fsm_plan.proofs.sharing.ascends.Given as goal

abbrev pub invariant-loop-t : goal.invariant-loop-t
invariant-loop-t l = Below (rest l.fn.all) l.floor l.t-iterator
