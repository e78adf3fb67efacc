use Rattle.std.proofs.Common.{◌≡◌}
use Rattle.fsm_sections.specs.Steps.{CanGo}
use Rattle.fsm_plan.proofs.SharingLaws.{Unmet}
use Rattle.fsm_plan.proofs.sharing.meets.Given as goal

abbrev pub invariant-loop-u : goal.invariant-loop-u
invariant-loop-u l = Unmet l.t l.fn.left l.u-iterator × CanGo l.u-iterator × (l.u-iterator.source ≡ l.fn.left.source)
