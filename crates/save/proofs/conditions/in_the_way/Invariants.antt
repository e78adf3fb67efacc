use Rattle.free_space.specs.Runs.{regions}
use Rattle.fsm_sections.specs.RunSteps.{regions_left}
use Rattle.save.proofs.PlaceLaws.{Ways}
use Rattle.save.proofs.conditions.in_the_way.Given as goal

abbrev pub invariant-loop-region : goal.invariant-loop-region
invariant-loop-region l = Ways l.start l.place (regions l.run l.fn.list) (regions_left l.region-iterator)
