use Rattle.fsm_sections.specs.Sections.{decode}
use Rattle.fsm_sections.specs.RunSteps.{regions_left}
use Rattle.fsm_pages.proofs.SplitLaws.{Putting}
use Rattle.fsm_pages.proofs.pages.put_split.Given as goal

abbrev pub invariant-loop-region : goal.invariant-loop-region
invariant-loop-region l = Putting l.page (decode l.count l.sections) l.initial.out (regions_left l.region-iterator) l.out l.k
