use Rattle.fsm_sections.specs.RunSteps.{regions_left}
use Rattle.fsm_pages.proofs.SplitLaws.{Counting}
use Rattle.fsm_pages.proofs.pages.pieces_in.Given as goal

abbrev pub invariant-loop-region : goal.invariant-loop-region
invariant-loop-region l = Counting l.page l.count l.sections (regions_left l.region-iterator) l.some l.more
