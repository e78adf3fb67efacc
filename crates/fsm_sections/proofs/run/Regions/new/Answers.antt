use Rattle.fsm_sections.proofs.RunStepLaws.{regions-new}
use Rattle.fsm_sections.proofs.run.Regions.new.Goals as goal

pub returns : goal.returns
returns c = regions-new c.args.count c.args.run.now _ c.min.ensures
