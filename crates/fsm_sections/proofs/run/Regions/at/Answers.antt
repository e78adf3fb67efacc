use Rattle.fsm_sections.specs.Cursors.{rest_in}
use Rattle.fsm_sections.proofs.CursorLaws.{regions-from}
use Rattle.fsm_sections.proofs.run.Regions.at.Goals as goal

pub returns : goal.returns
unfolding rest_in
returns c = regions-from c.args.at.i _ _ _ c.new-all.ensures c.min-passed.ensures
