use Rattle.std.proofs.Common.{arith}
use Rattle.fsm_sections.proofs.RunStepLaws.{regions-few, regions-first}
use Rattle.fsm_sections.proofs.run.Regions.first.Goals as goal

pub returns-then-self-lt2 : goal.returns-then-self-lt2
returns-then-self-lt2 c = regions-few c.args.self.now.run.now (omega arith)

pub returns : goal.returns
returns c = regions-first c.args.self.now.run.now (omega arith)
