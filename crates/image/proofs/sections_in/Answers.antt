use mathlib.Core.Path.{◌∙◌}
use Rattle.image.proofs.CountLaws.{counted_or}
use Rattle.image.proofs.sections_in.Goals as goal

pub returns : goal.returns
returns c = c.unwrap_or.ensures ∙ counted_or c.args.image.now c.args.slot c.manager_count.result c.manager_count.ensures
