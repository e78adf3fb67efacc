use mathlib.Core.Path.{◌∙◌}
use Rattle.fsm_blocks.proofs.FshdLaws.{signed-bytes}
use Rattle.fsm_blocks.proofs.header.is_signed.Goals as goal

pub returns : goal.returns
returns c = let a = c.args in c.starts_with.ensures.value ∙ signed-bytes 70 83 a.third a.fourth a.bytes.now c.requires
