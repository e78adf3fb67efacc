use Rattle.text.proofs.TextLaws.{byte_in, byte_out}
use Rattle.text.proofs.words.write_byte.Goals as goal

pub returns-then-at-out : goal.returns-then-at-out
returns-then-at-out c = let a = c.args in byte_in a.at a.byte a.out.now c.if-at-out.true

pub returns : goal.returns
returns c = let a = c.args in byte_out a.at a.byte a.out.now c.if-at-out.false
