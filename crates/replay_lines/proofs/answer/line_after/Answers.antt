use Rattle.text.proofs.TextLaws.{then}
use Rattle.replay_lines.specs.Words.{numbers_line}
use Rattle.replay_lines.proofs.answer.line_after.Goals as goal

pub returns : goal.returns
returns c =
    let a = c.args in
    then 0 a.word.now (numbers_line a.first a.rest.now) a.out.now c.write_bytes-at.ensures c.put_line.ensures
