use Rattle.replay_lines.proofs.LineLaws.{line_next}
use Rattle.replay_lines.proofs.answer.put_line.Goals as goal

pub loop-n-preserved : goal.loop-n-preserved
loop-n-preserved c =
    let l = c.loop-n in
    line_next c.args.rest.now l.out l.n-index l.to l.last c.loop-n-test.true l.invariant c.write_word-to.ensures
