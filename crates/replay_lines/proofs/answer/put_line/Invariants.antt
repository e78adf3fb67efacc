use Rattle.std.proofs.Common.{◌≡◌, drop}
use Rattle.text.specs.Text.{written}
use Rattle.replay_lines.specs.Words.{numbers_line}
use Rattle.replay_lines.proofs.answer.put_line.Given as goal

abbrev pub invariant-loop-n : goal.invariant-loop-n
invariant-loop-n l = written l.to (numbers_line l.last (drop l.n-index l.rest)) l.out ≡ written l.at (numbers_line l.first l.rest) l.fn.out
