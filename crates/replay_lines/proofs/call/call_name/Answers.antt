use Rattle.replay_lines.proofs.CallLaws.{up_to_space, whole_line}
use Rattle.replay_lines.proofs.call.call_name.Goals as goal

pub returns-then-byte-eq32-clause-named : goal.returns-then-byte-eq32-clause-named
returns-then-byte-eq32-clause-named c = up_to_space c.args.line.now c.loop-i.i c.loop-i-test.true c.if-byte-eq32.true

pub returns-clause-named : goal.returns-clause-named
returns-clause-named c = whole_line c.args.line.now
