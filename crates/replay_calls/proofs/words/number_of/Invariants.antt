use Rattle.std.proofs.Common.{◌≡◌, take}
use Rattle.replay_lines.specs.Words.{spelled_by}
use Rattle.replay_calls.proofs.words.number_of.Given as goal

abbrev pub invariant-loop-byte : goal.invariant-loop-byte
invariant-loop-byte l = l.value ≡ spelled_by 0 (take l.byte-index l.word)
