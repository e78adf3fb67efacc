use Rattle.std.proofs.Common.{◌≡◌, ◌≤◌, length}
use Rattle.replay_calls.proofs.words.read_numbers.Given as goal

abbrev pub invariant-loop-word : goal.invariant-loop-word
invariant-loop-word l = (l.n ≤ length l.fn.out) × (length l.out ≡ length l.fn.out)
