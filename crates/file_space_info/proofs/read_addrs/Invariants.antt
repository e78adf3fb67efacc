use mathlib.Core.Path.{◌≡◌}
use lib.ListN.{take, drop}
use Rattle.error.specs.Lent.{over}
use Rattle.file_space_info.specs.Message.{numbers_at}
use Rattle.file_space_info.proofs.read_addrs.Given as goal

abbrev pub invariant-loop-i : goal.invariant-loop-i
invariant-loop-i l = l.addrs ≡ over 0 (take l.i (numbers_at l.width l.n (drop l.at l.bytes))) l.initial.addrs
