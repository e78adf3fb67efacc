use Rattle.fsm_blocks.proofs.PutLaws.{Filling}
use Rattle.fsm_blocks.proofs.groups.put_entries.Given as goal

abbrev pub invariant-loop-i : goal.invariant-loop-i
invariant-loop-i l = Filling l.groups l.width l.size l.fn.out l.at l.count l.from l.out l.i
