use Rattle.fsm_blocks.proofs.SlotsLaws.{Summing}
use Rattle.fsm_blocks.proofs.persisted.slots_count.Given as goal

abbrev pub invariant-loop-slot : goal.invariant-loop-slot
invariant-loop-slot l = Summing l.reading l.size.bytes l.base.0 l.bytes l.slots l.needed l.slot-index
