use Rattle.fsm_blocks.specs.declared.checks.Reading.TheVariants.{Loose}
use Rattle.fsm_blocks.proofs.SlotsLaws.{Storing}
use Rattle.fsm_blocks.proofs.persisted.put_slots.Given as goal

abbrev pub invariant-loop-slot : goal.invariant-loop-slot
invariant-loop-slot l = Storing Loose l.size.bytes l.base.0 l.bytes l.slots l.initial.out l.out l.k l.slot-index
