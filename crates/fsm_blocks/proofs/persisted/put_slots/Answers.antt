use Rattle.fsm_blocks.specs.declared.checks.Reading.TheVariants.{Loose}
use Rattle.fsm_blocks.proofs.SlotsLaws.{store_start, store_step, store_end, slot_accepted, slot_room}
use Rattle.fsm_blocks.proofs.persisted.put_slots.Goals as goal

pub loop-slot-init : goal.loop-slot-init
loop-slot-init c =
    store_start Loose c.args.size.bytes c.args.base.0 c.args.bytes.now c.args.slots.now c.args.out.now c.requires.accepted c.requires.room

pub put_manager-k-requires : goal.put_manager-k-requires
put_manager-k-requires c =
    let a = c.args in
    let l = c.loop-slot in
    record {
      accepted = slot_accepted Loose a.size.bytes a.base.0 a.bytes.now a.slots.now a.out.now l.out l.k l.slot-index l.invariant c.loop-slot-test.true;
      room = slot_room Loose a.size.bytes a.base.0 a.bytes.now a.slots.now a.out.now l.out l.k l.slot-index l.invariant c.loop-slot-test.true;
    }

pub loop-slot-preserved : goal.loop-slot-preserved
loop-slot-preserved c =
    let a = c.args in
    let l = c.loop-slot in
    let e = c.put_manager-k.ensures in
    store_step Loose a.size.bytes a.base.0 a.bytes.now a.slots.now a.out.now l.out l.k l.slot-index l.invariant c.loop-slot-test.true _ _ e.put e.next

pub returns : goal.returns
returns c =
    let a = c.args in
    let l = c.loop-slot in
    store_end Loose a.size.bytes a.base.0 a.bytes.now a.slots.now a.out.now l.out l.k l.slot-index l.invariant c.loop-slot-test.false
