use mathlib.Core.Path.{refl}
use Rattle.image.proofs.CountLaws.{counts_are}
use Rattle.image.proofs.ImageLaws.{slots-refused, slots-accepted, slots_read, refused_as}
use Rattle.image.proofs.read_slots.Goals as goal

pub returns-in-Err : goal.returns-in-Err
returns-in-Err c =
    let every = let a = c.args in
    refused_as _ _ _ c.refused.ensures
    (slots-refused a.out.now a.reading a.slots.now a.image.now _ _ c.sections_by.ensures _ c.in-Err.is) in
    record { read = every.0; counted = every.1 }

pub returns-in-Ok : goal.returns-in-Ok
returns-in-Ok c =
    let told = c.in-Ok.is in
    let read = c.sections_by.ensures in
    let accepted = slots-accepted c.args.out.now c.args.reading c.args.slots.now c.args.image.now _ _ read _ told in
    record {
      read = slots_read c.args.out.now c.args.reading c.args.slots.now c.args.image.now _ _ read _ told _
          (counts_are c.args.image.now c.args.reading c.args.slots.now _ c.requires accepted c.slot_counts.ensures);
      counted = refl;
    }
