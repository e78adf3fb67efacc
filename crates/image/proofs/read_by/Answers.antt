-- `message`: the message was read into the slots
use mathlib.Core.Path.{sym, ◌∙◌}
use lib.Seq.{length-take-le}
use Rattle.image.specs.Reading.{message_at}
use Rattle.image.proofs.PlaceLaws.{message_few, MessageIs, message_is, message_refused}
use Rattle.image.proofs.ImageLaws.{refused_as, image_odd, image-refused, image-is}
use Rattle.image.proofs.read_by.Goals as goal

pub returns-then-out-ne0 : goal.returns-then-out-ne0
returns-then-out-ne0 c =
    let every = let a = c.args in
    refused_as _ _ _ c.refused.ensures (image_odd a.reading a.place a.image.now a.out.now c.if-out-ne0.true) in
    record { read = every.0; counted = every.1 }

pub slice_bounds-slots-end : goal.slice_bounds-slots-end
slice_bounds-slots-end c =
    let message : (let a = c.args in
    MessageIs (message_at a.place a.image.now) c.in-Ok.field-0.info c.in-Ok.field-0.count c.read_message.new.slots) = let a = c.args in
    message_is (message_at a.place a.image.now) (message_few a.place a.image.now) _ _ c.read_message.ensures c.in-Ok.field-0.info c.in-Ok.field-0.count c.in-Ok.is in
    message.within

pub slice_bounds-read_slots-end : goal.slice_bounds-read_slots-end
slice_bounds-read_slots-end c =
    let message : (let a = c.args in
    MessageIs (message_at a.place a.image.now) c.in-Ok.field-0.info c.in-Ok.field-0.count c.read_message.new.slots) = let a = c.args in
    message_is (message_at a.place a.image.now) (message_few a.place a.image.now) _ _ c.read_message.ensures c.in-Ok.field-0.info c.in-Ok.field-0.count c.in-Ok.is in
    sym (length-take-le _ _ message.within)

pub read_slots-requires : goal.read_slots-requires
read_slots-requires c =
    let message : (let a = c.args in
    MessageIs (message_at a.place a.image.now) c.in-Ok.field-0.info c.in-Ok.field-0.count c.read_message.new.slots) = let a = c.args in
    message_is (message_at a.place a.image.now) (message_few a.place a.image.now) _ _ c.read_message.ensures c.in-Ok.field-0.info c.in-Ok.field-0.count c.in-Ok.is in
    message.few

pub returns-in-Err : goal.returns-in-Err
returns-in-Err c =
    let every = let a = c.args in
    refused_as _ _ _ c.refused-in-Err.ensures
    (image-refused a.reading a.place a.image.now a.out.now c.if-out-ne0.false c.in-Err.r
    (message_refused (message_at a.place a.image.now) (message_few a.place a.image.now) _ _ c.read_message.ensures _ c.in-Err.is)) in
    record { read = every.0; counted = every.1 }

pub returns-in-Ok : goal.returns-in-Ok
returns-in-Ok c =
    let message : (let a = c.args in
    MessageIs (message_at a.place a.image.now) c.in-Ok.field-0.info c.in-Ok.field-0.count c.read_message.new.slots) = let a = c.args in
    message_is (message_at a.place a.image.now) (message_few a.place a.image.now) _ _ c.read_message.ensures c.in-Ok.field-0.info c.in-Ok.field-0.count c.in-Ok.is in
    let a = c.args in
    let e = c.read_slots.ensures in
    let m = message in
    record { read = e.read ∙ image-is a.reading a.place a.image.now a.out.now _ m.accepted _ m.slots; counted = e.counted }
