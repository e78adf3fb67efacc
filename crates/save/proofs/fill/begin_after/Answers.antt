use mathlib.Core.Path.{◌≡◌, refl, ap, ◌∙◌}
use Prim.Native.Nat.{◌-◌, min}
use native.Mathlib.Omega.{arith}
use lib.ListN.{length, take}
use Rattle.std.specs.Prelude.{Err}
use Rattle.error.specs.declared.Refusal.{Refusal}
use Rattle.error.specs.Lent.{leaving}
use Rattle.fsm_plan.specs.declared.Counts.{Counts}
use Rattle.fsm_writer.specs.Paged.{written_managers}
use Rattle.save.proofs.FillLaws.{other_refused, blocks_refused, needed_low, scratch-refused, plan_start, len_low, message_refused, message_room, begun}
use Rattle.save.proofs.fill.begin_after.Goals as goal

pub overflow_sub-len : goal.overflow_sub-len
overflow_sub-len c =
    let a = c.args in
    let k = c.min-lent.result in
    let lent : k ≡ min c.block_room-room.result (length a.scratch.now - 125) = omega (arith, c.min-lent.ensures, c.saturating_sub.ensures) in
    let x = c.serialize_paged_managers-planned.ensures
    ∙ ap (λ (n : Counts). leaving (take k a.scratch.now) (written_managers a.meta.now a.raw.now a.unclassified.now n a.q.to.page a.q.to.start 8 (take k a.scratch.now)))
    c.counts_of-n.ensures in
    omega (arith, plan_start a.meta.now a.raw.now a.unclassified.now a.q.lists a.q.to.page a.q.to.start a.q.to.place a.image.now a.scratch.now c.requires.lists.0 c.requires.lists.1 c.requires.apart c.block_room-room.result c.block_room-room.ensures k lent _ _ x _ c.in-Ok.is)

pub overflow_add-result : goal.overflow_add-result
overflow_add-result c =
    let a = c.args in
    let k = c.min-lent.result in
    let lent : k ≡ min c.block_room-room.result (length a.scratch.now - 125) = omega (arith, c.min-lent.ensures, c.saturating_sub.ensures) in
    let x = c.serialize_paged_managers-planned.ensures
    ∙ ap (λ (n : Counts). leaving (take k a.scratch.now) (written_managers a.meta.now a.raw.now a.unclassified.now n a.q.to.page a.q.to.start 8 (take k a.scratch.now)))
    c.counts_of-n.ensures in
    omega (arith, len_low a.meta.now a.raw.now a.unclassified.now a.q.lists a.q.to.page a.q.to.start a.q.to.place a.image.now a.scratch.now c.requires.lists.0 c.requires.lists.1 c.requires.apart c.block_room-room.result c.block_room-room.ensures k lent _ _ x _ c.in-Ok.is)

pub returns-then-given-lt-MESSAGE_LEN : goal.returns-then-given-lt-MESSAGE_LEN
returns-then-given-lt-MESSAGE_LEN c =
    let a = c.args in
    let k = c.min-lent.result in
    let lent : k ≡ min c.block_room-room.result (length a.scratch.now - 125) = omega (arith, c.min-lent.ensures, c.saturating_sub.ensures) in
    let x = c.serialize_paged_managers-planned.ensures
    ∙ ap (λ (n : Counts). leaving (take k a.scratch.now) (written_managers a.meta.now a.raw.now a.unclassified.now n a.q.to.page a.q.to.start 8 (take k a.scratch.now)))
    c.counts_of-n.ensures in
    message_refused a.meta.now a.raw.now a.unclassified.now a.q.lists a.q.to.page a.q.to.start a.q.to.place a.image.now a.scratch.now c.requires.lists.0 c.requires.lists.1 c.requires.apart c.block_room-room.result c.block_room-room.ensures k lent _ _ x _ c.in-Ok.is c.if-given-lt-MESSAGE_LEN.true _ refl

pub put_message-requires : goal.put_message-requires
put_message-requires c =
    let a = c.args in
    let k = c.min-lent.result in
    let lent : k ≡ min c.block_room-room.result (length a.scratch.now - 125) = omega (arith, c.min-lent.ensures, c.saturating_sub.ensures) in
    let x = c.serialize_paged_managers-planned.ensures
    ∙ ap (λ (n : Counts). leaving (take k a.scratch.now) (written_managers a.meta.now a.raw.now a.unclassified.now n a.q.to.page a.q.to.start 8 (take k a.scratch.now)))
    c.counts_of-n.ensures in
    (plan_start a.meta.now a.raw.now a.unclassified.now a.q.lists a.q.to.page a.q.to.start a.q.to.place a.image.now a.scratch.now c.requires.lists.0 c.requires.lists.1 c.requires.apart c.block_room-room.result c.block_room-room.ensures k lent _ _ x _ c.in-Ok.is, message_room a.meta.now a.raw.now a.unclassified.now a.q.lists a.q.to.page a.q.to.start a.q.to.place a.image.now a.scratch.now c.requires.lists.0 c.requires.lists.1 c.requires.apart c.block_room-room.result c.block_room-room.ensures k lent _ _ x _ c.in-Ok.is c.if-given-lt-MESSAGE_LEN.false)

pub returns-else-given-lt-MESSAGE_LEN : goal.returns-else-given-lt-MESSAGE_LEN
returns-else-given-lt-MESSAGE_LEN c =
    let a = c.args in
    let k = c.min-lent.result in
    let lent : k ≡ min c.block_room-room.result (length a.scratch.now - 125) = omega (arith, c.min-lent.ensures, c.saturating_sub.ensures) in
    let x = c.serialize_paged_managers-planned.ensures
    ∙ ap (λ (n : Counts). leaving (take k a.scratch.now) (written_managers a.meta.now a.raw.now a.unclassified.now n a.q.to.page a.q.to.start 8 (take k a.scratch.now)))
    c.counts_of-n.ensures in
    begun a.meta.now a.raw.now a.unclassified.now a.q.lists a.q.to.page a.q.to.start a.q.to.place a.image.now a.scratch.now c.requires.lists.0 c.requires.lists.1 c.requires.apart c.block_room-room.result c.block_room-room.ensures k lent _ _ x _ c.in-Ok.is c.if-given-lt-MESSAGE_LEN.false _ c.put_message.ensures

pub returns-then-room-needed : goal.returns-then-room-needed
returns-then-room-needed c =
    let a = c.args in
    let k = c.min-lent.result in
    let lent : k ≡ min c.block_room-room.result (length a.scratch.now - 125) = omega (arith, c.min-lent.ensures, c.saturating_sub.ensures) in
    let x = c.serialize_paged_managers-planned.ensures
    ∙ ap (λ (n : Counts). leaving (take k a.scratch.now) (written_managers a.meta.now a.raw.now a.unclassified.now n a.q.to.page a.q.to.start 8 (take k a.scratch.now)))
    c.counts_of-n.ensures in
    blocks_refused a.meta.now a.raw.now a.unclassified.now a.q.lists a.q.to.page a.q.to.start a.q.to.place a.image.now a.scratch.now c.requires.lists.0 c.requires.lists.1 c.requires.apart c.block_room-room.result c.block_room-room.ensures k lent _ _ x _ _ (c.in-Err.is ∙ ap (λ (r : Refusal). Err r) c.in-OverCapacity.is) c.if-room-needed.true

pub overflow_add-result-in-OverCapacity : goal.overflow_add-result-in-OverCapacity
overflow_add-result-in-OverCapacity c =
    let a = c.args in
    let k = c.min-lent.result in
    let lent : k ≡ min c.block_room-room.result (length a.scratch.now - 125) = omega (arith, c.min-lent.ensures, c.saturating_sub.ensures) in
    let x = c.serialize_paged_managers-planned.ensures
    ∙ ap (λ (n : Counts). leaving (take k a.scratch.now) (written_managers a.meta.now a.raw.now a.unclassified.now n a.q.to.page a.q.to.start 8 (take k a.scratch.now)))
    c.counts_of-n.ensures in
    omega (arith, needed_low a.meta.now a.raw.now a.unclassified.now a.q.lists a.q.to.page a.q.to.start a.q.to.place a.image.now a.scratch.now c.requires.lists.0 c.requires.lists.1 c.requires.apart c.block_room-room.result c.block_room-room.ensures k lent _ _ x _ _ (c.in-Err.is ∙ ap (λ (r : Refusal). Err r) c.in-OverCapacity.is) c.if-room-needed.false)

pub returns-else-room-needed : goal.returns-else-room-needed
returns-else-room-needed c =
    let a = c.args in
    let k = c.min-lent.result in
    let lent : k ≡ min c.block_room-room.result (length a.scratch.now - 125) = omega (arith, c.min-lent.ensures, c.saturating_sub.ensures) in
    let x = c.serialize_paged_managers-planned.ensures
    ∙ ap (λ (n : Counts). leaving (take k a.scratch.now) (written_managers a.meta.now a.raw.now a.unclassified.now n a.q.to.page a.q.to.start 8 (take k a.scratch.now)))
    c.counts_of-n.ensures in
    scratch-refused a.meta.now a.raw.now a.unclassified.now a.q.lists a.q.to.page a.q.to.start a.q.to.place a.image.now a.scratch.now c.requires.lists.0 c.requires.lists.1 c.requires.apart c.block_room-room.result c.block_room-room.ensures k lent _ _ x _ _ (c.in-Err.is ∙ ap (λ (r : Refusal). Err r) c.in-OverCapacity.is) c.if-room-needed.false _ refl

pub returns-in_default : goal.returns-in_default
returns-in_default c =
    let a = c.args in
    let k = c.min-lent.result in
    let lent : k ≡ min c.block_room-room.result (length a.scratch.now - 125) = omega (arith, c.min-lent.ensures, c.saturating_sub.ensures) in
    let x = c.serialize_paged_managers-planned.ensures
    ∙ ap (λ (n : Counts). leaving (take k a.scratch.now) (written_managers a.meta.now a.raw.now a.unclassified.now n a.q.to.page a.q.to.start 8 (take k a.scratch.now)))
    c.counts_of-n.ensures in
    other_refused a.meta.now a.raw.now a.unclassified.now a.q.lists a.q.to.page a.q.to.start a.q.to.place a.image.now a.scratch.now c.requires.lists.0 c.requires.lists.1 c.requires.apart c.block_room-room.result c.block_room-room.ensures k lent _ _ x _ c.in-Err.is c.in_default.not-OverCapacity
