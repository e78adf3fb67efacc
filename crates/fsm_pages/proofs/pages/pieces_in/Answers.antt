-- `more-is`: the pieces after the first of the section
use mathlib.Core.Path.{◌≡◌, ap, ◌∙◌}
use Prim.Native.Nat.{◌+◌, ◌-◌, min}
use native.Mathlib.Nat.{div-le_self}
use native.Mathlib.Omega.{arith}
use Rattle.error.specs.Outcome.{sat}
use Rattle.fsm_sections.specs.RunSteps.{regions_left}
use Rattle.fsm_pages.proofs.PieceLaws.{pieces_after}
use Rattle.fsm_pages.proofs.SplitLaws.{count-start, count-few, count_above, count_more, count_same, count_step, count-end}
use Rattle.fsm_pages.proofs.pages.pieces_in.Goals as goal
use Rattle.fsm_pages.proofs.pages.pieces_in.Goals.{then-room-size, else-room-size}

pub loop-region-init : goal.loop-region-init
loop-region-init c =
    let a = c.args in
    count-start a.page a.count a.sections.now _ (ap regions_left c.into_iter-region-iterator.ensures.into_iter_gives ∙ c.new-region-items.ensures)

pub returns : goal.returns
unfolding sat
returns c =
    let a = c.args in
    let l = c.loop-region in
    count-end a.page a.count a.sections.now _ l.some l.more l.invariant c.in-None.ensures.steps.0 _ c.saturating_add.ensures

pub returns-then-size-addr : goal.returns-then-size-addr
returns-then-size-addr c =
    let a = c.args in
    let l = c.loop-region in
    count_above a.page a.count a.sections.now _ l.some l.more l.invariant _ _ c.in-Some.ensures.steps
    c.if-size-addr.true

pub overflow_add-quotient : goal.overflow_add-quotient
overflow_add-quotient c =
    let size = c.in-Some.region.size in
    omega (arith, c.quotient.ensures, div-le_self (size - c.room_in-room.result - 1) c.args.page)

pub overflow_add-some : goal.overflow_add-some
overflow_add-some c =
    let a = c.args in
    let l = c.loop-region in
    omega (arith, count-few a.page a.count a.sections.now _ l.some l.more l.invariant _ _ c.in-Some.ensures.steps)

pub loop-region-preserved-then-size-ne0 : goal.loop-region-preserved-then-size-ne0
unfolding sat
loop-region-preserved-then-size-ne0 c =
    let more-is : (let x = c.in-Some.region in
    c.if-room-size.more ≡ sat (c.loop-region.more + pieces_after c.args.page x.addr x.size)) = let a = c.args in
    let l = c.loop-region in
    let e = c.in-Some.ensures.steps in
    elim c.if-room-size.branch [
      | then-room-size w ↦ count_more a.page a.count a.sections.now _ l.some l.more l.invariant _ _ e c.requires.page _ c.room_in-room.ensures w.if-room-size.true _ _ w.quotient.ensures (w.more-is ∙ w.saturating_add-more.ensures)
      | else-room-size w ↦ count_same a.page a.count a.sections.now _ l.some l.more l.invariant _ _ e c.requires.page _ c.room_in-room.ensures w.if-room-size.false _ w.more-is
    ] in
    let some_is : (c.loop-region.some + 1 ≡ c.loop-region.some + min c.in-Some.region.size 1) = omega arith in
    let a = c.args in
    let l = c.loop-region in
    count_step a.page a.count a.sections.now _ l.some l.more l.invariant _ _ c.in-Some.ensures.steps
    c.requires.page _ _ some_is more-is c.if-size-addr.false (omega arith)

pub loop-region-preserved : goal.loop-region-preserved
unfolding sat
loop-region-preserved c =
    let more-is : (let x = c.in-Some.region in
    c.if-room-size.more ≡ sat (c.loop-region.more + pieces_after c.args.page x.addr x.size)) = let a = c.args in
    let l = c.loop-region in
    let e = c.in-Some.ensures.steps in
    elim c.if-room-size.branch [
      | then-room-size w ↦ count_more a.page a.count a.sections.now _ l.some l.more l.invariant _ _ e c.requires.page _ c.room_in-room.ensures w.if-room-size.true _ _ w.quotient.ensures (w.more-is ∙ w.saturating_add-more.ensures)
      | else-room-size w ↦ count_same a.page a.count a.sections.now _ l.some l.more l.invariant _ _ e c.requires.page _ c.room_in-room.ensures w.if-room-size.false _ w.more-is
    ] in
    let some_is : (c.loop-region.some ≡ c.loop-region.some + min c.in-Some.region.size 1) = omega arith in
    let a = c.args in
    let l = c.loop-region in
    count_step a.page a.count a.sections.now _ l.some l.more l.invariant _ _ c.in-Some.ensures.steps
    c.requires.page _ _ some_is more-is c.if-size-addr.false (omega arith)
