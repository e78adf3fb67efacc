use mathlib.Core.Path.{ap₂, ◌∙◌}
use Prim.Native.Nat.{ℕ, min}
use native.Mathlib.Omega.{arith}
use borrow.Author.Tests.{leb-true}
use lib.ListN.{length}
use Rattle.save.proofs.PlaceLaws.{room-before, room_after}
use Rattle.save.proofs.conditions.block_room.Goals as goal

pub overflow_add-to : goal.overflow_add-to
overflow_add-to c = omega (arith, leb-true _ (length c.args.image.now) c.requires)

pub returns-then-to : goal.returns-then-to
returns-then-to c =
    let a = c.args in
    room-before a.to.start a.to.place a.image.now _ c.if-to.true
    (c.min.ensures ∙ ap₂ (λ (x y : ℕ). min x y) c.saturating_sub-room.ensures c.saturating_sub.ensures)

pub returns : goal.returns
returns c =
    let a = c.args in
    room_after a.to.start a.to.place a.image.now _ c.if-to.false c.saturating_sub-room.ensures
