-- `step_room` and `last-room`: the run has room for the piece that an iteration puts, and for the last one
use mathlib.Core.Path.{◌∙◌}
use Prim.Native.Nat.{◌+◌, ◌≤◌}
use native.Mathlib.Omega.{arith}
use lib.ListN.{length, set, length-set}
use Rattle.error.proofs.OverLaws.{store_pair}
use Rattle.fsm_pages.proofs.PieceLaws.{walk_start, room-some, walk-room, walk_step, walk_none, walk-last}
use Rattle.fsm_pages.proofs.pages.put_pieces.Goals as goal

pub loop-room-init : goal.loop-room-init
loop-room-init c =
    let a = c.args in
    walk_start a.page a.addr a.size a.from a.out.now c.requires.fits.0 c.requires.room _ c.room_in-room.ensures

pub offset_bounds-out-k : goal.offset_bounds-out-k
offset_bounds-out-k c =
    let step_room : (let l = c.loop-room in l.k + 2 ≤ length l.out) = let a = c.args in
    let l = c.loop-room in
    walk-room a.page a.addr a.size a.from a.out.now c.requires.fits.0 c.requires.room l.out l.a l.left l.room l.k l.invariant (omega arith) in
    omega (arith, step_room)

pub bounds-out-k : goal.bounds-out-k
bounds-out-k c =
    let step_room : (let l = c.loop-room in l.k + 2 ≤ length l.out) = let a = c.args in
    let l = c.loop-room in
    walk-room a.page a.addr a.size a.from a.out.now c.requires.fits.0 c.requires.room l.out l.a l.left l.room l.k l.invariant (omega arith) in
    omega (arith, step_room)

pub overflow_add-out : goal.overflow_add-out
overflow_add-out c =
    let step_room : (let l = c.loop-room in l.k + 2 ≤ length l.out) = let a = c.args in
    let l = c.loop-room in
    walk-room a.page a.addr a.size a.from a.out.now c.requires.fits.0 c.requires.room l.out l.a l.left l.room l.k l.invariant (omega arith) in
    omega (arith, step_room)

pub offset_bounds-out-k-in-loop-room : goal.offset_bounds-out-k-in-loop-room
offset_bounds-out-k-in-loop-room c =
    let step_room : (let l = c.loop-room in l.k + 2 ≤ length l.out) = let a = c.args in
    let l = c.loop-room in
    walk-room a.page a.addr a.size a.from a.out.now c.requires.fits.0 c.requires.room l.out l.a l.left l.room l.k l.invariant (omega arith) in
    omega (arith, step_room)

pub bounds-out-k-in-loop-room : goal.bounds-out-k-in-loop-room
bounds-out-k-in-loop-room c =
    let step_room : (let l = c.loop-room in l.k + 2 ≤ length l.out) = let a = c.args in
    let l = c.loop-room in
    walk-room a.page a.addr a.size a.from a.out.now c.requires.fits.0 c.requires.room l.out l.a l.left l.room l.k l.invariant (omega arith) in
    let h = step_room in simp length-set (omega (arith, h))

pub overflow_add-a : goal.overflow_add-a
overflow_add-a c = omega (arith, c.loop-room.invariant.ends)

pub overflow_add-k : goal.overflow_add-k
overflow_add-k c =
    let step_room : (let l = c.loop-room in l.k + 2 ≤ length l.out) = let a = c.args in
    let l = c.loop-room in
    walk-room a.page a.addr a.size a.from a.out.now c.requires.fits.0 c.requires.room l.out l.a l.left l.room l.k l.invariant (omega arith) in
    omega (arith, step_room)

pub loop-room-smaller : goal.loop-room-smaller
loop-room-smaller c =
    let a = c.args in
    let l = c.loop-room in
    omega (arith, room-some a.page a.addr a.size a.from a.out.now c.requires.fits.0 c.requires.room l.out l.a l.left l.room l.k l.invariant)

pub loop-room-preserved : goal.loop-room-preserved
loop-room-preserved c =
    let a = c.args in
    let l = c.loop-room in
    walk_step a.page a.addr a.size a.from a.out.now c.requires.fits.0 c.requires.room l.out l.a l.left l.room l.k l.invariant c.loop-room-test.true
    _ (store_pair l.k l.a l.room l.out)

pub shape_of-out-then-left-eq0 : goal.shape_of-out-then-left-eq0
shape_of-out-then-left-eq0 c = c.loop-room.invariant.cut.same_length

pub returns-then-left-eq0 : goal.returns-then-left-eq0
returns-then-left-eq0 c =
    let every = let a = c.args in
    let l = c.loop-room in
    walk_none a.page a.addr a.size a.from a.out.now c.requires.fits.0 c.requires.room l.out l.a l.left l.room l.k l.invariant c.if-left-eq0.true in
    record { put = every.0; next = every.1 }

pub offset_bounds-out-k-2 : goal.offset_bounds-out-k-2
offset_bounds-out-k-2 c =
    let last-room : (let l = c.loop-room in l.k + 2 ≤ length l.out) = let a = c.args in
    let l = c.loop-room in
    walk-room a.page a.addr a.size a.from a.out.now c.requires.fits.0 c.requires.room l.out l.a l.left l.room l.k l.invariant (omega (arith, c.if-left-eq0.false)) in
    omega (arith, last-room)

pub bounds-out-k-2 : goal.bounds-out-k-2
bounds-out-k-2 c =
    let last-room : (let l = c.loop-room in l.k + 2 ≤ length l.out) = let a = c.args in
    let l = c.loop-room in
    walk-room a.page a.addr a.size a.from a.out.now c.requires.fits.0 c.requires.room l.out l.a l.left l.room l.k l.invariant (omega (arith, c.if-left-eq0.false)) in
    omega (arith, last-room)

pub overflow_add-out-2 : goal.overflow_add-out-2
overflow_add-out-2 c =
    let last-room : (let l = c.loop-room in l.k + 2 ≤ length l.out) = let a = c.args in
    let l = c.loop-room in
    walk-room a.page a.addr a.size a.from a.out.now c.requires.fits.0 c.requires.room l.out l.a l.left l.room l.k l.invariant (omega (arith, c.if-left-eq0.false)) in
    omega (arith, last-room)

pub offset_bounds-out-k-3 : goal.offset_bounds-out-k-3
offset_bounds-out-k-3 c =
    let last-room : (let l = c.loop-room in l.k + 2 ≤ length l.out) = let a = c.args in
    let l = c.loop-room in
    walk-room a.page a.addr a.size a.from a.out.now c.requires.fits.0 c.requires.room l.out l.a l.left l.room l.k l.invariant (omega (arith, c.if-left-eq0.false)) in
    omega (arith, last-room)

pub bounds-out-k-3 : goal.bounds-out-k-3
bounds-out-k-3 c =
    let last-room : (let l = c.loop-room in l.k + 2 ≤ length l.out) = let a = c.args in
    let l = c.loop-room in
    walk-room a.page a.addr a.size a.from a.out.now c.requires.fits.0 c.requires.room l.out l.a l.left l.room l.k l.invariant (omega (arith, c.if-left-eq0.false)) in
    let h = last-room in simp length-set (omega (arith, h))

pub overflow_add-result : goal.overflow_add-result
overflow_add-result c =
    let last-room : (let l = c.loop-room in l.k + 2 ≤ length l.out) = let a = c.args in
    let l = c.loop-room in
    walk-room a.page a.addr a.size a.from a.out.now c.requires.fits.0 c.requires.room l.out l.a l.left l.room l.k l.invariant (omega (arith, c.if-left-eq0.false)) in
    omega (arith, last-room)

pub shape_of-out : goal.shape_of-out
shape_of-out c =
    let l = c.loop-room in length-set (set l.out l.k l.a) (l.k + 1) l.left ∙ length-set l.out l.k l.a ∙ l.invariant.cut.same_length

pub returns : goal.returns
returns c =
    let every = let a = c.args in
    let l = c.loop-room in
    walk-last a.page a.addr a.size a.from a.out.now c.requires.fits.0 c.requires.room l.out l.a l.left l.room l.k l.invariant c.loop-room-test.false c.if-left-eq0.false
    _ (store_pair l.k l.a l.left l.out) in
    record { put = every.0; next = every.1 }
