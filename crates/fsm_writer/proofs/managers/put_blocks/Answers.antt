use mathlib.Core.Path.{refl}
use Prim.Native.Nat.{◌+◌, ◌-◌}
use native.Mathlib.Omega.{arith}
use Rattle.fsm_sections.specs.Chains.{sections_of}
use Rattle.fsm_sections.specs.Sources.{chains_of}
use Rattle.fsm_writer.proofs.ManagersLaws.{none-put, count-is, used-of, list-long, list-start, list-room, both_put}
use Rattle.fsm_writer.proofs.managers.put_blocks.Goals as goal

pub returns-then-m-eq0 : goal.returns-then-m-eq0
returns-then-m-eq0 c =
    let a = c.args in
    let l = (sections_of (chains_of a.s a.a.now a.b.now a.c.now)) in
    let me = c.requires.measure in
    none-put a.offset_size l a.m me a.address a.class a.out.now c.if-m-eq0.true

pub overflow_sub-used : goal.overflow_sub-used
overflow_sub-used c =
    let a = c.args in
    let l = (sections_of (chains_of a.s a.a.now a.b.now a.c.now)) in
    let me = c.requires.measure in
    omega (arith, used-of a.offset_size l a.m me a.address a.class a.out.now c.if-m-eq0.false)

pub overflow_add-address : goal.overflow_add-address
overflow_add-address c =
    let a = c.args in
    let l = (sections_of (chains_of a.s a.a.now a.b.now a.c.now)) in
    let me = c.requires.measure in
    omega (arith, used-of a.offset_size l a.m me a.address a.class a.out.now c.if-m-eq0.false, c.requires.room.0)

pub write_fshd-requires : goal.write_fshd-requires
write_fshd-requires c =
    let a = c.args in
    let l = (sections_of (chains_of a.s a.a.now a.b.now a.c.now)) in
    let me = c.requires.measure in
    (c.requires.width.0, c.requires.width.1, omega (arith, used-of a.offset_size l a.m me a.address a.class a.out.now c.if-m-eq0.false, c.requires.room.1))

pub slice_bounds-write_fsse-count : goal.slice_bounds-write_fsse-count
slice_bounds-write_fsse-count c =
    let a = c.args in
    let l = (sections_of (chains_of a.s a.a.now a.b.now a.c.now)) in
    let me = c.requires.measure in
    list-start a.offset_size l a.m me a.address a.class a.out.now c.if-m-eq0.false (a.m.len - (74 + a.offset_size)) refl _ c.write_fshd.ensures c.requires.room.1

pub slice_bounds-write_fsse-start : goal.slice_bounds-write_fsse-start
slice_bounds-write_fsse-start c =
    let a = c.args in
    let l = (sections_of (chains_of a.s a.a.now a.b.now a.c.now)) in
    let me = c.requires.measure in
    list-start a.offset_size l a.m me a.address a.class a.out.now c.if-m-eq0.false (a.m.len - (74 + a.offset_size)) refl _ c.write_fshd.ensures c.requires.room.1

pub write_fsse-requires : goal.write_fsse-requires
write_fsse-requires c =
    let a = c.args in
    let l = (sections_of (chains_of a.s a.a.now a.b.now a.c.now)) in
    let me = c.requires.measure in
    record { given = c.requires.given; numbers = c.requires.numbers; narrow = c.requires.width.2; width = (c.requires.width.0, c.requires.width.1); number = count-is a.offset_size l a.m me a.address a.class a.out.now; room = (list-long a.offset_size l a.m me a.address a.class a.out.now c.if-m-eq0.false (a.m.len - (74 + a.offset_size)) refl, list-room a.offset_size l a.m me a.address a.class a.out.now c.if-m-eq0.false (a.m.len - (74 + a.offset_size)) refl _ c.write_fshd.ensures c.requires.room.1) }

pub returns : goal.returns
returns c =
    let a = c.args in
    let l = (sections_of (chains_of a.s a.a.now a.b.now a.c.now)) in
    let me = c.requires.measure in
    both_put a.offset_size l a.m me a.address a.class a.out.now c.if-m-eq0.false (a.m.len - (74 + a.offset_size)) refl _ c.write_fshd.ensures c.requires.room.1 _ c.write_fsse.ensures
