use mathlib.Core.Path.{sym}
use native.Mathlib.Omega.{arith}
use Rattle.std.proofs.lemmas.Result.{err_from_is_err_and}
use Rattle.fsm_blocks.proofs.ReadLaws.{read-refused, read-over, read_is, read_ok, read-room}
use Rattle.fsm_blocks.proofs.persisted.read_by.Goals as goal

pub returns-in_err-needed : goal.returns-in_err-needed
returns-in_err-needed c =
    let e = sym c.in_ok-size.ensures in rw e
    (let a = c.args in
    let p = err_from_is_err_and c.from_residual-in_err-needed.result c.from_residual-in_err-needed.ensures.1 in rw (p.1, p.2)
    (read-refused a.reading a.slots.now a.base.0 c.in_ok-size.size.bytes a.bytes.now a.out.now c.in_ok-size.size.width c.if-out-ne0.false
    _ c.in_err-needed.was c.slots_count.ensures))

pub returns-then-capacity-needed : goal.returns-then-capacity-needed
returns-then-capacity-needed c =
    let e = sym c.in_ok-size.ensures in rw e
    (let a = c.args in
    read-over a.reading a.slots.now a.base.0 c.in_ok-size.size.bytes a.bytes.now a.out.now c.in_ok-size.size.width c.if-out-ne0.false
    _ c.in_ok-needed.was c.slots_count.ensures c.if-capacity-needed.true)

pub put_slots-requires : goal.put_slots-requires
put_slots-requires c =
    let a = c.args in
    let w = c.in_ok-size.size.width in
    let n = c.in_ok-needed.was in
    let k = c.slots_count.ensures in
    record {
      accepted = read_ok a.reading a.slots.now a.base.0 c.in_ok-size.size.bytes a.bytes.now a.out.now w c.if-out-ne0.false _ n k;
      room = read-room a.reading a.slots.now a.base.0 c.in_ok-size.size.bytes a.bytes.now a.out.now w c.if-out-ne0.false _ n k c.if-capacity-needed.false (omega (arith, c.well_formed));
    }

pub returns : goal.returns
returns c =
    let e = sym c.in_ok-size.ensures in rw e
    (let a = c.args in
    read_is a.reading a.slots.now a.base.0 c.in_ok-size.size.bytes a.bytes.now a.out.now c.in_ok-size.size.width c.if-out-ne0.false
    _ c.in_ok-needed.was c.slots_count.ensures c.if-capacity-needed.false (omega (arith, c.well_formed)) _
    c.put_slots.ensures)
