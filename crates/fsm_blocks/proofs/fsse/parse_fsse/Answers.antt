use mathlib.Core.Path.{sym}
use Prim.Native.Nat.{◌<◌, ◌^◌}
use native.Mathlib.Omega.{arith}
use Rattle.std.proofs.lemmas.Result.{err_from_is_err_and}
use Rattle.fsm_blocks.proofs.ParseLaws.{parsed-refused, parsed-over, parsed-is, read_ok, total-is}
use Rattle.fsm_blocks.proofs.fsse.parse_fsse.Goals as goal

pub returns-in_err-n : goal.returns-in_err-n
returns-in_err-n c =
    let e = sym c.in_ok-size.ensures in rw e
    (let a = c.args in
    let p = err_from_is_err_and c.from_residual-in_err-n.result c.from_residual-in_err-n.ensures.1 in rw (p.1, p.2)
    (parsed-refused a.header c.in_ok-size.size.bytes a.bytes.now a.out.now c.in_ok-size.size.width c.if-out-ne0.false
    _ c.in_err-n.was c.fsse_count.ensures))

pub returns-then-capacity-n : goal.returns-then-capacity-n
returns-then-capacity-n c =
    let e = sym c.in_ok-size.ensures in rw e
    (let a = c.args in
    parsed-over a.header c.in_ok-size.size.bytes a.bytes.now a.out.now c.in_ok-size.size.width c.if-out-ne0.false
    _ c.in_ok-n.was c.fsse_count.ensures (omega arith) c.if-capacity-n.true)

pub put_fsse-requires : goal.put_fsse-requires
put_fsse-requires c =
    let a = c.args in
    let w = c.in_ok-size.size.width in
    let s : c.in_ok-n.n < 2 ^ 64 = omega arith in
    let e = total-is a.header c.in_ok-size.size.bytes a.bytes.now a.out.now w c.if-out-ne0.false _ c.in_ok-n.was c.fsse_count.ensures s in
    record { accepted = read_ok a.header c.in_ok-size.size.bytes a.bytes.now a.out.now w c.if-out-ne0.false _ c.in_ok-n.was c.fsse_count.ensures s; room = omega arith }

pub returns : goal.returns
returns c =
    let e = sym c.in_ok-size.ensures in rw e
    (let a = c.args in
    parsed-is a.header c.in_ok-size.size.bytes a.bytes.now a.out.now c.in_ok-size.size.width c.if-out-ne0.false
    _ c.in_ok-n.was c.fsse_count.ensures (omega arith) c.if-capacity-n.false (omega (arith, c.well_formed)) _
    c.put_fsse.ensures)
