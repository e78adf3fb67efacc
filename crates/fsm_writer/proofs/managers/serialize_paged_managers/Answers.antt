use mathlib.Core.Path.{refl, sym}
use native.Mathlib.Omega.{arith}
use Rattle.std.proofs.lemmas.Result.{err_from_is_err_and}
use Rattle.fsm_writer.proofs.ManagersLaws.{written-refused, plan_start, written-short, written-room, written_done}
use Rattle.fsm_writer.proofs.managers.serialize_paged_managers.Goals as goal

pub returns-in_err-p : goal.returns-in_err-p
returns-in_err-p c =
    let a = c.args in
    let p = err_from_is_err_and c.from_residual.result c.from_residual.ensures.1 in
    rw (p.1, p.2) (written-refused a.meta.now a.raw.now a.unclassified.now a.n a.page a.start a.offset_size a.out.now _ c.in_err-p.ensures)

pub overflow_sub-len : goal.overflow_sub-len
overflow_sub-len c = let a = c.args in omega (arith, plan_start a.meta.now a.raw.now a.unclassified.now a.n a.page a.start a.offset_size a.out.now _ c.in_ok-p.ensures)

pub returns-then-out-len : goal.returns-then-out-len
returns-then-out-len c = let a = c.args in written-short a.meta.now a.raw.now a.unclassified.now a.n a.page a.start a.offset_size a.out.now _ c.in_ok-p.ensures _ refl c.if-out-len.true

pub put_managers-requires : goal.put_managers-requires
put_managers-requires c =
    let a = c.args in
    record { plan = sym c.in_ok-p.ensures; room = written-room a.meta.now a.raw.now a.unclassified.now a.n a.page a.start a.offset_size a.out.now _ c.in_ok-p.ensures _ refl c.if-out-len.false }

pub returns : goal.returns
returns c = let a = c.args in written_done a.meta.now a.raw.now a.unclassified.now a.n a.page a.start a.offset_size a.out.now _ c.in_ok-p.ensures _ refl c.if-out-len.false _ c.put_managers.ensures
