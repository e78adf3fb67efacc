use native.Mathlib.Omega.{arith}
use Rattle.fsm_sections.proofs.ChainLaws.{last_fits}
use Rattle.fsm_plan.proofs.SharingLaws.{raised_none, raised_by}
use Rattle.fsm_plan.proofs.sharing.raised.Goals as goal

pub returns-then-t-eq0 : goal.returns-then-t-eq0
returns-then-t-eq0 c = let a = c.args in raised_none a.floor a.t c.if-t-eq0.true

pub overflow_mul-last : goal.overflow_mul-last
overflow_mul-last c =
    let a = c.args in
    omega (arith, last_fits a.t.addr a.t.size a.t.count c.requires (omega arith) c.if-t-eq0.false)

pub overflow_add-last : goal.overflow_add-last
overflow_add-last c =
    let a = c.args in
    omega (arith, last_fits a.t.addr a.t.size a.t.count c.requires (omega arith) c.if-t-eq0.false)

pub returns : goal.returns
returns c =
    let a = c.args in
    raised_by a.floor a.t c.if-t-floor.false _ c.checked_add.ensures
