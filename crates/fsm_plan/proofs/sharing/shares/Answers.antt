use Rattle.fsm_plan.proofs.AddrLaws.{apart-left, apart_right, meet_first, meet_second}
use Rattle.fsm_plan.proofs.sharing.shares.Goals as goal
use Rattle.fsm_plan.proofs.sharing.shares.Goals.{then-t-eq0-via-then-t-eq0, then-t-eq0-via-else-t-eq0+then-u-eq0}

pub returns-then-t-eq0 : goal.returns-then-t-eq0
returns-then-t-eq0 c =
    let a = c.args in
    elim c.then-t-eq0.branch [
      | then-t-eq0-via-then-t-eq0 w ↦ apart-left a.t a.u w.if-t-eq0.true
      | then-t-eq0-via-else-t-eq0+then-u-eq0 w ↦ apart_right a.t a.u w.if-u-eq0.true
    ]

pub returns-then-holds : goal.returns-then-holds
returns-then-holds c =
    let a = c.args in
    rw c.if-holds.true (meet_first a.t a.u c.if-t-eq0.false c.if-u-eq0.false c.holds.result c.holds.ensures c.if-holds.true)

pub returns-else-holds : goal.returns-else-holds
returns-else-holds c =
    let a = c.args in
    meet_second a.t a.u c.if-t-eq0.false c.if-u-eq0.false c.holds.result c.holds.ensures c.if-holds.false c.requires
    c.holds-else-holds.result c.holds-else-holds.ensures
