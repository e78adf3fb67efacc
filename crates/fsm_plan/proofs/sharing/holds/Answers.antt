use Rattle.fsm_plan.proofs.AddrLaws.{holds-none, holds-below, holds-first, holds_still, holds-between, holds-last}
use Rattle.fsm_plan.proofs.sharing.holds.Goals as goal

pub returns-then-count-eq0 : goal.returns-then-count-eq0
returns-then-count-eq0 c = let a = c.args in holds-none a.first a.step a.count a.addr c.if-count-eq0.true

pub returns-then-addr-first : goal.returns-then-addr-first
returns-then-addr-first c = let a = c.args in holds-below a.first a.step a.count a.addr c.if-addr-first.true

pub returns-then-d-eq0 : goal.returns-then-d-eq0
returns-then-d-eq0 c =
    let a = c.args in
    holds-first a.first a.step a.count a.addr c.if-count-eq0.false c.if-addr-first.false c.if-d-eq0.true

pub returns-then-step-eq0 : goal.returns-then-step-eq0
returns-then-step-eq0 c =
    let a = c.args in
    holds_still a.first a.step a.count a.addr c.if-count-eq0.false c.if-addr-first.false c.if-d-eq0.false c.if-step-eq0.true

pub returns-then-d-step-ne0 : goal.returns-then-d-step-ne0
returns-then-d-step-ne0 c =
    let a = c.args in
    holds-between a.first a.step a.count a.addr c.if-count-eq0.false c.if-addr-first.false c.if-d-eq0.false c.if-step-eq0.false c.if-d-step-ne0.true

pub returns : goal.returns
returns c =
    let a = c.args in
    holds-last a.first a.step a.count a.addr c.if-count-eq0.false c.if-addr-first.false c.if-d-eq0.false c.if-step-eq0.false c.if-d-step-ne0.false
