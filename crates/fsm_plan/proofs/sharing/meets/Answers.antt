use Rattle.std.proofs.Common.{refl, ◌∙◌}
use Rattle.fsm_plan.proofs.SharingLaws.{alike, unmet_found, unmet_step, unmet_end}
use Rattle.fsm_plan.proofs.sharing.meets.Goals as goal

pub loop-u-init : goal.loop-u-init
loop-u-init c = rw c.into_iter-u-iterator.ensures.into_iter_gives ((λ z h. refl), c.requires.go, refl)

pub shares-requires : goal.shares-requires
shares-requires c =
    let w = c.in-Some.ensures.steps in
    alike c.args.left.source.page c.args.t c.in-Some.u c.requires.pages (rw (← c.loop-u.invariant.2) w.pages)

pub returns-then-shares : goal.returns-then-shares
returns-then-shares c =
    let i = c.loop-u.invariant in
    let m = c.shares in
    unmet_found c.loop-u.u-iterator c.in-Some.u c.next.new.self c.in-Some.ensures.steps i.1 c.args.t c.args.left i.0 m.result m.ensures c.if-shares.true

pub loop-u-preserved : goal.loop-u-preserved
loop-u-preserved c =
    let i = c.loop-u.invariant in
    let m = c.shares in
    let w = c.in-Some.ensures.steps in
    (unmet_step c.loop-u.u-iterator c.in-Some.u c.next.new.self w i.1 c.args.t c.args.left i.0 m.result m.ensures c.if-shares.false, w.goes i.1, w.source ∙ i.2)

pub returns : goal.returns
returns c = let i = c.loop-u.invariant in unmet_end c.loop-u.u-iterator c.in-None.ensures.steps c.args.t c.args.left i.0
