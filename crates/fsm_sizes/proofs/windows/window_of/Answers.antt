use Rattle.std.proofs.Common.{refl, ◌∙◌, arith}
use Rattle.fsm_sizes.proofs.SortedLaws.{cleared_by}
use Rattle.fsm_sizes.proofs.NoteLaws.{stands-first, stands_sized, room-cleared}
use Rattle.fsm_sizes.proofs.windows.window_of.Goals as goal

pub loop-found-init : goal.loop-found-init
loop-found-init c = let p = c.requires.room in (p.0, p.1, omega arith, refl, omega arith)

pub sweep-requires : goal.sweep-requires
sweep-requires c =
    let l = c.loop-found in
    record { room = (l.invariant.0, l.invariant.2, omega arith); stands = stands-first c.args.from l.reach l.of l.link l.slot l.invariant.0 l.invariant.1 }

pub returns-in-Some : goal.returns-in-Some
returns-in-Some c =
    let l = c.loop-found in
    let e = c.in-Some.ensures in
    record { begins = refl; up = l.invariant.2; low = l.invariant.4; few = omega (arith, e.0, l.invariant.3); stands = stands_sized _ _ _ _ _ _ _ _ _ _ l.invariant.3 e.1 }

pub nearer-reach-requires : goal.nearer-reach-requires
nearer-reach-requires c =
    let e = c.in_default.ensures in (e.full (omega arith), e.room.some)

pub loop-found-smaller : goal.loop-found-smaller
loop-found-smaller c = c.nearer-reach.ensures.1

pub loop-found-preserved : goal.loop-found-preserved
loop-found-preserved c =
    let e = c.in_default.ensures in
    let f = c.fill.ensures in
    (room-cleared _ _ _ _ e.room f.len, cleared_by _ _ (f.after (λ y h. h)), c.nearer-reach.ensures.0, e.same ∙ c.loop-found.invariant.3, omega (arith, c.nearer-reach.ensures.1, c.loop-found.invariant.4))
