-- `one` holds after the first region of an iteration, `last` after the last region
use Rattle.std.proofs.Common.{◌≡◌, ◌+◌, sym, arith}
use Rattle.free_space.proofs.CheckLaws.{pass_stops, pass_goes, pass_ends}
use Rattle.free_space.proofs.check.rest_is_list.Goals as goal

pub returns-then-not-follows : goal.returns-then-not-follows
returns-then-not-follows c =
    let g = c.region_at-r in
    sym (pass_stops c.loop-i.invariant.0 (omega arith) g.result g.ensures (sym c.if-not-follows.ensures))

pub returns-then-not-follows-2 : goal.returns-then-not-follows-2
returns-then-not-follows-2 c =
    let r = c.region_at-r in
    let one = pass_goes c.loop-i.invariant.0 (omega arith) r.result r.ensures (sym c.if-not-follows.ensures) in
    let s = c.region_at-s in
    sym (pass_stops one (omega arith) s.result s.ensures (sym c.if-not-follows-2.ensures))

pub loop-i-preserved : goal.loop-i-preserved
loop-i-preserved c =
    let l = c.loop-i in
    let r = c.region_at-r in
    let s = c.region_at-s in
    let one = pass_goes l.invariant.0 (omega arith) r.result r.ensures (sym c.if-not-follows.ensures) in
    let two = pass_goes one (omega arith) s.result s.ensures (sym c.if-not-follows-2.ensures) in
    let e : l.i + 1 + 1 ≡ l.i + 2 = omega arith in
    (rw e at two, omega arith, omega arith)

pub returns-then-stop-count : goal.returns-then-stop-count
returns-then-stop-count c = sym (pass_ends c.loop-i.invariant.0 (omega arith))

pub returns-then-not-follows-3 : goal.returns-then-not-follows-3
returns-then-not-follows-3 c =
    let g = c.region_at-last in
    sym (pass_stops c.loop-i.invariant.0 (omega arith) g.result g.ensures (sym c.if-not-follows-3.ensures))

pub returns : goal.returns
returns c =
    let g = c.region_at-last in
    let last = pass_goes c.loop-i.invariant.0 (omega arith) g.result g.ensures (sym c.if-not-follows-3.ensures) in
    sym (pass_ends last (omega arith))
