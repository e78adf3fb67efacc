use mathlib.Core.Path.{ap}
use Prim.Native.Nat.{◌+◌}
use native.Mathlib.Omega.{arith}
use Rattle.free_regions.specs.Regions.{end}
use Rattle.free_space.proofs.MeetLaws.{region-before}
use Rattle.free_lists.proofs.SearchLaws.{found_wider}
use Rattle.free_lists.proofs.share.Ordered.first_past_from.Goals as goal

pub loop-ahead-init : goal.loop-ahead-init
loop-ahead-init c = (omega arith, c.requires, λ h. absurd (omega arith))

pub returns-then-a-r : goal.returns-then-a-r
returns-then-a-r c =
    let l = c.loop-ahead in
    let g = c.region-r in
    found_wider l.invariant.0 (omega arith) l.invariant.2 (λ h. omega (arith, c.if-a-r.true, ap end g.ensures.read)) c.first_past.ensures

pub loop-ahead-preserved : goal.loop-ahead-preserved
loop-ahead-preserved c =
    let a = c.args in
    let l = c.loop-ahead in
    let at = l.low + l.ahead in
    let g = c.region-r in
    (omega (arith, l.invariant.0), omega arith, λ h. omega (arith, c.if-a-r.false, ap end (region-before a.self.run.now at (at + 1) g.result (omega arith) g.ensures.read)))

pub returns : goal.returns
returns c =
    let l = c.loop-ahead in
    found_wider l.invariant.0 (omega arith) l.invariant.2 (λ h. absurd (omega arith)) c.first_past-2.ensures
