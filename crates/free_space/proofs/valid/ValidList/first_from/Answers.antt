use Rattle.std.proofs.Common.{◌+◌, ap, arith}
use Rattle.free_regions.specs.declared.FreeRegion.{FreeRegion}
use Rattle.free_regions.proofs.LengthLaws.{sum_parts}
use Rattle.free_space.specs.Runs.{regions}
use Rattle.free_space.proofs.ListLaws.{list-sum}
use Rattle.free_space.proofs.MeetLaws.{region-before}
use Rattle.free_space.proofs.PlaceLaws.{goes_one}
use Rattle.free_space.proofs.valid.ValidList.first_from.Goals as goal

-- the sum is at most that of the whole list
pub overflow_add-gone : goal.overflow_add-gone
overflow_add-gone c =
    let a = c.args in
    let xs = a.self.run.now in
    let l = c.loop-i in
    let g = c.region-r in
    let ok = a.self.tested in
    omega (arith, l.invariant.1, goes_one xs a.self.list ok l.i g.result c.loop-i-test.true g.ensures.read, sum_parts a.lo (regions xs a.self.list), list-sum xs a.self.list ok)

pub loop-i-preserved : goal.loop-i-preserved
loop-i-preserved c =
    let a = c.args in
    let xs = a.self.run.now in
    let l = c.loop-i in
    let g = c.region-r in (
      (λ h. omega (arith, c.if-e-r.false, ap (λ (q : FreeRegion). q.addr) (region-before xs l.i (l.i + 1) g.result (omega arith) g.ensures.read))),
      omega (arith, l.invariant.1, goes_one xs a.self.list a.self.tested l.i g.result c.loop-i-test.true g.ensures.read),
    )
