use Rattle.std.proofs.Common.{refl, ap, arith}
use Rattle.free_regions.specs.declared.FreeRegion.{FreeRegion}
use Rattle.free_space.proofs.PlaceLaws.{goes_one}
use Rattle.free_space.proofs.InsertLaws.{absorb-apart, absorb_touch}
use Rattle.free_space.proofs.valid.ValidList.join_above.Goals as goal

pub returns-then-new-r : goal.returns-then-new-r
returns-then-new-r c =
    let a = c.args in
    let pre = c.requires in
    let g = c.region-r in
    let h = c.if-i-self.true in (
      omega arith,
      omega arith,
      absorb_touch a.self.run.now a.self.list a.self.tested a.new a.i g.result h g.ensures.read c.if-new-r.true,
      omega (arith, goes_one a.self.run.now a.self.list a.self.tested a.i g.result h g.ensures.read),
      refl,
      omega arith,
    )

pub returns-else-new-r : goal.returns-else-new-r
returns-else-new-r c =
    let a = c.args in
    let pre = c.requires in
    let g = c.region-r in (
      omega arith,
      omega arith,
      absorb-apart a.self.run.now a.self.list a.self.tested a.new a.i (λ h. omega (arith, pre.1 h, c.if-new-r.false, ap (λ (q : FreeRegion). q.addr) g.ensures.read)),
      refl,
      refl,
      omega arith,
    )

pub returns-else-i-self : goal.returns-else-i-self
returns-else-i-self c =
    let a = c.args in
    let pre = c.requires in
    (omega arith, omega arith, absorb-apart a.self.run.now a.self.list a.self.tested a.new a.i (λ h. absurd (omega arith)), refl, refl, omega arith)
