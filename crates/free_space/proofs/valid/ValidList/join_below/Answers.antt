use Rattle.std.proofs.Common.{◌≡◌, ◌+◌, ◌-◌, refl, ap, ◌∙◌, arith}
use Rattle.free_regions.specs.Regions.{end}
use Rattle.free_space.specs.Runs.{regions}
use Rattle.free_space.specs.Splices.{Goes}
use Rattle.free_space.proofs.PlaceLaws.{goes_one}
use Rattle.free_space.proofs.InsertLaws.{insert-apart, insert_touch}
use Rattle.free_space.proofs.valid.ValidList.join_below.Goals as goal

pub returns-then-r-new : goal.returns-then-r-new
returns-then-r-new c =
    let a = c.args in
    let pre = c.requires in
    let g = c.region-r in
    let k : a.i - 1 + 1 ≡ a.i = omega (arith, c.if-i-gt0.true) in
    let goes : Goes (regions a.self.run.now a.self.list) (a.i - 1) a.i g.result.len =
    rw k at (goes_one a.self.run.now a.self.list pre.0.list (a.i - 1) g.result (omega (arith, pre.0.high.within, c.if-i-gt0.true)) g.ensures.read) in (
      omega arith,
      omega arith,
      insert_touch a.self.run.now a.self.list a.new pre.1 a.i pre.0 c.if-i-gt0.true g.result g.ensures.read c.if-r-new.true,
      omega (arith, goes),
      omega (arith, c.if-r-new.true),
    )

pub returns-else-r-new : goal.returns-else-r-new
returns-else-r-new c =
    let a = c.args in
    let pre = c.requires in
    let g = c.region-r in
    (omega arith, omega arith, insert-apart a.self.run.now a.self.list a.new pre.1 a.i pre.0 (λ h e. c.if-r-new.false (ap end g.ensures.read ∙ e)), refl, omega arith)
