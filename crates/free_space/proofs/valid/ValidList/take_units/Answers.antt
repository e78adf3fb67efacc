use Rattle.std.proofs.Common.{ℕ, ◌≡◌, ◌+◌, ◌≤◌, ap, ◌∙◌, arith}
use Rattle.free_regions.specs.Regions.{end}
use Rattle.free_regions.specs.Units.{interior_start}
use Rattle.free_regions.proofs.InteriorLaws.{first-multiple, interior-inside, units_serve}
use Rattle.free_space.specs.Runs.{regions}
use Rattle.free_space.specs.Calls.{placed, giving, without}
use Rattle.free_space.proofs.CheckLaws.{read_fits}
use Rattle.free_space.proofs.valid.ValidList.take_units.Goals as goal
use Rattle.free_space.proofs.valid.ValidList.take_units.Goals.{After-whole_units}

-- where the whole units begin, and that the range lies within the region
serves : (s : After-whole_units) → let a = s.args in
    (s.whole_units.result.start ≡ interior_start a.unit a.r) × (s.whole_units.result.start + a.len ≤ end a.r)
serves s =
    let a = s.args in
    let pre = s.requires in
    let w = s.whole_units in
    let told = w.ensures (read_fits a.self.run.now a.self.list a.i a.r a.self.tested pre.0 pre.1).within in
    units_serve a.unit a.r a.len w.result.start w.result.span pre.2 pre.3 told.0 told.1

pub take_part-requires : goal.take_part-requires
take_part-requires c =
    let a = c.args in
    let pre = c.requires in
    let s = serves (goal.at.take_part-requires c).After-whole_units in
    let unit = (interior-inside a.unit a.len a.r pre.2 pre.3).0 in
    (pre.0, pre.1, omega (arith, s.0, (first-multiple a.unit unit a.r.addr).above), s.1)

pub returns : goal.returns
returns c =
    let a = c.args in
    let xs = a.self.run.now in
    let l = a.self.list in
    let s = serves (goal.at.returns c).After-whole_units in
    (c.take_part.ensures.0 ∙ ap (λ (from : ℕ). placed (giving from) xs l (without (regions xs l) a.i from a.len)) s.0, c.take_part.ensures.1)
