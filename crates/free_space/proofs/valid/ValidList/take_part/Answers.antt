use Rattle.std.proofs.Common.{◌+◌, ◌-◌, ap, ◌∙◌, refl, arith}
use Rattle.free_regions.specs.Regions.{end, sum_of_lengths}
use Rattle.free_regions.proofs.LengthLaws.{sum-pieces}
use Rattle.free_space.specs.Splices.{patch, Replaces}
use Rattle.free_space.specs.Decisions.{given_by}
use Rattle.free_space.proofs.ListLaws.{listed}
use Rattle.free_space.proofs.CheckLaws.{read_fits}
use Rattle.free_space.proofs.SpliceLaws.{given-fitted, one_less, replaces_one}
use Rattle.free_space.proofs.AnswerLaws.{without_is}
use Rattle.free_space.proofs.valid.ValidList.take_part.Goals as goal
use Rattle.free_space.proofs.valid.ValidList.take_part.Goals.{After-edges}

pub overflow_sub-self : goal.overflow_sub-self
overflow_sub-self c =
    let a = c.args in
    let pre = c.requires in
    omega (arith, pre.2, pre.3, one_less a.self.run.now a.self.list a.self.tested a.i (a.i + 1) a.r pre.0 refl pre.1)

pub overflow_add-start : goal.overflow_add-start
overflow_add-start c =
    let a = c.args in
    let pre = c.requires in
    omega (arith, pre.3, (read_fits a.self.run.now a.self.list a.i a.r a.self.tested pre.0 pre.1).within)

pub overflow_add-r : goal.overflow_add-r
overflow_add-r c =
    let a = c.args in
    let pre = c.requires in
    omega (arith, (read_fits a.self.run.now a.self.list a.i a.r a.self.tested pre.0 pre.1).within)

-- the region goes, and what is left around the range comes
replaces : (s : After-edges) → let a = s.args in Replaces a.self.run.now a.self.list a.i (a.i + 1) (a.self.list.total - a.len) (patch s.edges.result)
replaces s =
    let a = s.args in
    let pre = s.requires in
    let p = s.edges in
    let e = a.start + a.len in
    replaces_one a.self.run.now a.self.list a.self.tested a.i (a.i + 1) a.r pre.0 refl pre.1 a.len (patch p.result)
    (omega (arith, ap sum_of_lengths p.ensures, sum-pieces a.r.addr (a.start - a.r.addr) e (end a.r - e), pre.2, pre.3))

pub change-requires : goal.change-requires
change-requires c = replaces (goal.at.change-requires c).After-edges

pub returns : goal.returns
returns c =
    let a = c.args in
    let pre = c.requires in
    let xs = a.self.run.now in
    let p = c.edges in (
      ap (given_by xs a.self.list) c.change.ensures.0
          ∙ given-fitted xs a.self.list a.start a.i (a.i + 1) (a.self.list.total - a.len) p.result (replaces (goal.at.returns c).After-edges)
          ∙ without_is xs a.self.list a.i a.r a.start a.len (patch p.result) pre.0 (listed xs a.self.list a.self.tested).room pre.1 p.ensures,
      c.change.ensures.1,
    )
