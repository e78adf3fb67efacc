use Rattle.std.proofs.Common.{◌+◌, ◌-◌, sym, ap, ◌∙◌, arith}
use Rattle.free_space.specs.Calls.{placed, keeping}
use Rattle.free_space.specs.Splices.{patch, Replaces}
use Rattle.free_space.specs.Decisions.{kept_by}
use Rattle.free_space.proofs.SpliceLaws.{kept-fitted, kept_same, gone_less}
use Rattle.free_space.proofs.CutLaws.{cut-none, cut_is, cut_less, cut_replaces}
use Rattle.free_space.proofs.valid.ValidList.cut_between.Goals as goal
use Rattle.free_space.proofs.valid.ValidList.cut_between.Goals.{After-edges}

pub returns-then-lo-met : goal.returns-then-lo-met
returns-then-lo-met c =
    let a = c.args in
    let pre = c.requires in
    let xs = a.self.run.now in
    (kept_same xs a.self.list _ pre.0.list (cut-none xs a.self.list a.a a.e a.lo a.met.upto (omega (arith, pre.1)) pre.0 c.if-lo-met.true), tt)

pub overflow_add-left : goal.overflow_add-left
overflow_add-left c = omega (arith, c.saturating_sub-2.ensures, c.saturating_sub.ensures, c.requires.1)

pub overflow_sub-taken : goal.overflow_sub-taken
overflow_sub-taken c =
    let a = c.args in
    let pre = c.requires in
    let f = c.region-first in
    let l = c.region-last in
    cut_less a.self.run.now a.self.list a.a a.e a.lo a.met.upto a.met.gone pre.1 pre.0 (omega (arith, pre.0.high.order)) pre.2 f.result l.result f.ensures.read l.ensures.read _ _
    c.saturating_sub.ensures c.saturating_sub-2.ensures

pub overflow_sub-self : goal.overflow_sub-self
overflow_sub-self c =
    let a = c.args in
    let pre = c.requires in
    omega (arith, gone_less a.self.run.now a.self.list a.lo a.met.upto a.met.gone pre.0.list pre.2)

replaces : (s : After-edges) → let a = s.args in
    Replaces a.self.run.now a.self.list a.lo a.met.upto (a.self.list.total - (a.met.gone - (s.saturating_sub.result + s.saturating_sub-2.result))) (patch s.edges.result)
replaces s =
    let a = s.args in
    let pre = s.requires in
    let f = s.region-first in
    let l = s.region-last in
    cut_replaces a.self.run.now a.self.list a.a a.e a.lo a.met.upto a.met.gone pre.1 pre.0 (omega (arith, pre.0.high.order)) pre.2 f.result l.result f.ensures.read l.ensures.read _ _
    s.saturating_sub.ensures s.saturating_sub-2.ensures _ s.edges.ensures

pub change-requires : goal.change-requires
change-requires c = replaces (goal.at.change-requires c).After-edges

pub returns : goal.returns
returns c =
    let a = c.args in
    let pre = c.requires in
    let xs = a.self.run.now in
    let f = c.region-first in
    let l = c.region-last in
    let is_cut = cut_is xs a.self.list a.a a.e a.lo a.met.upto a.met.gone pre.1 pre.0 (omega (arith, pre.0.high.order)) pre.2 f.result l.result f.ensures.read l.ensures.read _ c.edges.ensures in (
      ap (kept_by xs a.self.list) c.change.ensures.0
          ∙ kept-fitted xs a.self.list a.a a.lo a.met.upto _ c.edges.result (replaces (goal.at.returns c).After-edges)
          ∙ ap (placed keeping xs a.self.list) (sym is_cut),
      c.change.ensures.1,
    )
