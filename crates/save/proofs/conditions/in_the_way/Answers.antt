use Rattle.std.proofs.Common.{ap, ◌∙◌}
use Rattle.fsm_sections.specs.RunSteps.{regions_left}
use Rattle.save.proofs.PlaceLaws.{way_start, way_asks, way_found, way_step, way_none}
use Rattle.save.proofs.conditions.in_the_way.Goals as goal

pub loop-region-init : goal.loop-region-init
loop-region-init c =
    let a = c.args in
    way_start a.start a.place a.run.now a.list c.requires.0 _ (ap regions_left c.into_iter-region-iterator.ensures.into_iter_gives ∙ c.new-region-items.ensures)

pub is_in_the_way-requires : goal.is_in_the_way-requires
is_in_the_way-requires c =
    let a = c.args in
    let f = way_asks a.start a.place _ _ c.loop-region.invariant _ _ c.in-Some.ensures.steps in
    (f.some, f.within, c.requires.1)

pub returns-then-is_in_the_way : goal.returns-then-is_in_the_way
returns-then-is_in_the_way c =
    let a = c.args in
    way_found a.start a.place _ _ c.loop-region.invariant _ _ c.in-Some.ensures.steps _ c.is_in_the_way.ensures c.if-is_in_the_way.true

pub loop-region-preserved : goal.loop-region-preserved
loop-region-preserved c =
    let a = c.args in
    way_step a.start a.place _ _ c.loop-region.invariant _ _ c.in-Some.ensures.steps _ c.is_in_the_way.ensures c.if-is_in_the_way.false

pub returns : goal.returns
returns c = let a = c.args in way_none a.start a.place _ _ c.loop-region.invariant c.in-None.ensures.steps.0
