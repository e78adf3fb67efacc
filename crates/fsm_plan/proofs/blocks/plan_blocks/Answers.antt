use Rattle.std.proofs.Common.{◌∙◌}
use Rattle.std.proofs.lemmas.Result.{err_from_is_err_and}
use Rattle.fsm_plan.proofs.RunsLaws.{tests_show}
use Rattle.fsm_plan.proofs.BlocksLaws.{blocks_tested, blocks_measured, blocks_from, blocks_ready}
use Rattle.fsm_plan.proofs.blocks.plan_blocks.Goals as goal

pub returns-in_err-test_runs : goal.returns-in_err-test_runs
returns-in_err-test_runs c =
    let a = c.args in
    let p = err_from_is_err_and c.from_residual.result c.from_residual.ensures.1 in
    rw (p.1, p.2) (blocks_tested a.meta.now a.raw.now a.unclassified.now a.n a.page a.start a.offset_size _ c.test_runs.ensures _ c.in_err-test_runs.was)

pub measure_slots-requires : goal.measure_slots-requires
measure_slots-requires c =
    let a = c.args in
    (tests_show a.meta.now a.raw.now a.unclassified.now a.n a.page a.offset_size _ c.test_runs.ensures c.in_ok-test_runs.was).some

pub plan_from-requires : goal.plan_from-requires
plan_from-requires c =
    let a = c.args in
    blocks_ready a.meta.now a.raw.now a.unclassified.now a.n a.page a.start a.offset_size _ c.test_runs.ensures c.in_ok-test_runs.was
    _ c.measure_slots.ensures _ c.in_ok-m.was

pub returns-in_err-m : goal.returns-in_err-m
returns-in_err-m c =
    let a = c.args in
    let p = err_from_is_err_and c.from_residual-in_err-m.result c.from_residual-in_err-m.ensures.1 in
    rw (p.1, p.2) (blocks_measured a.meta.now a.raw.now a.unclassified.now a.n a.page a.start a.offset_size _ c.test_runs.ensures c.in_ok-test_runs.was
    _ c.measure_slots.ensures _ c.in_err-m.was)

pub returns : goal.returns
returns c =
    let a = c.args in
    c.plan_from.ensures
    ∙ blocks_from a.meta.now a.raw.now a.unclassified.now a.n a.page a.start a.offset_size _ c.test_runs.ensures c.in_ok-test_runs.was
    _ c.measure_slots.ensures _ c.in_ok-m.was
