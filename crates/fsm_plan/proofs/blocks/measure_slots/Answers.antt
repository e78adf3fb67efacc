use Rattle.std.proofs.lemmas.Result.{err_from_is_err_and}
use Rattle.fsm_plan.specs.Blocks.{paged}
use Rattle.fsm_plan.proofs.BlocksLaws.{small_measured, large_measured, slots-first, slots-second, slots_third, slots_are}
use Rattle.fsm_plan.proofs.blocks.measure_slots.Goals as goal

pub returns-in_err-slot0 : goal.returns-in_err-slot0
returns-in_err-slot0 c =
    let a = c.args in
    let p = c.requires in
    let e = err_from_is_err_and c.from_residual.result c.from_residual.ensures.1 in
    rw (e.1, e.2) (slots-first (paged a.n a.page) a.meta.now a.raw.now a.unclassified.now a.offset_size c.measure_of.result (small_measured a.offset_size a.page p _ c.measure_of.result a.n.meta a.meta.now c.small_source-s0.ensures c.measure_of.ensures) _ c.in_err-slot0.was)

pub returns-in_err-slot2 : goal.returns-in_err-slot2
returns-in_err-slot2 c =
    let a = c.args in
    let p = c.requires in
    let e = err_from_is_err_and c.from_residual-in_err-slot2.result c.from_residual-in_err-slot2.ensures.1 in
    rw (e.1, e.2) (slots-second (paged a.n a.page) a.meta.now a.raw.now a.unclassified.now a.offset_size c.measure_of.result (small_measured a.offset_size a.page p _ c.measure_of.result a.n.meta a.meta.now c.small_source-s0.ensures c.measure_of.ensures) _ c.in_ok-slot0.was c.measure_of-2.result
    (small_measured a.offset_size a.page p _ c.measure_of-2.result a.n.raw a.raw.now c.small_source-s2.ensures c.measure_of-2.ensures) _ c.in_err-slot2.was)

pub returns-in_err-slot6 : goal.returns-in_err-slot6
returns-in_err-slot6 c =
    let a = c.args in
    let p = c.requires in
    let e = err_from_is_err_and c.from_residual-in_err-slot6.result c.from_residual-in_err-slot6.ensures.1 in
    rw (e.1, e.2) (slots_third (paged a.n a.page) a.meta.now a.raw.now a.unclassified.now a.offset_size c.measure_of.result (small_measured a.offset_size a.page p _ c.measure_of.result a.n.meta a.meta.now c.small_source-s0.ensures c.measure_of.ensures) _ c.in_ok-slot0.was c.measure_of-2.result
    (small_measured a.offset_size a.page p _ c.measure_of-2.result a.n.raw a.raw.now c.small_source-s2.ensures c.measure_of-2.ensures) _ c.in_ok-slot2.was c.measure_of-3.result
    (large_measured a.offset_size a.page p _ c.measure_of-3.result a.n a.meta.now a.raw.now a.unclassified.now c.large_source-s6.ensures c.measure_of-3.ensures) _ c.in_err-slot6.was)

pub returns : goal.returns
returns c =
    let a = c.args in
    let p = c.requires in
    slots_are (paged a.n a.page) a.meta.now a.raw.now a.unclassified.now a.offset_size c.measure_of.result (small_measured a.offset_size a.page p _ c.measure_of.result a.n.meta a.meta.now c.small_source-s0.ensures c.measure_of.ensures) _ c.in_ok-slot0.was c.measure_of-2.result
    (small_measured a.offset_size a.page p _ c.measure_of-2.result a.n.raw a.raw.now c.small_source-s2.ensures c.measure_of-2.ensures) _ c.in_ok-slot2.was c.measure_of-3.result
    (large_measured a.offset_size a.page p _ c.measure_of-3.result a.n a.meta.now a.raw.now a.unclassified.now c.large_source-s6.ensures c.measure_of-3.ensures) _ c.in_ok-slot6.was
