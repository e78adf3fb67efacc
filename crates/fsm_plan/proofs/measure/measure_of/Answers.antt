use Rattle.std.proofs.lemmas.Result.{err_from_is_err_and}
use Rattle.fsm_sections.specs.Chains.{sections_of}
use Rattle.fsm_sections.specs.Sources.{chains_of}
use Rattle.fsm_plan.proofs.MeasureLaws.{measure_over, length_over, measure_is}
use Rattle.fsm_plan.proofs.measure.measure_of.Goals as goal

pub returns-in_err-t : goal.returns-in_err-t
returns-in_err-t c =
    let a = c.args in
    let p = err_from_is_err_and c.from_residual.result c.from_residual.ensures.1 in
    rw (p.1, p.2) (measure_over (sections_of (chains_of a.s a.a.now a.b.now a.c.now)) _ c.totals_of.ensures a.offset_size _ c.in_err-t.was)

pub returns-in_err-len : goal.returns-in_err-len
returns-in_err-len c =
    let a = c.args in
    let p = err_from_is_err_and c.from_residual-in_err-len.result c.from_residual-in_err-len.ensures.1 in
    rw (p.1, p.2) (length_over (sections_of (chains_of a.s a.a.now a.b.now a.c.now)) _ c.totals_of.ensures a.offset_size _ c.in_ok-t.was _ c.blocks_len.ensures _ c.in_err-len.was)

pub returns : goal.returns
returns c =
    let a = c.args in
    measure_is (sections_of (chains_of a.s a.a.now a.b.now a.c.now)) _ c.totals_of.ensures a.offset_size _ c.in_ok-t.was _ c.blocks_len.ensures _ c.in_ok-len.was
