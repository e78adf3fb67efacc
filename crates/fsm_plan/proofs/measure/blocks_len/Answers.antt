use Rattle.std.proofs.lemmas.Result.{err_from_is_err_and}
use Rattle.fsm_plan.proofs.MeasureLaws.{none_len, used_over, blocks_by}
use Rattle.fsm_plan.proofs.measure.blocks_len.Goals as goal

pub returns-then-count-eq0 : goal.returns-then-count-eq0
returns-then-count-eq0 c = let a = c.args in none_len a.offset_size a.count a.sizes c.if-count-eq0.true

pub returns-in_err-used : goal.returns-in_err-used
returns-in_err-used c =
    let a = c.args in
    let p = err_from_is_err_and c.from_residual.result c.from_residual.ensures.1 in
    rw (p.1, p.2) (used_over a.offset_size a.count a.sizes c.if-count-eq0.false _ c.fsse_used.ensures _ c.in_err-used.was)

pub returns : goal.returns
returns c =
    let a = c.args in
    blocks_by a.offset_size a.count a.sizes c.if-count-eq0.false _ c.fsse_used.ensures _ c.in_ok-used.was _ c.from-head.ensures _ c.checked_add.ensures _ c.ok_or.ensures.value
