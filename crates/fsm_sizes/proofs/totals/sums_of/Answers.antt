use Rattle.std.proofs.Common.{◌∙◌}
use Rattle.std.proofs.lemmas.Result.{err_from_is_err_and}
use Rattle.fsm_sizes.proofs.TotalLaws.{first-over, second-over, all_runs}
use Rattle.fsm_sizes.proofs.totals.sums_of.Goals as goal

pub returns-in_err-x : goal.returns-in_err-x
returns-in_err-x c =
    let a = c.args in
    let p = err_from_is_err_and c.from_residual.result c.from_residual.ensures.1 in
    rw (p.1, p.2) (first-over a.s a.a.now a.b.now a.c.now _ c.sums_in.ensures _ c.in_err-x.was)

pub returns-in_err-y : goal.returns-in_err-y
returns-in_err-y c =
    let a = c.args in
    let p = err_from_is_err_and c.from_residual-in_err-y.result c.from_residual-in_err-y.ensures.1 in
    rw (p.1, p.2) (second-over a.s a.a.now a.b.now a.c.now _ c.sums_in.ensures _ c.in_ok-x.was _ c.sums_in-2.ensures _ c.in_err-y.was)

pub returns : goal.returns
returns c =
    let a = c.args in
    c.sums_in-3.ensures
    ∙ all_runs a.s a.a.now a.b.now a.c.now _ c.sums_in.ensures _ c.in_ok-x.was _ c.sums_in-2.ensures _ c.in_ok-y.was
