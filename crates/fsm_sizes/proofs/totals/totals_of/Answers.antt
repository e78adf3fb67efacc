use Rattle.std.proofs.lemmas.Result.{err_from_is_err_and}
use Rattle.fsm_sections.specs.Chains.{sections_of}
use Rattle.fsm_sections.specs.Sources.{chains_of}
use Rattle.fsm_sizes.proofs.TotalLaws.{totals_refused, totals_are}
use Rattle.fsm_sizes.proofs.totals.totals_of.Goals as goal

pub returns-in_err-t : goal.returns-in_err-t
returns-in_err-t c =
    let a = c.args in
    let p = err_from_is_err_and c.from_residual.result c.from_residual.ensures.1 in
    rw (p.1, p.2) (totals_refused (sections_of (chains_of a.s a.a.now a.b.now a.c.now)) _ c.sums_of.ensures _ c.in_err-t.was)

pub returns : goal.returns
returns c =
    let a = c.args in
    totals_are (sections_of (chains_of a.s a.a.now a.b.now a.c.now)) _ c.sums_of.ensures _ c.in_ok-t.was _ c.distinct_sizes.ensures
