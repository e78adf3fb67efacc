use Rattle.std.proofs.lemmas.Result.{err_from_is_err_and}
use Rattle.free_lists.proofs.DecidedLaws.{tells-alloc, alloc_due}
use Rattle.free_lists.proofs.decide.Three.alloc.Goals as goal

pub check-requires : goal.check-requires
check-requires c = tells-alloc _ _ _ c.decide_alloc-d.result c.decide_alloc-d.ensures

pub returns-in_err-check : goal.returns-in_err-check
returns-in_err-check c =
    let d = c.decide_alloc-d in
    let p = err_from_is_err_and c.from_residual.result c.from_residual.ensures.1 in
    rw (p.1, p.2) (alloc_due _ _ c.in_err-check.ensures d.result d.ensures)

pub returns : goal.returns
returns c =
    let d = c.decide_alloc-d in
    alloc_due _ _ c.in_ok-check.ensures d.result d.ensures
