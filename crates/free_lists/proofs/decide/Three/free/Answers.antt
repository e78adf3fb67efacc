use Rattle.std.proofs.lemmas.Result.{err_from_is_err_and}
use Rattle.free_lists.proofs.DecidedLaws.{tells-free, free_due}
use Rattle.free_lists.proofs.decide.Three.free.Goals as goal

pub check-requires : goal.check-requires
check-requires c = tells-free _ _ _ _ c.decide_free-d.result c.decide_free-d.ensures.decided

pub returns-in_err-check-clause-decided : goal.returns-in_err-check-clause-decided
returns-in_err-check-clause-decided c =
    let d = c.decide_free-d in
    let p = err_from_is_err_and c.from_residual.result c.from_residual.ensures.1 in
    rw (p.1, p.2) (free_due _ _ _ c.in_err-check.ensures d.result d.ensures.decided d.ensures.folds).0

pub returns-clause-decided : goal.returns-clause-decided
returns-clause-decided c =
    let d = c.decide_free-d in
    (free_due _ _ _ c.in_ok-check.ensures d.result d.ensures.decided d.ensures.folds).0
