use Rattle.std.proofs.lemmas.Result.{err_from_is_err_and}
use Rattle.free_lists.proofs.SharingLaws.{fine_order, start_is, start_refused}
use Rattle.free_lists.proofs.trailing_run_start.Goals as goal

pub walk_down-requires : goal.walk_down-requires
walk_down-requires c = fine_order _ _ _ _ c.check_lists.ensures c.in_ok-check_lists.was

pub returns-in_err-check_lists : goal.returns-in_err-check_lists
returns-in_err-check_lists c =
    let p = err_from_is_err_and c.from_residual.result c.from_residual.ensures.1 in
    rw (p.1, p.2) (start_refused _ _ _ _ c.check_lists.ensures _ _ c.in_err-check_lists.was)

pub returns : goal.returns
returns c = start_is _ _ _ _ c.check_lists.ensures _ _ c.in_ok-check_lists.was c.walk_down.ensures
