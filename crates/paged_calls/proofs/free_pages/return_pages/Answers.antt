use native.Mathlib.Omega.{arith}
use Rattle.std.proofs.lemmas.Result.{err_from_is_err_and}
use Rattle.paged_calls.proofs.ReturnLaws.{pages-fit, return_refused, return_done}
use Rattle.paged_calls.proofs.free_pages.return_pages.Goals as goal

pub overflow_mul-addr : goal.overflow_mul-addr
overflow_mul-addr c =
    let h = pages-fit c.args.p c.args.e c.args.page c.requires.0 c.requires.1 in omega (arith, h.0)

pub overflow_mul-len : goal.overflow_mul-len
overflow_mul-len c =
    let h = pages-fit c.args.p c.args.e c.args.page c.requires.0 c.requires.1 in omega (arith, h.1)

pub returns-in_err-pages : goal.returns-in_err-pages
returns-in_err-pages c =
    let a = c.args in
    let d = c.decide_free-pages in
    let p = err_from_is_err_and c.from_residual.result c.from_residual.ensures.1 in
    rw (p.1, p.2) (return_refused a.page a.d a.p a.e a.own.now a.shared.now a.marks.now a.lists.own a.lists.shared d.result d.ensures.decided _ c.in_err-pages.was)

pub returns : goal.returns
returns c =
    let a = c.args in
    let d = c.decide_free-pages in
    return_done a.page a.d a.p a.e a.own.now a.shared.now a.marks.now a.lists.own a.lists.shared d.result d.ensures.decided _ c.in_ok-pages.was _ _ c.carry_out-joined.ensures _ _ c.perform-left.ensures.list _ _ c.carry_out-given.ensures
    _ c.set_marks.ensures
