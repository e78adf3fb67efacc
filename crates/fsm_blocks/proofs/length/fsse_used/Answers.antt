use mathlib.Core.Path.{sym, ap, ◌∙◌}
use Prim.Native.Nat.{◌+◌, ◌*◌}
use native.Mathlib.Omega.{arith}
use Rattle.std.proofs.lemmas.Result.{err_from_is_err_and}
use Rattle.error.specs.Answers.{as_outcome}
use Rattle.fsm_sections.proofs.StoredLaws.{stored_is, stored-not, too_great}
use Rattle.fsm_blocks.proofs.LengthLaws.{width_small, groups_over, groups_in}
use Rattle.fsm_blocks.proofs.length.fsse_used.Goals as goal

pub overflow_add-cw : goal.overflow_add-cw
overflow_add-cw c = let a = c.args in omega (arith, width_small a.count (omega arith), c.enc_size-cw.ensures)

pub returns-in_err-groups : goal.returns-in_err-groups
returns-in_err-groups c =
    let a = c.args in
    let cw = c.enc_size-cw in
    let n = 9 + a.offset_size + a.sizes * (cw.result + 8) in
    let over = stored-not c.add_times.result n c.add_times.ensures _ c.in_err-groups.was in
    let p = err_from_is_err_and c.from_residual.result c.from_residual.ensures.1 in rw (p.1, p.2)
    (sym (ap as_outcome c.in_err-groups.was) ∙ c.add_times.ensures ∙ sym (too_great n over)
    ∙ groups_over a.offset_size a.count a.sizes cw.result cw.ensures over)

pub returns : goal.returns
returns c =
    let a = c.args in
    let cw = c.enc_size-cw in
    c.add_times-2.ensures ∙ groups_in a.offset_size a.count a.sizes cw.result cw.ensures _
    (stored_is c.add_times.result (9 + a.offset_size + a.sizes * (cw.result + 8)) c.add_times.ensures _ c.in_ok-groups.was).0
