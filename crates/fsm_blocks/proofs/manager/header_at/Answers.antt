use mathlib.Core.Path.{◌∙◌}
use Rattle.std.proofs.lemmas.Result.{err_from_is_err_and}
use Rattle.fsm_blocks.specs.Fshd.{kept, parsed_fshd}
use Rattle.fsm_blocks.specs.Checks.{fshd_checks}
use Rattle.fsm_blocks.proofs.CheckLaws.{checked_refused, checked_passed}
use Rattle.fsm_blocks.proofs.manager.header_at.Goals as goal

pub returns-in_err-check_fshd : goal.returns-in_err-check_fshd
returns-in_err-check_fshd c =
    let a = c.args in
    let p = err_from_is_err_and c.from_residual.result c.from_residual.ensures.1 in rw (p.1, p.2)
    (checked_refused (fshd_checks a.reading a.offset_size a.bytes.now) _ c.check_fshd.ensures (kept (parsed_fshd a.offset_size a.bytes.now)) _ c.in_err-check_fshd.was)

pub returns : goal.returns
returns c =
    let a = c.args in
    c.parse.ensures ∙ checked_passed (fshd_checks a.reading a.offset_size a.bytes.now) _ c.check_fshd.ensures (kept (parsed_fshd a.offset_size a.bytes.now)) c.in_ok-check_fshd.was
