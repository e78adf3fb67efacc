use mathlib.Core.Path.{sym}
use native.Mathlib.Omega.{arith}
use lib.Seq.{length-take-le}
use Rattle.std.proofs.lemmas.Result.{err_from_is_err_and}
use Rattle.fsm_blocks.specs.Fshd.{fshd_size}
use Rattle.fsm_blocks.specs.Checks.{block_checks}
use Rattle.fsm_blocks.proofs.CheckLaws.{part_refused, block_long, fshd_client, fshd_sum}
use Rattle.fsm_blocks.proofs.checks.verify_fshd.Goals as goal

pub returns-in_err-verify_block : goal.returns-in_err-verify_block
returns-in_err-verify_block c =
    let a = c.args in
    let p = err_from_is_err_and c.from_residual.result c.from_residual.ensures.1 in rw (p.1, p.2) (part_refused (block_checks (fshd_size a.offset_size) 72 68 a.bytes.now) _ c.verify_block.ensures _ _ c.in_err-verify_block.was)

pub bounds-bytes-5 : goal.bounds-bytes-5
bounds-bytes-5 c =
    let a = c.args in
    omega (arith, block_long (fshd_size a.offset_size) 72 68 a.bytes.now _ c.verify_block.ensures c.in_ok-verify_block.was)

pub returns-then-client-ne-CLIENT_ID : goal.returns-then-client-ne-CLIENT_ID
returns-then-client-ne-CLIENT_ID c =
    let a = c.args in
    fshd_client a.offset_size a.bytes.now _ c.verify_block.ensures c.in_ok-verify_block.was c.if-client-ne-CLIENT_ID.true

pub slice_bounds-verify_trailing-end : goal.slice_bounds-verify_trailing-end
slice_bounds-verify_trailing-end c =
    let a = c.args in
    sym (length-take-le _ a.bytes.now (block_long (fshd_size a.offset_size) 72 68 a.bytes.now _ c.verify_block.ensures c.in_ok-verify_block.was))

pub returns : goal.returns
returns c =
    let a = c.args in
    fshd_sum a.offset_size a.bytes.now _ c.verify_block.ensures c.in_ok-verify_block.was c.if-client-ne-CLIENT_ID.false c.verify_trailing.ensures
