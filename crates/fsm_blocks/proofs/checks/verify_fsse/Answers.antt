use Prim.Native.Nat.{◌+◌}
use Rattle.std.proofs.lemmas.Result.{err_from_is_err_and}
use Rattle.fsm_blocks.specs.Checks.{block_checks}
use Rattle.fsm_blocks.proofs.FshdLaws.{width_is}
use Rattle.fsm_blocks.proofs.CheckLaws.{part_refused, fsse-sum, fsse-back, fsse_passed}
use Rattle.fsm_blocks.proofs.checks.verify_fsse.Goals as goal

pub returns-in_err-verify_block : goal.returns-in_err-verify_block
returns-in_err-verify_block c =
    let a = c.args in
    let p = err_from_is_err_and c.from_residual.result c.from_residual.ensures.1 in rw (p.1, p.2) (part_refused (block_checks (9 + a.size.bytes) 83 69 a.bytes.now) _ c.verify_block.ensures _ _ c.in_err-verify_block.was)

pub returns-in_err-verify_trailing : goal.returns-in_err-verify_trailing
returns-in_err-verify_trailing c =
    let a = c.args in
    let p = err_from_is_err_and c.from_residual-in_err-verify_trailing.result c.from_residual-in_err-verify_trailing.ensures.1 in rw (p.1, p.2)
    (fsse-sum a.size.bytes a.slot a.bytes.now _ _ c.verify_block.ensures c.in_ok-verify_block.was c.verify_trailing.ensures _ c.in_err-verify_trailing.was)

pub returns-then-read_uint_le-slot : goal.returns-then-read_uint_le-slot
returns-then-read_uint_le-slot c =
    fsse-back c.args.size.bytes c.args.slot c.args.bytes.now _ _ c.verify_block.ensures c.in_ok-verify_block.was c.verify_trailing.ensures c.in_ok-verify_trailing.was
    (width_is c.args.size.bytes c.args.size.width).1 c.read_uint_le.ensures c.if-read_uint_le-slot.true

pub returns : goal.returns
returns c =
    fsse_passed c.args.size.bytes c.args.slot c.args.bytes.now _ _ c.verify_block.ensures c.in_ok-verify_block.was c.verify_trailing.ensures c.in_ok-verify_trailing.was
    (width_is c.args.size.bytes c.args.size.width).1 c.read_uint_le.ensures c.if-read_uint_le-slot.false
