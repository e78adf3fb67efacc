use mathlib.Core.Path.{sym, ap, ◌∙◌}
use mathlib.Core.Bool.{not}
use Rattle.fsm_blocks.proofs.CheckLaws.{block_version, block_passed}
use Rattle.fsm_blocks.proofs.checks.verify_block.Goals as goal

pub returns-then-version-ne0 : goal.returns-then-version-ne0
returns-then-version-ne0 c =
    let a = c.args in
    block_version a.len a.third a.fourth a.bytes.now c.if-bytes-len.false (ap not (sym c.is_signed.ensures ∙ c.if-not-is_signed.false)) c.if-version-ne0.true

pub returns : goal.returns
returns c =
    let a = c.args in
    block_passed a.len a.third a.fourth a.bytes.now c.if-bytes-len.false (ap not (sym c.is_signed.ensures ∙ c.if-not-is_signed.false)) c.if-version-ne0.false
