use mathlib.Core.Path.{sym, ap, ◌∙◌}
use native.Mathlib.Omega.{arith}
use mathlib.Core.Bool.{not}
use Rattle.fsm_lengths.proofs.LengthLaws.{len_width, len_over, len_is}
use Rattle.fsm_lengths.proofs.fsse_len.Goals as goal

pub returns-then-not-is_width : goal.returns-then-not-is_width
returns-then-not-is_width c =
    let a = c.args in len_width a.offset_size a.sizes.now (ap not (sym c.is_width.ensures ∙ c.if-not-is_width.true))

pub returns-then-sum_overflows : goal.returns-then-sum_overflows
returns-then-sum_overflows c =
    let a = c.args in
    len_over a.offset_size a.sizes.now (ap not (sym c.is_width.ensures ∙ c.if-not-is_width.false))
    (sym c.if-sum_overflows.true ∙ c.sum_overflows.ensures)

pub returns : goal.returns
returns c =
    let a = c.args in
    c.fsse_used.ensures ∙ len_is a.offset_size a.sizes.now
    (ap not (sym c.is_width.ensures ∙ c.if-not-is_width.false))
    (sym c.if-sum_overflows.false ∙ c.sum_overflows.ensures) (omega arith) _ (omega arith)
