use mathlib.Core.Path.{◌∙◌}
use native.Mathlib.Omega.{arith}
use Rattle.fsm_plan.proofs.AllPiecesLaws.{wide-none, at-fits, wide_greatest}
use Rattle.fsm_plan.proofs.pieces.wide_piece.Goals as goal

pub returns-then-size-eq0 : goal.returns-then-size-eq0
returns-then-size-eq0 c = let a = c.args in wide-none a.o a.page a.addr a.size c.requires.0 c.if-size-eq0.true

pub overflow_mul-last : goal.overflow_mul-last
overflow_mul-last c =
    let a = c.args in
    omega (arith, at-fits a.o a.page a.addr a.size c.requires.0 c.if-size-eq0.false _ c.quotient.ensures, c.requires.1)

pub returns : goal.returns
returns c =
    let a = c.args in
    c.is_wide.ensures ∙ wide_greatest a.o a.page a.addr a.size c.requires.0 c.if-size-eq0.false _ c.quotient.ensures _ c.max.ensures
