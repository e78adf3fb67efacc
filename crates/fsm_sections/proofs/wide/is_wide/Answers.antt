use Rattle.std.proofs.Common.{ℕ, ltb, ap, ◌∙◌, arith}
use Rattle.fsm_sections.proofs.AnyLaws.{wide_is}
use Rattle.fsm_sections.proofs.wide.is_wide.Goals as goal

pub returns-else-o-eq0 : goal.returns-else-o-eq0
returns-else-o-eq0 c =
    let a = c.args in
    ap (λ (n : ℕ). ltb a.o n) c.enc_size.ensures ∙ wide_is a.o a.addr (omega arith) (omega (arith, c.if-o-eq0.false))
