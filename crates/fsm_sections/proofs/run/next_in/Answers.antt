use Rattle.std.proofs.Common.{◌∙◌, sym, arith}
use Rattle.fsm_sections.proofs.CursorLaws.{went}
use Rattle.fsm_sections.proofs.run.next_in.Goals as goal

pub returns : goal.returns
returns c =
    let a = c.args in
    went a.count a.run.now a.at (omega arith) _ _ _ (sym c.at.ensures ∙ c.in_ok-region.ensures.steps) c.after.ensures
