use Rattle.std.proofs.Common.{◌∙◌, sym, arith}
use Rattle.fsm_sections.proofs.CursorLaws.{takes_part, takes-whole}
use Rattle.fsm_sections.proofs.run.next_row.Goals as goal

pub returns-in-Whole : goal.returns-in-Whole
returns-in-Whole c =
    let a = c.args in
    takes-whole a.count a.run.now a.at (omega arith) _ _ (sym c.at-left.ensures ∙ c.in_ok-region.ensures.steps) a.part a.page _ _
    c.alike-more.ensures.0 c.alike-more.ensures.1 c.in-Whole.is c.after.ensures

pub returns : goal.returns
returns c =
    let a = c.args in
    takes_part a.count a.run.now a.at (omega arith) _ _ (sym c.at-left.ensures ∙ c.in_ok-region.ensures.steps) a.part a.page _ _
    c.part_chain-chain.ensures c.after-2.ensures
