use Rattle.std.proofs.Common.{refl, rules}
use Rattle.fsm_sections.proofs.RowLaws.{rows-none, row_part, row-whole, row-less}
use Rattle.fsm_sections.proofs.run.RowsIterator.next.Goals as goal

pub returns-in_err-region-clause-steps : goal.returns-in_err-region-clause-steps
returns-in_err-region-clause-steps c =
    let s = c.args.self.now in rw c.from_residual.ensures (rows-none s.part s.page _ c.in_err-region.ensures.steps.0)

pub returns-in-Whole-clause-steps : goal.returns-in-Whole-clause-steps
returns-in-Whole-clause-steps c =
    let s = c.args.self.now in
    row-whole _ _ _ c.in_ok-region.ensures.steps s.part s.page c.alike-more.result c.next.new.self.run.now c.alike-more.ensures.0 c.alike-more.ensures.1 refl c.in-Whole.is

pub returns-in-Whole-clause-goes : goal.returns-in-Whole-clause-goes
returns-in-Whole-clause-goes c =
    let s = c.args.self.now in
    let less = row-less _ _ _ c.in_ok-region.ensures.steps s.part s.page c.alike-more.result c.next.new.self.run.now c.alike-more.ensures.0 c.alike-more.ensures.1 refl in
    search rules

pub returns-clause-steps : goal.returns-clause-steps
returns-clause-steps c =
    let s = c.args.self.now in
    row_part _ _ _ c.in_ok-region.ensures.steps s.part s.page _ c.part_chain-chain.ensures
