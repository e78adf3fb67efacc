use Rattle.std.proofs.Common.{length, ap, rules}
use Rattle.fsm_sections.proofs.RunStepLaws.{regions-some}
use Rattle.fsm_sections.proofs.run.RegionsIterator.next.Goals as goal

pub slice_bounds-self-count : goal.slice_bounds-self-count
slice_bounds-self-count c = (regions-some c.args.self.now.run.now _ c.in_ok-region.ensures).0

pub slice_bounds-self-start : goal.slice_bounds-self-start
slice_bounds-self-start c = (regions-some c.args.self.now.run.now _ c.in_ok-region.ensures).0

pub returns-clause-steps : goal.returns-clause-steps
returns-clause-steps c = (regions-some c.args.self.now.run.now _ c.in_ok-region.ensures).1

pub returns-clause-goes : goal.returns-clause-goes
returns-clause-goes c =
    let fewer = ap length (regions-some c.args.self.now.run.now _ c.in_ok-region.ensures).1 in
    search rules
