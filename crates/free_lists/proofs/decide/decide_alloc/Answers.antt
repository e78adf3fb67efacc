use Rattle.free_space.specs.Decisions.{Gives}
use Rattle.free_lists.specs.Decided.{allocated_together}
use Rattle.free_lists.proofs.DecidedLaws.{alloc_turns, by_turns}
use Rattle.free_lists.proofs.decide.decide_alloc.Goals as goal

pub returns : goal.returns
returns c =
    let a = c.args in
    let d = c.alloc.result in
    by_turns a.metadata.now a.raw.now a.unclassified.now a.lists (λ ls i. Gives (ls i).run (ls i).list (allocated_together ls i a.len) d)
    (alloc_turns a.len d) a.which _ c.turned.ensures c.alloc.ensures
