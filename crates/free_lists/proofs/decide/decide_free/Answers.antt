use Rattle.free_space.specs.Decisions.{Keeps}
use Rattle.free_lists.specs.Decided.{freed_together}
use Rattle.free_lists.proofs.DecidedLaws.{free_turns, by_turns}
use Rattle.free_lists.proofs.decide.decide_free.Goals as goal

pub returns-clause-decided : goal.returns-clause-decided
returns-clause-decided c =
    let a = c.args in
    let d = c.free.result in
    by_turns a.metadata.now a.raw.now a.unclassified.now a.lists (λ ls i. Keeps (ls i).run (ls i).list (freed_together ls i a.addr a.len) d)
    (free_turns a.addr a.len d) a.which _ c.turned.ensures c.free.ensures.decided
