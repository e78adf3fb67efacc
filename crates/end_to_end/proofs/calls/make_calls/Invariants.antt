use mathlib.Core.Path.{◌≡◌}
use lib.ListN.{length}
use Rattle.free_lists.specs.Lists.{lists_in}
use Rattle.free_lists.specs.History.{lists_after, empty_lists}
use Rattle.end_to_end.specs.Encoding.{calls_of, runs_of}
use Rattle.end_to_end.proofs.calls.make_calls.Given as goal

abbrev pub invariant-loop-rest : goal.invariant-loop-rest
invariant-loop-rest l =
    lists_after (calls_of l.calls) (empty_lists (runs_of l.initial.metadata l.initial.raw l.initial.unclassified)) ≡ lists_after (calls_of l.rest) (lists_in l.metadata l.raw l.unclassified l.lists)

abbrev pub decreases-loop-rest : goal.decreases-loop-rest
decreases-loop-rest l = length l.rest
