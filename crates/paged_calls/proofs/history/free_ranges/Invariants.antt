use mathlib.Core.Path.{◌≡◌}
use Rattle.std.specs.Slice.Iter.{chunks_exact_rest, chunks_exact_size}
use Rattle.free_lists.specs.Lists.{lists_in}
use Rattle.free_lists.specs.History.{lists_after, empty_lists}
use Rattle.paged_lists.specs.PagedHistory.{on_shared}
use Rattle.paged_calls.specs.Encoding.{frees_of, runs_of}
use Rattle.paged_calls.proofs.history.free_ranges.Given as goal

abbrev pub invariant-loop-range : goal.invariant-loop-range
invariant-loop-range l =
    (chunks_exact_size l.range-iterator ≡ 2)
    × (lists_after (on_shared (frees_of l.frees)) (empty_lists (runs_of l.initial.metadata l.initial.raw l.initial.unclassified)) ≡ lists_after (on_shared (frees_of (chunks_exact_rest l.range-iterator))) (lists_in l.metadata l.raw l.unclassified l.lists))
