use mathlib.Core.Path.{◌≡◌}
use Rattle.std.specs.Slice.Iter.{chunks_exact_rest, chunks_exact_size}
use Rattle.paged_lists.specs.PagedCalls.{paged_in}
use Rattle.paged_lists.specs.PagedHistory.{paged_after}
use Rattle.paged_calls.specs.Encoding.{paged_calls_of}
use Rattle.paged_calls.proofs.history.make_in_pages.Given as goal

abbrev pub invariant-loop-row : goal.invariant-loop-row
invariant-loop-row l =
    (chunks_exact_size l.row-iterator ≡ 4)
    × (paged_after l.page (paged_calls_of l.calls) (paged_in l.initial.metadata l.initial.raw l.initial.unclassified l.initial.marks l.initial.lists)
    ≡ paged_after l.page (paged_calls_of (chunks_exact_rest l.row-iterator)) (paged_in l.metadata l.raw l.unclassified l.marks l.lists))
