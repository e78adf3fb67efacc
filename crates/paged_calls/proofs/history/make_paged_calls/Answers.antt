use lib.ListN.{length}
use Rattle.paged_calls.specs.Encoding.{frees_of, paged_calls_of, runs_of}
use Rattle.paged_calls.proofs.HistoryLaws.{begun-is, shown}
use Rattle.paged_calls.proofs.history.make_paged_calls.Goals as goal

pub returns : goal.returns
returns c =
    let a = c.args in
    let m = a.metadata.now in
    let r = a.raw.now in
    let u = a.unclassified.now in
    let ms = a.marks.now in
    shown a.page (runs_of m r u) (length ms) (frees_of a.frees.now) (paged_calls_of a.calls.now) _ _
    (begun-is m r u a.frees.now ms _ _ c.free_ranges-lists.ensures (c.fill.ensures.after (λ y e. e))) c.make_in_pages.ensures
