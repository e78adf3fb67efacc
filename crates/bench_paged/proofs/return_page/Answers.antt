use mathlib.Core.Path.{ap, ◌∙◌}
use Rattle.free_lists.specs.declared.calls.Which.TheVariants.{Unclassified}
use Rattle.free_lists.specs.declared.calls.ListCall.TheVariants.{Free}
use Rattle.free_lists.specs.History.{on, next, lists_after}
use Rattle.bench_paged.proofs.return_page.Goals as goal

pub returns : goal.returns
unfolding lists_after
returns c =
    let a = c.args in
    c.apply-given.ensures.lists ∙ ap (next (on Unclassified (Free a.addr a.page))) c.apply-taken.ensures.lists
