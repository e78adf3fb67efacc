use Prim.Native.Nat.{ℕ}
use mathlib.Core.Path.{ap, ap₂, ◌∙◌}
use Rattle.free_lists.specs.declared.calls.Which.TheVariants.{Metadata}
use Rattle.free_lists.specs.declared.calls.ListCall.TheVariants.{Free}
use Rattle.error.specs.Outcome.{sat}
use Rattle.free_lists.specs.Lists.{lists_in}
use Rattle.free_lists.specs.History.{on, next, lists_after}
use Rattle.bench_paged.proofs.fill_page.Goals as goal

pub returns : goal.returns
unfolding lists_after sat
returns c =
    let a = c.args in
    c.apply-filled.ensures.lists
    ∙ ap (next (on Metadata (Free a.addr a.len))) (c.apply-joined.ensures.lists
    ∙ ap₂ (λ (p n : ℕ). next (on Metadata (Free p n)) (lists_in a.metadata.now a.raw.now a.unclassified.now a.lists))
    c.saturating_add.ensures c.saturating_sub.ensures)
