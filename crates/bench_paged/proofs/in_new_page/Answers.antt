use mathlib.Core.Path.{ap, ◌∙◌}
use borrow.Author.Rules.{rules}
use Rattle.std.specs.Prelude.{Ok}
use Rattle.free_lists.specs.declared.calls.Answer.TheVariants.{At, Nothing}
use Rattle.error.specs.Lent.{with}
use Rattle.free_lists.specs.declared.calls.Which.TheVariants.{Unclassified}
use Rattle.free_lists.specs.declared.calls.ListCall.TheVariants.{AllocWholeUnits}
use Rattle.free_lists.specs.Lists.{Lists, lists_in}
use Rattle.bench_paged.specs.Rounds.{runs_of, in_new_page}
use Rattle.bench_paged.proofs.RoundLaws.{list_seen}
use Rattle.bench_paged.proofs.in_new_page.Goals as goal

pub returns-in-Ok-At : goal.returns-in-Ok-At
returns-in-Ok-At c =
    let a = c.args in
    let p = c.in-Ok-At.addr in
    ap (λ (ls : Lists). with p (runs_of ls)) c.fill_and_return.ensures
    ∙ list_seen (lists_in a.metadata.now a.raw.now a.unclassified.now a.lists) _ c.apply-made.result.answer Unclassified (AllocWholeUnits a.page a.page)
    c.apply-made.ensures.answer c.apply-made.ensures.lists (in_new_page a.page a.len) (Ok (At c.in-Ok-At.addr)) (search rules)

pub returns-in-Ok-Nothing : goal.returns-in-Ok-Nothing
returns-in-Ok-Nothing c =
    let a = c.args in
    list_seen (lists_in a.metadata.now a.raw.now a.unclassified.now a.lists) _ c.apply-made.result.answer Unclassified (AllocWholeUnits a.page a.page)
    c.apply-made.ensures.answer c.apply-made.ensures.lists (in_new_page a.page a.len) (Ok Nothing) (search rules)

pub returns-in-Err : goal.returns-in-Err
returns-in-Err c =
    let a = c.args in
    list_seen (lists_in a.metadata.now a.raw.now a.unclassified.now a.lists) _ c.apply-made.result.answer Unclassified (AllocWholeUnits a.page a.page)
    c.apply-made.ensures.answer c.apply-made.ensures.lists (in_new_page a.page a.len) _ c.in-Err.is
