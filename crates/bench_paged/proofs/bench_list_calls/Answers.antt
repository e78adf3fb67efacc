use mathlib.Core.Path.{ap, ◌∙◌}
use borrow.Author.Rules.{rules}
use Rattle.std.specs.Prelude.{Ok}
use Rattle.free_lists.specs.declared.calls.Answer.TheVariants.{At, Nothing}
use Rattle.error.specs.Lent.{with}
use Rattle.free_lists.specs.declared.FileLists.{FileLists}
use Rattle.free_lists.specs.declared.calls.Which.TheVariants.{Metadata}
use Rattle.free_lists.specs.declared.calls.ListCall.TheVariants.{Alloc}
use Rattle.free_lists.specs.Lists.{Lists, lists_in}
use Rattle.bench_paged.specs.Rounds.{runs_of, in_own_list, list_round}
use Rattle.bench_paged.proofs.RoundLaws.{list_seen}
use Rattle.bench_paged.proofs.bench_list_calls.Goals as goal

pub returns-in-Ok-At : goal.returns-in-Ok-At
returns-in-Ok-At c =
    let a = c.args in
    let f = c.records_in-lists in
    ap (λ (ls : Lists). with c.in-Ok-At.addr (runs_of ls)) c.apply.ensures.lists
    ∙ list_seen (lists_in a.metadata.now a.raw.now a.unclassified.now f.result) _ c.apply-made.result.answer Metadata (Alloc a.len)
    c.apply-made.ensures.answer c.apply-made.ensures.lists (in_own_list a.page a.len) (Ok (At c.in-Ok-At.addr)) (search rules)
    ∙ ap (λ (r : FileLists). list_round a.page a.len (lists_in a.metadata.now a.raw.now a.unclassified.now r)) f.ensures

pub returns-in-Ok-Nothing : goal.returns-in-Ok-Nothing
returns-in-Ok-Nothing c =
    let a = c.args in
    let f = c.records_in-lists in
    c.in_new_page.ensures
    ∙ list_seen (lists_in a.metadata.now a.raw.now a.unclassified.now f.result) _ c.apply-made.result.answer Metadata (Alloc a.len)
    c.apply-made.ensures.answer c.apply-made.ensures.lists (in_own_list a.page a.len) (Ok Nothing) (search rules)
    ∙ ap (λ (r : FileLists). list_round a.page a.len (lists_in a.metadata.now a.raw.now a.unclassified.now r)) f.ensures

pub returns-in-Err : goal.returns-in-Err
returns-in-Err c =
    let a = c.args in
    let f = c.records_in-lists in
    list_seen (lists_in a.metadata.now a.raw.now a.unclassified.now f.result) _ c.apply-made.result.answer Metadata (Alloc a.len)
    c.apply-made.ensures.answer c.apply-made.ensures.lists (in_own_list a.page a.len) _ c.in-Err.is
    ∙ ap (λ (r : FileLists). list_round a.page a.len (lists_in a.metadata.now a.raw.now a.unclassified.now r)) f.ensures
