use mathlib.Core.Path.{ap, ◌∙◌}
use borrow.Author.Rules.{rules}
use Rattle.std.specs.Prelude.{Ok}
use Rattle.free_lists.specs.declared.calls.Answer.TheVariants.{Nothing}
use Rattle.free_lists.specs.declared.FileLists.{FileLists}
use Rattle.paged_lists.specs.PagedCalls.{paged_in}
use Rattle.bench_paged.specs.Rounds.{paged_round}
use Rattle.bench_paged.proofs.RoundLaws.{paged_seen, paged-freed}
use Rattle.bench_paged.proofs.bench_paged.Goals as goal

pub returns-in-Ok-At : goal.returns-in-Ok-At
returns-in-Ok-At c =
    let a = c.args in
    paged-freed a.page a.len (paged_in a.metadata.now a.raw.now a.unclassified.now a.marks.now c.records_in-lists.result) _ c.alloc-made.result.answer c.alloc-made.ensures c.in-Ok-At.addr (search rules) _ _ c.free.ensures
    ∙ ap (λ (f : FileLists). paged_round a.page a.len (paged_in a.metadata.now a.raw.now a.unclassified.now a.marks.now f)) c.records_in-lists.ensures

pub returns-in-Ok-Nothing : goal.returns-in-Ok-Nothing
returns-in-Ok-Nothing c =
    let a = c.args in
    paged_seen a.page a.len (paged_in a.metadata.now a.raw.now a.unclassified.now a.marks.now c.records_in-lists.result) _ c.alloc-made.result.answer c.alloc-made.ensures (Ok Nothing) (search rules)
    ∙ ap (λ (f : FileLists). paged_round a.page a.len (paged_in a.metadata.now a.raw.now a.unclassified.now a.marks.now f)) c.records_in-lists.ensures

pub returns-in-Err : goal.returns-in-Err
returns-in-Err c =
    let a = c.args in
    paged_seen a.page a.len (paged_in a.metadata.now a.raw.now a.unclassified.now a.marks.now c.records_in-lists.result) _ c.alloc-made.result.answer c.alloc-made.ensures _ c.in-Err.is
    ∙ ap (λ (f : FileLists). paged_round a.page a.len (paged_in a.metadata.now a.raw.now a.unclassified.now a.marks.now f)) c.records_in-lists.ensures
