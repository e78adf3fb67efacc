-- Demand 3 with paged calls among the list calls, from demand 3 of the list calls that they count as. Assumes nothing.
use mathlib.Core.Path.{◌≡◌, subst⁻¹}
use Rattle.error.specs.Outcome.{answer}
use Rattle.error.specs.Lent.{with}
use Rattle.free_lists.specs.Lists.{Lists, regions_in}
use Rattle.free_lists.specs.History.{empty_lists, free_by_history}
use Rattle.paged_lists.specs.Steps.{all_calls_of}
use Rattle.paged_lists.proofs.PagedLaws.{counts_as_calls}
use Rattle.save.specs.Saving.{begun}
use Rattle.save.specs.EveryCut.{one_save, EveryCut}
use Rattle.save.proofs.AfterCallsLaws.{every-cut-after-calls}
use Rattle.end_to_end.specs.AfterSteps.{begun_empty, EveryCutAfterSteps}

pub every-cut-after-steps : EveryCutAfterSteps
every-cut-after-steps runs ms steps page start place image scratch save lent p64 s64 =
    let cs = all_calls_of steps (begun_empty runs ms) in
    subst⁻¹ (λ (ls : Lists). begun ls page start place image scratch ≡ answer (with save lent)
    → EveryCut (one_save (regions_in ls) page start place image save lent) (free_by_history cs (empty_lists runs)) (begun ls page start place))
    (counts_as_calls steps (begun_empty runs ms)) (every-cut-after-calls runs cs page start place image scratch save lent p64 s64)
