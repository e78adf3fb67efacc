use Rattle.std.proofs.Common.{ltb, sym, ◌∙◌, rules}
use Rattle.std.proofs.lemmas.Iterator.Consumers.{YieldsList-from_first}
use Rattle.std.proofs.lemmas.Iterator.Search.{any_from_yields_List}
use Rattle.fields.specs.Ranges.{top}
use Rattle.fsm_sections.specs.Sections.{decode}
use Rattle.fsm_sections.specs.Pages.{end}
use Rattle.fsm_sections.specs.RunSteps.{regions_left}
use Rattle.fsm_sections.proofs.AnyLaws.{ends_any}
use Rattle.fsm_plan.proofs.runs.any_late.Goals as goal

pub returns : goal.returns
returns c =
    let a = c.args in
    any_from_yields_List (λ r. ltb top (end r)) c.any.new.self _ _ c.any.ensures.ran
    (YieldsList-from_first (λ x. x) regions_left _ c.new.ensures) (λ x b q k. search rules)
    ∙ sym (ends_any (decode a.n a.run.now))
