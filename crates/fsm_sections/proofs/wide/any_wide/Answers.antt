use Rattle.std.proofs.Common.{rules}
use Rattle.std.proofs.lemmas.Iterator.Consumers.{YieldsList-from_first}
use Rattle.std.proofs.lemmas.Iterator.Search.{any_from_yields_List}
use Rattle.fsm_sections.specs.Runs.{wide}
use Rattle.fsm_sections.specs.RunSteps.{regions_left}
use Rattle.fsm_sections.proofs.wide.any_wide.Goals as goal

pub returns : goal.returns
returns c =
    let a = c.args in
    any_from_yields_List (λ s. wide a.o s.addr) c.any.new.self _ _ c.any.ensures.ran
    (YieldsList-from_first (λ x. x) regions_left _ c.new.ensures) (λ x b q k. search rules)
