use mathlib.Core.Path.{sym, ap, ◌∙◌}
use Rattle.error.specs.Lent.{leaving}
use Rattle.fsm_blocks.specs.declared.checks.Reading.{Reading}
use Rattle.fsm_blocks.specs.Reading.{persisted}
use Rattle.image.proofs.sections_by.Goals as goal

pub returns-in-Loose : goal.returns-in-Loose
returns-in-Loose c =
    let a = c.args in
    c.read_persisted_sections.ensures
    ∙ ap (λ (how : Reading). leaving a.out.now (persisted how a.slots.now 0 8 a.image.now a.out.now)) (sym c.in-Loose.is)

pub returns-in-Strict : goal.returns-in-Strict
returns-in-Strict c =
    let a = c.args in
    c.read_persisted_sections_strict.ensures
    ∙ ap (λ (how : Reading). leaving a.out.now (persisted how a.slots.now 0 8 a.image.now a.out.now)) (sym c.in-Strict.is)
