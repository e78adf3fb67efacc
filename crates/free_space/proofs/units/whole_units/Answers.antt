use Rattle.std.proofs.Common.{ap, ◌∙◌}
use Rattle.std.specs.Prelude.{Option, Ok}
use Rattle.free_regions.specs.declared.Whole.{Whole}
use Rattle.free_regions.proofs.InteriorLaws.{interior-tells}
use Rattle.free_space.proofs.units.whole_units.Goals as goal

pub returns-in-Ok-Some : goal.returns-in-Ok-Some
returns-in-Ok-Some c = λ fits.
    let s = c.in-Ok-Some in
    interior-tells _ _ _ _ fits c.aligned_interior.ensures (s.is ∙ ap (λ (w : Option Whole). Ok w) s.field-0-is)

pub returns-in-Ok-None : goal.returns-in-Ok-None
returns-in-Ok-None c = λ fits.
    let s = c.in-Ok-None in
    interior-tells _ _ _ _ fits c.aligned_interior.ensures (s.is ∙ ap (λ (w : Option Whole). Ok w) s.field-0-is)

pub returns-in-Err : goal.returns-in-Err
returns-in-Err c = λ fits. interior-tells _ _ _ _ fits c.aligned_interior.ensures c.in-Err.is
