use mathlib.Core.Path.{sym, ap, ◌∙◌}
use mathlib.Core.Bool.{Bool, ◌&&◌}
use Rattle.fields.specs.Width.{valid_width}
use Rattle.file_space_info.proofs.are_widths.Goals as goal

pub returns-then-is_width : goal.returns-then-is_width
returns-then-is_width c =
    let a = c.args in
    c.is_width-then-is_width.ensures ∙ ap (λ (t : Bool). t && valid_width a.length_size) (sym c.if-is_width.true ∙ c.is_width.ensures)

pub returns-else-is_width : goal.returns-else-is_width
returns-else-is_width c =
    let a = c.args in
    c.if-is_width.false ∙ ap (λ (t : Bool). t && valid_width a.length_size) (sym c.if-is_width.false ∙ c.is_width.ensures)
