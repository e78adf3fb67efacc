use mathlib.Core.Path.{ap, ◌∙◌}
use Rattle.holes_text.specs.Listing.{refused_text}
use Rattle.holes_text.proofs.HolesLaws.{printed_as, text_longer, text_refused, text_listed}
use Rattle.holes_text.proofs.print.Goals as goal

pub returns-then-image-gt-IMAGE_LIMIT : goal.returns-then-image-gt-IMAGE_LIMIT
returns-then-image-gt-IMAGE_LIMIT c =
    let a = c.args in
    printed_as a.out.now c.write_refusal.ensures
    (ap refused_text c.number.ensures ∙ text_longer a.image.now c.if-image-gt-IMAGE_LIMIT.true)

pub returns-in-Err : goal.returns-in-Err
returns-in-Err c =
    let a = c.args in
    printed_as a.out.now c.write_refusal-in-Err.ensures
    (ap refused_text c.number-in-Err.ensures
    ∙ text_refused c.lent_run-run.result c.lent_run-run.ensures a.image.now c.if-image-gt-IMAGE_LIMIT.false c.read_image-read.result _ c.read_image-read.ensures.read _ c.in-Err.is)

pub returns-in-Ok : goal.returns-in-Ok
returns-in-Ok c =
    let a = c.args in
    printed_as a.out.now c.write_listing.ensures
    (text_listed c.lent_run-run.result c.lent_run-run.ensures a.image.now c.if-image-gt-IMAGE_LIMIT.false c.read_image-read.result _ c.read_image-read.ensures.read c.in-Ok.is)
