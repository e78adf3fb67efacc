use Rattle.fsm_blocks.specs.declared.checks.Reading.TheVariants.{Loose, Strict}
use Rattle.image.specs.Reading.{image_into}
use Rattle.strict_reading.proofs.AlikeLaws.{image-alike, alike}
use Rattle.strict_reading.proofs.read_image_both.Goals as goal

pub returns : goal.returns
returns c =
    let a = c.args in
    let s = c.read_image_strict.ensures in
    let l = c.read_image.ensures in
    record { strict = s.read; loose = l.read; counted = (s.counted, l.counted); alike = alike (image_into Strict a.place a.image.now) (image_into Loose a.place a.image.now) (image-alike a.place a.image.now) _ _ _ _ _ _ s.read l.read }
