use Rattle.fsm_blocks.specs.declared.checks.Reading.TheVariants.{Loose, Strict}
use Rattle.fsm_blocks.specs.Reading.{persisted}
use Rattle.strict_reading.proofs.AlikeLaws.{persisted-alike, alike}
use Rattle.strict_reading.proofs.read_sections_both.Goals as goal

pub returns : goal.returns
returns c =
    let a = c.args in
    let s = a.slots.now in
    let b = a.bytes.now in
    record {
      strict = c.read_persisted_sections_strict.ensures;
      loose = c.read_persisted_sections.ensures;
      alike = alike (persisted Strict s a.base.0 a.offset_size b) (persisted Loose s a.base.0 a.offset_size b) (persisted-alike s a.base.0 a.offset_size b) _ _ _ _ _ _
          c.read_persisted_sections_strict.ensures c.read_persisted_sections.ensures;
    }
