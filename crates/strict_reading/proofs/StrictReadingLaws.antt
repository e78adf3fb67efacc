-- The claim of document 02's P5. Assumes nothing.
use Rattle.fsm_blocks.specs.declared.checks.Reading.TheVariants.{Strict}
use Rattle.fsm_blocks.proofs.AlikeLaws.{slots-alike}
use Rattle.fsm_writer.proofs.RoundTripLaws.{round_trip}
use Rattle.stored_managers.proofs.StoredLaws.{stored_plan}
use Rattle.save.proofs.AfterCallsLaws.{every-cut-after-calls}
use Rattle.strict_reading.specs.StrictReading.{StrictReading}
use Rattle.strict_reading.proofs.ExactLaws.{whole, strictly}
use Rattle.strict_reading.proofs.AlikeLaws.{persisted-alike, image-alike}

pub strict_reading : StrictReading
strict_reading = record {
  exact = λ O base slot bytes l some. (whole O base slot bytes l some, strictly O base slot bytes l some);
  slots-alike = λ O base slots bytes. slots-alike Strict O base bytes slots;
  persisted-alike = persisted-alike;
  image-alike = image-alike;
  written = round_trip;
  stored = stored_plan;
  saved = every-cut-after-calls;
}
