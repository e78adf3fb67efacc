-- The premises of the claim can be met. Assumes nothing.
--   strict_manager   three sections, written at offset size 2, are read strictly with base 5; so the caller's tests are passed (whole-manager), and
--                    the loose reading gives the same (loose_manager)
--   strict_image     the image that a save of one region leaves is read strictly into a run of one pair; so it is read loosely (loose_image)
use mathlib.Core.Path.{◌≡◌}
use Prim.Native.Nat.{ℕ}
use native.Mathlib.Omega.{arith}
use mathlib.Core.List.{List, [], ◌∷◌}
use Rattle.error.specs.Outcome.{answer}
use Rattle.error.specs.Lent.{with}
use Rattle.fsm_sections.specs.declared.FreeSection.{FreeSection}
use Rattle.fsm_sections.specs.Sections.{section}
use Rattle.fsm_blocks.specs.declared.checks.Reading.TheVariants.{Loose, Strict}
use Rattle.fsm_blocks.specs.Reading.{read_manager}
use Rattle.fsm_writer.proofs.RoundTripCase.{bytes, read}
use Rattle.image.specs.Reading.{image_into}
use Rattle.save.specs.EveryCut.{store_count, image_after}
use Rattle.save.proofs.Instance.{one, counts, read as image-read}
use Rattle.strict_reading.specs.StrictReading.{WholeManager}
use Rattle.strict_reading.proofs.StrictReadingLaws.{strict_reading}

abbrev sections : List FreeSection
sections = section 9 2 ∷ section 300 16 ∷ section 300 16 ∷ []

strict_manager : read_manager Strict 2 5 10 bytes ≡ answer sections
strict_manager = read Strict

both : (read_manager Loose 2 5 10 bytes ≡ answer sections) × WholeManager 2 5 10 bytes
both = (strict_reading.exact 2 5 10 bytes sections (λ e. omega arith)).0 strict_manager

pub loose_manager : read_manager Loose 2 5 10 bytes ≡ answer sections
loose_manager = both.0

pub whole-manager : WholeManager 2 5 10 bytes
whole-manager = both.1

abbrev saved : List ℕ
saved = image_after one (store_count one)

strict_image : image_into Strict 0 saved (7 ∷ 7 ∷ []) ≡ answer (with counts (200 ∷ 50 ∷ []))
strict_image = image-read Strict

pub loose_image : image_into Loose 0 saved (7 ∷ 7 ∷ []) ≡ answer (with counts (200 ∷ 50 ∷ []))
loose_image = strict_reading.image-alike 0 saved (7 ∷ 7 ∷ []) (with counts (200 ∷ 50 ∷ [])) strict_image
