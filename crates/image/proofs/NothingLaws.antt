-- The reading of an image ends in its sections or a refusal, never in Nothing. Assumes nothing.
use mathlib.Core.Path.{◌≡◌, subst}
use mathlib.Core.List.{List}
use Prim.Native.Nat.{ℕ}
use Rattle.error.specs.Outcome.{nothing}
use Rattle.file_space_info.specs.Message.{fixed_read}
use Rattle.fsm_blocks.specs.declared.checks.Reading.{Reading}
use Rattle.fsm_blocks.proofs.NothingLaws.{NotNothing, first_ends, then_ends, slots_end}
use Rattle.image.specs.Reading.{read_image}

pub read-image : (how : Reading) (place : ℕ) (image : List ℕ) → read_image how place image ≡ nothing → ⊥
unfolding read_image fixed_read
read-image how place image e = subst NotNothing e (then_ends _ _ (first_ends _ _ tt) (λ m. slots_end how 8 0 _ image))
