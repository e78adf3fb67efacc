-- The checksum at the end of a block. Assumes nothing.
--   body       a block without its last four bytes, over which its checksum is taken (HDF5 File Format Specification, III.H)
--   stored     the checksum that the last four bytes spell
--   wrong_sum  the stored checksum is not the computed one: refusal 11 with both
--   trailing   `verify_trailing`: refusal 7 (expected 4), then refusal 11 (document 01, "Blocks on file": "`verify_trailing` is the separate test: 7 (expected
--              4), then 11")
use Rattle.std.specs.Prelude.{ℕ, ◌-◌, not, List, [], ◌∷◌, length, take, drop, ◌==◌, nat_lt}
use Rattle.error.specs.declared.Refusal.TheVariants.{Short, Checksum}
use Rattle.error.specs.Outcome.{Outcome, answer, Condition, when, first_of}
use Rattle.fields.specs.Le.{le_value}
use Rattle.checksum.specs.Lookup3.{lookup3}

abbrev pub body : List ℕ → List ℕ
body block = take (length block - 4) block

abbrev pub stored : List ℕ → ℕ
stored block = le_value (drop (length block - 4) block)

abbrev pub wrong_sum : List ℕ → Condition
wrong_sum block = when (not (stored block == lookup3 (body block))) (Checksum (stored block) (lookup3 (body block)))

unfoldable pub trailing : List ℕ → Outcome (Unit {0})
trailing block = first_of (when (nat_lt (length block) 4) (Short 4 (length block)) ∷ wrong_sum block ∷ []) (answer tt)
