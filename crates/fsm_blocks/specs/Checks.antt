-- What a reading tests of a block before it parses it: a loose one nothing, a strict one what its caller had to test (document 02, P5: "Callers
-- had to run `verify_trailing` and compare the back address themselves. A strict read does it"). Assumes nothing.
-- In quotes: P5's words. "in a strict read this order replaces lowest number first": the conditions stand in the order of the tests.
--   wrong_byte     16 with a byte that is not as it should be ("16, wrong version or client, with the byte")
--   block_checks   of either block, of some size and with two letters after F and S: "It tests length and signature, then version 0"
--   fshd_checks    of the bytes from a header's first on: these, "and client 1, the checksum of FSHD", which goes over its 74+O bytes
--   fsse_checks    of the used bytes of the section list that the header at `slot` names: "then the same for FSSE over its used length, without
--                  client, its back address against the slot's number". Both numbers are as stored: the base is added to neither
use Rattle.std.specs.Prelude.{ℕ, ◌+◌, not, List, [], ◌∷◌, ◌++◌, eqb, take}
use Rattle.error.specs.declared.Refusal.TheVariants.{VersionOrClient, BackAddress}
use Rattle.error.specs.Outcome.{Condition, when}
use Rattle.fields.specs.Layout.{le_at}
use Rattle.checksum.specs.Trailing.{wrong_sum}
use Rattle.fsm_blocks.specs.declared.checks.Reading.{Reading}
use Rattle.fsm_blocks.specs.declared.checks.Reading.TheVariants.{Loose, Strict}
use Rattle.fsm_blocks.specs.Fshd.{fshd_size, beginning}

abbrev pub wrong_byte : ℕ → ℕ → Condition
wrong_byte expected byte = when (not (eqb byte expected)) (VersionOrClient byte)

abbrev pub block_checks : ℕ → ℕ → ℕ → List ℕ → List Condition
block_checks size c d bs = beginning size c d bs ++ (wrong_byte 0 (le_at 4 1 bs) ∷ [])

abbrev pub fshd_checks : Reading → ℕ → List ℕ → List Condition
fshd_checks Loose O bs = []
fshd_checks Strict O bs = block_checks (fshd_size O) 72 68 bs ++ (wrong_byte 1 (le_at 5 1 bs) ∷ wrong_sum (take (fshd_size O) bs) ∷ [])

abbrev pub fsse_checks : Reading → ℕ → ℕ → List ℕ → List Condition
fsse_checks Loose O slot bs = []
fsse_checks Strict O slot bs = block_checks (9 + O) 83 69 bs ++ (wrong_sum bs ∷ when (not (eqb (le_at 5 O bs) slot)) BackAddress ∷ [])
