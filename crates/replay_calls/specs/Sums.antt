-- The calls of the checksum, in the replay of recorded calls. Assumes nothing.
--   lookup3_call      the line that answers `lookup3 bytes`: the checksum of the bytes
--   hashlittle_call   that of `hashlittle initval bytes`: their hash, for an initval of 32 bits
--   verify_call       that of `verify bytes`: the test of a checksum at their end
use Rattle.std.specs.Prelude.{ℕ, cond, List, length, ◌==◌, nat_lt, slice_index}
use Rattle.checksum.specs.Lookup3.{lookup3, hash_of}
use Rattle.checksum.specs.Trailing.{trailing}
use Rattle.text.specs.Text.{word}
use Rattle.replay_lines.specs.Words.{bad_line, checked_text}

abbrev pub lookup3_call : List ℕ → List ℕ → List ℕ
lookup3_call args bytes = cond (length args == 0) (word (lookup3 bytes) 10) bad_line

abbrev pub hashlittle_call : List ℕ → List ℕ → List ℕ
hashlittle_call args bytes =
    cond (length args == 1) (cond (nat_lt 4294967295 (slice_index args 0)) bad_line (word (hash_of bytes (slice_index args 0)) 10)) bad_line

abbrev pub verify_call : List ℕ → List ℕ → List ℕ
verify_call args bytes = cond (length args == 0) (checked_text (trailing bytes)) bad_line
