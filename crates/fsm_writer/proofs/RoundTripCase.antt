-- The premises of the round trip can be met: three sections, one of them twice, at offset size 2. Assumes nothing.
--   run             the sections (300, 16), (9, 2) and (300, 16)
--   header, list    their blocks as the serializers write them, for the addresses 10 and 100
--   bytes           bytes in which both stand, with base 5
--   read            what they read as, loosely and strictly
use mathlib.Core.Path.{◌≡◌, refl}
use Prim.Native.Nat.{ℕ}
use native.Mathlib.Omega.{arith}
use mathlib.Core.List.{List, [], ◌∷◌, ◌++◌}
use lib.Dec.{lit<}
use lib.ListN.{take, replicate}
use Rattle.error.specs.Outcome.{answer, first_of, and_then}
use Rattle.error.specs.Lent.{with}
use Rattle.fields.specs.Le.{le_bytes}
use Rattle.fields.specs.Layout.{layout}
use Rattle.fields.specs.Width.{least_from, enc_size}
use Rattle.checksum.specs.Lookup3.{add32, sub32, xor32, rotl32, mixed, finished, block_added, gained, byte_added, tail_added, ending, hash_from, hash_of, lookup3}
use Rattle.fsm_sections.specs.Sections.{section, decode, space, of_size, distinct, insert, by_size_then_addr, push, groups_of}
use Rattle.fsm_blocks.specs.Groups.{entry_bytes, group_bytes}
use Rattle.fsm_blocks.specs.Fshd.{fshd_bytes}
use Rattle.fsm_blocks.specs.Fsse.{fsse_bytes}
use Rattle.fsm_blocks.specs.Settings.{starting_set, header_for, fsse_for}
use Rattle.fsm_blocks.specs.declared.checks.Reading.{Reading}
use Rattle.fsm_blocks.specs.Reading.{read_manager}
use Rattle.fsm_writer.specs.Serializing.{of_run, written_fshd, written_fsse}
use Rattle.fsm_writer.specs.RoundTrip.{Standing}
use Rattle.fsm_writer.proofs.RoundTripLaws.{round_trip}

abbrev run : List ℕ
run = 300 ∷ 16 ∷ 9 ∷ 2 ∷ 300 ∷ 16 ∷ []

abbrev header : List ℕ
header = fshd_bytes lookup3 2 (header_for 2 (starting_set 2) 100 (decode 3 run))

abbrev list : List ℕ
list = fsse_for 2 (starting_set 2) lookup3 10 1 (decode 3 run)

abbrev pub bytes : List ℕ
bytes = replicate 15 0 ++ (header ++ (replicate 14 0 ++ list))

header-written : written_fshd 2 run 3 100 (replicate 76 0) ≡ answer (with 76 header)
unfolding written_fshd of_run first_of and_then space fshd_bytes layout le_bytes least_from enc_size of_size distinct add32 sub32 xor32 rotl32 mixed finished block_added gained byte_added tail_added ending hash_from hash_of lookup3
header-written = refl

list_written : written_fsse 2 run 3 10 1 (replicate 38 0) ≡ answer (with 38 list)
unfolding written_fsse of_run first_of and_then space fsse_bytes layout le_bytes least_from enc_size of_size distinct insert by_size_then_addr push groups_of entry_bytes group_bytes add32 sub32 xor32 rotl32 mixed finished block_added gained byte_added tail_added ending hash_from hash_of lookup3
list_written = refl

standing : Standing 2 (decode 3 run) 10 100 (take 76 header) (take 38 list) 5 bytes
unfolding space fshd_bytes fsse_bytes layout le_bytes least_from enc_size of_size distinct insert by_size_then_addr push groups_of entry_bytes group_bytes add32 sub32 xor32 rotl32 mixed finished block_added gained byte_added tail_added ending hash_from hash_of lookup3
standing = record {
  short = lit< tt;
  fshd_defined = λ e. omega arith;
  fsse_defined = λ e. omega arith;
  header_there = refl;
  list-there = refl;
}

pub read : (how : Reading) → read_manager how 2 5 10 bytes ≡ answer (section 9 2 ∷ section 300 16 ∷ section 300 16 ∷ [])
unfolding insert by_size_then_addr
read how = (round_trip 2 run 3 10 100 1 (replicate 76 0) (replicate 38 0) 76 38 header list (lit< tt) header-written list_written).manager_read how 5 bytes standing
