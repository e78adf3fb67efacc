-- The premises of the claim can be met, up to the last address: one unclassified region at offset size 1, its FSSE at 254. Assumes nothing.
--   planned-last    the plan from 179 on is accepted: FSHD at 179, FSSE at 254
--   planned-past    from 180 on it is refused: FSSE would begin at 255, which every reader skips
--   bytes           bytes in which the blocks stand, with base 7
--   read            what they read as, loosely and strictly
use mathlib.Core.Path.{◌≡◌, refl}
use Prim.Native.Nat.{ℕ, ◌^◌, ◌<◌}
use mathlib.Core.List.{List, [], ◌∷◌, ◌++◌}
use lib.Dec.{lit<}
use lib.ListN.{length, replicate}
use Rattle.error.specs.declared.Refusal.TheVariants.{WideAddress}
use Rattle.error.specs.Outcome.{answer, refused, first_of, and_then}
use Rattle.fields.specs.Le.{le_bytes, le_value}
use Rattle.fields.specs.Layout.{layout, window}
use Rattle.fields.specs.Width.{least_from, enc_size}
use Rattle.checksum.specs.Lookup3.{add32, sub32, xor32, rotl32, mixed, finished, block_added, gained, byte_added, tail_added, ending, hash_from, hash_of, lookup3}
use Rattle.fsm_sections.specs.Sections.{section, space, of_size, distinct, insert, by_size_then_addr, push, groups_of}
use Rattle.fsm_sections.specs.Pages.{pieces_from, pieces, split, below_page, from_page}
use Rattle.fsm_blocks.specs.Groups.{entry_bytes, group_bytes}
use Rattle.fsm_blocks.specs.Fshd.{fshd_bytes}
use Rattle.fsm_blocks.specs.Fsse.{fsse_bytes}
use Rattle.fsm_blocks.specs.declared.checks.Reading.{Reading}
use Rattle.fsm_blocks.specs.Reading.{read_slots}
use Rattle.fsm_plan.specs.declared.Counts.{Counts}
use Rattle.fsm_plan.specs.declared.blocks.BlocksPlan.{BlocksPlan}
use Rattle.fsm_plan.specs.Order.{at_addr, repeats}
use Rattle.fsm_plan.specs.Managers.{blocks_from}
use Rattle.fsm_plan.specs.Blocks.{paged, measures_of, blocks_at, slots_measured, planned_from, planned_blocks}
use Rattle.fsm_writer.specs.Paged.{managers_bytes}
use Rattle.stored_managers.proofs.StoredLaws.{stored_plan}

abbrev run : List ℕ
run = 5 ∷ 3 ∷ []

abbrev n : Counts
n = record { meta = 0; raw = 0; unclassified = 1 }

abbrev plan : BlocksPlan
plan = blocks_at 1 179 (measures_of (paged n 4096) [] [] run 1)

planned-last : planned_blocks [] [] run n 4096 179 1 ≡ answer plan
unfolding planned_blocks slots_measured planned_from first_of and_then space at_addr repeats split pieces pieces_from below_page from_page least_from enc_size of_size distinct
planned-last = refl

pub planned-past : planned_blocks [] [] run n 4096 180 1 ≡ refused WideAddress
unfolding planned_blocks slots_measured planned_from first_of and_then space at_addr repeats split pieces pieces_from below_page from_page least_from enc_size of_size distinct
planned-past = refl

abbrev blocks : List ℕ
blocks = managers_bytes [] [] run n 4096 179 1

abbrev bytes : List ℕ
bytes = replicate 186 0 ++ blocks

there : window 186 (length blocks) bytes ≡ blocks
unfolding blocks_from split pieces pieces_from below_page from_page space fshd_bytes fsse_bytes layout le_bytes least_from enc_size of_size distinct insert by_size_then_addr push groups_of entry_bytes group_bytes add32 sub32 xor32 rotl32 mixed finished block_added gained byte_added tail_added ending hash_from hash_of lookup3
there = refl

short : length bytes < 2 ^ 64
unfolding blocks_from split pieces pieces_from below_page from_page space fshd_bytes fsse_bytes layout le_bytes least_from enc_size of_size distinct insert by_size_then_addr push groups_of entry_bytes group_bytes add32 sub32 xor32 rotl32 mixed finished block_added gained byte_added tail_added ending hash_from hash_of lookup3
short = lit< tt

pub read : (how : Reading) → read_slots how 1 7 (255 ∷ 255 ∷ 255 ∷ 255 ∷ 255 ∷ 255 ∷ 179 ∷ 255 ∷ 255 ∷ 255 ∷ 255 ∷ 255 ∷ []) bytes
    ≡ answer ([] ∷ [] ∷ [] ∷ [] ∷ [] ∷ [] ∷ (section 5 3 ∷ []) ∷ [] ∷ [] ∷ [] ∷ [] ∷ [] ∷ [])
unfolding le_bytes le_value split pieces pieces_from below_page from_page insert by_size_then_addr
read how = (stored_plan [] [] run n 4096 179 1 plan planned-last).read how 7 bytes short there
