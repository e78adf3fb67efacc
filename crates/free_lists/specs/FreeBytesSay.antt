-- What pins `free_bytes`, whatever list (document 02, P1: "On each list that passes refusal 3, .. this is what adding all lengths would give").
-- After calls in a row, `ByHistory` (History.antt) says it of each list. Assumes nothing.
--   FreeBytesSay   the sum of the lengths of a list, and the number of its free bytes
use Rattle.std.specs.Prelude.{◌≡◌, Bool, true, List, ◌↔◌, ℕ, ◌^◌}
use Rattle.free_regions.specs.Regions.{Free, sum_of_lengths}
use Rattle.free_regions.specs.Sets.{how_many}
use Rattle.free_space.specs.declared.list.FreeList.{FreeList}
use Rattle.free_space.specs.Runs.{regions, is_list}
use Rattle.free_space.specs.Questions.{free_bytes}

pub record FreeBytesSay (xs : List ℕ) (l : FreeList) : Type 0 where
  pub sum : is_list xs l ≡ true → free_bytes l ≡ sum_of_lengths (regions xs l)
  -- by any test that tells which bytes are free
  pub bytes : is_list xs l ≡ true → (free : ℕ → Bool) → ((b : ℕ) → Free (regions xs l) b ↔ (free b ≡ true)) → free_bytes l ≡ how_many (2 ^ 64) free
