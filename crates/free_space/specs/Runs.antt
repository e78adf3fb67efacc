-- A lent run of numbers as a list of regions, and the run that holds a list of regions (document 01, "The list": "A list is a lent run of
-- 64-bit numbers, address then length, and a count"). Assumes nothing.
-- In quotes: document 01's words, from "The list" or from the refusal of that number.
--   region_at  the i-th pair of a run
--   decode     the first n pairs of a run, as regions
--   flat       regions as a run: address, length, address, length, ..
--   record_of  the record of a list of regions: its count, and the sum of its lengths (document 02, P1: "A list's record carries the total of its
--              lengths")
--   regions    the regions of a run by its record
--   is_list    the run and the record are a list: what refusal 3 tests ("a run of pairs has odd length, or a list's count passes its capacity",
--              and the rest of it; document 02, P1: "refusal 3, which now also refuses a total unlike the sum")
--   stored     the run after an accepted call that leaves regions where there were n: "places between new and old count hold 0, later ones are
--              unchanged"
use Rattle.std.specs.Prelude.{ℕ, ◌-◌, ◌*◌, Bool, ◌&&◌, List, ◌++◌, length, replicate, ◌==◌, nat_le}
use Rattle.error.specs.Lent.{over}
use Rattle.pairs.specs.Pairs as pairs
use Rattle.pairs.specs.Pairs.{capacity, is_even, pair_at}
use Rattle.free_regions.specs.declared.FreeRegion.{FreeRegion}
use Rattle.free_regions.specs.Regions.{region, sum_of_lengths, ok_from}
use Rattle.free_space.specs.declared.list.FreeList.{FreeList}

abbrev pub region_at : List ℕ → ℕ → FreeRegion
region_at xs i = pair_at region xs i

abbrev pub decode : ℕ → List ℕ → List FreeRegion
decode n xs = pairs.decode region n xs

abbrev pub flat : List FreeRegion → List ℕ
flat rs = pairs.flat (λ r. r.addr) (λ r. r.len) rs

abbrev pub record_of : List FreeRegion → FreeList
record_of rs = record { count = length rs; total = sum_of_lengths rs }

abbrev pub regions : List ℕ → FreeList → List FreeRegion
regions xs l = decode l.count xs

unfoldable pub is_list : List ℕ → FreeList → Bool
is_list xs l = is_even xs && (nat_le l.count (capacity xs) && (ok_from 0 (regions xs l) && l.total == sum_of_lengths (regions xs l)))

unfoldable pub stored : List ℕ → ℕ → List FreeRegion → List ℕ
stored xs n rs = over 0 (flat rs ++ replicate (2 * n - length (flat rs)) 0) xs
