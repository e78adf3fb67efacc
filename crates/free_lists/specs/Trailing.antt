-- Where the run of free bytes that reaches the end of file begins. Assumes nothing.
-- In quotes: document 01's words, from "The list".
--   falling      regions by falling address ("walk regions by falling address")
--   put          a region put into such a list
--   walk         from a start, down such regions: "stop at one that ends below the start reached, else lower the start to its address if less"
--   all_regions  the regions of three lists
--   run_start    "`trailing_run_start` over three lists: from the end of file", with refusals 3 and 5
use Rattle.std.specs.Prelude.{ℕ, min, cond, List, [], ◌∷◌, ◌++◌, leb, ltb}
use Rattle.error.specs.Outcome.{Outcome, answer, first_of}
use Rattle.free_regions.specs.declared.FreeRegion.{FreeRegion}
use Rattle.free_regions.specs.Regions.{end}
use Rattle.free_lists.specs.declared.calls.Which.TheVariants.{Metadata, Raw, Unclassified}
use Rattle.free_lists.specs.Lists.{regions_of, Lists, apart}

abbrev pub put : FreeRegion → List FreeRegion → List FreeRegion
put r [] = r ∷ []
put r (s ∷ ss) = cond (leb s.addr r.addr) (r ∷ s ∷ ss) (s ∷ put r ss)

abbrev pub falling : List FreeRegion → List FreeRegion
falling [] = []
falling (r ∷ rs) = put r (falling rs)

abbrev pub walk : ℕ → List FreeRegion → ℕ
walk start [] = start
walk start (r ∷ rs) = cond (ltb (end r) start) start (walk (min start r.addr) rs)

abbrev pub all_regions : Lists → List FreeRegion
all_regions ls = regions_of (ls Metadata) ++ (regions_of (ls Raw) ++ regions_of (ls Unclassified))

unfoldable pub run_start : Lists → ℕ → Outcome ℕ
run_start ls eof = first_of (apart ls) (answer (walk eof (falling (all_regions ls))))
