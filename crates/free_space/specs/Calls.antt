-- The five calls that change a list: what each answers, and the run that it leaves. A call is a decision on the regions, and then the
-- run that holds the regions decided on. Assumes nothing.
-- In quotes: document 01's words, from "The list", from the refusal of that number or from the heading named.
--   record_after  the record after an outcome: an answer's; a refusal or Nothing leaves the old one
--   not_list      refusal 3, "Not a list": of the run and the record
--   overflows     refusal 4: "address plus length"
--   part_unit     refusal 6: "a length that is no multiple of its nonzero unit"
--   no_room       refusal 14: "the result has more regions"
--   leave         the outcome of a call that leaves these regions
--   placed        the same with its refusal 14, which is given only where they do not fit ("a 14 while unused pairs suffice" is wrong)
--   keeping, giving   the record alone; the record with an address given out
--   freed_regions, left_regions   the regions after `free`; after `take_range`
--   without       the regions after an allocation from the region at a place
--   serve         the outcome of an allocation, by the region that was found: "If its leftovers make a 14, no other region is tried"
--   last_ends_at  the last region "ends exactly at the given end of file"
--   freed         `free`: "length 0 changes nothing. Otherwise touching regions fold into one"; refusals 3, 4, 5, 14
--   range_taken   `take_range`: "removes the free bytes within the range; length 0 changes nothing"; refusals 3, 4, 14
--   allocated     `alloc`: "smallest region that is long enough, lowest on a tie, served from its front. Length 0, or none long enough, gives
--                 Nothing"; refusal 3
--   allocated_units   `alloc_whole_units`: "length 0 or unit 0 gives Nothing"; "The least interior that suffices serves, lowest on a tie";
--                 refusals 3, 6, 14
--   trailing_taken   `take_trailing`: "drops the last region if it ends exactly at the given end of file, and gives its address; else Nothing";
--                 refusal 3
use Rattle.std.specs.Prelude.{ℕ, suc, ◌+◌, ◌-◌, ◌%◌, Bool, cond, not, ◌&&◌, List, [], ◌∷◌, length, ◌==◌, nat_lt, slice_index_or}
use Rattle.free_space.specs.declared.list.Given.{Given}
use Rattle.error.specs.declared.Refusal.TheVariants.{NotAList, Overflow, SharedAddress, PartUnit, OverCapacity}
use Rattle.error.specs.Outcome.{Outcome, answer, nothing, refuse, Condition, when, first_of}
use Rattle.error.specs.Lent.{With, with}
use Rattle.fields.specs.Ranges.{top}
use Rattle.free_regions.specs.declared.FreeRegion.{FreeRegion}
use Rattle.free_regions.specs.Regions.{region, end, shares, insert, cut_all, around, spliced, Found, none, at, best}
use Rattle.free_regions.specs.Units.{interior_start, interior_span}
use Rattle.pairs.specs.Pairs.{capacity}
use Rattle.free_space.specs.declared.list.FreeList.{FreeList}
use Rattle.free_space.specs.Runs.{record_of, regions, is_list, stored}

-- the record of an answer; a refusal or Nothing leaves the old one
abbrev pub record_after : {A : Type 0} → (A → FreeList) → FreeList → Outcome A → FreeList
record_after list l (answer a) = list a
record_after list l nothing = l
record_after list l (refuse n vs) = l

-- ---- refusals

abbrev pub not_list : List ℕ → FreeList → Condition
not_list xs l = when (not (is_list xs l)) NotAList

abbrev pub overflows : ℕ → ℕ → Condition
overflows a len = when (nat_lt top (a + len)) Overflow

abbrev pub part_unit : ℕ → ℕ → Bool
part_unit len unit = not (unit == 0) && not (len % unit == 0)

abbrev pub no_room : List ℕ → List FreeRegion → Condition
no_room xs rs = when (nat_lt (capacity xs) (length rs)) (OverCapacity (length rs) (capacity xs))

abbrev pub leave : {A : Type 0} → (FreeList → A) → List ℕ → FreeList → List FreeRegion → Outcome (With A (List ℕ))
leave give xs l rs = answer (with (give (record_of rs)) (stored xs l.count rs))

abbrev pub placed : {A : Type 0} → (FreeList → A) → List ℕ → FreeList → List FreeRegion → Outcome (With A (List ℕ))
placed give xs l rs = first_of (no_room xs rs ∷ []) (leave give xs l rs)

abbrev pub keeping : FreeList → FreeList
keeping l = l

abbrev pub giving : ℕ → FreeList → Given
giving a l = record { addr = a; list = l }

-- ---- `free` and `take_range`: length 0 changes nothing

abbrev pub freed_regions : List FreeRegion → ℕ → ℕ → List FreeRegion
freed_regions rs a len = cond (len == 0) rs (insert (region a len) rs)

unfoldable pub freed : List ℕ → FreeList → ℕ → ℕ → Outcome (With FreeList (List ℕ))
freed xs l a len =
    first_of (not_list xs l ∷ overflows a len ∷ when (shares (region a len) (regions xs l)) SharedAddress ∷ [])
    (placed keeping xs l (freed_regions (regions xs l) a len))

abbrev pub left_regions : List FreeRegion → ℕ → ℕ → List FreeRegion
left_regions rs a len = cond (len == 0) rs (cut_all a (a + len) rs)

unfoldable pub range_taken : List ℕ → FreeList → ℕ → ℕ → Outcome (With FreeList (List ℕ))
range_taken xs l a len =
    first_of (not_list xs l ∷ overflows a len ∷ [])
    (placed keeping xs l (left_regions (regions xs l) a len))

-- ---- allocations

-- len bytes from start on, of the region at i
abbrev pub without : List FreeRegion → ℕ → ℕ → ℕ → List FreeRegion
without rs i start len = spliced rs i (suc i) (around (slice_index_or rs i (region 0 0)) start len)

-- the region that was found serves from the place that start gives
abbrev pub serve : (FreeRegion → ℕ) → List ℕ → FreeList → ℕ → Found → Outcome (With Given (List ℕ))
serve start xs l len none = nothing
serve start xs l len (at i span) =
    let from = start (slice_index_or (regions xs l) i (region 0 0)) in
    placed (giving from) xs l (without (regions xs l) i from len)

-- from its front
unfoldable pub allocated : List ℕ → FreeList → ℕ → Outcome (With Given (List ℕ))
allocated xs l len =
    first_of (not_list xs l ∷ [])
    (cond (len == 0) nothing (serve (λ r. r.addr) xs l len (best (λ r. r.len) len 0 (regions xs l))))

-- from the front of its interior
unfoldable pub allocated_units : List ℕ → FreeList → ℕ → ℕ → Outcome (With Given (List ℕ))
allocated_units xs l len unit =
    first_of (not_list xs l ∷ when (part_unit len unit) PartUnit ∷ [])
    (cond (len == 0) nothing (serve (interior_start unit) xs l len (best (interior_span unit) len 0 (regions xs l))))

-- ---- `take_trailing`

-- the last region, where it ends at eof
abbrev pub last_ends_at : List FreeRegion → ℕ → Bool
last_ends_at rs eof = not (length rs == 0) && end (slice_index_or rs (length rs - 1) (region 0 0)) == eof

unfoldable pub trailing_taken : List ℕ → FreeList → ℕ → Outcome (With Given (List ℕ))
trailing_taken xs l eof =
    let rs = regions xs l in
    let last = length rs - 1 in
    first_of (not_list xs l ∷ [])
    (cond (last_ends_at rs eof) (placed (giving (slice_index_or rs last (region 0 0)).addr) xs l (spliced rs last (suc last) [])) nothing)
