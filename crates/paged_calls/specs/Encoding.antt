-- Frees and paged calls as numbers in lent runs: two to a free, address and length; four to a paged call, the call, the kind, two arguments.
-- Every row of frees and every row of paged calls has such numbers, so what is proved of the numbers is proved of rows with any arguments.
-- Assumes nothing.
--   frees_of         the frees of a run, in order; a number left over at its end is none
--   type_of          the kind of a number: 0 metadata, any other raw
--   paged_call_of    the call of a number, a kind and two arguments: 0 `alloc`, any other `free`; `alloc` has one argument and leaves the second out
--   paged_calls_of   the paged calls of a run, in order; fewer than four numbers at its end are none
--   runs_of          three lent runs by list
--   freeing          a `free` for each range. The numbers of the ranges are the run that `flat` makes of them
--   number_of        the number of a kind
--   encoded          the numbers of paged calls in a row
--   InWord           all numbers are below 2^64, as those of a lent run are
--   RangesFit        all addresses and lengths are below 2^64
--   Fits, AllFit     all arguments of a paged call, of paged calls, are below 2^64
--   Encodes          ranges and paged calls have an encoding: its frees and calls are these again, and its numbers are below 2^64 where the
--                    arguments are
use Rattle.std.specs.Prelude.{ℕ, ◌^◌, ◌<◌, ◌≡◌, cond, List, [], ◌∷◌, eqb}
use Rattle.free_regions.specs.declared.FreeRegion.{FreeRegion}
use Rattle.free_space.specs.Runs.{flat}
use Rattle.free_lists.specs.declared.calls.Which.{Which}
use Rattle.free_lists.specs.declared.calls.Which.TheVariants as which
use Rattle.free_lists.specs.declared.calls.ListCall.{ListCall}
use Rattle.free_lists.specs.declared.calls.ListCall.TheVariants as list
use Rattle.paged_lists.specs.declared.PageType.{PageType}
use Rattle.paged_lists.specs.declared.PageType.TheVariants.{Meta, Raw}
use Rattle.paged_lists.specs.declared.PagedCall.{PagedCall}
use Rattle.paged_lists.specs.declared.PagedCall.TheVariants.{Alloc, Free}

-- ---- numbers to calls

unfoldable pub frees_of : List ℕ → List ListCall
frees_of [] = []
frees_of (a ∷ []) = []
frees_of (a ∷ n ∷ rest) = list.Free a n ∷ frees_of rest

unfoldable pub type_of : ℕ → PageType
type_of t = cond (eqb t 0) Meta Raw

unfoldable pub paged_call_of : ℕ → PageType → ℕ → ℕ → PagedCall
paged_call_of n k a b = cond (eqb n 0) (Alloc k a) (Free k a b)

unfoldable pub paged_calls_of : List ℕ → List PagedCall
paged_calls_of [] = []
paged_calls_of (n ∷ []) = []
paged_calls_of (n ∷ t ∷ []) = []
paged_calls_of (n ∷ t ∷ a ∷ []) = []
paged_calls_of (n ∷ t ∷ a ∷ b ∷ rest) = paged_call_of n (type_of t) a b ∷ paged_calls_of rest

abbrev pub runs_of : List ℕ → List ℕ → List ℕ → Which → List ℕ
runs_of m r u which.Metadata = m
runs_of m r u which.Raw = r
runs_of m r u which.Unclassified = u

-- ---- calls to numbers

abbrev pub freeing : List FreeRegion → List ListCall
freeing [] = []
freeing (r ∷ rs) = list.Free r.addr r.len ∷ freeing rs

abbrev pub number_of : PageType → ℕ
number_of Meta = 0
number_of Raw = 1

abbrev pub encoded : List PagedCall → List ℕ
encoded [] = []
encoded (Alloc k n ∷ ds) = 0 ∷ number_of k ∷ n ∷ 0 ∷ encoded ds
encoded (Free k a n ∷ ds) = 1 ∷ number_of k ∷ a ∷ n ∷ encoded ds

abbrev pub InWord : List ℕ → Type 0
InWord [] = Unit {0}
InWord (x ∷ xs) = (x < 2 ^ 64) × InWord xs

abbrev pub RangesFit : List FreeRegion → Type 0
RangesFit [] = Unit {0}
RangesFit (r ∷ rs) = (r.addr < 2 ^ 64) × (r.len < 2 ^ 64) × RangesFit rs

abbrev pub Fits : PagedCall → Type 0
Fits (Alloc k n) = n < 2 ^ 64
Fits (Free k a n) = (a < 2 ^ 64) × (n < 2 ^ 64)

abbrev pub AllFit : List PagedCall → Type 0
AllFit [] = Unit {0}
AllFit (d ∷ ds) = Fits d × AllFit ds

pub record Encodes (rs : List FreeRegion) (ds : List PagedCall) : Type 0 where
  pub frees_again : frees_of (flat rs) ≡ freeing rs
  pub calls_again : paged_calls_of (encoded ds) ≡ ds
  pub frees_lendable : RangesFit rs → InWord (flat rs)
  pub calls_lendable : AllFit ds → InWord (encoded ds)
