-- The walk of `trailing_run_start` on its way, the search for a region and the refusals of lists together, for the contracts of private functions.
-- No public contract cites this file. Assumes nothing.
--   InOrder      the first n pairs of a run are regions in order, each after the end of the one before with a gap
--   AllInOrder   the same of three runs
--   counts_of    all regions of three lists, by their records
--   FirstPast    the first of the regions from a place up to another that ends past a byte; the second place where none does
--   Turned       three lists with one of them first, of three lists in their own order
--   Due          the refusal that is due to three lists given together and a range of bytes, if one is
--   refused_or   that refusal, or else a decision
--   remaining    the regions that the walk has not come to
--   height       one above the address of the last of n regions, 0 for none
--   Next         the walk's next region, and the cursors after it
--   Onward       what the code reached: the next region, or none remains
use Rattle.std.specs.Prelude.{ℕ, zero, suc, ◌+◌, ◌-◌, ◌*◌, ◌≤◌, ◌<◌, ◌≡◌, true, false, ◌||◌, List, [], ◌∷◌, ◌++◌, length, Option, Some, None, Result, Ok, Err}
use Rattle.free_lists.specs.declared.Reached.{Reached}
use Rattle.free_space.specs.Splices.{Decision}
use Rattle.error.specs.declared.Refusal.{Refusal}
use Rattle.error.specs.declared.Refusal.TheVariants.{NotAList, Overflow, SharedAddress}
use Rattle.fields.specs.Ranges.{top}
use Rattle.free_regions.specs.declared.FreeRegion.{FreeRegion}
use Rattle.free_regions.specs.Regions.{region, end, ok_from, shares}
use Rattle.free_space.specs.Runs.{region_at, decode}
use Rattle.free_lists.specs.declared.FileLists.{FileLists}
use Rattle.free_lists.specs.declared.Cursors.{Cursors}
use Rattle.free_lists.specs.declared.calls.Which.{Which}
use Rattle.free_lists.specs.declared.calls.Which.TheVariants.{Metadata, Raw, Unclassified}
use Rattle.free_lists.specs.Lists.{regions_of, Lists, lists_of, regions_in, are_lists, shared_byte}
use Rattle.free_lists.specs.Decided.{is_held}
use Rattle.free_lists.specs.Trailing.{falling}

-- ---- regions in order

pub record InOrder (xs : List ℕ) (n : ℕ) : Type 0 where
  pub room : 2 * n ≤ length xs
  pub ok : ok_from 0 (decode n xs) ≡ true

pub record AllInOrder (xs ys zs : List ℕ) (at : Cursors) : Type 0 where
  pub meta : InOrder xs at.meta
  pub raw : InOrder ys at.raw
  pub unclassified : InOrder zs at.unclassified

-- i is the place that is found
pub record FirstPast (xs : List ℕ) (from upto a i : ℕ) : Type 0 where
  pub order : from ≤ i
  pub within : i ≤ upto
  pub below : from < i → end (region_at xs (i - 1)) ≤ a
  pub past : i < upto → a < end (region_at xs i)

abbrev pub counts_of : FileLists → Cursors
counts_of f = record { meta = f.metadata.count; raw = f.raw.count; unclassified = f.unclassified.count }

-- ---- the refusals of three lists together

abbrev pub Turned : Which → Lists → Lists → Type 0
Turned Metadata ls ms = ms ≡ ls
Turned Raw ls ms = ms ≡ lists_of (ls Raw) (ls Metadata) (ls Unclassified)
Turned Unclassified ls ms = ms ≡ lists_of (ls Unclassified) (ls Metadata) (ls Raw)

-- len bytes from a on
pub data Due (ls : Lists) (a len : ℕ) : Result (Unit {0}) Refusal → Type 0 where
  no_lists : are_lists ls ≡ false → Due ls a len (Err NotAList)
  too_long : are_lists ls ≡ true → top < a + len → Due ls a len (Err Overflow)
  shared : are_lists ls ≡ true → a + len ≤ top → (shared_byte (regions_in ls) || is_held a len ls) ≡ true → Due ls a len (Err SharedAddress)
  -- the first list may still hold a byte of the range
  fine : are_lists ls ≡ true → a + len ≤ top → shared_byte (regions_in ls) ≡ false → shares (region a len) (regions_of (ls Raw)) ≡ false
      → shares (region a len) (regions_of (ls Unclassified)) ≡ false → Due ls a len (Ok tt)

abbrev pub refused_or : Result (Unit {0}) Refusal → Decision → Decision
refused_or (Ok done) d = d
refused_or (Err r) d = Err r

-- ---- the walk

abbrev pub remaining : List ℕ → List ℕ → List ℕ → Cursors → List FreeRegion
remaining xs ys zs at = decode at.meta xs ++ (decode at.raw ys ++ decode at.unclassified zs)

abbrev pub height : ℕ → List ℕ → ℕ
height zero xs = 0
height (suc n) xs = suc (region_at xs n).addr

pub record Next (xs ys zs : List ℕ) (at : Cursors) (r : FreeRegion) (rest : Cursors) : Type 0 where
  pub first : falling (remaining xs ys zs at) ≡ r ∷ falling (remaining xs ys zs rest)
  pub within : end r ≤ top
  pub fewer : rest.meta + (rest.raw + rest.unclassified) < at.meta + (at.raw + at.unclassified)
  pub order : AllInOrder xs ys zs rest

abbrev pub Onward : List ℕ → List ℕ → List ℕ → Cursors → Option Reached → Type 0
Onward xs ys zs at None = remaining xs ys zs at ≡ []
Onward xs ys zs at (Some found) = Next xs ys zs at found.region found.rest
