-- The three lists of a file, and the refusals of lists that are given together. Assumes nothing.
-- In quotes: document 01's words, from the refusal of that number or from the heading named.
--   LentList     a list: its lent run and its record
--   regions_of   its regions
--   list_in      the list of a run and a record
--   Lists        "The save": "Three lists (metadata, raw, unclassified)", and how each of them stands
--   index, same  the number of a list, 0 to 2; two lists are the same one
--   lists_of     three lists from each of them
--   lists_in     the same by their runs and the three records
--   Regions, regions_in  the regions of three lists; those of lists as they stand
--   are_lists    `are_lists`: what refusal 3 tests, of all three
--   shared_byte  refusal 5: "two lists (not runs of sections) given together share a byte"
--   apart        refusals 3 and 5, in this order
--   together     `check_lists`: the outcome of testing for these refusals alone
use Rattle.std.specs.Prelude.{ℕ, Bool, ◌&&◌, ◌||◌, not, List, [], ◌∷◌, eqb}
use Rattle.error.specs.declared.Refusal.TheVariants.{NotAList, SharedAddress}
use Rattle.error.specs.Outcome.{Outcome, answer, Condition, when, first_of}
use Rattle.free_regions.specs.declared.FreeRegion.{FreeRegion}
use Rattle.free_regions.specs.Regions.{share_bytes}
use Rattle.free_space.specs.declared.list.FreeList.{FreeList}
use Rattle.free_space.specs.Runs.{regions, is_list}
use Rattle.free_lists.specs.declared.FileLists.{FileLists}
use Rattle.free_lists.specs.declared.calls.Which.{Which}
use Rattle.free_lists.specs.declared.calls.Which.TheVariants.{Metadata, Raw, Unclassified}

pub record LentList : Type 0 where
  pub run : List ℕ
  pub list : FreeList

abbrev pub list_in : List ℕ → FreeList → LentList
list_in xs l = record { run = xs; list = l }

abbrev pub regions_of : LentList → List FreeRegion
regions_of l = regions l.run l.list

abbrev pub index : Which → ℕ
index Metadata = 0
index Raw = 1
index Unclassified = 2

abbrev pub same : Which → Which → Bool
same i j = eqb (index i) (index j)

abbrev pub Lists : Type 0
Lists = Which → LentList

abbrev pub lists_of : LentList → LentList → LentList → Lists
lists_of m r u Metadata = m
lists_of m r u Raw = r
lists_of m r u Unclassified = u

abbrev pub lists_in : List ℕ → List ℕ → List ℕ → FileLists → Lists
lists_in xs ys zs f = lists_of (list_in xs f.metadata) (list_in ys f.raw) (list_in zs f.unclassified)

abbrev pub Regions : Type 0
Regions = Which → List FreeRegion

abbrev pub regions_in : Lists → Regions
regions_in ls i = regions_of (ls i)

-- ---- refusals 3 and 5

abbrev pub are_lists : Lists → Bool
are_lists ls =
    is_list (ls Metadata).run (ls Metadata).list
    && (is_list (ls Raw).run (ls Raw).list && is_list (ls Unclassified).run (ls Unclassified).list)

abbrev pub shared_byte : Regions → Bool
shared_byte rs = share_bytes (rs Metadata) (rs Raw) || (share_bytes (rs Metadata) (rs Unclassified) || share_bytes (rs Raw) (rs Unclassified))

abbrev pub apart : Lists → List Condition
apart ls = when (not (are_lists ls)) NotAList ∷ when (shared_byte (regions_in ls)) SharedAddress ∷ []

abbrev pub together : Lists → Outcome (Unit {0})
together ls = first_of (apart ls) (answer tt)
