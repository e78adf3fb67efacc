-- The two kinds of bytes, and what of the lists and marks is a kind's. Assumes nothing.
-- In quotes: document 02's words, from P4.
--   mark_of  the mark of a page that has bytes of a kind: "0 shared, 1 metadata, 2 raw"
--   list_of  the list of a kind: "a list for each kind". The shared list is "the unclassified one"
use Rattle.std.specs.Prelude.{ℕ}
use Rattle.free_lists.specs.declared.calls.Which.{Which}
use Rattle.free_lists.specs.declared.calls.Which.TheVariants as which
use Rattle.paged_lists.specs.declared.PageType.{PageType}
use Rattle.paged_lists.specs.declared.PageType.TheVariants.{Meta, Raw}

abbrev pub mark_of : PageType → ℕ
mark_of Meta = 1
mark_of Raw = 2

abbrev pub list_of : PageType → Which
list_of Meta = which.Metadata
list_of Raw = which.Raw
