-- What the benchmarks see of bytes that are given out and freed again: the address, and the lent memory. Assumes nothing.
--   records_in    the records of three lists from six numbers: count and total of each; a number that is not given is 0
--   Runs, runs_of the three runs; those of lists as they stand
--   Memory, memory_of   these and the marks
--   freed_again   after a paged `alloc` of metadata the paged `free` of its bytes; the address, all ones where none was given out
--   paged_round   both calls in a row
--   fill_calls    after a page is drawn: the rest of it is freed in the metadata list, and then the bytes from its front
--   return_calls  the page leaves that list and is freed in the unclassified one
--   answer_on     what a call on one of three lists answers
--   in_new_page, new_page_round   after `alloc_whole_units` of a page from the unclassified list: these calls; all of them in a row
--   in_own_list, list_round      after `alloc` in the metadata list: `free` of its bytes, or a new page where the list had nothing; all in a row
use Rattle.std.specs.Prelude.{ℕ, ◌+◌, ◌-◌, List, [], ◌∷◌, get_or}
use Rattle.error.specs.Outcome.{Outcome, answer, nothing, refuse, sat}
use Rattle.error.specs.Lent.{With, with}
use Rattle.fields.specs.Ranges.{top}
use Rattle.free_lists.specs.declared.FileLists.{FileLists}
use Rattle.free_lists.specs.declared.calls.Which.{Which}
use Rattle.free_lists.specs.declared.calls.Which.TheVariants.{Metadata, Raw, Unclassified}
use Rattle.free_lists.specs.declared.calls.ListCall.{ListCall}
use Rattle.free_lists.specs.declared.calls.ListCall.TheVariants.{Free, Alloc, AllocWholeUnits, TakeRange}
use Rattle.free_lists.specs.Lists.{Lists}
use Rattle.free_lists.specs.History.{mapped, perform, given_out, CallOn, on, next, lists_after}
use Rattle.paged_lists.specs.declared.PageType.TheVariants.{Meta}
use Rattle.paged_lists.specs.declared.PagedCall.TheVariants as paged
use Rattle.paged_lists.specs.PagedCalls.{PagedLists, performed}

abbrev pub records_in : List ℕ → FileLists
records_in ns = record {
  metadata = record { count = get_or ns 0 0; total = get_or ns 1 0 };
  raw = record { count = get_or ns 2 0; total = get_or ns 3 0 };
  unclassified = record { count = get_or ns 4 0; total = get_or ns 5 0 };
}

-- ---- the paged calls

pub record Runs : Type 0 where
  pub metadata : List ℕ
  pub raw : List ℕ
  pub unclassified : List ℕ

abbrev pub runs_of : Lists → Runs
runs_of ls = record { metadata = (ls Metadata).run; raw = (ls Raw).run; unclassified = (ls Unclassified).run }

pub record Memory : Type 0 where
  pub runs : Runs
  pub marks : List ℕ

abbrev pub memory_of : PagedLists → Memory
memory_of s = record { runs = runs_of s.lists; marks = s.marks }

abbrev pub freed_again : ℕ → ℕ → Outcome (List ℕ) → PagedLists → With ℕ Memory
freed_again page len (answer []) s = with top (memory_of s)
freed_again page len (answer (p ∷ ps)) s = with p (memory_of (performed page (paged.Free Meta p len) s).memory)
freed_again page len nothing s = with top (memory_of s)
freed_again page len (refuse n vs) s = with top (memory_of s)

abbrev pub paged_round : ℕ → ℕ → PagedLists → With ℕ Memory
paged_round page len s =
    let d = performed page (paged.Alloc Meta len) s in
    freed_again page len d.outcome d.memory

-- ---- the calls on the three lists that these are made of

abbrev pub fill_calls : ℕ → ℕ → ℕ → List CallOn
fill_calls page p len = on Metadata (Free (sat (p + len)) (page - len)) ∷ on Metadata (Free p len) ∷ []

abbrev pub return_calls : ℕ → ℕ → List CallOn
return_calls page p = on Metadata (TakeRange p page) ∷ on Unclassified (Free p page) ∷ []

abbrev pub answer_on : Which → ListCall → Lists → Outcome (List ℕ)
answer_on i c ls = mapped (given_out c) (perform c (ls i)).outcome

abbrev pub in_new_page : ℕ → ℕ → Outcome (List ℕ) → Lists → With ℕ Runs
in_new_page page len (answer []) ls = with top (runs_of ls)
in_new_page page len (answer (p ∷ ps)) ls = with p (runs_of (lists_after (return_calls page p) (lists_after (fill_calls page p len) ls)))
in_new_page page len nothing ls = with top (runs_of ls)
in_new_page page len (refuse n vs) ls = with top (runs_of ls)

abbrev pub new_page_round : ℕ → ℕ → Lists → With ℕ Runs
new_page_round page len ls =
    let c = AllocWholeUnits page page in
    in_new_page page len (answer_on Unclassified c ls) (next (on Unclassified c) ls)

abbrev pub in_own_list : ℕ → ℕ → Outcome (List ℕ) → Lists → With ℕ Runs
in_own_list page len (answer []) ls = with top (runs_of ls)
in_own_list page len (answer (p ∷ ps)) ls = with p (runs_of (next (on Metadata (Free p len)) ls))
in_own_list page len nothing ls = new_page_round page len ls
in_own_list page len (refuse n vs) ls = with top (runs_of ls)

abbrev pub list_round : ℕ → ℕ → Lists → With ℕ Runs
list_round page len ls = in_own_list page len (answer_on Metadata (Alloc len) ls) (next (on Metadata (Alloc len)) ls)
