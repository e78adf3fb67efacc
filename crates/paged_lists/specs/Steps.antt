-- Paged calls among list calls, in any order and with any page sizes, whatever lists and marks: each counts "in the history as the list call
-- that does it" (document 02, P4), so demand 3's calls in a row may have paged calls anywhere among them. Assumes nothing.
--   Step          a list call, or a paged call with its page size
--   stepped       lists and marks after it
--   calls_of      the list calls that it counts as
--   steps_after, all_calls_of  the same of steps in a row
--   CountsAsCalls the lists after steps are those after these list calls
use Rattle.std.specs.Prelude.{ℕ, ◌≡◌, List, [], ◌∷◌, ◌++◌}
use Rattle.free_lists.specs.History.{CallOn, next, lists_after}
use Rattle.paged_lists.specs.declared.PagedCall.{PagedCall}
use Rattle.paged_lists.specs.PagedCalls.{PagedLists, paged}
use Rattle.paged_lists.specs.PagedHistory.{next_paged, calls_made}

pub data Step : Type 0 where
  on_list : CallOn → Step
  in_pages : ℕ → PagedCall → Step

abbrev pub stepped : Step → PagedLists → PagedLists
stepped (on_list c) s = record { lists = next c s.lists; marks = s.marks }
stepped (in_pages page c) s = next_paged page c s

abbrev pub calls_of : Step → PagedLists → List CallOn
calls_of (on_list c) s = c ∷ []
calls_of (in_pages page c) s = calls_made (paged page c s)

unfoldable pub steps_after : List Step → PagedLists → PagedLists
steps_after [] s = s
steps_after (x ∷ xs) s = steps_after xs (stepped x s)

unfoldable pub all_calls_of : List Step → PagedLists → List CallOn
all_calls_of [] s = []
all_calls_of (x ∷ xs) s = calls_of x s ++ all_calls_of xs (stepped x s)

abbrev pub CountsAsCalls : Type 0
CountsAsCalls = (xs : List Step) (s : PagedLists) → (steps_after xs s).lists ≡ lists_after (all_calls_of xs s) s.lists
