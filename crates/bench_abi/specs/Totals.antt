-- What the benchmarks see of a list call: the total after it, and the run. Assumes nothing.
--   list_of      the record of a count and a total
--   kept_total, given_total   the total after a call, all ones for a refusal or Nothing
--   kept_left, given_left     the total and the run that a call leaves
use Rattle.std.specs.Prelude.{ℕ, List}
use Rattle.error.specs.Outcome.{Outcome, answer, nothing, refuse}
use Rattle.error.specs.Lent.{With, with, Left}
use Rattle.fields.specs.Ranges.{top}
use Rattle.free_space.specs.declared.list.FreeList.{FreeList}
use Rattle.free_space.specs.declared.list.Given.{Given}

abbrev pub list_of : ℕ → ℕ → FreeList
list_of n t = record { count = n; total = t }

abbrev pub kept_total : Outcome FreeList → ℕ
kept_total (answer l) = l.total
kept_total nothing = top
kept_total (refuse n vs) = top

abbrev pub given_total : Outcome Given → ℕ
given_total (answer g) = g.list.total
given_total nothing = top
given_total (refuse n vs) = top

abbrev pub kept_left : Left FreeList (List ℕ) → With ℕ (List ℕ)
kept_left d = with (kept_total d.outcome) d.memory

abbrev pub given_left : Left Given (List ℕ) → With ℕ (List ℕ)
given_left d = with (given_total d.outcome) d.memory
