-- What the benchmarks see of a plan and of a save's beginning: one number, and the lent memory. Assumes nothing.
--   whole_lists  the records of three runs that are full, with three totals; whole_counts their counts
--   end_or_top   the end of the managers, all ones for a refusal; len_or_top the length of the blocks
--   plan_left    that number and the run of sections; save_left and the scratch
use Rattle.std.specs.Prelude.{ℕ, ◌/◌, List, length, get_or}
use Rattle.error.specs.Outcome.{Outcome, answer, nothing, refuse}
use Rattle.error.specs.Lent.{With, with, Left}
use Rattle.fields.specs.Ranges.{top}
use Rattle.free_lists.specs.declared.FileLists.{FileLists}
use Rattle.fsm_plan.specs.declared.Counts.{Counts}
use Rattle.fsm_plan.specs.declared.blocks.PagedManagerPlan.{PagedManagerPlan}
use Rattle.save_step.specs.declared.Save.{Save}

abbrev pub whole_lists : List ℕ → List ℕ → List ℕ → List ℕ → FileLists
whole_lists xs ys zs totals = record {
  metadata = record { count = length xs / 2; total = get_or totals 0 0 };
  raw = record { count = length ys / 2; total = get_or totals 1 0 };
  unclassified = record { count = length zs / 2; total = get_or totals 2 0 };
}

abbrev pub whole_counts : List ℕ → List ℕ → List ℕ → Counts
whole_counts xs ys zs = record { meta = length xs / 2; raw = length ys / 2; unclassified = length zs / 2 }

abbrev pub end_or_top : Outcome PagedManagerPlan → ℕ
end_or_top (answer p) = p.end_of_managers
end_or_top nothing = top
end_or_top (refuse n vs) = top

abbrev pub len_or_top : Outcome Save → ℕ
len_or_top (answer s) = s.len
len_or_top nothing = top
len_or_top (refuse n vs) = top

abbrev pub plan_left : Left PagedManagerPlan (List ℕ) → With ℕ (List ℕ)
plan_left d = with (end_or_top d.outcome) d.memory

abbrev pub save_left : Left Save (List ℕ) → With ℕ (List ℕ)
save_left d = with (len_or_top d.outcome) d.memory
