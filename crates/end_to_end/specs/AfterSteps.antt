-- DEMAND 3 with paged calls anywhere among the list calls, each counted as the list calls that it is made of (document 02, P4: "What the door
-- does to a list counts in the history as the list call that does it"). Assumes nothing.
--   begun_empty           three lists begun empty, with any marks
--   EveryCutAfterSteps    what demand 3 says (save, specs/EveryCut.antt, `EveryCutAfterCalls`), of the lists that such calls leave
use Rattle.std.specs.Prelude.{ℕ, ◌^◌, ◌<◌, ◌≡◌, List}
use Rattle.error.specs.Outcome.{answer}
use Rattle.error.specs.Lent.{with}
use Rattle.free_lists.specs.declared.calls.Which.{Which}
use Rattle.free_lists.specs.Lists.{regions_in}
use Rattle.free_lists.specs.History.{empty_lists, free_by_history}
use Rattle.paged_lists.specs.PagedCalls.{PagedLists}
use Rattle.paged_lists.specs.Steps.{Step, steps_after, all_calls_of}
use Rattle.save_step.specs.declared.Save.{Save}
use Rattle.save.specs.Saving.{begun}
use Rattle.save.specs.EveryCut.{one_save, EveryCut}

abbrev pub begun_empty : (Which → List ℕ) → List ℕ → PagedLists
begun_empty runs ms = record { lists = empty_lists runs; marks = ms }

-- whatever is lent, called and saved, with whatever page sizes the paged calls have; page and start of the save are 64-bit numbers
abbrev pub EveryCutAfterSteps : Type 0
EveryCutAfterSteps =
    (runs : Which → List ℕ) (ms : List ℕ) (steps : List Step) (page start place : ℕ) (image scratch : List ℕ) (save : Save) (lent : List ℕ)
    → let ls = (steps_after steps (begun_empty runs ms)).lists in
    page < 2 ^ 64 → start < 2 ^ 64
    → begun ls page start place image scratch ≡ answer (with save lent)
    → EveryCut (one_save (regions_in ls) page start place image save lent) (free_by_history (all_calls_of steps (begun_empty runs ms)) (empty_lists runs))
    (begun ls page start place)
