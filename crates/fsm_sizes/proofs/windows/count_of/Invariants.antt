use Rattle.std.proofs.Common.{◌≡◌, ◌+◌, ◌-◌, length}
use Rattle.fields.specs.Ranges.{top}
use Rattle.fsm_sections.specs.Sections.{distinct}
use Rattle.fsm_sections.specs.Chains.{sections_of}
use Rattle.fsm_sections.specs.Sources.{chains_of}
use Rattle.fsm_sizes.specs.Windows.{sizes_from}
use Rattle.fsm_sizes.specs.Chained.{Room, Cleared}
use Rattle.error.specs.Outcome.{sat}
use Rattle.fsm_sizes.proofs.windows.count_of.Given as goal

abbrev pub invariant-loop-s : goal.invariant-loop-s
invariant-loop-s l =
    Room l.of l.link l.slot × Cleared l.slot × (length l.of ≡ length l.initial.of)
    × (sat (l.n + sizes_from l.from (sections_of (chains_of l.s l.a l.b l.c))) ≡ sat (distinct (sections_of (chains_of l.s l.a l.b l.c))))

abbrev pub decreases-loop-s : goal.decreases-loop-s
decreases-loop-s l = top - l.from
