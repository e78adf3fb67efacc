use Rattle.std.proofs.Common.{ℕ, ◌≤◌, length, take}
use Rattle.fsm_sections.specs.Sections.{decode}
use Rattle.fsm_sections.specs.Chains.{sections_of}
use Rattle.fsm_sections.specs.Sources.{chains_in}
use Rattle.fsm_sizes.specs.Chained.{Stands}
use Rattle.fsm_sizes.proofs.SourceSizesLaws.{Seen}
use Rattle.fsm_sizes.proofs.windows.gather_run.Given as goal

abbrev pub invariant-loop-r : goal.invariant-loop-r
invariant-loop-r l =
    (seen : ℕ → ℕ) × Seen (sections_of (chains_in l.fn.part l.page (decode l.count l.run))) l.r-iterator seen
    × (l.found ≤ length l.initial.of) × Stands l.w.from l.w.reach seen (take l.w.found l.initial.of) l.of l.link l.slot (length l.initial.of) l.found
