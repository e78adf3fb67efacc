use Rattle.std.proofs.Common.{ℕ}
use Rattle.free_regions.specs.declared.FreeRegion.{FreeRegion}
use Rattle.free_space.specs.Passes.{Measures}
use Rattle.free_space.specs.Splices.{Tested}
use Rattle.free_space.proofs.QuestionLaws.{Passed}
use Rattle.free_space.proofs.questions.greatest_after.Given as goal

abbrev pub invariant-loop-i : goal.invariant-loop-i
invariant-loop-i g l =
    Tested l.run l.list l.i l.end l.sum × ((f : FreeRegion → ℕ) → Measures f (goal.M-post g l.measure) → Passed f l.run l.list l.i l.most)
