use Rattle.std.proofs.Common.{◌≡◌, ℕ, drop}
use Rattle.free_regions.specs.declared.FreeRegion.{FreeRegion}
use Rattle.free_regions.specs.Regions.{lower, best}
use Rattle.free_space.specs.Runs.{regions}
use Rattle.free_space.specs.Passes.{Measures}
use Rattle.free_space.specs.Searches.{so_far}
use Rattle.free_space.specs.Splices.{Tested}
use Rattle.free_space.proofs.fit.best_after.Given as goal

abbrev pub invariant-loop-i : goal.invariant-loop-i
invariant-loop-i g l =
    Tested l.run l.list l.i l.prev l.sum
    × ((f : FreeRegion → ℕ) → Measures f (goal.M-post g l.measure)
    → lower (so_far l.len l.initial.b) (best f l.len 1 (drop 1 (regions l.run l.list)))
    ≡ lower (so_far l.len l.b) (best f l.len l.i (drop l.i (regions l.run l.list))))
