use mathlib.Core.Path.{◌≡◌}
use Rattle.save_step.specs.Steps.{saving, steps}
use Rattle.save_step.proofs.save_steps.Given as goal

abbrev pub invariant-loop-made : goal.invariant-loop-made
invariant-loop-made l = saving l.c l.image ≡ steps l._made l.scratch (saving l.initial.c l.initial.image)
