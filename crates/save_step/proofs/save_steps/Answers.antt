use mathlib.Core.Path.{refl}
use borrow.Author.Rules.{rules}
use Rattle.save_step.specs.declared.Progress.TheVariants.{Stored, Finished}
use Rattle.error.specs.Outcome.{answer, refused}
use Rattle.save_step.specs.Steps.{saving, steps}
use Rattle.save_step.proofs.RowLaws.{steps_step, steps-stop}
use Rattle.save_step.proofs.save_steps.Goals as goal

pub loop-made-init : goal.loop-made-init
unfolding steps
loop-made-init c = search rules

-- the first step that makes no store ends the loop
pub returns-in-Ok-Finished : goal.returns-in-Ok-Finished
returns-in-Ok-Finished c =
    let l = c.loop-made in
    let a = c.args in
    steps-stop l.c l.image a.scratch.now (saving a.s a.image.now) l._made l.invariant _ (answer Finished) (λ t e. cc) (rw c.in-Ok-Finished.field-0-is at c.in-Ok-Finished.ensures) a.k l.auto._made-end

pub returns-in-Err : goal.returns-in-Err
returns-in-Err c =
    let l = c.loop-made in
    let a = c.args in
    steps-stop l.c l.image a.scratch.now (saving a.s a.image.now) l._made l.invariant _ (refused c.in-Err.field-0) (λ t e. cc) c.in-Err.ensures a.k l.auto._made-end

pub loop-made-preserved : goal.loop-made-preserved
loop-made-preserved c =
    let l = c.loop-made in
    let a = c.args in
    let n = c.in-Ok-Stored in
    steps_step l.c l.image a.scratch.now (saving a.s a.image.now) l._made l.invariant _ (answer (Stored n.next)) n.next refl (rw n.field-0-is at n.ensures)
