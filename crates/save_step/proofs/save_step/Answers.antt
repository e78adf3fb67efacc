use mathlib.Core.Path.{◌≡◌, sym, ◌∙◌}
use mathlib.Core.Bool.{false}
use Prim.Native.Nat.{◌<◌}
use lib.ListN.{length}
use Rattle.save_step.specs.Steps.{stores, all_made, leaves, Inside}
use Rattle.save_step.proofs.StepLaws.{inside, next_in, step_finished, not_yet, step_refused, step_stored}
use Rattle.save_step.proofs.save_step.Goals as goal
use Rattle.save_step.proofs.save_step.Goals.{Else-leaves_lent}

pub returns-then-is_finished : goal.returns-then-is_finished
returns-then-is_finished c =
    let a = c.args in
    step_finished a.s a.image.now a.scratch.now (sym c.is_finished.ensures ∙ c.if-is_finished.true)

pub returns-then-leaves_lent : goal.returns-then-leaves_lent
returns-then-leaves_lent c =
    let a = c.args in
    step_refused a.s a.image.now a.scratch.now (sym c.is_finished.ensures ∙ c.if-is_finished.false) (sym c.leaves_lent.ensures ∙ c.if-leaves_lent.true)

-- what both tests say where the step goes on
unfinished : (c : Else-leaves_lent) → all_made c.args.s ≡ false
unfinished c = sym c.is_finished.ensures ∙ c.if-is_finished.false

in_place : (c : Else-leaves_lent) → leaves c.args.s (length c.args.image.now) (length c.args.scratch.now) ≡ false
in_place c = sym c.leaves_lent.ensures ∙ c.if-leaves_lent.false

number : (c : Else-leaves_lent) → c.args.s.done < stores c.args.s.len
number c = not_yet c.args.s c.args.image.now c.args.scratch.now (unfinished c)

stays : (c : Else-leaves_lent) → Inside c.args.s (length c.args.image.now) (length c.args.scratch.now)
stays c = inside c.args.s (length c.args.image.now) (length c.args.scratch.now) (in_place c)

pub bounds-image-place : goal.bounds-image-place
bounds-image-place c =
    let a = c.args in
    let on = (goal.at.bounds-image-place c).Else-leaves_lent in
    rw c.next_store-place.ensures (next_in a.s a.scratch.now (length a.image.now) (stays on) (number on))

pub returns : goal.returns
returns c =
    let a = c.args in
    let on = (goal.at.returns c).Else-leaves_lent in
    step_stored a.s a.image.now a.scratch.now (unfinished on) (in_place on) c.next_store-place.ensures
