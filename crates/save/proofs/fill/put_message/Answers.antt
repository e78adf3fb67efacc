use mathlib.Core.Path.{ap, ◌∙◌}
use Prim.Native.Nat.{ℕ, ◌-◌}
use mathlib.Core.List.{List}
use Rattle.file_space_info.specs.declared.FileSpaceStrategy.TheVariants as strategy
use Rattle.file_space_info.specs.Infos.{persistent_managers}
use Rattle.save.proofs.FillLaws.{message_put}
use Rattle.save.proofs.fill.put_message.Goals as goal

pub returns : goal.returns
returns c =
    let a = c.args in
    message_put a.page a.start a.p _
    (c.persistent_managers-message.ensures ∙ ap (λ (l : List ℕ). persistent_managers strategy.Page 1 a.page l a.start) c.slots.ensures)
    a.scratch.now (a.p.end_of_managers - a.start) c.requires.1 c.serialize.result _ c.serialize.ensures
