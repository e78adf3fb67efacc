use Rattle.free_lists.proofs.ApplyLaws.{made-free, made-alloc, made_units, made_range, made-trailing}
use Rattle.free_lists.proofs.calls.perform.Goals as goal

pub returns-in-Free : goal.returns-in-Free
returns-in-Free c =
    let every = made-free _ _ _ c.after_kept.result _ _ _ c.in-Free.is c.free.result c.free.ensures (c.after_kept.ensures.list, c.after_kept.ensures.answer) in
    record { list = every.0; answer = every.1 }

pub returns-in-Alloc : goal.returns-in-Alloc
returns-in-Alloc c =
    let every = made-alloc _ _ _ c.after_given.result _ _ c.in-Alloc.is c.alloc.result c.alloc.ensures (c.after_given.ensures.list, c.after_given.ensures.answer) in
    record { list = every.0; answer = every.1 }

pub returns-in-AllocWholeUnits : goal.returns-in-AllocWholeUnits
returns-in-AllocWholeUnits c =
    let every = made_units _ _ _ c.after_given-in-AllocWholeUnits.result _ _ _ c.in-AllocWholeUnits.is c.alloc_whole_units.result c.alloc_whole_units.ensures (c.after_given-in-AllocWholeUnits.ensures.list, c.after_given-in-AllocWholeUnits.ensures.answer) in
    record { list = every.0; answer = every.1 }

pub returns-in-TakeRange : goal.returns-in-TakeRange
returns-in-TakeRange c =
    let every = made_range _ _ _ c.after_kept-in-TakeRange.result _ _ _ c.in-TakeRange.is c.take_range.result c.take_range.ensures (c.after_kept-in-TakeRange.ensures.list, c.after_kept-in-TakeRange.ensures.answer) in
    record { list = every.0; answer = every.1 }

pub returns-in-TakeTrailing : goal.returns-in-TakeTrailing
returns-in-TakeTrailing c =
    let every = made-trailing _ _ _ c.after_given-in-TakeTrailing.result _ _ c.in-TakeTrailing.is c.take_trailing.result c.take_trailing.ensures (c.after_given-in-TakeTrailing.ensures.list, c.after_given-in-TakeTrailing.ensures.answer) in
    record { list = every.0; answer = every.1 }
