use Rattle.save.proofs.TieLaws.{each-list}
use Rattle.save.proofs.conditions.any_in_the_way.Goals as goal

pub in_the_way-requires : goal.in_the_way-requires
in_the_way-requires c =
    let a = c.args in
    ((each-list a.meta.now a.raw.now a.unclassified.now a.q.lists c.requires.lists).0, c.requires.message)

pub in_the_way-requires-else-in_the_way : goal.in_the_way-requires-else-in_the_way
in_the_way-requires-else-in_the_way c =
    let a = c.args in
    ((each-list a.meta.now a.raw.now a.unclassified.now a.q.lists c.requires.lists).1, c.requires.message)

pub in_the_way-requires-else-in_the_way-2 : goal.in_the_way-requires-else-in_the_way-2
in_the_way-requires-else-in_the_way-2 c =
    let a = c.args in
    ((each-list a.meta.now a.raw.now a.unclassified.now a.q.lists c.requires.lists).2, c.requires.message)
