use Rattle.std.proofs.Common.{◌/◌, length, arith}
use Rattle.free_space.proofs.ListLaws.{listed}
use Rattle.free_space.proofs.SpliceLaws.{fitted-is}
use Rattle.free_space.proofs.valid.ValidList.change.Goals as goal

pub overflow_add-needed : goal.overflow_add-needed
overflow_add-needed c =
    let a = c.args in
    let t = c.requires in
    omega (arith, t.order, t.within, (listed a.self.run.now a.self.list t.list).room, c.patch_len.ensures.1)

pub overflow_add-needed-2 : goal.overflow_add-needed-2
overflow_add-needed-2 c =
    let a = c.args in
    let t = c.requires in
    omega (arith, t.order, t.within, (listed a.self.run.now a.self.list t.list).room, c.patch_len.ensures.1)

pub returns : goal.returns
returns c =
    let a = c.args in
    let k = a.c in
    let t = c.requires in
    let given = length a.self.run.now / 2 in (
      fitted-is given a.self.list.count k.addr k.lo k.hi k.total k.patch (omega (arith, c.if-given-needed.false, c.patch_len.ensures.0)),
      (t.order, t.within, (listed a.self.run.now a.self.list t.list).room, omega (arith, c.if-given-needed.false, c.patch_len.ensures.0), t.sum),
    )
