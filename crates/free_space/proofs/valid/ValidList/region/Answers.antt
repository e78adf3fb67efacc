use Rattle.std.proofs.Common.{arith}
use Rattle.free_space.proofs.ListLaws.{listed}
use Rattle.free_space.proofs.CheckLaws.{read_fits}
use Rattle.free_space.proofs.valid.ValidList.region.Goals as goal

pub region_at-requires : goal.region_at-requires
region_at-requires c =
    let s = c.args.self in
    omega (arith, (listed s.run.now s.list s.tested).room)

pub returns-clause-within : goal.returns-clause-within
returns-clause-within c =
    let s = c.args.self in
    (read_fits s.run.now s.list c.args.i c.region_at.result s.tested c.requires c.region_at.ensures).within
