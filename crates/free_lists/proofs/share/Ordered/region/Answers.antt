use mathlib.Core.Path.{refl}
use Rattle.free_space.specs.Runs.{region_at}
use Rattle.free_lists.proofs.SharingLaws.{order-fits}
use Rattle.free_lists.proofs.share.Ordered.region.Goals as goal

pub returns-clause-within : goal.returns-clause-within
returns-clause-within c =
    let s = c.args.self in
    (order-fits s.in_order c.args.i (region_at s.run.now c.args.i) refl c.requires).within
