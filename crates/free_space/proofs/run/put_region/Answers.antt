use Rattle.error.proofs.OverLaws.{store_pair}
use Rattle.free_space.proofs.run.put_region.Goals as goal

pub returns : goal.returns
returns c = store_pair c.args.at c.args.r.addr c.args.r.len c.args.run.now
