use mathlib.Core.Path.{sym, ◌∙◌}
use native.Mathlib.Omega.{arith}
use borrow.Author.Tests.{le-ltb}
use Rattle.free_regions.specs.Regions.{region}
use Rattle.free_regions.proofs.ShareLaws.{shares_empty}
use Rattle.free_space.specs.Runs.{decode}
use Rattle.free_lists.proofs.SearchLaws.{holds-none, holds-here}
use Rattle.free_lists.proofs.share.Ordered.holds_any.Goals as goal

pub returns-then-len-eq0 : goal.returns-then-len-eq0
returns-then-len-eq0 c =
    let a = c.args in sym (shares_empty (region a.addr a.len) (decode a.self.count a.self.run.now) c.if-len-eq0.true)

pub returns-else-i-self : goal.returns-else-i-self
returns-else-i-self c =
    le-ltb _ _ c.if-i-self.false ∙ holds-none c.args.self.in_order (region c.args.addr c.args.len) c.first_past-i.ensures c.if-i-self.false

pub returns-then-i-self : goal.returns-then-i-self
returns-then-i-self c =
    holds-here c.args.self.in_order (region c.args.addr c.args.len) c.first_past-i.ensures (omega arith) c.if-i-self.true _ c.region.ensures.read
