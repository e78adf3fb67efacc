use native.Mathlib.Omega.{arith}
use Rattle.free_lists.proofs.SharingLaws.{no_more, no_others, both}
use Rattle.free_lists.proofs.SearchLaws.{pass_lefts, pass_rights}
use Rattle.free_lists.proofs.share.Ordered.share_regions.Goals as goal

pub loop-i-preserved-then-r-s : goal.loop-i-preserved-then-r-s
loop-i-preserved-then-r-s c =
    pass_lefts c.args.self.in_order c.args.other.in_order c.loop-i.invariant _ _ c.region-r.ensures.read c.region-s.ensures.read c.loop-i-test.true c.if-j-other.true
    (omega arith) _ c.first_past_from-i.ensures

pub returns-then-r-s-2 : goal.returns-then-r-s-2
returns-then-r-s-2 c =
    both c.loop-i.invariant c.args.self.in_order c.args.other.in_order _ _ c.region-r.ensures.read c.region-s.ensures.read c.loop-i-test.true c.if-j-other.true
    (omega arith) (omega arith)

pub loop-i-preserved : goal.loop-i-preserved
loop-i-preserved c =
    pass_rights c.args.self.in_order c.args.other.in_order c.loop-i.invariant _ _ c.region-r.ensures.read c.region-s.ensures.read c.loop-i-test.true c.if-j-other.true
    (omega arith) _ c.first_past_from-j.ensures

pub returns-else-j-other : goal.returns-else-j-other
returns-else-j-other c = no_others c.loop-i.invariant c.args.other.in_order c.if-j-other.false

pub returns-after-loop-i : goal.returns-after-loop-i
returns-after-loop-i c = no_more c.loop-i.invariant c.args.self.in_order c.loop-i-test.false
