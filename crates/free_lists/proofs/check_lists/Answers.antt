use Rattle.free_lists.proofs.SharingLaws.{lists-order, apart_not, apart_shared, apart_fine}
use Rattle.free_lists.proofs.check_lists.Goals as goal

pub returns-then-not-are_lists : goal.returns-then-not-are_lists
returns-then-not-are_lists c = apart_not _ _ _ _ c.are_lists.ensures c.if-not-are_lists.true

pub share_any-requires : goal.share_any-requires
share_any-requires c = lists-order _ _ _ _ c.are_lists.ensures c.if-not-are_lists.false

pub returns-then-share_any : goal.returns-then-share_any
returns-then-share_any c =
    apart_shared _ _ _ _ c.are_lists.ensures c.if-not-are_lists.false c.share_any.ensures c.if-share_any.true

pub returns : goal.returns
returns c =
    apart_fine _ _ _ _ c.are_lists.ensures c.if-not-are_lists.false c.share_any.ensures c.if-share_any.false
