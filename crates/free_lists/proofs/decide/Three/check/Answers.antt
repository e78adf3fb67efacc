-- the flag of the code says whether all three are lists
use mathlib.Core.Path.{◌≡◌, sym, ◌∙◌}
use mathlib.Core.Bool.{true}
use Prim.Native.Nat.{◌+◌, ◌≤◌}
use native.Mathlib.Omega.{arith}
use Rattle.fields.specs.Ranges.{top}
use Rattle.free_lists.specs.Lists.{lists_in, are_lists}
use Rattle.free_lists.specs.Walks.{no_lists, too_long}
use Rattle.free_lists.proofs.SharingLaws.{lists-order}
use Rattle.free_lists.proofs.DecidedLaws.{due_second, due_third, due_together, due_none}
use Rattle.free_lists.proofs.decide.Three.check.Goals as goal
use Rattle.free_lists.proofs.decide.Three.check.Goals.{then-holds_any-via-then-holds_any, then-holds_any-via-else-holds_any+then-holds_any-2, then-holds_any-via-else-holds_any+else-holds_any-2+then-share_any}

pub returns-then-not-all_lists : goal.returns-then-not-all_lists
returns-then-not-all_lists c =
    let tested : (let a = c.args.self in
    c.all_lists.result ≡ are_lists (lists_in a.own.now a.second.now a.third.now a.lists)) = rw c.requires at c.all_lists.ensures in
    no_lists (sym tested ∙ c.if-not-all_lists.true)

pub returns-then-len-addr : goal.returns-then-len-addr
returns-then-len-addr c =
    let tested : (let a = c.args.self in
    c.all_lists.result ≡ are_lists (lists_in a.own.now a.second.now a.third.now a.lists)) = rw c.requires at c.all_lists.ensures in
    too_long (sym tested ∙ c.if-not-all_lists.false) (omega arith)

pub invariant_of-r : goal.invariant_of-r
invariant_of-r c =
    let tested : (let a = c.args.self in
    c.all_lists.result ≡ are_lists (lists_in a.own.now a.second.now a.third.now a.lists)) = rw c.requires at c.all_lists.ensures in
    record { in_order = (lists-order _ _ _ _ tested c.if-not-all_lists.false).raw }

pub invariant_of-u : goal.invariant_of-u
invariant_of-u c =
    let tested : (let a = c.args.self in
    c.all_lists.result ≡ are_lists (lists_in a.own.now a.second.now a.third.now a.lists)) = rw c.requires at c.all_lists.ensures in
    record { in_order = (lists-order _ _ _ _ tested c.if-not-all_lists.false).unclassified }

pub share_any-requires : goal.share_any-requires
share_any-requires c =
    let tested : (let a = c.args.self in
    c.all_lists.result ≡ are_lists (lists_in a.own.now a.second.now a.third.now a.lists)) = rw c.requires at c.all_lists.ensures in
    lists-order _ _ _ _ tested c.if-not-all_lists.false

pub returns-then-holds_any : goal.returns-then-holds_any
returns-then-holds_any c =
    let tested : (let a = c.args.self in
    c.all_lists.result ≡ are_lists (lists_in a.own.now a.second.now a.third.now a.lists)) = rw c.requires at c.all_lists.ensures in
    let ok : (let a = c.args.self in
    are_lists (lists_in a.own.now a.second.now a.third.now a.lists) ≡ true) = sym tested ∙ c.if-not-all_lists.false in
    let fits : (let a = c.args in a.addr + a.len ≤ top) = omega arith in
    elim c.then-holds_any.branch [
      | then-holds_any-via-then-holds_any w ↦ due_second _ _ _ ok fits c.holds_any.ensures w.if-holds_any.true
      | then-holds_any-via-else-holds_any+then-holds_any-2 w ↦ due_third _ _ _ ok fits w.holds_any-else-holds_any.ensures w.if-holds_any-2.true
      | then-holds_any-via-else-holds_any+else-holds_any-2+then-share_any w ↦ due_together _ _ _ ok fits w.share_any.ensures w.if-share_any.true
    ]

pub returns : goal.returns
returns c =
    let tested : (let a = c.args.self in
    c.all_lists.result ≡ are_lists (lists_in a.own.now a.second.now a.third.now a.lists)) = rw c.requires at c.all_lists.ensures in
    let fits : (let a = c.args in a.addr + a.len ≤ top) = omega arith in
    due_none _ _ _ (sym tested ∙ c.if-not-all_lists.false) fits c.share_any.ensures c.holds_any.ensures c.holds_any-else-holds_any.ensures
    c.if-share_any.false c.if-holds_any.false c.if-holds_any-2.false
