use mathlib.Core.Path.{◌≡◌}
use Prim.Native.Nat.{◌+◌, ◌≤◌}
use native.Mathlib.Omega.{arith}
use lib.ListN.{length}
use borrow.Author.Rules.{rules}
use Rattle.std.proofs.lemmas.Result.{err_from_is_err_and}
use Rattle.error.specs.Outcome.{Outcome, answer, first_of}
use Rattle.free_lists.specs.Lists.{lists_in, regions_in}
use Rattle.save.specs.Beginning.{away_tests, early_tests}
use Rattle.save.proofs.OrderLaws.{away_outside, message_there, away_version, away_strategy, away_way, away_fine, shared-refused, shared-not}
use Rattle.save.proofs.conditions.test_early.Goals as goal
use Rattle.save.proofs.conditions.test_early.Goals.{In_ok-check_lists, Else-not-message_in}

-- refusal 5 is past
past : (c : In_ok-check_lists) →
    let a = c.args in
    (o : Outcome (Unit {0})) → o ≡ first_of (away_tests (regions_in (lists_in a.meta.now a.raw.now a.unclassified.now a.q.lists)) a.q.to.start a.q.to.place a.image.now) (answer tt) → o ≡ first_of (early_tests (regions_in (lists_in a.meta.now a.raw.now a.unclassified.now a.q.lists)) a.q.to.start a.q.to.place a.image.now) (answer tt)
past c =
    let a = c.args in
    shared-not a.meta.now a.raw.now a.unclassified.now a.q.lists c.requires.lists (away_tests (regions_in (lists_in a.meta.now a.raw.now a.unclassified.now a.q.lists)) a.q.to.start a.q.to.place a.image.now) c.in_ok-check_lists.ensures

-- the message lies in the image
there : (c : Else-not-message_in) → let a = c.args in a.q.to.place + 125 ≤ length a.image.now
there c = let a = c.args in message_there (regions_in (lists_in a.meta.now a.raw.now a.unclassified.now a.q.lists)) a.q.to.start a.q.to.place a.image.now _ c.message_in.ensures c.if-not-message_in.false

pub returns-then-not-message_in : goal.returns-then-not-message_in
returns-then-not-message_in c =
    let a = c.args in past (goal.at.returns-then-not-message_in c).In_ok-check_lists _ (away_outside (regions_in (lists_in a.meta.now a.raw.now a.unclassified.now a.q.lists)) a.q.to.start a.q.to.place a.image.now _ c.message_in.ensures c.if-not-message_in.true)

pub bounds-image-at : goal.bounds-image-at
bounds-image-at c =
    let i = there (goal.at.bounds-image-at c).Else-not-message_in in search rules

pub returns-then-version-ne1 : goal.returns-then-version-ne1
returns-then-version-ne1 c =
    let a = c.args in past (goal.at.returns-then-version-ne1 c).In_ok-check_lists _ (away_version (regions_in (lists_in a.meta.now a.raw.now a.unclassified.now a.q.lists)) a.q.to.start a.q.to.place a.image.now _ c.message_in.ensures c.if-not-message_in.false c.if-version-ne1.true)

pub overflow_add-code : goal.overflow_add-code
overflow_add-code c =
    let i = there (goal.at.overflow_add-code c).Else-not-message_in in search rules

pub bounds-image-at-2 : goal.bounds-image-at-2
bounds-image-at-2 c =
    let i = there (goal.at.bounds-image-at-2 c).Else-not-message_in in search rules

pub returns-then-code-gt3 : goal.returns-then-code-gt3
returns-then-code-gt3 c =
    let a = c.args in past (goal.at.returns-then-code-gt3 c).In_ok-check_lists _ (away_strategy (regions_in (lists_in a.meta.now a.raw.now a.unclassified.now a.q.lists)) a.q.to.start a.q.to.place a.image.now _ c.message_in.ensures c.if-not-message_in.false c.if-version-ne1.false c.if-code-gt3.true)

pub any_in_the_way-requires : goal.any_in_the_way-requires
any_in_the_way-requires c =
    let i = there (goal.at.any_in_the_way-requires c).Else-not-message_in in
    record { lists = c.requires.lists; message = omega arith }

pub returns-then-any_in_the_way : goal.returns-then-any_in_the_way
returns-then-any_in_the_way c =
    let a = c.args in
    past (goal.at.returns-then-any_in_the_way c).In_ok-check_lists _ (away_way (regions_in (lists_in a.meta.now a.raw.now a.unclassified.now a.q.lists)) a.q.to.start a.q.to.place a.image.now _ c.message_in.ensures c.if-not-message_in.false c.if-version-ne1.false c.if-code-gt3.false _ c.any_in_the_way.ensures c.if-any_in_the_way.true)

pub returns-in_err-check_lists : goal.returns-in_err-check_lists
returns-in_err-check_lists c =
    let a = c.args in
    let p = err_from_is_err_and c.from_residual.result c.from_residual.ensures.1 in
    rw (p.1, p.2) (shared-refused a.meta.now a.raw.now a.unclassified.now a.q.lists c.requires.lists (away_tests (regions_in (lists_in a.meta.now a.raw.now a.unclassified.now a.q.lists)) a.q.to.start a.q.to.place a.image.now) _ c.in_err-check_lists.ensures)

pub returns : goal.returns
returns c =
    let a = c.args in
    past (goal.at.returns c).In_ok-check_lists _ (away_fine (regions_in (lists_in a.meta.now a.raw.now a.unclassified.now a.q.lists)) a.q.to.start a.q.to.place a.image.now _ c.message_in.ensures c.if-not-message_in.false c.if-version-ne1.false c.if-code-gt3.false _ c.any_in_the_way.ensures c.if-any_in_the_way.false)
