use mathlib.Core.Path.{◌∙◌}
use Rattle.free_lists.specs.Lists.{lists_in}
use Rattle.save.proofs.OrderLaws.{begin_page, begin_lists, begin_asks, begin_early, begin_apart, begin_message, begin_after}
use Rattle.save.proofs.save_begin.Goals as goal

pub returns-then-to-eq0 : goal.returns-then-to-eq0
returns-then-to-eq0 c =
    let a = c.args in
    begin_page (lists_in a.meta.now a.raw.now a.unclassified.now a.lists) a.to.page a.to.start a.to.place a.image.now a.scratch.now c.if-to-eq0.true

pub returns-then-not-are_lists : goal.returns-then-not-are_lists
returns-then-not-are_lists c =
    let a = c.args in
    begin_lists (lists_in a.meta.now a.raw.now a.unclassified.now a.lists) a.to.page a.to.start a.to.place a.image.now a.scratch.now c.if-to-eq0.false _ c.are_lists.ensures c.if-not-are_lists.true

pub test_early-requires : goal.test_early-requires
test_early-requires c =
    record {
      lists = let a = c.args in
          (begin_asks (lists_in a.meta.now a.raw.now a.unclassified.now a.lists) a.to.page a.to.start a.to.place a.image.now a.scratch.now c.if-to-eq0.false _ c.are_lists.ensures c.if-not-are_lists.false).1;
    }

pub refuse_early-requires : goal.refuse_early-requires
refuse_early-requires c =
    let a = c.args in
    begin_asks (lists_in a.meta.now a.raw.now a.unclassified.now a.lists) a.to.page a.to.start a.to.place a.image.now a.scratch.now c.if-to-eq0.false _ c.are_lists.ensures c.if-not-are_lists.false

pub begin_after-requires : goal.begin_after-requires
begin_after-requires c =
    let a = c.args in
    record { lists = begin_asks (lists_in a.meta.now a.raw.now a.unclassified.now a.lists) a.to.page a.to.start a.to.place a.image.now a.scratch.now c.if-to-eq0.false _ c.are_lists.ensures c.if-not-are_lists.false; apart = begin_apart (lists_in a.meta.now a.raw.now a.unclassified.now a.lists) a.to.page a.to.start a.to.place a.image.now a.scratch.now c.if-to-eq0.false _ c.are_lists.ensures c.if-not-are_lists.false c.in-Ok.ensures; message = begin_message (lists_in a.meta.now a.raw.now a.unclassified.now a.lists) a.to.page a.to.start a.to.place a.image.now a.scratch.now c.if-to-eq0.false _ c.are_lists.ensures c.if-not-are_lists.false c.in-Ok.ensures }

pub returns-in-Err : goal.returns-in-Err
returns-in-Err c =
    let a = c.args in
    begin_early (lists_in a.meta.now a.raw.now a.unclassified.now a.lists) a.to.page a.to.start a.to.place a.image.now a.scratch.now c.if-to-eq0.false _ c.are_lists.ensures c.if-not-are_lists.false _ c.in-Err.ensures c.refuse_early.result c.refuse_early.ensures

pub returns-in-Ok : goal.returns-in-Ok
returns-in-Ok c =
    let a = c.args in
    c.begin_after.ensures ∙ begin_after (lists_in a.meta.now a.raw.now a.unclassified.now a.lists) a.to.page a.to.start a.to.place a.image.now a.scratch.now c.if-to-eq0.false _ c.are_lists.ensures c.if-not-are_lists.false c.in-Ok.ensures
