use Rattle.paged_lists.specs.PagedCalls.{paged_in}
use Rattle.paged_calls.proofs.NumberLaws.{free-tells}
use Rattle.paged_calls.proofs.FreeLaws.{free-none, free_joins, free_other, free-rejoined}
use Rattle.paged_calls.proofs.FreeLeftLaws.{free_as}
use Rattle.paged_calls.proofs.called_free.Goals as goal

pub test_free-requires : goal.test_free-requires
test_free-requires c =
    let a = c.args in
    let s = paged_in a.metadata.now a.raw.now a.unclassified.now a.marks.now a.lists in
    let own = c.decide_free-own in
    rw c.err.ensures.value (free-tells s.lists c.list_of.result a.addr a.len own.result own.ensures.decided.0)

pub returns-then-len-eq0 : goal.returns-then-len-eq0
returns-then-len-eq0 c =
    let a = c.args in
    let s = paged_in a.metadata.now a.raw.now a.unclassified.now a.marks.now a.lists in
    free_as a.page a.kind a.addr a.len s (free-none a.page a.addr a.len s c.in_ok-test_free.ensures a.kind c.if-len-eq0.true)

pub returns-then-not-all_marked : goal.returns-then-not-all_marked
returns-then-not-all_marked c =
    let a = c.args in
    let s = paged_in a.metadata.now a.raw.now a.unclassified.now a.marks.now a.lists in
    let f = c.pages_of-f in
    free_as a.page a.kind a.addr a.len s
    (free_other a.page a.addr a.len s c.in_ok-test_free.ensures a.kind c.if-len-eq0.false f.result f.ensures.0 f.ensures.1 f.ensures.2 _ c.all_marked.ensures c.if-not-all_marked.true)

pub give_back_for-requires : goal.give_back_for-requires
give_back_for-requires c =
    let a = c.args in
    let s = paged_in a.metadata.now a.raw.now a.unclassified.now a.marks.now a.lists in
    let f = c.pages_of-f in
    let own = c.decide_free-own in
    free_joins a.page a.addr a.len s c.in_ok-test_free.ensures a.kind c.if-len-eq0.false f.result f.ensures.0 f.ensures.1 f.ensures.2 _ c.list_of.ensures own.result
    own.ensures.decided own.ensures.folds

pub returns : goal.returns
returns c =
    let a = c.args in
    let s = paged_in a.metadata.now a.raw.now a.unclassified.now a.marks.now a.lists in
    let f = c.pages_of-f in
    free-rejoined a.page a.addr a.len s c.in_ok-test_free.ensures a.kind c.if-len-eq0.false f.result f.ensures.0 f.ensures.1 f.ensures.2 _ c.all_marked.ensures c.if-not-all_marked.false
    c.give_back_for.ensures
