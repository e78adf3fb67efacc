use mathlib.Core.Path.{refl, ap, ◌∙◌}
use Rattle.std.specs.Prelude.{Ok}
use Rattle.std.proofs.lemmas.Result.{err_from_is_err_and}
use Rattle.paged_lists.specs.PagedCalls.{paged_in}
use Rattle.paged_calls.proofs.NumberLaws.{alloc-tells}
use Rattle.paged_calls.proofs.AllocLeftLaws.{own-refused, own-none, own-taken}
use Rattle.paged_calls.proofs.called_alloc.Goals as goal

pub test_alloc-requires : goal.test_alloc-requires
test_alloc-requires c =
    let a = c.args in
    let s = paged_in a.metadata.now a.raw.now a.unclassified.now a.marks.now a.lists in
    let own = c.decide_alloc-own in
    rw c.err.ensures.value (alloc-tells s.lists c.list_of.result c.below-asked.result own.result own.ensures.0)

pub returns-in_err-own : goal.returns-in_err-own
returns-in_err-own c =
    let a = c.args in
    let s = paged_in a.metadata.now a.raw.now a.unclassified.now a.marks.now a.lists in
    let own = c.decide_alloc-own in
    let p = err_from_is_err_and c.from_residual-in_err-own.result c.from_residual-in_err-own.ensures.1 in
    rw (p.1, p.2) (own-refused a.page a.kind a.len s (Ok _) c.in_ok-width.ensures _ refl c.if-len-eq0.false _ c.list_of.ensures _ c.below-asked.ensures
    own.result own.ensures _ c.in_err-own.was)

pub returns-in-None : goal.returns-in-None
returns-in-None c =
    let a = c.args in
    let s = paged_in a.metadata.now a.raw.now a.unclassified.now a.marks.now a.lists in
    let own = c.decide_alloc-own in
    own-none a.page a.kind a.len s (Ok _) c.in_ok-width.ensures _ refl c.if-len-eq0.false _ c.list_of.ensures _ c.below-asked.ensures own.result
    own.ensures (c.in_ok-own.was ∙ ap Ok c.in-None.is) c.draw_for.ensures

pub returns-in-Some : goal.returns-in-Some
returns-in-Some c =
    let a = c.args in
    let s = paged_in a.metadata.now a.raw.now a.unclassified.now a.marks.now a.lists in
    let own = c.decide_alloc-own in
    let is = c.in_ok-own.was ∙ ap Ok c.in-Some.is in
    own-taken a.page a.kind a.len s (Ok _) c.in_ok-width.ensures _ refl c.if-len-eq0.false _ c.list_of.ensures _ c.below-asked.ensures own.result
    own.ensures _ is (c.take_own.ensures a.unclassified.now a.marks.now)
