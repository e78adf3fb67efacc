use mathlib.Core.Path.{ap, ◌∙◌}
use native.Mathlib.Omega.{arith}
use Rattle.std.specs.Prelude.{◌+◌, ◌-◌, ◌/◌, length, Ok}
use Rattle.std.proofs.lemmas.Result.{err_from_is_err_and}
use Rattle.error.specs.declared.Refusal.TheVariants.{OverCapacity}
use Rattle.paged_calls.proofs.BackLaws.{back-refused, ends, first-low, last-low, gives-own, pages_lie, gives-full, gives-pages}
use Rattle.paged_calls.proofs.ReturnLaws.{back_no, back-own, back-pages}
use Rattle.paged_calls.proofs.free_pages.give_back.Goals as goal

pub returns-in_err-change : goal.returns-in_err-change
returns-in_err-change c =
    let a = c.args in
    let p = err_from_is_err_and c.from_residual.result c.from_residual.ensures.1 in
    rw (p.1, p.2) (back_no a.page a.f a.own.now a.shared.now a.marks.now a.lists.own a.lists.shared _ (back-refused _ _ _ _ c.requires c.in_err-change.was))

pub whole_from-p-requires : goal.whole_from-p-requires
whole_from-p-requires c =
    let is = c.in_ok-change.was ∙ ap Ok c.in-Some.is in
    let low = first-low c.requires is c.folded-r.ensures in
    (low.0, ends c.requires is c.folded-r.ensures, low.1)

pub whole_up_to-e-requires : goal.whole_up_to-e-requires
whole_up_to-e-requires c =
    let is = c.in_ok-change.was ∙ ap Ok c.in-Some.is in
    let low = last-low c.requires is c.folded-r.ensures in
    (low.0, ends c.requires is c.folded-r.ensures, low.1)

pub returns-then-e-p : goal.returns-then-e-p
returns-then-e-p c =
    let a = c.args in
    let is = c.in_ok-change.was ∙ ap Ok c.in-Some.is in
    back-own a.page a.f a.own.now a.shared.now a.marks.now a.lists.own a.lists.shared a.f.addr a.d
    (gives-own c.requires is c.folded-r.ensures c.whole_from-p.ensures c.whole_up_to-e.ensures _ c.if-e-p.true) _ _ c.carry_out-joined.ensures

pub overflow_mul-p : goal.overflow_mul-p
overflow_mul-p c =
    let is = c.in_ok-change.was ∙ ap Ok c.in-Some.is in
    let lie = pages_lie c.requires is c.folded-r.ensures c.whole_from-p.ensures c.whole_up_to-e.ensures (omega (arith, c.if-e-p.false)) in
    omega (arith, lie.0)

pub overflow_mul-e : goal.overflow_mul-e
overflow_mul-e c =
    let is = c.in_ok-change.was ∙ ap Ok c.in-Some.is in
    let lie = pages_lie c.requires is c.folded-r.ensures c.whole_from-p.ensures c.whole_up_to-e.ensures (omega (arith, c.if-e-p.false)) in
    omega (arith, lie.2)

pub is_over-requires : goal.is_over-requires
is_over-requires c = ends c.requires (c.in_ok-change.was ∙ ap Ok c.in-Some.is) c.folded-r.ensures

pub returns-then-is_over : goal.returns-then-is_over
returns-then-is_over c =
    let a = c.args in
    let g = c.in-Some.change in
    let is = c.in_ok-change.was ∙ ap Ok c.in-Some.is in
    back_no a.page a.f a.own.now a.shared.now a.marks.now a.lists.own a.lists.shared
    (OverCapacity (g.lo + 1 + (a.lists.own.count - g.hi) + 1) (length a.own.now / 2))
    (gives-full c.requires is c.folded-r.ensures c.whole_from-p.ensures c.whole_up_to-e.ensures (omega (arith, c.if-e-p.false)) _ c.is_over.ensures c.if-is_over.true)

pub return_pages-requires : goal.return_pages-requires
return_pages-requires c =
    let is = c.in_ok-change.was ∙ ap Ok c.in-Some.is in
    let some = c.if-e-p.false in
    let lie = pages_lie c.requires is c.folded-r.ensures c.whole_from-p.ensures c.whole_up_to-e.ensures (omega (arith, some)) in
    (omega (arith, some), lie.2, c.requires.ranged.page_some)

pub returns : goal.returns
returns c =
    let a = c.args in
    let is = c.in_ok-change.was ∙ ap Ok c.in-Some.is in
    back-pages a.page a.f a.own.now a.shared.now a.marks.now a.lists.own a.lists.shared _ _ _ _ _ _ _
    (gives-pages c.requires is c.folded-r.ensures c.whole_from-p.ensures c.whole_up_to-e.ensures (omega (arith, c.if-e-p.false)) _ c.is_over.ensures c.if-is_over.false)
    c.return_pages.ensures
