use native.Mathlib.Nat.{mod-le}
use native.Mathlib.Omega.{arith}
use Rattle.std.proofs.lemmas.Result.{err_from_is_err_and}
use Rattle.free_regions.proofs.InteriorLaws.{end_is, interior-over, interior-zero, interior-low, interior-high, interior-is}
use Rattle.free_regions.proofs.FreeRegion.aligned_interior.Goals as goal

pub returns-in_err-end : goal.returns-in_err-end
returns-in_err-end c =
    let p = err_from_is_err_and c.from_residual.result c.from_residual.ensures.1 in
    rw (p.1, p.2) (interior-over _ _ _ c.in_err-end.ensures)

pub returns-then-unit-eq0 : goal.returns-then-unit-eq0
returns-then-unit-eq0 c =
    let e = end_is c.args.self c.end.ensures _ c.in_ok-end.was in
    interior-zero _ _ e.1 c.if-unit-eq0.true

pub overflow_sub-last : goal.overflow_sub-last
overflow_sub-last c = mod-le _ _

pub returns-then-last-self : goal.returns-then-last-self
returns-then-last-self c =
    let e = end_is c.args.self c.end.ensures _ c.in_ok-end.was in
    interior-low _ _ e.1 _ e.0 c.if-unit-eq0.false c.if-last-self.true

pub returns-then-last-start : goal.returns-then-last-start
returns-then-last-start c =
    let e = end_is c.args.self c.end.ensures _ c.in_ok-end.was in
    interior-high _ _ e.1 _ e.0 c.if-unit-eq0.false _ c.next_multiple_of-start.ensures.value (omega arith)

pub returns : goal.returns
returns c =
    let e = end_is c.args.self c.end.ensures _ c.in_ok-end.was in
    interior-is _ _ e.1 _ e.0 c.if-unit-eq0.false _ c.next_multiple_of-start.ensures.value (omega arith)
