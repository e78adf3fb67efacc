-- `told`: what the count tells where it gives a number
use Prim.Native.Nat.{◌<◌}
use native.Mathlib.Omega.{arith}
use Rattle.std.proofs.lemmas.Result.{err_from_is_err_and}
use Rattle.fsm_pages.proofs.SplitLaws.{Splits, split_told, split-page, split_odd, split-refused, split-over, split_number, split-is}
use Rattle.fsm_pages.proofs.pages.split_at_pages.Goals as goal

pub returns-then-page-eq0 : goal.returns-then-page-eq0
returns-then-page-eq0 c = let a = c.args in split-page a.sections.now a.count a.page a.out.now c.if-page-eq0.true

pub returns-then-out-ne0 : goal.returns-then-out-ne0
returns-then-out-ne0 c =
    let a = c.args in split_odd a.sections.now a.count a.page a.out.now c.if-page-eq0.false c.if-out-ne0.true

pub returns-then-capacity-needed : goal.returns-then-capacity-needed
returns-then-capacity-needed c =
    let told : Splits c.args.sections.now c.args.count c.args.page c.in_ok-needed.needed = split_told _ _ _ _ c.in_ok-needed.ensures in
    let a = c.args in
    split-over a.sections.now a.count a.page a.out.now c.if-out-ne0.false _ told c.if-capacity-needed.true

pub put_split-requires : goal.put_split-requires
put_split-requires c =
    let told : Splits c.args.sections.now c.args.count c.args.page c.in_ok-needed.needed = split_told _ _ _ _ c.in_ok-needed.ensures in
    let a = c.args in
    let n = split_number a.sections.now a.count a.page a.out.now c.if-out-ne0.false _ told c.if-capacity-needed.false (omega (arith, c.well_formed)) in
    let h : 0 < a.page = omega (arith, c.if-page-eq0.false) in
    record { page = h; fits = told.fits; room = omega (arith, n, c.if-capacity-needed.false) }

pub returns-in_err-needed : goal.returns-in_err-needed
returns-in_err-needed c =
    let a = c.args in
    let p = err_from_is_err_and c.from_residual.result c.from_residual.ensures.1 in rw (p.1, p.2)
    (split-refused a.sections.now a.count a.page a.out.now c.if-out-ne0.false _ c.in_err-needed.ensures)

pub returns : goal.returns
returns c =
    let told : Splits c.args.sections.now c.args.count c.args.page c.in_ok-needed.needed = split_told _ _ _ _ c.in_ok-needed.ensures in
    let a = c.args in
    split-is a.sections.now a.count a.page a.out.now c.if-out-ne0.false _ told c.if-capacity-needed.false (omega (arith, c.well_formed)) _ c.put_split.ensures
