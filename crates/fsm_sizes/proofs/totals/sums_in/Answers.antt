use Rattle.std.proofs.Common.{◌≡◌, ◌+◌, ◌*◌, ◌<◌, ◌≤◌, refl, ap, ◌∙◌, arith, rules}
use Rattle.std.proofs.lemmas.Result.{err_from_is_err_and}
use Rattle.error.specs.declared.Refusal.TheVariants.{Overflow}
use Rattle.fields.specs.Ranges.{top}
use Rattle.fsm_sections.specs.RunSteps.{regions_left}
use Rattle.fsm_sizes.proofs.TotalLaws.{region-space, space_step, count_step, space-end, count-end, sum_over, number_over, both_low}
use Rattle.fsm_sizes.proofs.totals.sums_in.Goals as goal

pub loop-region-init : goal.loop-region-init
loop-region-init c = rw (ap regions_left c.into_iter-region-iterator.ensures.into_iter_gives ∙ c.new-region-items.ensures) (refl, refl, omega arith, omega arith)

pub overflow_mul-r : goal.overflow_mul-r
overflow_mul-r c = let a = c.args in omega (arith, region-space a.part a.page _ _ _ c.in-Some.ensures.steps _ c.part_chain-r.ensures)

pub returns-in_err-sum : goal.returns-in_err-sum
returns-in_err-sum c =
    let a = c.args in
    let l = c.loop-region in
    let m = c.part_chain-r.result in
    let e : c.in_err-sum.field-0.0 ≡ Overflow = search rules in
    let h : top < l.sum + m.count * m.size = search rules in
    let p = err_from_is_err_and c.from_residual.result c.from_residual.ensures.1 in
    rw (p.1, p.2, e)
    (sum_over _ _ (omega (arith, h, l.invariant.1, l.invariant.3, space_step a.part a.page _ _ _ c.in-Some.ensures.steps _ c.part_chain-r.ensures)))

pub returns-in_err-n : goal.returns-in_err-n
returns-in_err-n c =
    let a = c.args in
    let l = c.loop-region in
    let m = c.part_chain-r.result in
    let e : c.in_err-n.field-0.0 ≡ Overflow = search rules in
    let h : top < l.n + m.count = search rules in
    let p = err_from_is_err_and c.from_residual-in_err-n.result c.from_residual-in_err-n.ensures.1 in
    rw (p.1, p.2, e)
    (number_over _ _ (omega (arith, h, l.invariant.0, l.invariant.2, count_step a.part a.page _ _ _ c.in-Some.ensures.steps _ c.part_chain-r.ensures)))

pub loop-region-preserved : goal.loop-region-preserved
loop-region-preserved c =
    let a = c.args in
    let l = c.loop-region in
    let m = c.part_chain-r.result in
    let n = count_step a.part a.page _ _ _ c.in-Some.ensures.steps _ c.part_chain-r.ensures in
    let z = space_step a.part a.page _ _ _ c.in-Some.ensures.steps _ c.part_chain-r.ensures in
    let u : (c.in_ok-n.n ≡ l.n + m.count) × (c.in_ok-n.n ≤ top) = search rules in
    let v : (c.in_ok-sum.sum ≡ l.sum + m.count * m.size) × (c.in_ok-sum.sum ≤ top) = search rules in
    (omega (arith, n, u.0, l.invariant.0), omega (arith, z, v.0, l.invariant.1), u.1, v.1)

pub returns : goal.returns
returns c =
    let a = c.args in
    let l = c.loop-region in
    let e = c.in-None.ensures.steps.0 in
    both_low _ _ _ _
    (omega (arith, l.invariant.0, count-end a.part a.page _ e)) (omega (arith, l.invariant.1, space-end a.part a.page _ e)) l.invariant.2 l.invariant.3
