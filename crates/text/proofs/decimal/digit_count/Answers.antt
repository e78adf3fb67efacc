use native.Mathlib.Omega.{arith}
use Rattle.text.proofs.DecimalLaws.{count-start, count_next, count-end, fewer}
use Rattle.text.proofs.decimal.digit_count.Goals as goal

pub loop-rest-init : goal.loop-rest-init
loop-rest-init c = (omega arith, omega arith, count-start c.args.n)

pub loop-rest-preserved : goal.loop-rest-preserved
loop-rest-preserved c =
    let l = c.loop-rest in
    let t = c.loop-rest-test.true in
    let f = fewer c.args.n l.count l.rest l.invariant.1 l.invariant.0 t in
    (omega arith, f.1, count_next c.args.n l.count l.rest t f.0 l.invariant.2)

pub returns : goal.returns
returns c =
    let l = c.loop-rest in
    count-end c.args.n l.count l.rest c.loop-rest-test.false l.invariant.2
