use Rattle.std.proofs.Common.{sym, ◌∙◌, arith, eq-eqb, ne_eqb}
use Rattle.free_space.proofs.CheckLaws.{pass_stops, pass_goes, pass_ends}
use Rattle.free_space.proofs.QuestionLaws.{no_list, greatest_step, greatest-end}
use Rattle.free_space.proofs.questions.greatest_after.Goals as goal

pub returns-then-not-follows : goal.returns-then-not-follows
returns-then-not-follows g c = λ m h.
    let a = c.args in
    let r = c.region_at-r in
    no_list m a.run.now a.list (pass_stops c.loop-i.invariant.0 c.loop-i-test.true r.result r.ensures (sym c.if-not-follows.ensures))

pub loop-i-preserved : goal.loop-i-preserved
loop-i-preserved g c =
    let a = c.args in
    let l = c.loop-i in
    let r = c.region_at-r in
    let next = pass_goes l.invariant.0 c.loop-i-test.true r.result r.ensures (sym c.if-not-follows.ensures) in (
      next,
      λ m h.
          greatest_step m a.run.now a.list l.i _ _ r.result r.ensures c.loop-i-test.true next.room (l.invariant.1 m h)
          (omega (arith, h r.result c.measure.result next.within c.measure.ensures)),
    )

pub returns-then-list-sum : goal.returns-then-list-sum
returns-then-list-sum g c = λ m h.
    let a = c.args in
    let l = c.loop-i in
    no_list m a.run.now a.list (pass_ends l.invariant.0 c.loop-i-test.false ∙ ne_eqb a.list.total l.sum c.if-list-sum.true)

pub returns : goal.returns
returns g c = λ m h.
    let a = c.args in
    let l = c.loop-i in
    greatest-end m a.run.now a.list l.i l.most l.invariant.0.room (l.invariant.1 m h) c.loop-i-test.false
    (pass_ends l.invariant.0 c.loop-i-test.false ∙ eq-eqb a.list.total l.sum c.if-list-sum.false)
