use Rattle.std.proofs.Common.{ℕ, refl, sym, ap, ◌∙◌, arith, eq-eqb, ne_eqb}
use Rattle.free_regions.specs.Regions.{one_at, lower}
use Rattle.free_space.specs.Searches.{so_far}
use Rattle.free_space.proofs.CheckLaws.{pass_stops, pass_goes, pass_ends}
use Rattle.free_space.proofs.FitLaws.{fit-first, fit_step, fit-end, finds}
use Rattle.free_space.proofs.fit.best_after.Goals as goal

pub returns-then-not-follows : goal.returns-then-not-follows
returns-then-not-follows g c = λ m h.
    let r = c.region_at-r in
    (pass_stops c.loop-i.invariant.0 c.loop-i-test.true r.result r.ensures (sym c.if-not-follows.ensures), refl)

pub loop-i-preserved : goal.loop-i-preserved
loop-i-preserved g c =
    let a = c.args in
    let l = c.loop-i in
    let r = c.region_at-r in
    let w = c.measure-in-loop-i in
    let b = c.better_of-b-in-loop-i in
    let next = pass_goes l.invariant.0 c.loop-i-test.true r.result r.ensures (sym c.if-not-follows.ensures) in (
      next,
      λ m h.
          l.invariant.1 m h
          ∙ fit_step m a.len l.i a.list.count a.run.now l.b b.result r.result c.loop-i-test.true l.invariant.0.room r.ensures
          (b.ensures ∙ ap (λ (s : ℕ). lower (so_far a.len l.b) (one_at a.len l.i s)) (h r.result w.result next.within w.ensures)),
    )

pub returns-then-list-sum : goal.returns-then-list-sum
returns-then-list-sum g c = λ m h.
    let l = c.loop-i in
    (pass_ends l.invariant.0 c.loop-i-test.false ∙ ne_eqb c.args.list.total l.sum c.if-list-sum.true, refl)

pub returns : goal.returns
returns g c = λ m h.
    let a = c.args in
    let first = c.requires.first.0 in
    let n = a.list.count in
    let xs = a.run.now in
    let room = first.tested.room in
    let l = c.loop-i in
    let one = c.better_of-b in
    let none = c.none_yet in
    finds m xs a.list a.len l.b _
    (pass_ends l.invariant.0 c.loop-i-test.false ∙ eq-eqb a.list.total l.sum c.if-list-sum.false)
    (fit-first m a.len n xs none.result one.result a.first first.some room first.is none.ensures
    (one.ensures ∙ ap (λ (s : ℕ). lower (so_far a.len none.result) (one_at a.len 0 s)) (h a.first c.measure.result first.tested.within c.measure.ensures))
    ∙ l.invariant.1 m h ∙ fit-end m a.len l.i n xs l.b (omega arith) room)
    c.found.ensures
