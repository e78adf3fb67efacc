-- `served`: what the search found, where it found a region
use Rattle.std.proofs.Common.{sym, refl, ap, ◌∙◌, arith, rules, of_calls}
use Rattle.std.proofs.lemmas.Result.{err_from_is_err_and}
use Rattle.error.specs.Outcome.{first_of}
use Rattle.free_regions.specs.Units.{interior_start, interior_span}
use Rattle.free_space.specs.Calls.{allocated_units}
use Rattle.free_space.specs.Searches.{Serves}
use Rattle.free_space.proofs.AnswerLaws.{serve-at, units_else}
use Rattle.free_space.proofs.decide.decide_whole_units.Goals as goal
use Rattle.free_space.proofs.decide.decide_whole_units.Goals.{In-Some}

served : (s : In-Some) → Serves (interior_span s.args.unit) s.args.run.now s.args.list s.args.len s.in-Some.i
served s = rw s.in-Some.is at (s.in_ok-i.ensures (interior_span s.args.unit) (λ r n k p. search (rules, of_calls)))

pub returns-in_err-i : goal.returns-in_err-i
unfolding allocated_units first_of
returns-in_err-i c =
    let h = c.in_err-i.ensures (interior_span c.args.unit) (λ r n k p. search (rules, of_calls)) in
    let p = err_from_is_err_and c.from_residual-in_err-i.result c.from_residual-in_err-i.ensures.1 in
    rw (p.1, p.2, h.1, h.0) (refl, tt)

pub returns-in_default : goal.returns-in_default
returns-in_default c =
    let a = c.args in
    let h = rw c.in_default.is at (c.in_ok-i.ensures (interior_span a.unit) (λ r n k p. search (rules, of_calls))) in
    (rw h.1 at (units_else a.run.now a.list a.len a.unit (sym c.if-is_part.ensures) h.0 c.if-len-eq0.false), tt)

pub invariant_of-valid : goal.invariant_of-valid
invariant_of-valid c = record { tested = (served (goal.at.invariant_of-valid c).In-Some).list }

pub region-requires : goal.region-requires
region-requires c = (served (goal.at.region-requires c).In-Some).below

pub take_units-requires : goal.take_units-requires
take_units-requires c =
    let f = served (goal.at.take_units-requires c).In-Some in
    let g = c.region in
    (f.below, g.ensures.read, omega arith, omega (arith, f.suffices, ap (interior_span c.args.unit) g.ensures.read))

pub returns : goal.returns
returns c =
    let a = c.args in
    let xs = a.run.now in
    let g = c.region in
    let f = served (goal.at.returns c).In-Some in (
      c.take_units.ensures.0
          ∙ serve-at (interior_start a.unit) xs a.list a.len _ f.span _ g.result f.below f.room g.ensures.read f.is
          ∙ units_else xs a.list a.len a.unit (sym c.if-is_part.ensures) f.list c.if-len-eq0.false,
      c.take_units.ensures.1,
    )
