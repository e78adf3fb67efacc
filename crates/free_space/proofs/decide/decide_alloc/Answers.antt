-- `served`: what the search found, where it found a region
use Rattle.std.proofs.Common.{refl, ap, ◌∙◌, arith, rules, of_calls, ne_eqb}
use Rattle.std.proofs.lemmas.Result.{err_from_is_err_and}
use Rattle.error.specs.Outcome.{first_of}
use Rattle.free_regions.specs.declared.FreeRegion.{FreeRegion}
use Rattle.free_space.specs.Calls.{allocated}
use Rattle.free_space.specs.Searches.{Serves}
use Rattle.free_space.proofs.AnswerLaws.{serve-at, alloc_else}
use Rattle.free_space.proofs.decide.decide_alloc.Goals as goal
use Rattle.free_space.proofs.decide.decide_alloc.Goals.{In-Some}

served : (s : In-Some) → Serves (λ r. r.len) s.args.run.now s.args.list s.args.len s.in-Some.i
served s = rw s.in-Some.is at (s.in_ok-i.ensures (λ r. r.len) (λ r n k p. search (rules, of_calls)))

pub returns-in_err-i : goal.returns-in_err-i
unfolding allocated first_of
returns-in_err-i c =
    let h = c.in_err-i.ensures (λ r. r.len) (λ r n k p. search (rules, of_calls)) in
    let p = err_from_is_err_and c.from_residual-in_err-i.result c.from_residual-in_err-i.ensures.1 in
    rw (p.1, p.2, h.1, h.0) (refl, tt)

pub returns-in_default : goal.returns-in_default
unfolding allocated first_of
returns-in_default c =
    let h = rw c.in_default.is at (c.in_ok-i.ensures (λ r. r.len) (λ r n k p. search (rules, of_calls))) in
    rw (h.0, h.1, ne_eqb c.args.len 0 c.if-len-eq0.false) (refl, tt)

pub invariant_of-valid : goal.invariant_of-valid
invariant_of-valid c = record { tested = (served (goal.at.invariant_of-valid c).In-Some).list }

pub region-r-requires : goal.region-r-requires
region-r-requires c = (served (goal.at.region-r-requires c).In-Some).below

pub take_part-requires : goal.take_part-requires
take_part-requires c =
    let f = served (goal.at.take_part-requires c).In-Some in
    let g = c.region-r in
    (f.below, g.ensures.read, omega arith, omega (arith, f.suffices, ap (λ (r : FreeRegion). r.len) g.ensures.read))

pub returns : goal.returns
returns c =
    let a = c.args in
    let xs = a.run.now in
    let g = c.region-r in
    let f = served (goal.at.returns c).In-Some in (
      c.take_part.ensures.0
          ∙ serve-at (λ r. r.addr) xs a.list a.len _ f.span _ g.result f.below f.room g.ensures.read f.is
          ∙ alloc_else xs a.list a.len f.list c.if-len-eq0.false,
      c.take_part.ensures.1,
    )
