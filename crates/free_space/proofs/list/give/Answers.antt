use Rattle.std.proofs.Common.{ℕ, List, sym, ap, ◌∙◌, subst, ap₂}
use Rattle.std.specs.Prelude.{Option, Ok}
use Rattle.error.specs.Outcome.{answer}
use Rattle.error.specs.Lent.{left, leaving}
use Rattle.free_space.specs.declared.list.FreeList.{FreeList}
use Rattle.free_space.specs.declared.decide.Replacement.{Replacement}
use Rattle.free_space.specs.Splices.{Decision}
use Rattle.free_space.specs.Decisions.{given_by, Applicable}
use Rattle.free_space.proofs.CarryLaws.{record_left}
use Rattle.free_space.proofs.list.give.Goals as goal

pub returns : goal.returns
returns c =
    let a = c.args in
    let xs = a.run.now in
    let k = c.in-Some.c in
    let is = c.in_ok-c.was ∙ ap (λ (o : Option Replacement). Ok o) c.in-Some.is in
    let done = c.apply.ensures in
    let can = subst (Applicable xs a.list) is c.requires in
    ap₂ (λ (l : FreeList) (ys : List ℕ). left (answer (record { addr = k.addr; list = l })) ys) (done.«record» ∙ record_left xs a.list k.addr k.lo k.hi k.total k.patch can) done.memory
    ∙ ap (λ (d : Decision). leaving xs (given_by xs a.list d)) (sym is)
