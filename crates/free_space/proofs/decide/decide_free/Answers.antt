use Rattle.std.proofs.Common.{◌+◌, sym, ◌∙◌, arith}
use Rattle.free_regions.specs.Regions.{region}
use Rattle.free_space.proofs.MeetLaws.{apart-here, begins, begins-not}
use Rattle.free_space.proofs.InsertLaws.{shares-some, shares-none}
use Rattle.free_space.proofs.AnswerLaws.{free-zero, free-shared, free_else}
use Rattle.free_space.proofs.decide.decide_free.Goals as goal

pub returns-in_default-clause-decided : goal.returns-in_default-clause-decided
returns-in_default-clause-decided c =
    let a = c.args in
    let v = c.in_ok-valid.valid in
    let e = c.in_ok-valid.ensures in
    let p = rw c.in_default.is at c.in_ok-i.ensures in
    rw (← e.0, ← e.1) (free-zero v.run.now v.list a.addr a.len p.0 v.tested p.1, tt)

pub returns-then-begins_below-clause-decided : goal.returns-then-begins_below-clause-decided
returns-then-begins_below-clause-decided c =
    let a = c.args in
    let v = c.in_ok-valid.valid in
    let e = c.in_ok-valid.ensures in
    let xs = v.run.now in
    let ok = v.tested in
    let p = rw c.in-Some.is at c.in_ok-i.ensures in
    let b = begins xs v.list c.in-Some.i (a.addr + a.len) (sym c.if-begins_below.ensures) in
    rw (← e.0, ← e.1) (free-shared xs v.list a.addr a.len p.0 ok (shares-some xs v.list (region a.addr a.len) p.1 c.in-Some.i ok p.2 b.0 b.1), tt)

pub returns-clause-decided : goal.returns-clause-decided
returns-clause-decided c =
    let a = c.args in
    let v = c.in_ok-valid.valid in
    let e = c.in_ok-valid.ensures in
    let xs = v.run.now in
    let ok = v.tested in
    let i = c.in-Some.i in
    let p = rw c.in-Some.is at c.in_ok-i.ensures in
    let apart = apart-here xs v.list a.addr (a.addr + a.len) i ok p.2 (begins-not xs v.list i (a.addr + a.len) (sym c.if-begins_below.ensures)) in
    rw (← e.0, ← e.1) (
      c.put_between.ensures.decided.0
          ∙ free_else xs v.list a.addr a.len p.0 ok (λ z. absurd (omega (arith, p.1))) (shares-none xs v.list (region a.addr a.len) p.1 i apart),
      c.put_between.ensures.decided.1,
    )
