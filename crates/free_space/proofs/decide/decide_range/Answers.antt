use Rattle.free_space.proofs.AnswerLaws.{range-zero}
use Rattle.free_space.proofs.decide.decide_range.Goals as goal

pub returns-in_default : goal.returns-in_default
returns-in_default c =
    let a = c.args in
    let v = c.in_ok-valid.valid in
    let e = c.in_ok-valid.ensures in
    let p = rw c.in_default.is at c.in_ok-i.ensures in
    rw (← e.0, ← e.1) (range-zero v.run.now v.list a.addr a.len p.0 v.tested p.1, tt)
