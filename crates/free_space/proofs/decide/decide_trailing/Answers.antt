use Rattle.std.proofs.Common.{◌-◌, [], ap, ◌∙◌, arith}
use Rattle.free_space.specs.declared.run.Patch.TheVariants.{Empty}
use Rattle.free_space.specs.Decisions.{given_by}
use Rattle.free_space.proofs.SpliceLaws.{given-fitted, one_less, replaces_one}
use Rattle.free_space.proofs.AnswerLaws.{trailing-other, trailing-last}
use Rattle.free_space.proofs.decide.decide_trailing.Goals as goal

pub returns-then-r-eof : goal.returns-then-r-eof
returns-then-r-eof c =
    let a = c.args in
    let v = c.in_ok-valid.valid in
    let e = c.in_ok-valid.ensures in
    let g = c.region-r in
    rw (← e.0, ← e.1) (trailing-other v.run.now v.list a.eof v.tested c.if-count-eq0.false g.result g.ensures.read c.if-r-eof.true, tt)

pub overflow_sub-valid : goal.overflow_sub-valid
overflow_sub-valid c =
    let v = c.in_ok-valid.valid in
    let e = c.in_ok-valid.ensures in
    let n = v.list.count in
    let g = c.region-r in
    one_less v.run.now v.list v.tested (n - 1) n g.result (omega arith) (omega arith) g.ensures.read

pub change-requires : goal.change-requires
change-requires c =
    let v = c.in_ok-valid.valid in
    let e = c.in_ok-valid.ensures in
    let n = v.list.count in
    let g = c.region-r in
    replaces_one v.run.now v.list v.tested (n - 1) n g.result (omega arith) (omega arith) g.ensures.read g.result.len [] (omega arith)

pub returns : goal.returns
returns c =
    let a = c.args in
    let v = c.in_ok-valid.valid in
    let e = c.in_ok-valid.ensures in
    let g = c.region-r in
    let xs = v.run.now in
    let l = v.list in
    let n = l.count in
    let ok = v.tested in
    let replaces = replaces_one xs l ok (n - 1) n g.result (omega arith) (omega arith) g.ensures.read g.result.len [] (omega arith) in
    rw (← e.0, ← e.1) (
      ap (given_by xs l) c.change.ensures.0
          ∙ given-fitted xs l g.result.addr _ l.count _ Empty replaces
          ∙ trailing-last xs l a.eof ok c.if-count-eq0.false g.result g.ensures.read c.if-r-eof.false,
      c.change.ensures.1,
    )
