use native.Mathlib.Omega.{arith}
use Rattle.end_to_end.specs.Encoding.{calls_of, runs_of}
use Rattle.end_to_end.proofs.AnewLaws.{none_anew, both_anew}
use Rattle.end_to_end.proofs.anew.call_save_anew.Goals as goal

pub returns-in-Err : goal.returns-in-Err
returns-in-Err c =
    let a = c.args in
    let runs = runs_of a.metadata.now a.raw.now a.unclassified.now in
    let said =
    none_anew runs (calls_of a.calls.now) a.to.page a.to.start a.to.place a.k a.image.now a.scratch.now a.other.now
    (omega (arith, c.well_formed)) (omega (arith, c.well_formed)) (omega (arith, c.well_formed)) _ c.make_calls-lists.ensures
    c.begin_and_step-first.result _ _ c.begin_and_step-first.ensures _ c.in-Err.is in
    record { lists = c.make_calls-lists.ensures; anew = said.0; uncut = said.1 }

pub returns-in-Ok : goal.returns-in-Ok
returns-in-Ok c =
    let a = c.args in
    let runs = runs_of a.metadata.now a.raw.now a.unclassified.now in
    let said =
    both_anew runs (calls_of a.calls.now) a.to.page a.to.start a.to.place a.k a.image.now a.scratch.now a.other.now
    (omega (arith, c.well_formed)) (omega (arith, c.well_formed)) (omega (arith, c.well_formed)) _ c.make_calls-lists.ensures
    c.begin_and_step-first.result _ _ c.begin_and_step-first.ensures _ c.in-Ok.is
    c.begin_and_step-second.result _ _ c.begin_and_step-second.ensures in
    record { lists = c.make_calls-lists.ensures; anew = said.0; uncut = said.1 }
