use native.Mathlib.Omega.{arith}
use Rattle.end_to_end.specs.Encoding.{calls_of, runs_of, after_calls}
use Rattle.end_to_end.proofs.CutLaws.{cut-of-lists}
use Rattle.end_to_end.proofs.DemandedLaws.{demanded}
use Rattle.end_to_end.proofs.call_save_read.Goals as goal

pub returns : goal.returns
returns c =
    let a = c.args in
    let image = a.image.now in
    let scratch = a.scratch.now in
    let out = a.out.now in
    let runs = runs_of a.metadata.now a.raw.now a.unclassified.now in
    let ls = after_calls a.calls.now a.metadata.now a.raw.now a.unclassified.now in
    let cut =
    cut-of-lists a.k a.to.place a.to.page a.to.start image scratch out ls _ c.make_calls-lists.ensures
    c.save_begin-begin.result _ c.save_begin-begin.ensures _ c.step_and_read-saved.ensures.cut in
    let shown =
    demanded runs (calls_of a.calls.now) a.to.page a.to.start a.to.place a.k image scratch out _
    (omega (arith, c.well_formed)) (omega (arith, c.well_formed)) cut in
    record { lists = c.make_calls-lists.ensures; cut = cut; counted = c.step_and_read-saved.ensures.counted; demand = shown }
