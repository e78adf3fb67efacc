use mathlib.Core.Path.{refl, sym, ap, ◌∙◌}
use native.Mathlib.Omega.{arith}
use Rattle.free_lists.specs.History.{lists_after}
use Rattle.end_to_end.specs.Encoding.{calls_of}
use Rattle.end_to_end.proofs.CallLaws.{empty_three, after_step, after-end}
use Rattle.end_to_end.proofs.calls.make_calls.Goals as goal

pub loop-rest-init : goal.loop-rest-init
loop-rest-init c =
    let a = c.args in
    ap (lists_after (calls_of a.calls.now))
    (empty_three a.metadata.now a.raw.now a.unclassified.now _ _ _ c.new.ensures c.new-2.ensures c.new-3.ensures)

pub loop-rest-preserved : goal.loop-rest-preserved
loop-rest-preserved c =
    let l = c.loop-rest in
    l.invariant ∙ after_step l.rest.now _ _ _ _ _ c.which_of.ensures c.call_of-call.ensures c.in-len4-up.len_at_least refl c.apply.ensures.lists

pub returns : goal.returns
returns c = let l = c.loop-rest in sym (l.invariant ∙ after-end _ _ c.in_default.len_below)
