-- `fits`: the entries do not pass the end
use Prim.Native.Nat.{◌+◌, ◌*◌, ◌-◌, ◌≤◌}
use mathlib.Core.Path.{sym, ◌∙◌}
use native.Mathlib.Omega.{arith}
use borrow.Author.Tests.{ltb-true, ltb-false}
use lib.ListN.{length}
use Rattle.fsm_blocks.specs.Groups.{head_size}
use Rattle.fsm_blocks.specs.Parts.{widths_in}
use Rattle.fsm_blocks.proofs.CountLaws.{scan_start, scan_end, no_head, beyond, past, iteration, head_some}
use Rattle.fsm_blocks.proofs.groups.groups_count.Goals as goal

pub loop-left-init : goal.loop-left-init
loop-left-init c = let a = c.args in scan_start a.groups.now (widths_in a.w) a.total

pub returns-then-room-w : goal.returns-then-room-w
returns-then-room-w c =
    let l = c.loop-left in
    no_head c.args.groups.now (widths_in c.args.w) c.args.total l.at l.left l.invariant (head_some c.args.w c.requires) c.loop-left-test.true c.if-room-w.true

pub returns-then-left-count : goal.returns-then-left-count
returns-then-left-count c =
    let l = c.loop-left in
    beyond c.args.groups.now (widths_in c.args.w) c.args.total l.at l.left l.invariant (head_some c.args.w c.requires) c.loop-left-test.true
    c.if-room-w.false _ c.field_at-count.ensures c.if-left-count.true

pub returns-then-passes : goal.returns-then-passes
returns-then-passes c =
    let l = c.loop-left in
    past c.args.groups.now (widths_in c.args.w) c.args.total l.at l.left l.invariant (head_some c.args.w c.requires) c.loop-left-test.true
    c.if-room-w.false _ c.field_at-count.ensures (ltb-true _ _ (sym c.passes.ensures ∙ c.if-passes.true))

pub overflow_mul-at : goal.overflow_mul-at
overflow_mul-at c =
    let fits : (let a = c.args in
    c.field_at-count.result * (a.w.addresses + 1) ≤ length a.groups.now - c.loop-left.at - head_size (widths_in a.w)) = ltb-false _ _ (sym c.passes.ensures ∙ c.if-passes.false) in
    omega (arith, fits)

pub overflow_add-at-in-loop-left-2 : goal.overflow_add-at-in-loop-left-2
overflow_add-at-in-loop-left-2 c =
    let fits : (let a = c.args in
    c.field_at-count.result * (a.w.addresses + 1) ≤ length a.groups.now - c.loop-left.at - head_size (widths_in a.w)) = ltb-false _ _ (sym c.passes.ensures ∙ c.if-passes.false) in
    omega (arith, fits)

pub loop-left-preserved : goal.loop-left-preserved
loop-left-preserved c =
    let fits : (let a = c.args in
    c.field_at-count.result * (a.w.addresses + 1) ≤ length a.groups.now - c.loop-left.at - head_size (widths_in a.w)) = ltb-false _ _ (sym c.passes.ensures ∙ c.if-passes.false) in
    let l = c.loop-left in
    iteration c.args.groups.now (widths_in c.args.w) c.args.total l.at l.left l.invariant (head_some c.args.w c.requires) c.loop-left-test.true
    c.if-room-w.false _ c.field_at-count.ensures c.if-left-count.false fits

pub returns : goal.returns
returns c =
    let a = c.args in scan_end a.groups.now (widths_in a.w) a.total _ _ c.loop-left.invariant c.loop-left-test.false
