-- `head`, `few` and `entries`: the group lies within the groups
use Prim.Native.Nat.{◌+◌, ◌*◌, ◌-◌, ◌≤◌}
use native.Mathlib.Omega.{arith}
use lib.ListN.{length}
use Rattle.fsm_blocks.specs.Groups.{head_size}
use Rattle.fsm_blocks.specs.Parts.{widths_in}
use Rattle.fsm_blocks.proofs.CountLaws.{head_some}
use Rattle.fsm_blocks.proofs.PutLaws.{put-start, put_step, put-end, head_in, count-few, entries_in}
use Rattle.fsm_blocks.proofs.groups.put_groups.Goals as goal

pub loop-left-init : goal.loop-left-init
loop-left-init c =
    put-start c.args.groups.now (widths_in c.args.w) c.args.total c.args.from c.args.out.now c.requires.accepted c.requires.room

pub field_at-count-requires : goal.field_at-count-requires
field_at-count-requires c =
    let head : (let a = c.args in
    head_size (widths_in a.w) ≤ length a.groups.now - c.loop-left.at) = let l = c.loop-left in
    head_in c.args.groups.now (widths_in c.args.w) c.args.total c.args.from c.args.out.now l.out l.at l.left l.k l.invariant
    (head_some c.args.w c.requires.widths) c.loop-left-test.true in
    omega (arith, head)

pub overflow_add-at : goal.overflow_add-at
overflow_add-at c =
    let head : (let a = c.args in
    head_size (widths_in a.w) ≤ length a.groups.now - c.loop-left.at) = let l = c.loop-left in
    head_in c.args.groups.now (widths_in c.args.w) c.args.total c.args.from c.args.out.now l.out l.at l.left l.k l.invariant
    (head_some c.args.w c.requires.widths) c.loop-left-test.true in
    omega (arith, head)

pub field_at-size-requires : goal.field_at-size-requires
field_at-size-requires c =
    let head : (let a = c.args in
    head_size (widths_in a.w) ≤ length a.groups.now - c.loop-left.at) = let l = c.loop-left in
    head_in c.args.groups.now (widths_in c.args.w) c.args.total c.args.from c.args.out.now l.out l.at l.left l.k l.invariant
    (head_some c.args.w c.requires.widths) c.loop-left-test.true in
    omega (arith, head)

pub put_entries-requires : goal.put_entries-requires
put_entries-requires c =
    let head : (let a = c.args in
    head_size (widths_in a.w) ≤ length a.groups.now - c.loop-left.at) = let l = c.loop-left in
    head_in c.args.groups.now (widths_in c.args.w) c.args.total c.args.from c.args.out.now l.out l.at l.left l.k l.invariant
    (head_some c.args.w c.requires.widths) c.loop-left-test.true in
    let few : (c.field_at-count.result ≤ c.loop-left.left) = let l = c.loop-left in
    count-few c.args.groups.now (widths_in c.args.w) c.args.total c.args.from c.args.out.now l.out l.at l.left l.k l.invariant
    (head_some c.args.w c.requires.widths) c.loop-left-test.true _ c.field_at-count.ensures in
    let entries : (let a = c.args in
    c.field_at-count.result * (a.w.addresses + 1) ≤ length a.groups.now - c.loop-left.at - head_size (widths_in a.w)) = let l = c.loop-left in
    entries_in c.args.groups.now (widths_in c.args.w) c.args.total c.args.from c.args.out.now l.out l.at l.left l.k l.invariant
    (head_some c.args.w c.requires.widths) c.loop-left-test.true _ c.field_at-count.ensures in
    let l = c.loop-left in
    let room : l.k + 2 * c.field_at-count.result ≤ length l.out = omega (arith, few, l.invariant.room) in
    (c.requires.widths.addresses_few, omega (arith, head, entries), room)

pub overflow_mul-at : goal.overflow_mul-at
overflow_mul-at c =
    let entries : (let a = c.args in
    c.field_at-count.result * (a.w.addresses + 1) ≤ length a.groups.now - c.loop-left.at - head_size (widths_in a.w)) = let l = c.loop-left in
    entries_in c.args.groups.now (widths_in c.args.w) c.args.total c.args.from c.args.out.now l.out l.at l.left l.k l.invariant
    (head_some c.args.w c.requires.widths) c.loop-left-test.true _ c.field_at-count.ensures in
    omega (arith, entries)

pub overflow_add-at-in-loop-left-2 : goal.overflow_add-at-in-loop-left-2
overflow_add-at-in-loop-left-2 c =
    let head : (let a = c.args in
    head_size (widths_in a.w) ≤ length a.groups.now - c.loop-left.at) = let l = c.loop-left in
    head_in c.args.groups.now (widths_in c.args.w) c.args.total c.args.from c.args.out.now l.out l.at l.left l.k l.invariant
    (head_some c.args.w c.requires.widths) c.loop-left-test.true in
    let entries : (let a = c.args in
    c.field_at-count.result * (a.w.addresses + 1) ≤ length a.groups.now - c.loop-left.at - head_size (widths_in a.w)) = let l = c.loop-left in
    entries_in c.args.groups.now (widths_in c.args.w) c.args.total c.args.from c.args.out.now l.out l.at l.left l.k l.invariant
    (head_some c.args.w c.requires.widths) c.loop-left-test.true _ c.field_at-count.ensures in
    omega (arith, head, entries)

pub overflow_mul-k : goal.overflow_mul-k
overflow_mul-k c =
    let few : (c.field_at-count.result ≤ c.loop-left.left) = let l = c.loop-left in
    count-few c.args.groups.now (widths_in c.args.w) c.args.total c.args.from c.args.out.now l.out l.at l.left l.k l.invariant
    (head_some c.args.w c.requires.widths) c.loop-left-test.true _ c.field_at-count.ensures in
    omega (arith, few)

pub overflow_add-k : goal.overflow_add-k
overflow_add-k c =
    let few : (c.field_at-count.result ≤ c.loop-left.left) = let l = c.loop-left in
    count-few c.args.groups.now (widths_in c.args.w) c.args.total c.args.from c.args.out.now l.out l.at l.left l.k l.invariant
    (head_some c.args.w c.requires.widths) c.loop-left-test.true _ c.field_at-count.ensures in
    omega (arith, few)

pub overflow_sub-left : goal.overflow_sub-left
overflow_sub-left c =
    let few : (c.field_at-count.result ≤ c.loop-left.left) = let l = c.loop-left in
    count-few c.args.groups.now (widths_in c.args.w) c.args.total c.args.from c.args.out.now l.out l.at l.left l.k l.invariant
    (head_some c.args.w c.requires.widths) c.loop-left-test.true _ c.field_at-count.ensures in
    few

pub loop-left-smaller : goal.loop-left-smaller
loop-left-smaller c =
    let head : (let a = c.args in
    head_size (widths_in a.w) ≤ length a.groups.now - c.loop-left.at) = let l = c.loop-left in
    head_in c.args.groups.now (widths_in c.args.w) c.args.total c.args.from c.args.out.now l.out l.at l.left l.k l.invariant
    (head_some c.args.w c.requires.widths) c.loop-left-test.true in
    omega (arith, head)

pub loop-left-preserved : goal.loop-left-preserved
loop-left-preserved c =
    let l = c.loop-left in
    put_step c.args.groups.now (widths_in c.args.w) c.args.total c.args.from c.args.out.now l.out l.at l.left l.k l.invariant
    (head_some c.args.w c.requires.widths) c.loop-left-test.true _ c.field_at-count.ensures _ c.field_at-size.ensures _
    c.put_entries.ensures

pub shape_of-out : goal.shape_of-out
shape_of-out c = c.loop-left.invariant.same_length

pub returns : goal.returns
returns c =
    let a = c.args in
    let l = c.loop-left in
    put-end a.groups.now (widths_in a.w) a.total a.from a.out.now l.out l.at l.left l.k l.invariant c.loop-left-test.false
