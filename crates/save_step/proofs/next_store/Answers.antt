use Prim.Native.Nat.{◌-◌}
use native.Mathlib.Omega.{arith}
use Rattle.save_step.proofs.StepLaws.{next-first, next_block, next-before, next-after, next_last}
use Rattle.save_step.proofs.next_store.Goals as goal

pub returns-then-done-eq0 : goal.returns-then-done-eq0
returns-then-done-eq0 c =
    let a = c.args in
    next-first a.s a.scratch.now c.requires.inside.both_lent c.if-done-eq0.true

pub overflow_add-result-then-i-len : goal.overflow_add-result-then-i-len
overflow_add-result-then-i-len c = let b = c.requires.inside.blocks_in (omega arith) in omega arith

pub returns-then-i-len : goal.returns-then-i-len
returns-then-i-len c =
    let a = c.args in
    next_block a.s a.scratch.now c.requires.inside.both_lent _ (omega arith) c.if-i-len.true

pub returns-then-j-lt-PERSIST : goal.returns-then-j-lt-PERSIST
returns-then-j-lt-PERSIST c =
    let a = c.args in
    next-before a.s a.scratch.now c.requires.inside.both_lent _ (omega arith) c.if-j-lt-PERSIST.true

pub returns-then-j-lt124 : goal.returns-then-j-lt124
returns-then-j-lt124 c =
    let a = c.args in
    next-after a.s a.scratch.now c.requires.inside.both_lent _ (a.s.done - a.s.len) (omega arith) (omega arith) (omega arith) (omega arith)

pub returns : goal.returns
returns c =
    let a = c.args in
    next_last a.s a.scratch.now c.requires.inside.both_lent (omega arith)
