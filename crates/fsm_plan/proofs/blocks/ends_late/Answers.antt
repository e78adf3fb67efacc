use mathlib.Core.Path.{sym}
use Prim.Native.Nat.{◌+◌}
use native.Mathlib.Omega.{arith}
use borrow.Author.Tests.{lt-ltb}
use Rattle.fields.specs.Ranges.{top}
use Rattle.fsm_sections.proofs.AnyLaws.{late_is}
use Rattle.fsm_plan.specs.Blocks.{end_at}
use Rattle.fsm_plan.proofs.blocks.ends_late.Goals as goal

pub returns-then-m-start : goal.returns-then-m-start
returns-then-m-start c = let a = c.args in sym (lt-ltb top (end_at a.start a.m) (omega (arith, c.if-m-start.true)))

pub returns-then-m-at2 : goal.returns-then-m-at2
returns-then-m-at2 c = let a = c.args in sym (lt-ltb top (end_at a.start a.m) (omega (arith, c.if-m-at2.true)))

pub returns : goal.returns
returns c =
    let a = c.args in late_is (a.start + a.m.slot0.len + a.m.slot2.len) a.m.slot6.len (omega arith)
