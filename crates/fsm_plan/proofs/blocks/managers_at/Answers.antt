use Rattle.fsm_plan.specs.Blocks.{end_at}
use native.Mathlib.Omega.{arith}
use Rattle.fsm_plan.proofs.blocks.managers_at.Goals as goal

pub block_at-requires : goal.block_at-requires
block_at-requires c = λ n. let p = c.requires in omega (arith, p.end, p.room0 n)

pub block_at-requires-2 : goal.block_at-requires-2
block_at-requires-2 c = λ n. let p = c.requires in omega (arith, p.end, p.room2 n)

pub block_at-requires-3 : goal.block_at-requires-3
block_at-requires-3 c = λ n. let p = c.requires in omega (arith, p.end, p.room6 n)

pub returns : goal.returns
returns c =
    let a = c.args in
    λ i. record {
      slot0 = c.block_at.ensures i;
      slot2 = c.block_at-2.ensures i;
      slot6 = c.block_at-3.ensures i;
      end_of_managers = end_at a.start a.m;
    }
