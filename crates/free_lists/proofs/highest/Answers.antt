-- what the code knows before it compares
use native.Mathlib.Omega.{arith}
use Rattle.free_lists.proofs.TrailingLaws.{heights, reached_none, some-meta, some-raw, some-unclassified, next-meta, next-raw, next-unclassified}
use Rattle.free_lists.proofs.highest.Goals as goal

pub returns-then-a-eq0 : goal.returns-then-a-eq0
returns-then-a-eq0 c =
    reached_none (heights c.requires c.height-a.ensures c.height-b.ensures c.height-c.ensures) (omega arith) c.if-a-eq0.true

pub overflow_sub-last : goal.overflow_sub-last
overflow_sub-last c =
    some-meta (heights c.requires c.height-a.ensures c.height-b.ensures c.height-c.ensures) c.if-a-eq0.false

pub returns-then-max-a : goal.returns-then-max-a
returns-then-max-a c =
    next-meta (heights c.requires c.height-a.ensures c.height-b.ensures c.height-c.ensures) _ c.region.ensures.read (omega arith) c.if-a-eq0.false

pub overflow_sub-last-then-c-b : goal.overflow_sub-last-then-c-b
overflow_sub-last-then-c-b c =
    some-raw (heights c.requires c.height-a.ensures c.height-b.ensures c.height-c.ensures) (omega arith) (omega arith)

pub returns-then-c-b : goal.returns-then-c-b
returns-then-c-b c =
    next-raw (heights c.requires c.height-a.ensures c.height-b.ensures c.height-c.ensures) _ c.region-then-c-b.ensures.read (omega arith) (omega arith)

pub overflow_sub-last-2 : goal.overflow_sub-last-2
overflow_sub-last-2 c =
    some-unclassified (heights c.requires c.height-a.ensures c.height-b.ensures c.height-c.ensures) (omega arith) (omega arith)

pub returns : goal.returns
returns c =
    next-unclassified (heights c.requires c.height-a.ensures c.height-b.ensures c.height-c.ensures) _ c.region-2.ensures.read (omega arith) (omega arith)
