use mathlib.Core.Path.{sym, ◌∙◌}
use mathlib.Core.List.{[], ◌∷◌}
use native.Mathlib.Omega.{arith}
use lib.ListN.{length-set}
use Rattle.error.proofs.OverLaws.{over-cut, over-end, set-over, store_pair}
use Rattle.pairs.proofs.put_pair.Goals as goal

pub returns-then-at-run-2 : goal.returns-then-at-run-2
returns-then-at-run-2 c = let a = c.args in store_pair a.at a.addr a.len a.run.now

pub returns-else-at-run-2 : goal.returns-else-at-run-2
returns-else-at-run-2 c =
    let a = c.args in
    let xs = a.run.now in
    set-over xs a.at a.addr ∙ over-cut a.at 1 (a.addr ∷ a.len ∷ []) xs (omega (arith, length-set xs a.at a.addr))

pub returns-else-at-run : goal.returns-else-at-run
returns-else-at-run c = let a = c.args in sym (over-end a.at (a.addr ∷ a.len ∷ []) a.run.now (omega arith))
