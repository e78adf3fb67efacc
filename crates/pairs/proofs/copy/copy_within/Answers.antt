use mathlib.Core.Path.{ap, ◌∙◌}
use mathlib.Core.List.{List}
use Prim.Native.Nat.{ℕ, ◌+◌, ◌-◌}
use native.Mathlib.Omega.{arith}
use lib.ListN.{drop}
use lib.Seq.{paste}
use Rattle.std.proofs.lemmas.List.{set-get_or}
use Rattle.pairs.proofs.CopyLaws.{copied_none, copied, copied_same}
use Rattle.pairs.proofs.copy.copy_within.Goals as goal

pub returns-then-n-eq0 : goal.returns-then-n-eq0
returns-then-n-eq0 c =
    let a = c.args in copied_none a.from a.end a.to a.run.now c.min-n.result (omega arith) c.if-n-eq0.true

pub returns-then-to-from : goal.returns-then-to-from
returns-then-to-from c = let a = c.args in copied_same a.from a.end a.to a.run.now c.if-to-from.true

pub returns : goal.returns
returns c =
    let a = c.args in
    let n = c.min-n.result in
    c.copy_within.ensures.after
    ∙ ap (λ (xs : List ℕ). paste xs a.to (drop a.from xs) (a.from + n - a.from)) (search (set-get_or {A = ℕ}))
    ∙ copied a.from a.end a.to a.run.now n (omega arith) (omega arith) (omega arith)
