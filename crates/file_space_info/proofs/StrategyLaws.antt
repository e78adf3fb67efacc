-- Laws of the strategies' codes: the cases of `from_code`, and that a code names one strategy. Assumes nothing.
use mathlib.Core.Path.{◌≡◌, refl}
use mathlib.Core.Bool.{false}
use Prim.Native.Nat.{ℕ, ◌≤◌, ◌<◌}
use native.Mathlib.Omega.{arith}
use borrow.Author.Tests.{lt-ltb, le-ltb}
use lib.Dec.{lit≤}
use Rattle.error.specs.declared.Refusal.TheVariants as refusal
use Rattle.error.specs.Outcome.{answer, refused}
use Rattle.error.proofs.OutcomeLaws.{refuses, passes}
use Rattle.file_space_info.specs.declared.FileSpaceStrategy.{FileSpaceStrategy}
use Rattle.file_space_info.specs.declared.FileSpaceStrategy.TheVariants.{FsmAggr, Page, Aggr, None}
use Rattle.file_space_info.specs.Strategies.{code_of, strategy_of, code_test, from_code}

pub code_passes : (c : ℕ) → c ≤ 3 → (code_test c).holds ≡ false
code_passes c h = le-ltb _ c (omega arith)

pub from_is : (c k : ℕ) → c ≡ k → k ≤ 3 → answer (strategy_of k) ≡ from_code c
unfolding from_code
from_is c k e h = rw e (passes _ _ _ (code_passes k h))

pub from-over : (c : ℕ) → 3 < c → refused (refusal.Strategy c) ≡ from_code c
unfolding from_code
from-over c h = refuses _ _ _ (lt-ltb _ c (omega arith))

pub code_le : (s : FileSpaceStrategy) → code_of s ≤ 3
code_le FsmAggr = lit≤ tt
code_le Page = lit≤ tt
code_le Aggr = lit≤ tt
code_le None = lit≤ tt

pub strategy_code : (s : FileSpaceStrategy) → strategy_of (code_of s) ≡ s
strategy_code FsmAggr = refl
strategy_code Page = refl
strategy_code Aggr = refl
strategy_code None = refl
