-- The file-space strategies and their codes. Assumes nothing.
-- In quotes: document 01's words.
--   code_of            a strategy's code ("The message": "strategy (0 FsmAggr, 1 Page, 2 Aggr, 3 None)"; HDF5 File Format Specification, IV.A.2)
--   strategy_of        the strategy of a code; that of 3 also above it, where `code_test` refuses
--   code_test          the test of a code (refusal 9: "with the byte: it is above 3")
--   from_code          `from_code`: the strategy of a byte that passes it
use Rattle.std.specs.Prelude.{ℕ, zero, suc, [], ◌∷◌, ltb}
use Rattle.error.specs.declared.Refusal.TheVariants as refusal
use Rattle.error.specs.Outcome.{Outcome, answer, Condition, when, first_of}
use Rattle.file_space_info.specs.declared.FileSpaceStrategy.{FileSpaceStrategy}
use Rattle.file_space_info.specs.declared.FileSpaceStrategy.TheVariants.{FsmAggr, Page, Aggr, None}

abbrev pub code_of : FileSpaceStrategy → ℕ
code_of FsmAggr = 0
code_of Page = 1
code_of Aggr = 2
code_of None = 3

abbrev pub strategy_of : ℕ → FileSpaceStrategy
strategy_of zero = FsmAggr
strategy_of (suc zero) = Page
strategy_of (suc (suc zero)) = Aggr
strategy_of (suc (suc (suc n))) = None

abbrev pub code_test : ℕ → Condition
code_test c = when (ltb 3 c) (refusal.Strategy c)

unfoldable pub from_code : ℕ → Outcome FileSpaceStrategy
from_code c = first_of (code_test c ∷ []) (answer (strategy_of c))
