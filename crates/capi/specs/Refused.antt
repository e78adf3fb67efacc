-- How a number that may be refused passes through the C interface. Assumes nothing.
--   or_zero   the number, or 0 (document 01, "Eight files": "0 stands for a refusal")
use Rattle.std.specs.Prelude.{ℕ}
use Rattle.error.specs.Outcome.{Outcome, answer, nothing, refuse}

abbrev pub or_zero : Outcome ℕ → ℕ
or_zero (answer n) = n
or_zero nothing = 0
or_zero (refuse n vs) = 0
