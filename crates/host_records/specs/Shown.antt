-- What the C function of the host test shows of an outcome. Assumes nothing.
--   shown        the number of an answer, or all ones less the refusal's number; Nothing, which `split_at_pages` cannot answer, is all ones
--   left_shown   that number, and the lent memory
use Rattle.std.specs.Prelude.{ℕ, ◌-◌}
use Rattle.error.specs.Outcome.{Outcome, answer, nothing, refuse}
use Rattle.error.specs.Lent.{With, with, Left}
use Rattle.fields.specs.Ranges.{top}

abbrev pub shown : Outcome ℕ → ℕ
shown (answer n) = n
shown nothing = top
shown (refuse n vs) = top - n

abbrev pub left_shown : {M : Type 0} → Left ℕ M → With ℕ M
left_shown d = with (shown d.outcome) d.memory
