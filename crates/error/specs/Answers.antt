-- The outcome that an answer of the code stands for: its value, Nothing where the value is optional and there is none, or the number and the
-- values of the refusal. Assumes nothing.
--   as_outcome         of an answer that may be refused
--   as_optional_outcome   of one that may also be Nothing
use Rattle.std.specs.Prelude.{Option, Some, None, Result, Ok, Err}
use Rattle.error.specs.declared.Refusal.{Refusal}
use Rattle.error.specs.Outcome.{Outcome, answer, nothing, refused}

abbrev pub as_outcome : {A : Type 0} → Result A Refusal → Outcome A
as_outcome (Ok a) = answer a
as_outcome (Err r) = refused r

abbrev pub as_optional_outcome : {A : Type 0} → Result (Option A) Refusal → Outcome A
as_optional_outcome (Ok (Some a)) = answer a
as_optional_outcome (Ok None) = nothing
as_optional_outcome (Err r) = refused r
