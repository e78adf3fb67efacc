-- What an outcome says, by its three ends: serves the statements of what a call answers and why it refuses. Assumes nothing.
--   Says   what stands for an outcome: P of an answer, N for Nothing, R of a refusal's number and values
--   Ends   an outcome of which that holds
use Rattle.std.specs.Prelude.{ℕ, List}
use Rattle.error.specs.Outcome.{Outcome, answer, nothing, refuse}

abbrev pub Says : {A : Type 0} → (A → Type 0) → Type 0 → (ℕ → List ℕ → Type 0) → Outcome A → Type 0
Says P N R (answer a) = P a
Says P N R nothing = N
Says P N R (refuse n vs) = R n vs

pub record Ends {A : Type 0} (P : A → Type 0) (N : Type 0) (R : ℕ → List ℕ → Type 0) (o : Outcome A) : Type 0 where
  pub says : Says P N R o
