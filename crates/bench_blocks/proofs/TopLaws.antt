-- What a C interface shows of an answer: its number, all ones for a refusal. Assumes nothing.
use mathlib.Core.Path.{◌≡◌, refl}
use Prim.Native.Nat.{ℕ}
use Rattle.std.specs.Prelude.{Result, Ok, Err}
use Rattle.std.specs.Result.{result_unwrap_or}
use Rattle.error.specs.Answers.{as_outcome}
use Rattle.error.specs.declared.Refusal.{Refusal}
use Rattle.fields.specs.Ranges.{top, or_top}

pub or_all_ones : (r : Result ℕ Refusal) → result_unwrap_or r top ≡ or_top (as_outcome r)
or_all_ones (Ok n) = refl
or_all_ones (Err x) = refl
