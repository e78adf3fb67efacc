use mathlib.Core.Path.{sym, ap, ◌∙◌}
use Prim.Native.Nat.{ℕ, ◌-◌}
use Rattle.std.specs.Prelude.{Result}
use Rattle.error.specs.Answers.{as_outcome}
use Rattle.error.specs.declared.Refusal.{Refusal}
use Rattle.fields.specs.Ranges.{top}
use Rattle.host_records.specs.Shown.{shown}
use Rattle.host_records.proofs.shown_number.Goals as goal

pub returns-in-Err : goal.returns-in-Err
returns-in-Err c =
    ap (λ (k : ℕ). top - k) (c.from.ensures ∙ c.number.ensures) ∙ sym (ap (λ (s : (Result ℕ Refusal)). shown (as_outcome s)) c.in-Err.is)
