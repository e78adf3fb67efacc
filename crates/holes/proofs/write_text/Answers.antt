use mathlib.Core.Path.{◌≡◌, sym, ap, ◌∙◌}
use mathlib.Core.Bool.{true}
use Prim.Native.Nat.{ℕ}
use Rattle.std.specs.Prelude.{Result, Ok, Err, is_ok}
use Rattle.error.specs.Answers.{as_outcome}
use Rattle.error.specs.declared.Refusal.{Refusal}
use Rattle.error.specs.Lent.{left}
use Rattle.holes_text.proofs.SizeLaws.{always_ok, always_written}
use Rattle.holes.proofs.write_text.Goals as goal

pub unwrap-requires : goal.unwrap-requires
unwrap-requires c = let a = c.args in always_ok a.image.now a.out.now c.requires c.holes_text.result c.holes_text.ensures

pub returns : goal.returns
returns c =
    let a = c.args in
    always_written a.image.now a.out.now c.requires
    (sym (ap (λ (r : (Result ℕ Refusal)). left (as_outcome r) c.holes_text.new.out) c.unwrap.ensures) ∙ c.holes_text.ensures)
