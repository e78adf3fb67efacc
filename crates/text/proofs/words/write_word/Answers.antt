use mathlib.Core.List.{[], ◌∷◌}
use native.Mathlib.Omega.{arith}
use Rattle.text.specs.Decimal.{decimal}
use Rattle.text.proofs.TextLaws.{then, digits-written}
use Rattle.text.proofs.words.write_word.Goals as goal

pub returns : goal.returns
returns c =
    let w = c.write_decimal-count.ensures in
    let a = c.args in
    then a.at (decimal a.n) (a.stop ∷ []) a.out.now
    (digits-written a.n a.at a.out.now w.0 w.1 (omega arith))
    c.write_byte.ensures
