use mathlib.Core.Path.{ap, ◌∙◌}
use mathlib.Core.List.{List}
use Prim.Native.Nat.{ℕ}
use native.Mathlib.Omega.{arith}
use Rattle.error.specs.Lent.{leaving}
use Rattle.file_space_info.specs.Message.{parsed}
use Rattle.image.proofs.PlaceLaws.{message_part}
use Rattle.image.proofs.read_message.Goals as goal

pub returns : goal.returns
returns c =
    let a = c.args in
    c.parse.ensures
    ∙ ap (λ (bs : List ℕ). leaving a.slots.now (parsed bs 8 8 a.slots.now)) (message_part a.place a.image.now (omega arith) (omega arith))
