use native.Mathlib.Omega.{arith}
use mathlib.Core.Path.{ap, ◌∙◌}
use mathlib.Core.List.{List}
use Prim.Native.Nat.{ℕ}
use Rattle.error.specs.Outcome.{answer}
use Rattle.error.specs.Lent.{left, over}
use Rattle.fields.specs.Layout.{layout}
use Rattle.file_space_info.specs.Message.{address_row}
use Rattle.file_space_info.proofs.WriteLaws.{both_written, fixed_written, serialized-over, serialized-is}
use Rattle.file_space_info.proofs.FileSpaceInfo.serialize.Goals as goal

pub returns-then-out-needed : goal.returns-then-out-needed
returns-then-out-needed c =
    let a = c.args in
    let n = c.message_len-needed in
    serialized-over a.self a.addrs.now a.out.now n.result n.ensures (omega arith)

pub returns-then-self : goal.returns-then-self
returns-then-self c =
    let a = c.args in
    let n = c.message_len-needed in
    ap (left (answer n.result))
    (c.write_addrs.ensures
    ∙ ap (λ (l : List ℕ). over 29 (layout (address_row 8 a.addrs.now)) l) c.write_fixed.ensures
    ∙ both_written a.self a.addrs.now a.out.now c.if-self.true)
    ∙ serialized-is a.self a.addrs.now a.out.now n.result n.ensures (omega arith)

pub returns-else-self : goal.returns-else-self
returns-else-self c =
    let a = c.args in
    let n = c.message_len-needed in
    ap (left (answer n.result)) (c.write_fixed.ensures ∙ fixed_written a.self a.addrs.now a.out.now c.if-self.false)
    ∙ serialized-is a.self a.addrs.now a.out.now n.result n.ensures (omega arith)
