use mathlib.Core.Path.{sym, subst}
use Prim.Native.Nat.{ℕ, ◌<◌, ◌^◌}
use Rattle.fields.proofs.LayoutLaws.{le_at-lt}
use Rattle.fsm_blocks.proofs.header.FsmHeader.parse.Goals as goal

pub overflow_cast-result : goal.overflow_cast-result
overflow_cast-result c =
    record { fits = subst (λ (n : ℕ). n < 2 ^ 16) (sym c.read_uint_le-3.ensures) (le_at-lt 44 2 c.args.bytes.now (λ i. (c.type_inv.bytes i).fits)) }
