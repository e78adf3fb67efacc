use mathlib.Core.Path.{sym, ap, ◌∙◌}
use Prim.Native.Nat.{ℕ}
use Rattle.fields.specs.Layout.{le_at}
use Rattle.fields.proofs.LayoutLaws.{le_at-one}
use native.Mathlib.Omega.{arith}
use Prim.Native.Nat.{◌+◌, ◌-◌}
use lib.ListN.{take, drop}
use Rattle.std.specs.Array.{IsWholeChunk}
use Rattle.std.proofs.lemmas.Result.{MatchResult-at_ok}
use Rattle.fsm_blocks.proofs.BytesLaws.{le_at-two, chunk_length, chunk_value}
use Rattle.fsm_blocks.proofs.groups.field_at.Goals as goal

pub returns-in-1 : goal.returns-in-1
returns-in-1 c = c.from.ensures ∙ sym (le_at-one c.args.at c.args.bytes.now) ∙ ap (λ (n : ℕ). le_at c.args.at n c.args.bytes.now) (sym c.in-1.is)

pub returns-in-2 : goal.returns-in-2
returns-in-2 c =
    let a = c.args in
    let xs = c.unwrap-two.result in
    let w = MatchResult-at_ok (λ y. IsWholeChunk (take (a.at + 2 - a.at) (drop a.at a.bytes.now)) y 2) _ xs c.unwrap-two.ensures c.try_into.ensures.1 in
    rw c.in-2.is
    (omega (arith, c.from-in-2.ensures, c.from_le_bytes.ensures, le_at-two 0 xs (omega (arith, chunk_length a.at 2 a.bytes.now xs w)), chunk_value a.at 2 a.bytes.now xs w))
