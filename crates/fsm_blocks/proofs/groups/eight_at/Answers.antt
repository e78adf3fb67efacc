use native.Mathlib.Omega.{arith}
use Prim.Native.Nat.{◌+◌, ◌-◌}
use lib.ListN.{take, drop}
use Rattle.std.specs.Array.{IsWholeChunk}
use Rattle.std.proofs.lemmas.Result.{MatchResult-at_ok}
use Rattle.fsm_blocks.proofs.BytesLaws.{le_at_eight, chunk_length, chunk_value}
use Rattle.fsm_blocks.proofs.groups.eight_at.Goals as goal

pub returns : goal.returns
returns c =
    let a = c.args in
    let xs = c.unwrap-eight.result in
    let w = MatchResult-at_ok (λ y. IsWholeChunk (take (a.at + 8 - a.at) (drop a.at a.bytes.now)) y 8) _ xs c.unwrap-eight.ensures c.try_into.ensures.1 in
    omega (arith, c.from_le_bytes.ensures, le_at_eight 0 xs (omega (arith, chunk_length a.at 8 a.bytes.now xs w)), chunk_value a.at 8 a.bytes.now xs w)
