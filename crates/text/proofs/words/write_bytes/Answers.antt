use native.Mathlib.Omega.{arith}
use Rattle.std.proofs.lemmas.List.{reverse-reverse}
use Rattle.text.proofs.TextLaws.{copy_start, copy_end, copied-part}
use Rattle.text.proofs.words.write_bytes.Goals as goal

-- the part holds the bytes, by whatever steps: also if it was turned and turned back
pub returns-then-at-end : goal.returns-then-at-end
returns-then-at-end c =
    let a = c.args in
    copied-part a.at c.place_after-end.result a.bytes.now a.out.now _ c.if-at-end.true c.place_after-end.ensures (grind (arith, reverse-reverse))

pub returns-else-at-end : goal.returns-else-at-end
returns-else-at-end c =
    let a = c.args in
    copy_end a.at a.bytes.now a.out.now a.at c.place_after-end.result (omega arith) c.if-at-end.false (omega arith)
    c.place_after-end.ensures (copy_start a.at a.bytes.now a.out.now)
