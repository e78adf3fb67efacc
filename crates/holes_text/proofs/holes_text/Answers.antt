-- `inside`: the text is inside its memory
use mathlib.Core.Path.{sym}
use Prim.Native.Nat.{◌≤◌}
use lib.ListN.{length}
use lib.Seq.{length-take-le}
use Rattle.text.proofs.TextLaws.{after-inside}
use Rattle.holes_text.specs.Holes.{holes_text}
use Rattle.holes_text.proofs.SizeLaws.{written-refused, written-whole}
use Rattle.holes_text.proofs.holes_text.Goals as goal

pub returns-then-out-n : goal.returns-then-out-n
returns-then-out-n c =
    let a = c.args in
    written-refused a.image.now c.text_memory-text.result c.text_memory-text.ensures c.print-n.ensures a.out.now c.if-out-n.true

pub slice_bounds-text-end : goal.slice_bounds-text-end
slice_bounds-text-end c =
    let inside : (c.print-n.result ≤ length c.print-n.new.out) = let a = c.args in
    after-inside 0 (holes_text a.image.now) c.text_memory-text.result c.print-n.ensures in
    inside

pub slice_bounds-write_bytes-end : goal.slice_bounds-write_bytes-end
slice_bounds-write_bytes-end c =
    let inside : (c.print-n.result ≤ length c.print-n.new.out) = let a = c.args in
    after-inside 0 (holes_text a.image.now) c.text_memory-text.result c.print-n.ensures in
    sym (length-take-le _ _ inside)

pub returns : goal.returns
returns c =
    let a = c.args in
    written-whole a.image.now c.text_memory-text.result c.text_memory-text.ensures c.print-n.ensures a.out.now c.if-out-n.false c.write_bytes.ensures
