-- the text that was written is inside the buffer
use mathlib.Core.Path.{sym}
use Prim.Native.Nat.{◌≤◌}
use lib.ListN.{length}
use lib.Seq.{length-take-le}
use Rattle.holes.proofs.main.Goals as goal

pub slice_bounds-text-end : goal.slice_bounds-text-end
slice_bounds-text-end c =
    let inside : (c.write_text-len.result ≤ length c.write_text-len.new.out) = c.write_text-len.ensures.0 in
    inside

pub slice_bounds-write_all-end : goal.slice_bounds-write_all-end
slice_bounds-write_all-end c =
    let inside : (c.write_text-len.result ≤ length c.write_text-len.new.out) = c.write_text-len.ensures.0 in
    sym (length-take-le _ _ inside)
