use Prim.Native.Nat.{◌+◌}
use Rattle.fsm_pages.proofs.PieceLaws.{Walking}
use Rattle.fsm_pages.proofs.pages.put_pieces.Given as goal

abbrev pub invariant-loop-room : goal.invariant-loop-room
invariant-loop-room l = Walking l.page l.addr (l.addr + l.size) l.from l.initial.out l.out l.a l.left l.room l.k

abbrev pub decreases-loop-room : goal.decreases-loop-room
decreases-loop-room l = l.left
