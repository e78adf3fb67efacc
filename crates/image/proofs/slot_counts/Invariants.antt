use Rattle.image.proofs.CountLaws.{Counting}
use Rattle.image.proofs.slot_counts.Given as goal

abbrev pub invariant-loop-i : goal.invariant-loop-i
invariant-loop-i l = Counting l.image l.slots l.counts l.i
