use Prim.Native.Nat.{◌≤◌}
use lib.ListN.{length}
use Rattle.text.specs.Text.{written}
use Rattle.text.proofs.TextLaws.{Printing}
use Rattle.holes_text.proofs.ListingLaws.{slots_from}
use Rattle.holes_text.proofs.listing.write_listing.Given as goal

abbrev pub invariant-loop-slot : goal.invariant-loop-slot
invariant-loop-slot l =
    (l.from ≤ length l.run) × Printing (written l.initial.to (slots_from l.counts l.run 0 0) l.initial.out) l.to (slots_from l.counts l.run l.slot l.from) l.out
