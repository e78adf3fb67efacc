use Rattle.fsm_sections.specs.Sections.{decode}
use Rattle.text.specs.Text.{written}
use Rattle.holes_text.specs.Listing.{slot_text}
use Rattle.text.proofs.TextLaws.{Printing}
use Rattle.holes_text.proofs.ListingLaws.{lines_from}
use Rattle.holes_text.proofs.listing.write_slot.Given as goal

abbrev pub invariant-loop-i : goal.invariant-loop-i
invariant-loop-i l =
    Printing (written l.at (slot_text l.slot (decode l.count l.run)) l.initial.out) l.to (lines_from l.slot l.n l.run l.i) l.out
