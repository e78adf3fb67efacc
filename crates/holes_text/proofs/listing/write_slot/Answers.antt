use native.Mathlib.Omega.{arith}
use Rattle.fsm_sections.specs.Sections.{decode}
use Rattle.holes_text.specs.Listing.{slot_text}
use Rattle.text.proofs.TextLaws.{printing_length}
use Rattle.holes_text.proofs.ListingLaws.{lines_from, lines_start, lines_step, lines_end}
use Rattle.holes_text.proofs.listing.write_slot.Goals as goal

pub loop-i-init : goal.loop-i-init
loop-i-init c =
    let a = c.args in
    lines_start a.slot c.min-n.result a.run.now a.count a.at a.out.now c.requires c.min-n.ensures

pub loop-i-preserved : goal.loop-i-preserved
loop-i-preserved c =
    let l = c.loop-i in
    let a = c.args in
    let n = c.min-n.result in
    lines_step a.slot n a.run.now (omega arith) l.i l.to l.out l.invariant c.loop-i-test.true c.write_row-to.ensures

pub shape_of-out : goal.shape_of-out
shape_of-out c =
    let l = c.loop-i in
    let a = c.args in
    let n = c.min-n.result in
    printing_length a.at (slot_text a.slot (decode a.count a.run.now)) a.out.now l.to (lines_from a.slot n a.run.now l.i) l.out l.invariant

pub returns : goal.returns
returns c =
    let l = c.loop-i in
    let a = c.args in
    lines_end a.slot c.min-n.result a.run.now (omega arith) l.i l.to l.out l.invariant c.loop-i-test.false
