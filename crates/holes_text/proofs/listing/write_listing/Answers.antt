use mathlib.Core.Path.{◌∙◌}
use native.Mathlib.Omega.{arith}
use Rattle.holes_text.specs.Listing.{header, listing_text}
use Rattle.text.proofs.TextLaws.{whole-left, after-inside, printing_length, then}
use Rattle.holes_text.proofs.ListingLaws.{slots_from, slots_step, slots_end}
use Rattle.holes_text.proofs.listing.write_listing.Goals as goal

pub loop-slot-init : goal.loop-slot-init
loop-slot-init c =
    let w = c.write_bytes-to in
    let a = c.args in
    (omega arith, whole-left w.result (slots_from a.counts.now a.run.now 0 0) w.new.out (after-inside 0 header a.out.now w.ensures))

pub write_slot-to-requires : goal.write_slot-to-requires
write_slot-to-requires c = c.loop-slot.invariant.1.inside

pub after_pairs-from-requires : goal.after_pairs-from-requires
after_pairs-from-requires c = c.loop-slot.invariant.0

pub loop-slot-preserved : goal.loop-slot-preserved
loop-slot-preserved c =
    let w = c.write_slot-to in
    let l = c.loop-slot in
    let a = c.args in
    let e = c.after_pairs-from.ensures in
    (omega arith, slots_step a.counts.now a.run.now l.slot l.from l.to l.out c.loop-slot-test.true l.invariant.1 w.ensures e)

pub shape_of-out : goal.shape_of-out
shape_of-out c =
    let l = c.loop-slot in
    let a = c.args in
    let s = slots_from a.counts.now a.run.now in
    printing_length c.write_bytes-to.result (s 0 0) c.write_bytes-to.new.out l.to (s l.slot l.from) l.out l.invariant.1 ∙ c.write_bytes-to.auto.out

pub returns : goal.returns
unfolding listing_text
returns c =
    let l = c.loop-slot in
    let a = c.args in
    then 0 header (slots_from a.counts.now a.run.now 0 0) a.out.now c.write_bytes-to.ensures
    (slots_end a.counts.now a.run.now l.slot l.from l.to l.out c.loop-slot-test.false l.invariant.1)
