-- `ends`: the section ends at a number
use mathlib.Core.Path.{refl, ap, ◌∙◌}
use Prim.Native.Nat.{◌^◌, ◌<◌, ◌+◌}
use native.Mathlib.Omega.{arith}
use lib.ListN.{length}
use Rattle.split_records.specs.Records.{pieces_left}
use Rattle.split_records.proofs.CutLaws.{within, skip, cut, fits-here}
use Rattle.fsm_sections.specs.Sections.{section_at}
use Rattle.split_records.proofs.next_piece.Goals as goal

pub loop-i-init : goal.loop-i-init
loop-i-init c =
    let a = c.args in (within a.page a.count a.sections.now c.requires.1 a.at.section a.at.done c.requires.3, refl)

pub loop-i-preserved : goal.loop-i-preserved
loop-i-preserved c =
    let l = c.loop-i in
    let a = c.args in
    let e = l.invariant.1 ∙ skip a.page a.count a.sections.now c.requires.1 l.i l.d l.invariant.0 c.loop-i-test.true in
    let z : 0 < length (pieces_left a.page a.count a.sections.now (l.i + 1) 0) = omega (arith, ap length e, c.requires.3) in
    (within a.page a.count a.sections.now c.requires.1 (l.i + 1) 0 z, e)

pub overflow_add-a : goal.overflow_add-a
overflow_add-a c =
    let ends : (let r = section_at c.args.sections.now c.loop-i.i in r.addr + r.size < 2 ^ 64) = let l = c.loop-i in
    let a = c.args in
    fits-here a.count a.sections.now c.requires.1 c.requires.2 l.i l.invariant.0 in
    let l = c.loop-i in
    let r = section_at c.args.sections.now l.i in
    let h : r.addr + l.d < 2 ^ 64 = omega (arith, ends, c.loop-i-test.false) in
    record { fits = h }

pub overflow_sub-page : goal.overflow_sub-page
overflow_sub-page c = omega (arith, c.requires.0)

pub overflow_add-next : goal.overflow_add-next
overflow_add-next c =
    let ends : (let r = section_at c.args.sections.now c.loop-i.i in r.addr + r.size < 2 ^ 64) = let l = c.loop-i in
    let a = c.args in
    fits-here a.count a.sections.now c.requires.1 c.requires.2 l.i l.invariant.0 in
    let l = c.loop-i in
    record { fits = omega (arith, ends, c.loop-i-test.false) }

pub returns : goal.returns
returns c =
    let l = c.loop-i in
    let a = c.args in
    let ends = fits-here a.count a.sections.now c.requires.1 c.requires.2 l.i l.invariant.0 in
    l.invariant.1 ∙ cut a.page a.count a.sections.now c.requires.1 c.requires.0 l.i l.d _ l.invariant.0 c.loop-i-test.false (omega (arith, ends))
