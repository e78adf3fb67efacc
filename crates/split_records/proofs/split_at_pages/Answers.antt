use mathlib.Core.Path.{refl, sym, ap, ◌∙◌}
use mathlib.Core.List.{List, ◌++◌}
use Prim.Native.Nat.{◌<◌}
use native.Mathlib.Numerals.{add-one}
use native.Mathlib.Omega.{arith}
use lib.ListN.{length, take, drop, set}
use lib.Seq.{length-take-le}
use Rattle.error.specs.Outcome.{answer}
use Rattle.error.specs.Lent.{left}
use Rattle.std.proofs.lemmas.Result.{err_from_is_err_and}
use Rattle.fsm_sections.specs.declared.FreeSection.{FreeSection}
use Rattle.split_records.proofs.CutLaws.{all_left}
use Rattle.split_records.proofs.RecordLaws.{ready, ready_front, front_shown, left_some, next_here, store_piece, records_are, records_refused}
use Rattle.split_records.proofs.split_at_pages.Goals as goal

pub returns-in_err-n : goal.returns-in_err-n
returns-in_err-n c =
    let a = c.args in
    let p = err_from_is_err_and c.from_residual.result c.from_residual.ensures.1 in rw (p.1, p.2)
    (records_refused a.sections.now a.count a.page a.out.now _ c.in_err-n.ensures)

pub slice_bounds-record-items-end : goal.slice_bounds-record-items-end
slice_bounds-record-items-end c = (ready c.args.sections.now c.args.count c.args.page _ _ c.in_ok-n.ensures).space

pub slice_bounds-record-items-end-2 : goal.slice_bounds-record-items-end-2
slice_bounds-record-items-end-2 c =
    sym (length-take-le _ c.args.out.now (ready c.args.sections.now c.args.count c.args.page _ _ c.in_ok-n.ensures).space)

pub loop-record-init : goal.loop-record-init
loop-record-init c =
    let a = c.args in
    record { stored = refl; others = sym (all_left a.sections.now a.count a.page) }

pub next_piece-requires : goal.next_piece-requires
next_piece-requires c =
    let a = c.args in
    let l = c.loop-record in
    let r = ready a.sections.now a.count a.page (length a.out.now) c.in_ok-n.n c.in_ok-n.ensures in
    let h : l.record-index < c.in_ok-n.n = omega (arith, length-take-le c.in_ok-n.n a.out.now r.space, c.loop-record-test.true) in
    (r.some, r.run, r.fits, left_some a.sections.now a.count a.page a.out.now _ r l.record-index l.at.section l.at.done l.invariant.others h)

pub loop-record-preserved : goal.loop-record-preserved
loop-record-preserved c =
    let a = c.args in
    let l = c.loop-record in
    let p = c.next_piece.result in
    let n = c.in_ok-n.n in
    let r = ready a.sections.now a.count a.page (length a.out.now) n c.in_ok-n.ensures in
    let h : l.record-index < n = omega (arith, length-take-le n a.out.now r.space, c.loop-record-test.true) in
    let f = ready_front a.sections.now a.count a.page a.out.now n r in
    record {
      stored = rw add-one (ap (λ (o : List FreeSection). set o l.record-index p.0) l.invariant.stored
          ∙ store_piece a.sections.now a.count a.page (take n a.out.now) n f l.record-index l.at.section l.at.done l.invariant.others h p.0 p.1.section p.1.done c.next_piece.ensures);
      others = rw add-one (next_here a.sections.now a.count a.page (take n a.out.now) n f l.record-index l.at.section l.at.done l.invariant.others h p.0 p.1.section p.1.done c.next_piece.ensures);
    }

pub returns : goal.returns
returns c =
    let a = c.args in
    let l = c.loop-record in
    let n = c.in_ok-n.n in
    let r = ready a.sections.now a.count a.page (length a.out.now) n c.in_ok-n.ensures in
    ap (λ (o : List FreeSection). left (answer n) (o ++ drop n a.out.now)) l.invariant.stored
    ∙ ap (left (answer n)) (front_shown a.sections.now a.count a.page a.out.now n l.record-index r c.loop-record-test.false)
    ∙ records_are a.sections.now a.count a.page a.out.now n c.in_ok-n.ensures
