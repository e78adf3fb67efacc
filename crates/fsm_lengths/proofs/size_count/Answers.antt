-- `again`: whether the size at the index comes again
use mathlib.Core.Path.{◌≡◌, sym, ap, ◌∙◌}
use Prim.Native.Nat.{◌+◌, ◌-◌}
use native.Mathlib.Omega.{arith}
use lib.Dec.{eqb, ltb}
use lib.ListN.{length, drop, get_or, length-drop}
use lib.Seq.{take_all}
use Rattle.std.specs.List.{list_any}
use Rattle.fsm_sections.specs.Sections.{of_size}
use Rattle.fsm_lengths.specs.Lengths.{unplaced}
use Rattle.fsm_lengths.proofs.LengthLaws.{stands, counted, all-counted}
use Rattle.fsm_lengths.proofs.size_count.Goals as goal
use Rattle.fsm_lengths.proofs.size_count.Goals.{then-not-contains, else-not-contains}

pub loop-i-preserved : goal.loop-i-preserved
loop-i-preserved c =
    let zs = c.args.sizes.now in
    let l = c.loop-i in
    let z = get_or zs l.i 0 in
    let again : c.contains.result ≡ ltb 0 (of_size z (unplaced (drop (l.i + 1) zs))) =
    c.contains.ensures.value
    ∙ ap (list_any (λ y. eqb y z)) (take_all (length zs - (l.i + 1)) (drop (l.i + 1) zs) (omega (arith, length-drop (l.i + 1) zs)))
    ∙ stands z (drop (l.i + 1) zs) in
    elim c.if-not-contains.branch [
      | then-not-contains w ↦ (omega (arith, w.n-is), rw w.n-is (counted zs l.i l.n l.invariant.1 c.loop-i-test.true _ (sym w.if-not-contains.true ∙ again)))
      | else-not-contains w ↦ (omega (arith, w.n-is), let e = counted zs l.i l.n l.invariant.1 c.loop-i-test.true _ (sym w.if-not-contains.false ∙ again) in omega (arith, e, w.n-is))
    ]

pub returns : goal.returns
returns c = all-counted c.args.sizes.now c.loop-i.i c.loop-i.n c.loop-i.invariant.1 c.loop-i-test.false
