use mathlib.Core.List.{List}
use mathlib.Core.Path.{sym, ap, ◌∙◌}
use native.Mathlib.Omega.{arith}
use lib.Seq.{take_all}
use Rattle.error.specs.Lent.{over}
use Rattle.error.proofs.OverLaws.{over-nil}
use Rattle.fields.specs.Layout.{layout}
use Prim.Native.Nat.{ℕ, ◌≤◌}
use lib.ListN.{length}
use Rattle.file_space_info.specs.Message.{address_row}
use Rattle.file_space_info.proofs.WriteLaws.{write_step}
use Rattle.file_space_info.proofs.write_addrs.Goals as goal

pub loop-i-init : goal.loop-i-init
unfolding layout
loop-i-init c = sym (over-nil 29 c.args.out.now)

pub loop-i-preserved : goal.loop-i-preserved
loop-i-preserved c =
    let a = c.args in
    let l = c.loop-i in
    c.write_uint_le.ensures ∙ write_step 29 8 l.i a.addrs.now a.out.now (omega arith) l.invariant

pub returns : goal.returns
returns c =
    let a = c.args in
    let l = c.loop-i in
    let k : length a.addrs.now ≤ l.i = omega arith in
    l.invariant ∙ ap (λ (x : List ℕ). over 29 (layout (address_row 8 x)) a.out.now) (take_all l.i a.addrs.now k)
