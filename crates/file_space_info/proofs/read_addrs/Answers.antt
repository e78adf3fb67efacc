use mathlib.Core.List.{List}
use mathlib.Core.Path.{sym, ap, ◌∙◌}
use Prim.Native.Nat.{ℕ, ◌≤◌}
use native.Mathlib.Omega.{arith}
use lib.ListN.{length, drop}
use lib.Seq.{take_all}
use Rattle.error.specs.Lent.{over}
use Rattle.error.proofs.OverLaws.{over-nil}
use Rattle.file_space_info.specs.Message.{numbers_at}
use Rattle.file_space_info.proofs.ReadLaws.{length-numbers, read_step}
use Rattle.file_space_info.proofs.read_addrs.Goals as goal

pub loop-i-init : goal.loop-i-init
loop-i-init c = sym (over-nil 0 c.args.addrs.now)

pub loop-i-preserved : goal.loop-i-preserved
loop-i-preserved c =
    let a = c.args in
    let l = c.loop-i in
    read_step a.width a.n a.at l.i a.bytes.now a.addrs.now c.requires.0 c.loop-i-test.true c.read_uint_le.ensures l.invariant

pub returns : goal.returns
returns c =
    let a = c.args in
    let l = c.loop-i in
    let s = numbers_at a.width a.n (drop a.at a.bytes.now) in
    let k : length s ≤ l.i = omega (arith, length-numbers a.width a.n (drop a.at a.bytes.now)) in
    l.invariant ∙ ap (λ (x : List ℕ). over 0 x a.addrs.now) (take_all l.i s k)
