use mathlib.Core.Path.{◌≡◌, sym, ◌∙◌}
use Prim.Native.Nat.{◌-◌, ◌<◌, min}
use native.Mathlib.Nat.{div-one}
use native.Mathlib.Omega.{arith}
use lib.ListN.{length}
use Rattle.error.proofs.OverLaws.{over-nil}
use Rattle.fields.proofs.LeLaws.{put_step, rest_step, put_all}
use Rattle.fields.proofs.bytes.write_uint_le.Goals as goal

pub loop-i-init : goal.loop-i-init
loop-i-init c =
    let a = c.args in
    (sym (div-one a.value), sym (over-nil a.at a.out.now))

pub loop-i-preserved : goal.loop-i-preserved
loop-i-preserved c =
    let a = c.args in
    let l = c.loop-i in
    let h : l.i < a.width = omega arith in
    (rest_step a.value l.i l.invariant.0, put_step a.out.now a.at a.width a.value l.i h l.invariant.0 l.invariant.1)

pub returns : goal.returns
returns c =
    let a = c.args in
    let l = c.loop-i in
    let e : l.i ≡ min a.width (length a.out.now - a.at) = omega arith in
    l.invariant.1 ∙ put_all a.out.now a.at a.width a.value l.i e
