use mathlib.Core.List.{[]}
use mathlib.Core.Path.{◌≡◌, sym, ap, ◌∙◌}
use Prim.Native.Nat.{ℕ, ◌+◌, ◌-◌, ◌*◌, ◌≤◌, ◌<◌, min}
use native.Mathlib.Nat.{one-le-pow}
use native.Mathlib.Omega.{arith}
use lib.Dec.{lit≤}
use lib.ListN.{length, take, drop, get_or, length-drop}
use Rattle.fields.specs.Le.{le_value}
use Rattle.fields.proofs.LeLaws.{take_min, past_end, get_step, room, grows}
use Rattle.fields.proofs.bytes.read_uint_le.Goals as goal

pub loop-i-init : goal.loop-i-init
unfolding le_value
loop-i-init c =
    let a = c.args in
    let n = c.places-n.result in
    (sym (ap le_value (past_end n a.bytes.now a.at)), omega (arith, one-le-pow (n - n) 256 (lit≤ tt)))

pub overflow_mul-v : goal.overflow_mul-v
overflow_mul-v c =
    let l = c.loop-i in
    let n = c.places-n.result in
    let s : n ≤ 8 = omega arith in
    omega (arith, room [] 0 n l.i l.v c.loop-i-test.true l.auto.i s l.invariant.1)

pub overflow_add-v : goal.overflow_add-v
overflow_add-v c =
    let l = c.loop-i in
    let n = c.places-n.result in
    let s : n ≤ 8 = omega arith in
    let b : get_or c.args.bytes.now (c.args.at + (l.i - 1)) 0 < 256 = omega (arith, c.type_inv.bytes (c.args.at + (l.i - 1))) in
    omega (arith, room [] 0 n l.i l.v c.loop-i-test.true l.auto.i s l.invariant.1)

pub loop-i-preserved : goal.loop-i-preserved
loop-i-preserved c =
    let a = c.args in
    let l = c.loop-i in
    let n = c.places-n.result in
    let t = c.loop-i-test.true in
    let b : get_or a.bytes.now (a.at + (l.i - 1)) 0 < 256 = omega (arith, c.type_inv.bytes (a.at + (l.i - 1))) in
    let f : a.at + n ≤ length a.bytes.now = omega arith in (
      ap (λ (b : ℕ). l.v * 256 + b) c.from.ensures ∙ get_step a.bytes.now a.at n l.i l.v t l.auto.i f l.invariant.0,
      grows a.bytes.now a.at n l.i l.v t l.auto.i c.from.result (omega arith) l.invariant.1,
    )

pub returns : goal.returns
returns c =
    let a = c.args in
    let l = c.loop-i in
    let d = drop a.at a.bytes.now in
    let n = c.places-n.result in
    let z : l.i ≡ 0 = omega arith in
    let e : n ≡ min (min a.width 8) (length d) = omega (arith, length-drop a.at a.bytes.now) in
    l.invariant.0
    ∙ ap (λ (k : ℕ). le_value (drop k (take n d))) z
    ∙ ap (λ (k : ℕ). le_value (take k d)) e
    ∙ ap le_value (take_min (min a.width 8) d)
