use Prim.Native.Nat.{suc, ◌-◌}
use mathlib.Core.Path.{◌≡◌}
use native.Mathlib.Omega.{arith}
use Rattle.free_lists.proofs.TrailingLaws.{last_of}
use Rattle.free_lists.proofs.share.Ordered.height.Goals as goal

pub overflow_add-result : goal.overflow_add-result
overflow_add-result c =
    let s = c.args.self in
    let e : suc (s.count - 1) ≡ s.count = omega arith in
    let l = last_of (s.count - 1) _ s.in_order e c.region.ensures.read in
    record { fits = omega (arith, l.within, l.some) }

pub returns : goal.returns
returns c =
    let s = c.args.self in
    let e : suc (s.count - 1) ≡ s.count = omega arith in
    omega (arith, (last_of (s.count - 1) _ s.in_order e c.region.ensures.read).high)
