-- `is_last`: the pair that the code reads is the last region
use mathlib.Core.Path.{◌≡◌, ap}
use Prim.Native.Nat.{◌-◌}
use native.Mathlib.Omega.{arith}
use Rattle.pairs.specs.declared.Pair.{Pair}
use Rattle.free_regions.specs.Regions.{region}
use Rattle.free_space.specs.Runs.{region_at}
use Rattle.paged_calls.proofs.CodeLaws.{last-region, last_reached}
use Rattle.paged_calls.proofs.tests.end_of.Goals as goal

pub overflow_add-result : goal.overflow_add-result
overflow_add-result c =
    let is_last : (let a = c.args in
    region c.pair_at-last.result.addr c.pair_at-last.result.len ≡ region_at a.run.now (a.list.count - 1)) = ap (λ (p : Pair). region p.addr p.len) c.pair_at-last.ensures in
    let f = last-region c.args.run.now c.args.list _ c.requires (omega arith) is_last in
    record { fits = omega (arith, f.within) }

pub returns : goal.returns
returns c =
    let is_last : (let a = c.args in
    region c.pair_at-last.result.addr c.pair_at-last.result.len ≡ region_at a.run.now (a.list.count - 1)) = ap (λ (p : Pair). region p.addr p.len) c.pair_at-last.ensures in
    last_reached c.args.run.now c.args.list _ c.requires (omega arith) is_last
