use Rattle.std.proofs.Common.{rules, arith, refl, ◌≡◌, ◌+◌, ◌-◌, ◌/◌, ◌≤◌, ◌<◌, ℕ, List, length, take, drop, length-take, length-drop}
use Rattle.std.proofs.lemmas.List.Sorted.{IsPartitionedBy-leb, IsPartitionPoint-from_clause}
use borrow.Author.Tests.{tests}
use lib.Dec.{leb}
use Rattle.fields.specs.Ranges.{top}
use Rattle.free_regions.specs.Regions.{end}
use Rattle.free_space.specs.Runs.{region_at}
use Rattle.free_lists.proofs.PartitionLaws.{lent_from, ends, in_turn, found}
use Rattle.free_lists.proofs.SharingLaws.{order-fits}
use Rattle.free_lists.proofs.SearchLaws.{ends-later}
use Rattle.free_lists.proofs.share.Ordered.first_past.Goals as goal

pub returns : goal.returns
returns c =
    let a = c.args in
    let s = a.self in
    let m = a.upto - a.from in
    let rs = c.as_chunks.result.0.now in
    let ys = take m (drop a.from rs) in
    let many : length rs ≡ length s.run.now / 2 = c.as_chunks.ensures.front_len in
    let long : length ys ≡ m = simp (length-take, length-drop) (omega (arith, many, s.in_order.room)) in
    let within : (i : ℕ) → i < s.count → end (region_at s.run.now i) ≤ top = λ i l. (order-fits s.in_order i (region_at s.run.now i) refl l).within in
    let each = lent_from s.run.now a.from m rs (omega (arith, s.in_order.room)) c.as_chunks.ensures.front in
    let rise = in_turn s.run.now s.count within (ends-later s.in_order) a.from m a.a (omega arith) ys long each in
    let point = IsPartitionPoint-from_clause (λ y. leb (ends y) a.a) ys c.partition_point.result (λ q. c.partition_point.ensures.partitioned q)
    (IsPartitionedBy-leb ends ys a.a rise) (λ b r k q. search (rules, tests)) in
    let f = found s.run.now s.count within (ends-later s.in_order) a.from m a.a (omega arith) ys long each c.partition_point.result (omega (arith, long)) point in
    record { order = omega arith; within = omega arith; below = λ l. f.0 (omega arith); past = λ l. f.1 (omega arith) }
