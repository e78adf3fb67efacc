use Rattle.std.proofs.Common.{arith, rules, of_calls, ◌*◌, length-take}
use Rattle.std.proofs.lemmas.Fn.{always_returns_same}
use Rattle.free_space.proofs.ListLaws.{listed}
use Rattle.free_space.proofs.PointLaws.{reaches, past_from}
use Rattle.free_space.proofs.valid.ValidList.first_past.Goals as goal

pub overflow_mul-self : goal.overflow_mul-self
overflow_mul-self c =
    let s = c.args.self in
    omega (arith, (listed s.run.now s.list s.tested).room, c.ranges.self.0)

pub slice_bounds-as_chunks-end : goal.slice_bounds-as_chunks-end
slice_bounds-as_chunks-end c =
    let s = c.args.self in
    omega (arith, (listed s.run.now s.list s.tested).room, length-take (2 * s.list.count) s.run.now)

pub returns : goal.returns
returns c =
    let s = c.args.self in
    let pairs = c.as_chunks in
    let point = c.partition_point in
    past_from s.run.now s.list s.tested c.args.a pairs.result.0.now point.result pairs.ensures.front pairs.ensures.front_len point.ensures.bound
    (point.ensures.partitioned (reaches c.args.a) (always_returns_same _ _ _ (λ a r f k. search (rules, of_calls))))
