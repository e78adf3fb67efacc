use Rattle.std.proofs.Common.{◌≡◌, ℕ, ◌+◌, ◌-◌, ◌≤◌, List, [], ◌∷◌, ◌++◌, take, sym, ap, ◌∙◌, arith}
use Rattle.fields.specs.Ranges.{top}
use Rattle.free_regions.specs.declared.FreeRegion.{FreeRegion}
use Rattle.free_regions.specs.Regions.{sum_of_lengths, insert, spliced}
use Rattle.free_regions.proofs.OkLaws.{ok_prop}
use Rattle.free_regions.proofs.SetLaws.{insert-within}
use Rattle.free_regions.proofs.LengthLaws.{sum_drop, sum-within}
use Rattle.free_space.specs.declared.run.Patch.TheVariants.{One}
use Rattle.free_space.specs.Runs.{regions}
use Rattle.free_space.specs.Calls.{placed, keeping}
use Rattle.free_space.specs.Splices.{Goes, Replaces}
use Rattle.free_space.specs.Decisions.{kept_by}
use Rattle.free_space.proofs.ListLaws.{listed}
use Rattle.free_space.proofs.SpliceLaws.{kept-fitted, new_total}
use Rattle.free_space.proofs.valid.ValidList.put_between.Goals as goal
use Rattle.free_space.proofs.valid.ValidList.put_between.Goals.{After-join_above-high}

module _ (s : After-join_above-high) where
  abbrev rs : List FreeRegion
  rs = regions s.args.self.run.now s.args.self.list

  abbrev lo : ℕ
  lo = s.join_below-low.result.index

  abbrev hi : ℕ
  hi = s.join_above-high.result.index

  abbrev joined : FreeRegion
  joined = s.join_above-high.result.region

  order : lo ≤ hi
  order = omega (arith, s.join_below-low.ensures.0, s.join_above-high.ensures.0)

  -- the joined region has the bytes of the regions folded, and the new ones
  longer : s.args.new.len ≤ joined.len
  longer = omega (arith, s.join_below-low.ensures.3, s.join_above-high.ensures.3, sum_drop lo hi rs order)

  is_inserted : insert s.args.new rs ≡ spliced rs lo hi (joined ∷ [])
  is_inserted = s.join_below-low.ensures.2 ∙ ap (λ (q : List FreeRegion). take lo rs ++ q) s.join_above-high.ensures.2

  -- the new total is the sum of what is left
  total-is : s.args.self.list.total + s.args.new.len ≡ sum_of_lengths (insert s.args.new rs)
  total-is =
      let a = s.args in
      let goes : Goes rs lo hi (joined.len - a.new.len) = omega (arith, longer, s.join_below-low.ensures.3, s.join_above-high.ensures.3) in
      new_total a.self.run.now a.self.list lo hi _ _ (joined ∷ []) s.requires.0.list goes (omega (arith, longer)) ∙ ap sum_of_lengths (sym is_inserted)

  replaces : Replaces s.args.self.run.now s.args.self.list lo hi (s.args.self.list.total + s.args.new.len) (joined ∷ [])
  replaces = record { list = s.requires.0.list; order = order; within = s.join_above-high.ensures.1; sum = total-is ∙ ap sum_of_lengths is_inserted }

pub overflow_add-self : goal.overflow_add-self
overflow_add-self c =
    let a = c.args in
    let p = c.requires in
    let rs = regions a.self.run.now a.self.list in
    let within = insert-within 0 top a.new rs ((ok_prop 0 rs).0 (listed a.self.run.now a.self.list p.0.list).ok) (omega arith) p.1 p.2 in
    omega (arith, total-is (goal.at.overflow_add-self c).After-join_above-high, sum-within 0 top (insert a.new rs) within)

pub change-requires : goal.change-requires
change-requires c = replaces (goal.at.change-requires c).After-join_above-high

pub returns-clause-decided : goal.returns-clause-decided
returns-clause-decided c =
    let a = c.args in
    let xs = a.self.run.now in
    let s = (goal.at.returns-clause-decided c).After-join_above-high in (
      ap (kept_by xs a.self.list) c.change.ensures.0
          ∙ kept-fitted xs a.self.list a.new.addr _ _ _ (One (joined s)) (replaces s)
          ∙ ap (placed keeping xs a.self.list) (sym (is_inserted s)),
      c.change.ensures.1,
    )
