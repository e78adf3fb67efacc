use Rattle.std.proofs.Common.{ℕ, ◌+◌, List, [], ◌∷◌, sym, ap, ◌∙◌}
use Rattle.error.specs.Lent.{over}
use Rattle.error.proofs.OverLaws.{over-nil, over_right}
use Rattle.free_space.specs.declared.run.Patch.{Patch}
use Rattle.free_space.specs.Runs.{flat}
use Rattle.free_space.specs.Splices.{patch}
use Rattle.free_space.proofs.run.put_patch.Goals as goal

pub returns-in-Empty : goal.returns-in-Empty
returns-in-Empty c =
    let a = c.args in
    sym (ap (λ (q : Patch). over a.at (flat (patch q)) a.run.now) c.in-Empty.is ∙ over-nil a.at a.run.now)

pub returns-in-Two : goal.returns-in-Two
returns-in-Two c =
    let a = c.args in
    let g = c.in-Two in
    c.put_region-in-Two-2.ensures
    ∙ ap (λ (l : List ℕ). over (a.at + 2) (flat (g.s ∷ [])) l) c.put_region-in-Two.ensures
    ∙ over_right a.at (flat (g.r ∷ [])) (flat (g.s ∷ [])) a.run.now
    ∙ ap (λ (q : Patch). over a.at (flat (patch q)) a.run.now) (sym g.is)
