use mathlib.Core.Path.{ap, ◌∙◌}
use Prim.Native.Nat.{ℕ}
use Rattle.error.specs.Lent.{with}
use Rattle.bench_save.specs.Lengths.{plan_left}
use Rattle.bench_save.proofs.bench_plan_paged_managers.Goals as goal

pub returns : goal.returns
returns c =
    let d = c.plan_paged_managers in
    ap (λ (n : ℕ). with n d.new.out) c.end_of.ensures ∙ ap plan_left d.ensures
