use Rattle.std.proofs.Common.{ℕ, ap, ◌∙◌}
use Rattle.error.specs.Lent.{with}
use Rattle.bench_abi.specs.Totals.{kept_left}
use Rattle.bench_abi.proofs.bench_free.Goals as goal

pub returns : goal.returns
returns c =
    let d = c.free in
    ap (λ (n : ℕ). with n d.new.run) c.kept_total.ensures ∙ ap kept_left d.ensures
