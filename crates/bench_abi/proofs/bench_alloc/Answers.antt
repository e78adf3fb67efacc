use Rattle.std.proofs.Common.{ℕ, ap, ◌∙◌}
use Rattle.error.specs.Lent.{with}
use Rattle.bench_abi.specs.Totals.{given_left}
use Rattle.bench_abi.proofs.bench_alloc.Goals as goal

pub returns : goal.returns
returns c =
    let d = c.alloc in
    ap (λ (n : ℕ). with n d.new.run) c.given_total.ensures ∙ ap given_left d.ensures
