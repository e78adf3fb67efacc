use mathlib.Core.Path.{ap, ◌∙◌}
use Prim.Native.Nat.{ℕ}
use Rattle.error.specs.Lent.{with}
use Rattle.fields.specs.Ranges.{left_or_top}
use Rattle.bench_blocks.proofs.TopLaws.{or_all_ones}
use Rattle.bench_blocks.proofs.bench_split_at_pages.Goals as goal

pub returns : goal.returns
returns c =
    let d = c.split_at_pages in
    ap (λ (n : ℕ). with n d.new.out) (c.unwrap_or.ensures ∙ or_all_ones d.result) ∙ ap left_or_top d.ensures
