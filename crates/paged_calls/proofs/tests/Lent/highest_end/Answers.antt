use mathlib.Core.Path.{ap, ◌∙◌}
use Prim.Native.Nat.{ℕ, max}
use Rattle.paged_calls.specs.Decisions.{state_of}
use Rattle.paged_calls.proofs.CodeLaws.{all_reached}
use Rattle.paged_calls.proofs.tests.Lent.highest_end.Goals as goal

pub returns : goal.returns
returns c =
    all_reached (state_of c.args.self.now).lists c.end_of-m.result c.end_of-r.result c.end_of-u.result
    c.end_of-m.ensures c.end_of-r.ensures c.end_of-u.ensures _ (c.max-2.ensures ∙ ap (λ (x : ℕ). max c.end_of-m.result x) c.max.ensures)
