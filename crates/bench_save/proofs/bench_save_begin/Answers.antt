use mathlib.Core.Path.{ap, ◌∙◌}
use Prim.Native.Nat.{ℕ}
use Rattle.error.specs.Lent.{with, leaving}
use Rattle.free_lists.specs.declared.FileLists.{FileLists}
use Rattle.free_lists.specs.Lists.{lists_in}
use Rattle.save.specs.Saving.{begun}
use Rattle.bench_save.specs.Lengths.{save_left}
use Rattle.bench_save.proofs.bench_save_begin.Goals as goal

pub returns : goal.returns
returns c =
    let d = c.save_begin in
    let a = c.args in
    ap (λ (n : ℕ). with n d.new.scratch) c.len_of.ensures
    ∙ ap save_left d.ensures
    ∙ ap (λ (f : FileLists). save_left (leaving a.scratch.now
    (begun (lists_in a.meta.now a.raw.now a.unclassified.now f) a.page a.start 0 a.image.now a.scratch.now))) c.lists_of-lists.ensures
