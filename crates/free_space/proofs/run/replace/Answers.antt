use Rattle.std.proofs.Common.{ℕ, ◌+◌, ◌-◌, ◌*◌, List, replicate, ap, ◌∙◌, arith}
use lib.Seq.{slice}
use Rattle.error.specs.Lent.{over}
use Rattle.free_space.specs.Runs.{flat}
use Rattle.free_space.specs.Splices.{patch}
use Rattle.free_space.proofs.DecodeLaws.{replaced}
use Rattle.free_space.proofs.run.replace.Goals as goal

pub returns : goal.returns
returns c =
    let a = c.args in
    let xs = a.run.now in
    let n = a.count in
    let p = patch a.p in
    let e-clear = c.clear.ensures in
    let e-put = c.put_patch.ensures in
    let e-copy = c.copy_within.ensures in
    let e-len = c.patch_len-k.ensures.0 in
    let k = c.patch_len-k.result in
    e-clear
    ∙ ap (λ (l : List ℕ). over (2 * (a.lo + k + (n - a.hi))) (replicate (2 * n - 2 * (a.lo + k + (n - a.hi))) 0) l)
    (e-put ∙ ap (λ (l : List ℕ). over (2 * a.lo) (flat p) l) e-copy)
    ∙ ap (λ (k : ℕ). over (2 * (a.lo + k + (n - a.hi))) (replicate (2 * n - 2 * (a.lo + k + (n - a.hi))) 0)
    (over (2 * a.lo) (flat p) (over (2 * (a.lo + k)) (slice (2 * a.hi) (2 * n) xs) xs))) e-len
    ∙ replaced xs n a.lo a.hi p (omega arith) (omega arith) (omega arith)
