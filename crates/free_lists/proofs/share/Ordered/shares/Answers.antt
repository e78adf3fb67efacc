use mathlib.Core.Path.{sym, ◌∙◌}
use native.Mathlib.Omega.{arith}
use borrow.Author.Tests.{leb-true}
use Rattle.free_regions.proofs.ShareLaws.{share_nil}
use Rattle.free_space.specs.Runs.{decode}
use Rattle.free_lists.proofs.SearchLaws.{all-before, all_after}
use Rattle.free_lists.proofs.share.Ordered.shares.Goals as goal
use Rattle.free_lists.proofs.share.Ordered.shares.Goals.{then-self-eq0-via-then-self-eq0, then-self-eq0-via-else-self-eq0+then-other-eq0, then-self-eq0-via-else-self-eq0+else-other-eq0+then-ends_before, then-self-eq0-via-else-self-eq0+else-other-eq0+else-ends_before+then-ends_before-2}

pub returns-then-self-eq0 : goal.returns-then-self-eq0
returns-then-self-eq0 c =
    let a = c.args in
    elim c.then-self-eq0.branch [
      | then-self-eq0-via-then-self-eq0 w ↦ rw w.if-self-eq0.true
      | then-self-eq0-via-else-self-eq0+then-other-eq0 w ↦ rw w.if-other-eq0.true (sym (share_nil (decode a.self.count a.self.run.now)))
      | then-self-eq0-via-else-self-eq0+else-other-eq0+then-ends_before w ↦
          all-before c.args.self.in_order c.args.other.in_order (omega (arith, w.if-self-eq0.false)) (omega (arith, w.if-other-eq0.false))
          (leb-true _ _ (sym w.ends_before.ensures ∙ w.if-ends_before.true))
      | then-self-eq0-via-else-self-eq0+else-other-eq0+else-ends_before+then-ends_before-2 w ↦
          all_after c.args.self.in_order c.args.other.in_order (omega (arith, w.if-self-eq0.false)) (omega (arith, w.if-other-eq0.false))
          (leb-true _ _ (sym w.ends_before-else-ends_before.ensures ∙ w.if-ends_before-2.true))
    ]
