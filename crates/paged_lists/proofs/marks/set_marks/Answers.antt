use Rattle.std.proofs.Common.{◌≡◌, ◌+◌, ◌-◌, ℕ, List, length, take, drop, replicate, sym, ap, ◌∙◌, length-take, length-drop, min, arith}
use borrow.Rule.Slice.PartMut.{put_mid}
use Rattle.error.specs.Lent.{over}
use Rattle.error.proofs.OverLaws.{over-end}
use Rattle.paged_lists.proofs.MarkLaws.{put_mid-over, fill_cut}
use Rattle.paged_lists.proofs.marks.set_marks.Goals as goal

pub returns-then-len-first : goal.returns-then-len-first
returns-then-len-first c =
    let a = c.args in sym (over-end a.first (replicate a.count a.mark) a.marks.now (omega arith))

pub returns : goal.returns
returns c =
    let a = c.args in
    let n = c.min.result in
    let is-n : n ≡ min a.count (length a.marks.now - a.first) = c.min.ensures in
    let k : a.first + n - a.first ≡ n = omega arith in
    let long : length (take (a.first + n - a.first) (drop a.first a.marks.now)) ≡ n = simp (length-take, length-drop) (omega arith) in
    let ys = c.fill.new.self in
    let filled : ys ≡ replicate n a.mark = c.fill.ensures.after (λ y e. e) ∙ ap (λ (m : ℕ). replicate m a.mark) long in
    let many : length ys ≡ n = c.fill.ensures.len ∙ long in
    ap (λ (m : ℕ). put_mid a.first m a.marks.now ys) (k ∙ sym many)
    ∙ put_mid-over a.first a.marks.now ys (omega arith)
    ∙ ap (λ (l : List ℕ). over a.first l a.marks.now) filled
    ∙ fill_cut a.first n a.count a.mark a.marks.now (omega arith) (λ h. omega arith)
