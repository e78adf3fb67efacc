use Rattle.std.proofs.Common.{◌≡◌, ◌+◌, ◌-◌, ◌≤◌, ℕ, zero, suc, List, [], ◌∷◌, length, take, drop, replicate, sym, ap, ◌∙◌, length-take, length-drop, arith}
use borrow.Rule.Slice.PartMut.{put_mid}
use Rattle.error.specs.Lent.{over}
use Rattle.error.proofs.OverLaws.{over-nil, over-is}
use Rattle.free_space.proofs.run.clear.Goals as goal

-- what is written to a part of a run is written over it
put_mid-over : (a : ℕ) (xs ys : List ℕ) → a + length ys ≤ length xs → put_mid a (length ys) xs ys ≡ over a ys xs
put_mid-over zero xs ys h = sym (over-is ys xs (omega arith))
put_mid-over (suc a) [] ys h = absurd (omega arith)
put_mid-over (suc a) (x ∷ xs) ys h = ap (λ (l : List ℕ). x ∷ l) (put_mid-over a xs ys (omega arith))

pub returns-then-from-to : goal.returns-then-from-to
returns-then-from-to c =
    let a = c.args in
    let long : length (take (a.to - a.from) (drop a.from a.run.now)) ≡ a.to - a.from = simp (length-take, length-drop) (omega arith) in
    let ys = c.fill.new.self in
    let n : length ys ≡ a.to - a.from = c.fill.ensures.len ∙ long in
    ap (λ (k : ℕ). put_mid a.from k a.run.now ys) (sym n)
    ∙ put_mid-over a.from a.run.now ys (omega arith)
    ∙ ap (λ (l : List ℕ). over a.from l a.run.now) (c.fill.ensures.after (λ y e. e) ∙ ap (λ (m : ℕ). replicate m 0) long)

pub returns-else-from-to : goal.returns-else-from-to
returns-else-from-to c =
    let a = c.args in
    let z : a.to - a.from ≡ 0 = omega arith in
    rw z (sym (over-nil a.from a.run.now))
