use Rattle.std.proofs.Common.{rules, arith, ◌≡◌, sym, ◌∙◌, take, drop, ◌+◌, ◌-◌, ap, ℕ, List}
use Rattle.std.proofs.lemmas.Iterator.{YieldsList-from_slice}
use Rattle.std.proofs.lemmas.Iterator.Search.{all_from_yields_List}
use Rattle.std.specs.List.{list_all}
use borrow.Author.Tests.{tests}
use lib.Dec.{eqb}
use Rattle.paged_lists.specs.Pages.{all_marked}
use Rattle.paged_lists.proofs.MarkLaws.{marked_all, past-marks}
use Rattle.paged_lists.proofs.marks.all_marked.Goals as goal
use Rattle.paged_lists.proofs.marks.all_marked.Goals.{then-len-count-via-then-len-count, then-len-count-via-else-len-count+then-len-count-2}

pub returns-then-len-count : goal.returns-then-len-count
returns-then-len-count c =
    let a = c.args in
    elim c.then-len-count.branch [
      | then-len-count-via-then-len-count w ↦ sym (past-marks a.kind a.count a.first a.marks.now (omega arith) (omega arith))
      | then-len-count-via-else-len-count+then-len-count-2 w ↦ sym (past-marks a.kind a.count a.first a.marks.now (omega arith) (omega arith))
    ]

pub returns : goal.returns
returns c =
    let a = c.args in
    let mark = c.mark_of-mark.result in
    let n : a.first + a.count - a.first ≡ a.count = omega arith in
    let all = all_from_yields_List (λ m. eqb m mark) _ _ c.all.result c.all.ensures.ran
    (YieldsList-from_slice (take (a.first + a.count - a.first) (drop a.first a.marks.now)) cc) (λ x b q k. search (rules, tests)) in
    all
    ∙ ap (λ (k : ℕ). list_all (λ m. eqb m mark) (take k (drop a.first a.marks.now))) n
    ∙ marked_all mark a.count a.first a.marks.now (omega arith)
    ∙ ap (λ (m : ℕ). all_marked m a.count a.first a.marks.now) c.mark_of-mark.ensures
