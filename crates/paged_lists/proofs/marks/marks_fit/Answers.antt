use Rattle.std.proofs.Common.{rules, ◌∙◌}
use Rattle.std.proofs.lemmas.Iterator.{YieldsList-from_slice}
use Rattle.std.proofs.lemmas.Iterator.Search.{all_from_yields_List}
use borrow.Author.Tests.{tests}
use lib.Dec.{leb}
use Rattle.paged_lists.proofs.MarkLaws.{fit_all}
use Rattle.paged_lists.proofs.marks.marks_fit.Goals as goal

pub returns : goal.returns
returns c =
    let all = all_from_yields_List (λ m. leb m 2) _ _ c.all.result c.all.ensures.ran (YieldsList-from_slice c.args.marks.now cc) (λ x b q k. search (rules, tests)) in
    all ∙ fit_all c.args.marks.now
