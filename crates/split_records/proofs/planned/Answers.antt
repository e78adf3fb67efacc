-- `told`: what the count tells where it gives a number
use Rattle.std.proofs.lemmas.Result.{err_from_is_err_and}
use Rattle.fsm_pages.proofs.SplitLaws.{Splits, split_told}
use Rattle.split_records.proofs.RecordLaws.{planned-refused, planned-over, planned-some}
use Rattle.split_records.proofs.planned.Goals as goal

pub returns-then-capacity-needed : goal.returns-then-capacity-needed
returns-then-capacity-needed c =
    let told : Splits c.args.sections.now c.args.count c.args.page c.in_ok-needed.needed = split_told _ _ _ _ c.in_ok-needed.ensures in
    let a = c.args in planned-over a.sections.now a.count a.page a.room _ told c.if-capacity-needed.true

pub returns-in_err-needed : goal.returns-in_err-needed
returns-in_err-needed c =
    let a = c.args in
    let p = err_from_is_err_and c.from_residual.result c.from_residual.ensures.1 in rw (p.1, p.2)
    (planned-refused a.sections.now a.count a.page a.room _ c.in_err-needed.ensures)

pub returns : goal.returns
returns c =
    let told : Splits c.args.sections.now c.args.count c.args.page c.in_ok-needed.needed = split_told _ _ _ _ c.in_ok-needed.ensures in
    planned-some c.args.sections.now c.args.count c.args.page c.args.room _ told c.if-capacity-needed.false c.requires
