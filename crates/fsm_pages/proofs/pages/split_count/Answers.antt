use mathlib.Core.Path.{sym, ap, ◌∙◌}
use mathlib.Core.Bool.{not}
use native.Mathlib.Omega.{arith}
use Rattle.fsm_pages.proofs.SplitLaws.{count-page, count_no_run, count-run}
use Rattle.fsm_pages.proofs.pages.split_count.Goals as goal

pub returns-then-page-eq0 : goal.returns-then-page-eq0
returns-then-page-eq0 c = let a = c.args in count-page a.sections.now a.count a.page c.if-page-eq0.true

pub returns-then-not-is_run : goal.returns-then-not-is_run
returns-then-not-is_run c =
    let a = c.args in
    count_no_run a.sections.now a.count a.page c.if-page-eq0.false (ap not (sym c.is_run.ensures ∙ c.if-not-is_run.true))

pub pieces_in-requires : goal.pieces_in-requires
pieces_in-requires c = record { page = omega (arith, c.if-page-eq0.false) }

pub returns : goal.returns
returns c =
    let a = c.args in
    c.pieces_in.ensures ∙ count-run a.sections.now a.count a.page c.if-page-eq0.false (ap not (sym c.is_run.ensures ∙ c.if-not-is_run.false))
