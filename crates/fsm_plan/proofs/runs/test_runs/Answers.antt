use mathlib.Core.Path.{sym, ap, ◌∙◌}
use mathlib.Core.Bool.{not}
use Rattle.fsm_plan.proofs.RunsLaws.{test_width, test_page, test_lists, test_ends, test_fine}
use Rattle.fsm_plan.proofs.runs.test_runs.Goals as goal

pub returns-then-not-is_width : goal.returns-then-not-is_width
returns-then-not-is_width c =
    let a = c.args in
    test_width a.a.now a.b.now a.c.now a.n a.page a.offset_size (ap not (sym c.is_width.ensures ∙ c.if-not-is_width.true))

pub returns-then-page-eq0 : goal.returns-then-page-eq0
returns-then-page-eq0 c =
    let a = c.args in
    test_page a.a.now a.b.now a.c.now a.n a.page a.offset_size (ap not (sym c.is_width.ensures ∙ c.if-not-is_width.false)) c.if-page-eq0.true

pub returns-then-not-are_runs : goal.returns-then-not-are_runs
returns-then-not-are_runs c =
    let a = c.args in
    test_lists a.a.now a.b.now a.c.now a.n a.page a.offset_size (ap not (sym c.is_width.ensures ∙ c.if-not-is_width.false)) c.if-page-eq0.false c.are_runs.result c.are_runs.ensures c.if-not-are_runs.true

pub returns-then-are_late : goal.returns-then-are_late
returns-then-are_late c =
    let a = c.args in
    test_ends a.a.now a.b.now a.c.now a.n a.page a.offset_size (ap not (sym c.is_width.ensures ∙ c.if-not-is_width.false)) c.if-page-eq0.false c.are_runs.result c.are_runs.ensures
    c.if-not-are_runs.false c.are_late.result c.are_late.ensures c.if-are_late.true

pub returns : goal.returns
returns c =
    let a = c.args in
    test_fine a.a.now a.b.now a.c.now a.n a.page a.offset_size (ap not (sym c.is_width.ensures ∙ c.if-not-is_width.false)) c.if-page-eq0.false c.are_runs.result c.are_runs.ensures
    c.if-not-are_runs.false c.are_late.result c.are_late.ensures c.if-are_late.false
