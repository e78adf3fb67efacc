use mathlib.Core.Path.{sym, ap, ◌∙◌}
use mathlib.Core.Bool.{not}
use Rattle.std.proofs.lemmas.Result.{err_from_is_err_and}
use Rattle.fsm_plan.proofs.RunsLaws.{large_given}
use Rattle.fsm_plan.proofs.PlanLaws.{planned-width, planned-page, planned_odd, planned-refused, planned-into, planned-accepted, accepted-counted}
use Rattle.fsm_plan.proofs.plan.plan_paged_managers.Goals as goal

pub returns-then-not-is_width : goal.returns-then-not-is_width
returns-then-not-is_width c =
    let a = c.args in
    planned-width a.meta.now a.raw.now a.unclassified.now a.n a.page a.start a.offset_size a.out.now (ap not (sym c.is_width.ensures ∙ c.if-not-is_width.true))

pub returns-then-page-eq0 : goal.returns-then-page-eq0
returns-then-page-eq0 c =
    let a = c.args in
    planned-page a.meta.now a.raw.now a.unclassified.now a.n a.page a.start a.offset_size a.out.now (ap not (sym c.is_width.ensures ∙ c.if-not-is_width.false)) c.if-page-eq0.true

pub returns-then-out-ne0 : goal.returns-then-out-ne0
returns-then-out-ne0 c =
    let a = c.args in
    planned_odd a.meta.now a.raw.now a.unclassified.now a.n a.page a.start a.offset_size a.out.now (ap not (sym c.is_width.ensures ∙ c.if-not-is_width.false)) c.if-page-eq0.false c.if-out-ne0.true

pub put_plan-requires : goal.put_plan-requires
put_plan-requires c =
    let a = c.args in
    let h = planned-accepted a.meta.now a.raw.now a.unclassified.now a.n a.page a.start a.offset_size a.out.now (ap not (sym c.is_width.ensures ∙ c.if-not-is_width.false)) c.if-page-eq0.false c.if-out-ne0.false _ c.plan_blocks.ensures _ c.in_ok-p.was in
    record { given = large_given a.meta.now a.raw.now a.unclassified.now a.n a.page a.offset_size h.tested; fits = (h.tested.late_x, h.tested.late_y); counted = accepted-counted a.meta.now a.raw.now a.unclassified.now a.n a.page a.start a.offset_size _ h }

pub returns-in_err-p : goal.returns-in_err-p
returns-in_err-p c =
    let a = c.args in
    let p = err_from_is_err_and c.from_residual.result c.from_residual.ensures.1 in
    rw (p.1, p.2) (planned-refused a.meta.now a.raw.now a.unclassified.now a.n a.page a.start a.offset_size a.out.now (ap not (sym c.is_width.ensures ∙ c.if-not-is_width.false)) c.if-page-eq0.false c.if-out-ne0.false _ c.plan_blocks.ensures _ c.in_err-p.was)

pub returns : goal.returns
returns c =
    let a = c.args in
    c.put_plan.ensures
    ∙ planned-into a.meta.now a.raw.now a.unclassified.now a.n a.page a.start a.offset_size a.out.now (ap not (sym c.is_width.ensures ∙ c.if-not-is_width.false)) c.if-page-eq0.false c.if-out-ne0.false _ c.plan_blocks.ensures _ c.in_ok-p.was
