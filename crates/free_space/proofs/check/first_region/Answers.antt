use Rattle.std.proofs.Common.{refl, sym, ◌∙◌, arith, eq-eqb, ne_eqb}
use Rattle.free_space.proofs.CheckLaws.{list-no_room, list_empty, first_stops, first_goes}
use Rattle.free_space.proofs.check.first_region.Goals as goal

pub returns-then-not-is_run : goal.returns-then-not-is_run
returns-then-not-is_run c = let a = c.args in (list-no_room a.run.now a.list (sym c.if-not-is_run.ensures), refl)

pub returns-then-list-eq0-2 : goal.returns-then-list-eq0-2
returns-then-list-eq0-2 c =
    let a = c.args in
    (list_empty a.run.now a.list (sym c.if-not-is_run.ensures) c.if-list-eq0.true ∙ eq-eqb a.list.total 0 c.if-list-eq0-2.true, c.if-list-eq0.true)

pub returns-then-list-eq0 : goal.returns-then-list-eq0
returns-then-list-eq0 c =
    let a = c.args in
    (list_empty a.run.now a.list (sym c.if-not-is_run.ensures) c.if-list-eq0.true ∙ ne_eqb a.list.total 0 c.if-list-eq0-2.false, refl)

pub returns-then-not-stands : goal.returns-then-not-stands
returns-then-not-stands c =
    let a = c.args in
    let g = c.region_at-r in
    (first_stops a.run.now a.list (sym c.if-not-is_run.ensures) (omega arith) g.result g.ensures (sym c.if-not-stands.ensures), refl)

pub returns : goal.returns
returns c =
    let a = c.args in
    let g = c.region_at-r in
    first_goes a.run.now a.list (sym c.if-not-is_run.ensures) (omega arith) g.result g.ensures (sym c.if-not-stands.ensures)
