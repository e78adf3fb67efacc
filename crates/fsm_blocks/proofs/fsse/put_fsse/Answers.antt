-- `long`: an accepted list is long enough
use mathlib.Core.Path.{sym, ap, ◌∙◌, subst}
use mathlib.Core.List.{List}
use Prim.Native.Nat.{◌+◌, ◌≤◌}
use native.Mathlib.Omega.{arith}
use lib.ListN.{length}
use Rattle.error.specs.Outcome.{Outcome}
use Rattle.error.specs.Lent.{over}
use Rattle.fsm_sections.specs.declared.FreeSection.{FreeSection}
use Rattle.fsm_sections.specs.Sections.{flat}
use Rattle.fsm_blocks.specs.Parts.{got, Accepted}
use Rattle.fsm_blocks.proofs.FsseLaws.{long_of, bits-few, groups_put}
use borrow.Author.Rules.{rules}
use Rattle.fsm_blocks.proofs.fsse.put_fsse.Goals as goal

pub overflow_sub-end : goal.overflow_sub-end
overflow_sub-end c =
    let long : (9 + c.args.size.bytes ≤ length c.args.bytes.now) = long_of c.args.size.bytes _ _ _ c.args.bytes.now c.requires.accepted in
    omega (arith, long)

pub slice_bounds-put_groups-count : goal.slice_bounds-put_groups-count
slice_bounds-put_groups-count c =
    let long : (9 + c.args.size.bytes ≤ length c.args.bytes.now) = long_of c.args.size.bytes _ _ _ c.args.bytes.now c.requires.accepted in
    omega (arith, long)

pub slice_bounds-put_groups-start : goal.slice_bounds-put_groups-start
slice_bounds-put_groups-start c =
    let long : (9 + c.args.size.bytes ≤ length c.args.bytes.now) = long_of c.args.size.bytes _ _ _ c.args.bytes.now c.requires.accepted in
    let h = long in search rules

pub widths_of-requires : goal.widths_of-requires
widths_of-requires c = bits-few c.args.size.bytes _ _ _ c.args.bytes.now c.requires.accepted

pub put_groups-requires : goal.put_groups-requires
put_groups-requires c =
    let w = c.widths_of.ensures in
    record { widths = w.narrow; accepted = subst Accepted (sym (groups_put c.args.header c.args.size.bytes c.args.bytes.now _ w.same c.requires.accepted)) c.requires.accepted; room = c.requires.room }

pub returns : goal.returns
returns c =
    let w = c.widths_of.ensures in
    c.put_groups.ensures
    ∙ ap (λ (o : Outcome (List FreeSection)). over c.args.from (flat (got o)) c.args.out.now)
    (groups_put c.args.header c.args.size.bytes c.args.bytes.now _ w.same c.requires.accepted)
