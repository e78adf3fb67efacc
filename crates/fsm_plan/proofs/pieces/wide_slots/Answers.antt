use Rattle.std.proofs.Common.{sym, ◌∙◌}
use Rattle.fsm_sections.specs.Sections.{decode}
use Rattle.fsm_sections.specs.Runs.{wide}
use Rattle.error.proofs.TestLaws.{true_not_false, or_decides, or-leaves}
use Rattle.fsm_plan.proofs.AllPiecesLaws.{any_slots}
use Rattle.fsm_plan.proofs.pieces.wide_slots.Goals as goal
use Rattle.fsm_plan.proofs.pieces.wide_slots.Goals.{then-wide_pieces, else-wide_pieces}

pub returns-then-wide_pieces-2 : goal.returns-then-wide_pieces-2
returns-then-wide_pieces-2 c =
    let a = c.args in
    let all = any_slots (λ x. wide a.o x.addr) a.s.page (decode a.s.na a.meta.now) (decode a.s.nb a.raw.now) (decode a.s.nc a.unclassified.now) in
    elim c.if-wide_pieces.branch [
      | then-wide_pieces w ↦ c.if-wide_pieces-2.true ∙ or_decides c.wide_pieces.result _ _ c.wide_pieces.ensures w.if-wide_pieces.true ∙ all
      | else-wide_pieces w ↦
          let second = w.wide_pieces-else-wide_pieces in
          c.if-wide_pieces-2.true ∙ or_decides second.result _ _ second.ensures (sym w.value-is ∙ c.if-wide_pieces-2.true)
          ∙ or-leaves c.wide_pieces.result _ _ c.wide_pieces.ensures w.if-wide_pieces.false ∙ all
    ]

pub returns-else-wide_pieces-2 : goal.returns-else-wide_pieces-2
returns-else-wide_pieces-2 c =
    let a = c.args in
    let all = any_slots (λ x. wide a.o x.addr) a.s.page (decode a.s.na a.meta.now) (decode a.s.nb a.raw.now) (decode a.s.nc a.unclassified.now) in
    elim c.if-wide_pieces.branch [
      | then-wide_pieces w ↦ absurd (true_not_false _ (w.value-is ∙ w.if-wide_pieces.true) c.if-wide_pieces-2.false)
      | else-wide_pieces w ↦
          let second = w.wide_pieces-else-wide_pieces in
          c.any_wide.ensures ∙ or-leaves second.result _ _ second.ensures (sym w.value-is ∙ c.if-wide_pieces-2.false)
          ∙ or-leaves c.wide_pieces.result _ _ c.wide_pieces.ensures w.if-wide_pieces.false ∙ all
    ]
