use Rattle.std.proofs.Common.{ℕ, ◌+◌, List, refl, ap, ◌∙◌, arith}
use Rattle.fsm_sections.specs.declared.FreeSection.{FreeSection}
use Rattle.fsm_sections.specs.Chains.{sections_of}
use Rattle.fsm_sections.specs.Sources.{chains_of}
use Rattle.fsm_sizes.proofs.SortedLaws.{cleared_by}
use Rattle.fsm_sizes.proofs.WindowLaws.{from_all}
use Rattle.fsm_sizes.proofs.CountLaws.{last-window, counted-on}
use Rattle.fsm_sizes.proofs.SourceSizesLaws.{source_low}
use Rattle.error.specs.Outcome.{sat}
use Rattle.fsm_sizes.proofs.NoteLaws.{room-cleared, windowed_counted}
use Rattle.fsm_sizes.proofs.windows.count_of.Goals as goal

pub loop-s-init : goal.loop-s-init
loop-s-init c =
    let a = c.args in
    let l : List FreeSection = sections_of (chains_of a.s a.a.now a.b.now a.c.now) in
    (c.requires.room.0, c.requires.room.1, refl, ap sat (omega (arith, from_all l)))

pub window_of-w-requires : goal.window_of-w-requires
window_of-w-requires c = record { room = let i = c.loop-s.invariant in (i.0, i.1) }

pub returns-then-w : goal.returns-then-w
unfolding sat
returns-then-w c =
    let a = c.args in
    let l : List FreeSection = sections_of (chains_of a.s a.a.now a.b.now a.c.now) in
    let low = source_low a.s a.a.now a.b.now a.c.now (λ i. (c.type_inv.a i).fits)
    (λ i. (c.type_inv.b i).fits) (λ i. (c.type_inv.c i).fits) in
    c.saturating_add-n.ensures
    ∙ ap (λ (m : ℕ). sat (c.loop-s.n + m)) (last-window l low _ _ _ (windowed_counted _ _ _ _ _ _ _ c.window_of-w.ensures) c.if-w.true)
    ∙ c.loop-s.invariant.3

pub overflow_add-from : goal.overflow_add-from
overflow_add-from c = omega (arith, c.if-w.false)

pub loop-s-smaller : goal.loop-s-smaller
loop-s-smaller c = omega (arith, c.if-w.false, c.window_of-w.ensures.up)

pub loop-s-preserved : goal.loop-s-preserved
unfolding sat
loop-s-preserved c =
    let e = c.window_of-w.ensures in
    let f = c.fill.ensures in
    let l = c.loop-s in
    (room-cleared _ _ _ _ e.stands.room f.len, cleared_by _ _ (f.after (λ y h. h)), e.stands.same ∙ l.invariant.2, counted-on l.n _ _ _ _ _ c.saturating_add-n.ensures (windowed_counted _ _ _ _ _ _ _ e).same l.invariant.3)
