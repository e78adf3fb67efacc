-- the limit is the undefined address
use mathlib.Core.Path.{◌≡◌, ap, ◌∙◌}
use Prim.Native.Nat.{ℕ}
use Rattle.fields.specs.Ranges.{undefined_addr}
use Rattle.fields.proofs.RangeLaws.{ones_are}
use Rattle.fsm_plan.specs.Blocks.{wide_managers}
use Rattle.fsm_plan.proofs.BlocksLaws.{from-given, from_late, from-placed, from-shared, from-wide, from-wide-section, from_plan}
use Rattle.fsm_plan.proofs.blocks.plan_from.Goals as goal

pub returns-then-ends_late : goal.returns-then-ends_late
returns-then-ends_late c =
    let a = c.args in
    from_late a.meta.now a.raw.now a.unclassified.now a.s a.offset_size a.m c.requires a.start c.ends_late.result c.ends_late.ensures c.if-ends_late.true

pub is_shared-requires : goal.is_shared-requires
is_shared-requires c =
    let a = c.args in
    from-given a.meta.now a.raw.now a.unclassified.now a.s a.offset_size a.m c.requires a.start _ c.source_of.ensures

pub returns-then-is_shared : goal.returns-then-is_shared
returns-then-is_shared c =
    let a = c.args in
    from-shared a.meta.now a.raw.now a.unclassified.now a.s a.offset_size a.m c.requires a.start c.ends_late.result c.ends_late.ensures c.if-ends_late.false _ c.source_of.ensures c.is_shared.result c.is_shared.ensures c.if-is_shared.true

pub managers_at-managers-requires : goal.managers_at-managers-requires
managers_at-managers-requires c =
    let a = c.args in
    from-placed a.meta.now a.raw.now a.unclassified.now a.s a.offset_size a.m c.requires a.start c.ends_late.result c.ends_late.ensures c.if-ends_late.false

pub returns-then-wide_managers : goal.returns-then-wide_managers
returns-then-wide_managers c =
    let wide_by : (c.wide_managers.result ≡ wide_managers (undefined_addr c.args.offset_size) c.managers_at-managers.result) = c.wide_managers.ensures
    ∙ ap (λ (x : ℕ). wide_managers x c.managers_at-managers.result) (ones_are _ _ c.requires.width c.undefined_addr.ensures) in
    let a = c.args in
    from-wide a.meta.now a.raw.now a.unclassified.now a.s a.offset_size a.m c.requires a.start c.ends_late.result c.ends_late.ensures
    c.if-ends_late.false _ c.source_of.ensures c.is_shared.result c.is_shared.ensures c.if-is_shared.false _ c.managers_at-managers.ensures
    c.wide_managers.result wide_by c.if-wide_managers.true

pub returns-then-wide_slots : goal.returns-then-wide_slots
returns-then-wide_slots c =
    let wide_by : (c.wide_managers.result ≡ wide_managers (undefined_addr c.args.offset_size) c.managers_at-managers.result) = c.wide_managers.ensures
    ∙ ap (λ (x : ℕ). wide_managers x c.managers_at-managers.result) (ones_are _ _ c.requires.width c.undefined_addr.ensures) in
    let a = c.args in
    from-wide-section a.meta.now a.raw.now a.unclassified.now a.s a.offset_size a.m c.requires a.start c.ends_late.result c.ends_late.ensures
    c.if-ends_late.false _ c.source_of.ensures c.is_shared.result c.is_shared.ensures c.if-is_shared.false _ c.managers_at-managers.ensures
    c.wide_managers.result wide_by c.if-wide_managers.false c.wide_slots.result c.wide_slots.ensures c.if-wide_slots.true

pub returns : goal.returns
returns c =
    let wide_by : (c.wide_managers.result ≡ wide_managers (undefined_addr c.args.offset_size) c.managers_at-managers.result) = c.wide_managers.ensures
    ∙ ap (λ (x : ℕ). wide_managers x c.managers_at-managers.result) (ones_are _ _ c.requires.width c.undefined_addr.ensures) in
    let a = c.args in
    from_plan a.meta.now a.raw.now a.unclassified.now a.s a.offset_size a.m c.requires a.start c.ends_late.result c.ends_late.ensures
    c.if-ends_late.false _ c.source_of.ensures c.is_shared.result c.is_shared.ensures c.if-is_shared.false _ c.managers_at-managers.ensures
    c.wide_managers.result wide_by c.if-wide_managers.false c.wide_slots.result c.wide_slots.ensures c.if-wide_slots.false
