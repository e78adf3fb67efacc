-- `sections` and `total`: the sections of the list that was found are the manager's
use mathlib.Core.Path.{sym, ap, ◌∙◌, subst}
use mathlib.Core.List.{List}
use Prim.Native.Nat.{ℕ}
use native.Mathlib.Omega.{arith}
use Rattle.std.specs.Prelude.{Ok}
use Rattle.error.specs.Outcome.{Outcome}
use Rattle.error.specs.Lent.{over}
use Rattle.fsm_sections.specs.declared.FreeSection.{FreeSection}
use Rattle.fsm_sections.specs.Sections.{flat}
use Rattle.fsm_blocks.specs.declared.checks.Reading.TheVariants.{Loose}
use Rattle.fsm_blocks.specs.Parts.{got, Accepted, sections_by}
use Rattle.fsm_blocks.proofs.SlotsLaws.{inside-at, put-none, put_refused, list-is, list-total}
use Rattle.fsm_blocks.proofs.manager.put_manager.Goals as goal

pub of-requires : goal.of-requires
of-requires c = inside-at _ _ c.in-Ok-Some.list.start c.in-Ok-Some.list.header c.locate.ensures.inside (c.in-Ok-Some.is ∙ ap Ok c.in-Ok-Some.field-0-is)

pub put_fsse-requires : goal.put_fsse-requires
put_fsse-requires c =
    let sections = list-is Loose c.args.size.bytes c.args.base.0 c.args.slot c.args.bytes.now _ c.locate.ensures.named c.in-Ok-Some.list.start c.in-Ok-Some.list.header (c.in-Ok-Some.is ∙ ap Ok c.in-Ok-Some.field-0-is) in
    let total = list-total Loose c.args.size.bytes c.args.base.0 c.args.slot c.args.bytes.now _ c.locate.ensures.named c.in-Ok-Some.list.start c.in-Ok-Some.list.header (c.in-Ok-Some.is ∙ ap Ok c.in-Ok-Some.field-0-is) c.requires.accepted in
    record { accepted = rw c.of.ensures (subst Accepted (sym sections) c.requires.accepted); room = omega (arith, total, c.requires.room) }

pub overflow_mul-result : goal.overflow_mul-result
overflow_mul-result c =
    let total = list-total Loose c.args.size.bytes c.args.base.0 c.args.slot c.args.bytes.now _ c.locate.ensures.named c.in-Ok-Some.list.start c.in-Ok-Some.list.header (c.in-Ok-Some.is ∙ ap Ok c.in-Ok-Some.field-0-is) c.requires.accepted in
    omega (arith, total, c.requires.room)

pub overflow_add-result : goal.overflow_add-result
overflow_add-result c =
    let total = list-total Loose c.args.size.bytes c.args.base.0 c.args.slot c.args.bytes.now _ c.locate.ensures.named c.in-Ok-Some.list.start c.in-Ok-Some.list.header (c.in-Ok-Some.is ∙ ap Ok c.in-Ok-Some.field-0-is) c.requires.accepted in
    omega (arith, total, c.requires.room)

pub returns-in-Ok-None : goal.returns-in-Ok-None
returns-in-Ok-None c =
    let every = put-none Loose c.args.size.bytes c.args.base.0 c.args.slot c.args.bytes.now _ c.locate.ensures.named (c.in-Ok-None.is ∙ ap Ok c.in-Ok-None.field-0-is) c.args.from c.args.out.now in
    record { put = every.0; next = every.1 }

pub returns-in-Err : goal.returns-in-Err
returns-in-Err c =
    let every = put_refused Loose c.args.size.bytes c.args.base.0 c.args.slot c.args.bytes.now _ c.locate.ensures.named _ c.in-Err.is c.requires.accepted c.args.from c.args.out.now in
    record { put = every.0; next = every.1 }

pub returns-in-Ok-Some : goal.returns-in-Ok-Some
returns-in-Ok-Some c =
    let sections = list-is Loose c.args.size.bytes c.args.base.0 c.args.slot c.args.bytes.now _ c.locate.ensures.named c.in-Ok-Some.list.start c.in-Ok-Some.list.header (c.in-Ok-Some.is ∙ ap Ok c.in-Ok-Some.field-0-is) in
    let total = list-total Loose c.args.size.bytes c.args.base.0 c.args.slot c.args.bytes.now _ c.locate.ensures.named c.in-Ok-Some.list.start c.in-Ok-Some.list.header (c.in-Ok-Some.is ∙ ap Ok c.in-Ok-Some.field-0-is) c.requires.accepted in
    let run : List ℕ → List ℕ = λ bs. over c.args.from (flat (got (sections_by c.in-Ok-Some.list.header c.args.size.bytes bs))) c.args.out.now in
    record {
      put = c.put_fsse.ensures ∙ ap run c.of.ensures ∙ ap (λ (o : Outcome (List FreeSection)). over c.args.from (flat (got o)) c.args.out.now) sections;
      next = omega (arith, total);
    }
