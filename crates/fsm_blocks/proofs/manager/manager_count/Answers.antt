-- `inside`: the list that was found lies within the bytes
use mathlib.Core.List.{List}
use Prim.Native.Nat.{ℕ}
use mathlib.Core.Path.{sym, ap, ◌∙◌, subst}
use Rattle.std.specs.Prelude.{Ok}
use Rattle.std.proofs.lemmas.Result.{err_from_is_err_and}
use Rattle.error.specs.Outcome.{Outcome}
use Rattle.fsm_blocks.specs.Named.{Inside}
use Rattle.fsm_blocks.specs.Parts.{counted, sections_by}
use Rattle.fsm_blocks.proofs.SlotsLaws.{count_none, count-refused, count_at}
use Rattle.fsm_blocks.proofs.manager.manager_count.Goals as goal

pub returns-in_err-list : goal.returns-in_err-list
returns-in_err-list c =
    let e = sym c.in_ok-size.ensures in rw e
    (let p = err_from_is_err_and c.from_residual-in_err-list.result c.from_residual-in_err-list.ensures.1 in rw (p.1, p.2)
    (count-refused c.args.reading c.in_ok-size.size.bytes c.args.base.0 c.args.slot c.args.bytes.now c.in_ok-size.size.width _ c.locate.ensures.named _ c.in_err-list.was))

pub returns-in_default : goal.returns-in_default
returns-in_default c =
    let e = sym c.in_ok-size.ensures in rw e
    (count_none c.args.reading c.in_ok-size.size.bytes c.args.base.0 c.args.slot c.args.bytes.now c.in_ok-size.size.width _ c.locate.ensures.named (c.in_ok-list.was ∙ ap Ok c.in_default.is))

pub of-requires : goal.of-requires
of-requires c = subst (Inside _) (c.in_ok-list.was ∙ ap Ok c.in-Some.is) c.locate.ensures.inside

pub returns : goal.returns
returns c =
    let b = c.in_ok-size.size.bytes in
    let count : List ℕ → Outcome ℕ = λ bs. counted (sections_by c.in-Some.list.header b bs) in
    let e = sym c.in_ok-size.ensures in rw e
    (count_at c.args.reading b c.args.base.0 c.args.slot c.args.bytes.now c.in_ok-size.size.width _ c.locate.ensures.named
    c.in-Some.list.start c.in-Some.list.header (c.in_ok-list.was ∙ ap Ok c.in-Some.is) _ (c.fsse_count.ensures ∙ ap count c.of.ensures))
