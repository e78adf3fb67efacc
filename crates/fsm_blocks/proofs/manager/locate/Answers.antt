-- `defined`: the slot is not the undefined address
use mathlib.Core.Path.{◌≡◌, sym, ◌∙◌}
use Rattle.std.proofs.lemmas.Result.{err_from_is_err_and}
use Rattle.fields.specs.Ranges.{undefined_addr}
use Rattle.fields.proofs.RangeLaws.{ones_are}
use Rattle.fsm_blocks.proofs.NamedLaws.{sum_over, sum_is, manager-none, manager_wraps, manager-past, manager-refused, manager-is}
use Rattle.fsm_blocks.proofs.manager.locate.Goals as goal

pub returns-then-slot-undefined_addr : goal.returns-then-slot-undefined_addr
returns-then-slot-undefined_addr c =
    let a = c.args in
    record { named = manager-none a.reading a.size.bytes a.base.0 a.slot a.bytes.now (c.if-slot-undefined_addr.true ∙ ones_are _ _ c.args.size.width c.undefined_addr.ensures); inside = tt }

pub returns-in_default : goal.returns-in_default
returns-in_default c =
    let defined : (c.args.slot ≡ undefined_addr c.args.size.bytes → ⊥) = λ e. c.if-slot-undefined_addr.false (e ∙ sym (ones_are _ _ c.args.size.width c.undefined_addr.ensures)) in
    let a = c.args in
    record { named = manager_wraps a.reading a.size.bytes a.base.0 a.slot a.bytes.now defined (sum_over a.slot a.base.0 c.absolute.ensures _ c.in_default.is); inside = tt }

pub returns-then-bytes-start : goal.returns-then-bytes-start
returns-then-bytes-start c =
    let defined : (c.args.slot ≡ undefined_addr c.args.size.bytes → ⊥) = λ e. c.if-slot-undefined_addr.false (e ∙ sym (ones_are _ _ c.args.size.width c.undefined_addr.ensures)) in
    let a = c.args in
    record { named = manager-past a.reading a.size.bytes a.base.0 a.slot a.bytes.now defined _ (sum_is a.slot a.base.0 c.absolute.ensures _ c.in-Ok.is) c.if-bytes-start.true; inside = tt }

pub returns-in_err-header : goal.returns-in_err-header
returns-in_err-header c =
    let defined : (c.args.slot ≡ undefined_addr c.args.size.bytes → ⊥) = λ e. c.if-slot-undefined_addr.false (e ∙ sym (ones_are _ _ c.args.size.width c.undefined_addr.ensures)) in
    let a = c.args in
    let p = err_from_is_err_and c.from_residual.result c.from_residual.ensures.1 in rw (p.1, p.2)
    (record {
      named = manager-refused a.reading a.size.bytes a.base.0 a.slot a.bytes.now defined _ (sum_is a.slot a.base.0 c.absolute.ensures _ c.in-Ok.is) c.if-bytes-start.false
          c.args.size.width c.header_at.ensures _ c.in_err-header.was;
      inside = tt;
    })

pub returns : goal.returns
returns c =
    let defined : (c.args.slot ≡ undefined_addr c.args.size.bytes → ⊥) = λ e. c.if-slot-undefined_addr.false (e ∙ sym (ones_are _ _ c.args.size.width c.undefined_addr.ensures)) in
    let a = c.args in
    record {
      named = c.list_of.ensures.named
          ∙ manager-is a.reading a.size.bytes a.base.0 a.slot a.bytes.now defined _ (sum_is a.slot a.base.0 c.absolute.ensures _ c.in-Ok.is) c.if-bytes-start.false
          c.args.size.width c.header_at.ensures _ c.in_ok-header.was;
      inside = c.list_of.ensures.inside;
    }
