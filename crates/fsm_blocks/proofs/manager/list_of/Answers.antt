-- `defined`: the address is not the undefined one; `within`: the list lies within the bytes
use mathlib.Core.List.{List}
use mathlib.Core.Path.{ap, ◌≡◌, sym, ◌∙◌}
use Prim.Native.Nat.{ℕ, ◌+◌, ◌≤◌}
use native.Mathlib.Omega.{arith}
use lib.ListN.{length}
use Rattle.std.proofs.lemmas.Result.{err_from_is_err_and}
use Rattle.error.specs.Outcome.{Outcome, answer, first_of}
use Rattle.fsm_blocks.specs.Checks.{fsse_checks}
use Rattle.fields.specs.Ranges.{undefined_addr}
use Rattle.fields.proofs.RangeLaws.{ones_are}
use Rattle.fsm_blocks.proofs.NamedLaws.{sum_over, sum_is, named_none, named_wraps, named_past, named_refused, named_is}
use Rattle.fsm_blocks.proofs.manager.list_of.Goals as goal

pub returns-then-fsse-undefined_addr : goal.returns-then-fsse-undefined_addr
returns-then-fsse-undefined_addr c =
    let a = c.args in
    record { named = named_none a.reading a.size.bytes a.base.0 a.slot a.header a.bytes.now (c.if-fsse-undefined_addr.true ∙ ones_are _ _ c.args.size.width c.undefined_addr.ensures); inside = tt }

pub returns-in_default : goal.returns-in_default
returns-in_default c =
    let defined : (c.args.header.fsse_addr ≡ undefined_addr c.args.size.bytes → ⊥) = λ e. c.if-fsse-undefined_addr.false (e ∙ sym (ones_are _ _ c.args.size.width c.undefined_addr.ensures)) in
    let a = c.args in
    record { named = named_wraps a.reading a.size.bytes a.base.0 a.slot a.header a.bytes.now defined (sum_over a.header.fsse_addr a.base.0 c.absolute.ensures _ c.in_default.is); inside = tt }

pub returns-then-len-start : goal.returns-then-len-start
returns-then-len-start c =
    let defined : (c.args.header.fsse_addr ≡ undefined_addr c.args.size.bytes → ⊥) = λ e. c.if-fsse-undefined_addr.false (e ∙ sym (ones_are _ _ c.args.size.width c.undefined_addr.ensures)) in
    let a = c.args in
    record { named = named_past a.reading a.size.bytes a.base.0 a.slot a.header a.bytes.now defined _ (sum_is a.header.fsse_addr a.base.0 c.absolute.ensures _ c.in-Ok.is) (omega (arith, c.if-len-start.true)); inside = tt }

pub returns-then-len-start-2 : goal.returns-then-len-start-2
returns-then-len-start-2 c =
    let defined : (c.args.header.fsse_addr ≡ undefined_addr c.args.size.bytes → ⊥) = λ e. c.if-fsse-undefined_addr.false (e ∙ sym (ones_are _ _ c.args.size.width c.undefined_addr.ensures)) in
    let a = c.args in
    record { named = named_past a.reading a.size.bytes a.base.0 a.slot a.header a.bytes.now defined _ (sum_is a.header.fsse_addr a.base.0 c.absolute.ensures _ c.in-Ok.is) (omega (arith, c.if-len-start-2.true)); inside = tt }

pub returns-in_err-check_fsse : goal.returns-in_err-check_fsse
returns-in_err-check_fsse c =
    let defined : (c.args.header.fsse_addr ≡ undefined_addr c.args.size.bytes → ⊥) = λ e. c.if-fsse-undefined_addr.false (e ∙ sym (ones_are _ _ c.args.size.width c.undefined_addr.ensures)) in
    let within : (c.in-Ok.start + c.args.header.fsse_used ≤ length c.args.bytes.now) = omega (arith, c.if-len-start.false, c.if-len-start-2.false) in
    let a = c.args in
    let checks : List ℕ → Outcome (Unit {0}) = λ bs. first_of (fsse_checks a.reading a.size.bytes a.slot bs) (answer tt) in
    let p = err_from_is_err_and c.from_residual.result c.from_residual.ensures.1 in rw (p.1, p.2)
    (record {
      named = named_refused a.reading a.size.bytes a.base.0 a.slot a.header a.bytes.now defined _ (sum_is a.header.fsse_addr a.base.0 c.absolute.ensures _ c.in-Ok.is) within
          _ (c.check_fsse.ensures ∙ ap checks c.of.ensures) _ c.in_err-check_fsse.was;
      inside = tt;
    })

pub returns : goal.returns
returns c =
    let defined : (c.args.header.fsse_addr ≡ undefined_addr c.args.size.bytes → ⊥) = λ e. c.if-fsse-undefined_addr.false (e ∙ sym (ones_are _ _ c.args.size.width c.undefined_addr.ensures)) in
    let within : (c.in-Ok.start + c.args.header.fsse_used ≤ length c.args.bytes.now) = omega (arith, c.if-len-start.false, c.if-len-start-2.false) in
    let a = c.args in
    let checks : List ℕ → Outcome (Unit {0}) = λ bs. first_of (fsse_checks a.reading a.size.bytes a.slot bs) (answer tt) in
    record {
      named = named_is a.reading a.size.bytes a.base.0 a.slot a.header a.bytes.now defined _ (sum_is a.header.fsse_addr a.base.0 c.absolute.ensures _ c.in-Ok.is) within
          _ (c.check_fsse.ensures ∙ ap checks c.of.ensures) c.in_ok-check_fsse.was;
      inside = within;
    }
