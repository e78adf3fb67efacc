use mathlib.Core.Path.{◌≡◌, refl, sym, ap, ◌∙◌}
use mathlib.Core.Bool.{true, not, ◌||◌}
use Prim.Native.Nat.{◌+◌}
use lib.ListN.{length}
use lib.Dec.{eqb, ltb}
use borrow.Author.Tests.{eq-eqb, ne_eqb, lt-ltb, le-ltb}
use Rattle.error.specs.declared.Refusal.TheVariants.{Short, InvalidManager}
use Rattle.fsm_blocks.proofs.FsseLaws.{refused-count, few_bits, fsse-short, fsse_unsigned, fsse-bits, groups_counted}
use Rattle.fsm_blocks.proofs.fsse.fsse_count.Goals as goal
use Rattle.fsm_blocks.proofs.fsse.fsse_count.Goals.{then-bits-eq0-via-then-bits-eq0, then-bits-eq0-via-else-bits-eq0+then-bits-gt64}

pub returns-then-len-o : goal.returns-then-len-o
returns-then-len-o c =
    let a = c.args in
    refused-count (Short (9 + a.size.bytes) (length a.bytes.now)) (fsse-short a.size.bytes _ _ _ a.bytes.now c.if-len-o.true)

pub returns-then-not-is_signed : goal.returns-then-not-is_signed
returns-then-not-is_signed c =
    let a = c.args in
    refused-count InvalidManager (fsse_unsigned a.size.bytes _ _ _ a.bytes.now c.if-len-o.false (ap not (sym c.is_signed.ensures ∙ c.if-not-is_signed.true)))

pub returns-then-bits-eq0 : goal.returns-then-bits-eq0
returns-then-bits-eq0 c =
    let a = c.args in
    let b = a.header.addr_space_bits in
    let many : (eqb b 0 || ltb 64 b) ≡ true = elim c.then-bits-eq0.branch [
      | then-bits-eq0-via-then-bits-eq0 w ↦ rw (eq-eqb b 0 w.if-bits-eq0.true) refl
      | then-bits-eq0-via-else-bits-eq0+then-bits-gt64 w ↦ rw (ne_eqb b 0 w.if-bits-eq0.false) (lt-ltb 64 b w.if-bits-gt64.true)
    ] in
    refused-count InvalidManager (fsse-bits a.size.bytes _ _ _ a.bytes.now c.if-len-o.false (ap not (sym c.is_signed.ensures ∙ c.if-not-is_signed.false)) many)

pub widths_of-requires : goal.widths_of-requires
widths_of-requires c = few_bits _ (rw (ne_eqb _ _ c.if-bits-eq0.false) (le-ltb _ _ c.if-bits-gt64.false))

pub groups_count-requires : goal.groups_count-requires
groups_count-requires c = c.widths_of.ensures.narrow

pub returns : goal.returns
returns c =
    let a = c.args in
    groups_counted a.header a.size.bytes a.bytes.now _ c.widths_of.ensures.same
    c.if-len-o.false (ap not (sym c.is_signed.ensures ∙ c.if-not-is_signed.false)) (rw (ne_eqb _ _ c.if-bits-eq0.false) (le-ltb _ _ c.if-bits-gt64.false)) _ c.groups_count.ensures
