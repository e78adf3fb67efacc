-- both sizes are within 1 to 8 where the code goes on
use mathlib.Core.Path.{◌≡◌, sym, ap, ◌∙◌}
use mathlib.Core.Bool.{true, ◌&&◌}
use native.Mathlib.Omega.{arith}
use Rattle.std.proofs.lemmas.Result.{err_from_is_err_and}
use Rattle.error.specs.Outcome.{answer}
use Rattle.fields.specs.Width.{valid_width}
use Rattle.file_space_info.proofs.ReadLaws.{sizes, read-width, read_short, read-version, read-refused, read_is}
use Rattle.file_space_info.proofs.read_fixed.Goals as goal

pub returns-then-not-are_widths : goal.returns-then-not-are_widths
returns-then-not-are_widths c =
    let a = c.args in
    read-width a.offset_size a.length_size a.bytes.now (sym c.are_widths.ensures ∙ c.if-not-are_widths.true)

pub returns-then-bytes-fixed : goal.returns-then-bytes-fixed
returns-then-bytes-fixed c =
    let valid : ((valid_width c.args.offset_size && valid_width c.args.length_size) ≡ true) = sym c.are_widths.ensures ∙ c.if-not-are_widths.false in
    let a = c.args in
    read_short a.offset_size a.length_size a.bytes.now valid _ c.fixed_len-fixed.ensures (omega arith)

pub returns-then-version-ne1 : goal.returns-then-version-ne1
returns-then-version-ne1 c =
    let valid : ((valid_width c.args.offset_size && valid_width c.args.length_size) ≡ true) = sym c.are_widths.ensures ∙ c.if-not-are_widths.false in
    let a = c.args in
    read-version a.offset_size a.length_size a.bytes.now valid (omega arith) (λ e. omega arith)

pub fixed_fields-requires : goal.fixed_fields-requires
fixed_fields-requires c =
    let valid : ((valid_width c.args.offset_size && valid_width c.args.length_size) ≡ true) = sym c.are_widths.ensures ∙ c.if-not-are_widths.false in
    let s = sizes _ _ valid in
    (s.os_high, s.ls_high, omega arith)

pub returns-in_err-strategy : goal.returns-in_err-strategy
returns-in_err-strategy c =
    let valid : ((valid_width c.args.offset_size && valid_width c.args.length_size) ≡ true) = sym c.are_widths.ensures ∙ c.if-not-are_widths.false in
    let a = c.args in
    let p = err_from_is_err_and c.from_residual.result c.from_residual.ensures.1 in
    rw (p.1, p.2) (read-refused a.offset_size a.length_size a.bytes.now valid (omega arith) (omega arith) _ c.in_err-strategy.ensures)

pub returns : goal.returns
returns c =
    let valid : ((valid_width c.args.offset_size && valid_width c.args.length_size) ≡ true) = sym c.are_widths.ensures ∙ c.if-not-are_widths.false in
    let a = c.args in
    ap answer c.fixed_fields.ensures
    ∙ read_is a.offset_size a.length_size a.bytes.now valid (omega arith) (omega arith) _ c.in_ok-strategy.ensures
