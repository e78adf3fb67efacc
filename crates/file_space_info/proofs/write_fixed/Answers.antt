use mathlib.Core.List.{List}
use mathlib.Core.Path.{◌≡◌, refl, sym}
use mathlib.Core.Bool.{Bool, true, false}
use mir.Val.{bool_byte}
use lib.Dec.{lit<}
use Rattle.error.proofs.OverLaws.{over-nil}
use Rattle.fields.specs.Layout.{Field, row, layout}
use Rattle.fields.proofs.LayoutLaws.{field-written}
use Rattle.file_space_info.specs.Message.{shape, bit, numbers_of}
use Rattle.file_space_info.proofs.write_fixed.Goals as goal

bit_is : (b : Bool) → bool_byte b ≡ bit b
bit_is true = refl
bit_is false = refl

pub returns : goal.returns
unfolding layout
returns c =
    let a = c.args in
    let fs : List Field = row (shape 8 8) (numbers_of a.info) in
    let out = a.out.now in
    let s1 = field-written fs 0 0 out (lit< tt) refl refl (sym (over-nil 0 out)) c.write_uint_le.ensures in
    let s2 = field-written fs 1 0 out (lit< tt) refl c.to_code.ensures s1 c.write_uint_le-2.ensures in
    let s3 = field-written fs 2 0 out (lit< tt) refl (bit_is a.info.persist) s2 c.write_uint_le-3.ensures in
    let s4 = field-written fs 3 0 out (lit< tt) refl refl s3 c.write_uint_le-4.ensures in
    let s5 = field-written fs 4 0 out (lit< tt) refl refl s4 c.write_uint_le-5.ensures in
    let s6 = field-written fs 5 0 out (lit< tt) refl refl s5 c.write_uint_le-6.ensures in
    field-written fs 6 0 out (lit< tt) refl refl s6 c.write_uint_le-7.ensures
