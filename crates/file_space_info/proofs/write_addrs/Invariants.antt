use mathlib.Core.Path.{◌≡◌}
use lib.ListN.{take}
use Rattle.error.specs.Lent.{over}
use Rattle.fields.specs.Layout.{layout}
use Rattle.file_space_info.specs.Message.{address_row}
use Rattle.file_space_info.proofs.write_addrs.Given as goal

abbrev pub invariant-loop-i : goal.invariant-loop-i
invariant-loop-i l = l.out ≡ over 29 (layout (address_row 8 (take l.i l.addrs))) l.initial.out
