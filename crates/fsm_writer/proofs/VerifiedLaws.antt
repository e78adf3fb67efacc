-- What is written passes `verify_trailing`: both blocks end in the checksum of what stands before it. Assumes nothing.
use mathlib.Core.Path.{◌≡◌}
use mathlib.Core.List.{List, ◌++◌}
use Prim.Native.Nat.{ℕ}
use Rattle.error.specs.Outcome.{answer}
use Rattle.fields.specs.Layout.{layout}
use Rattle.checksum.specs.Lookup3.{lookup3}
use Rattle.checksum.specs.Trailing.{trailing}
use Rattle.checksum.proofs.TrailingLaws.{closed}
use Rattle.fsm_sections.specs.declared.FreeSection.{FreeSection}
use Rattle.fsm_sections.specs.Sections.{by_size_then_addr, groups_of}
use Rattle.fsm_blocks.specs.Fshd.{Header, fshd_row, fshd_bytes}
use Rattle.fsm_blocks.specs.Groups.{Widths, group_bytes}
use Rattle.fsm_blocks.specs.Fsse.{fsse_head, fsse_bytes}

pub fshd_verified : (O : ℕ) (h : Header) → trailing (fshd_bytes lookup3 O h) ≡ answer tt
unfolding fshd_bytes
fshd_verified O h = closed (layout (fshd_row O h))

pub fsse_verified : (w : Widths) (O back class : ℕ) (l : List FreeSection) → trailing (fsse_bytes lookup3 w O back class l) ≡ answer tt
unfolding fsse_bytes
fsse_verified w O back class l = closed (layout (fsse_head O back) ++ group_bytes w class (groups_of (by_size_then_addr l)))
