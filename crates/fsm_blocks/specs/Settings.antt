-- The two blocks of one manager, by the writer's settings. Assumes nothing.
-- In quotes: document 01's words, from "Blocks on file".
--   Settings       what a writer may choose: address bits, greatest section size, shrink, expand, surplus of allocated over used length
--   starting_set   the settings at an offset size: "shrink 80, expand 120, client 1 and greatest size 2^63−1. Address bits are 8O−1";
--                  "allocated equals used", so surplus 0
--   widths_for     the widths that the settings give to a number of sections
--   header_of, header_for   the header of sections whose list stands at an address: "three classes"; "Serialized equals total, ghost is 0"
--   fsse_for       the section list whose header stands at an address
--   fsse_used      its length; used_by the same by how many sections and sizes there are
--   blocks_size    both blocks' lengths with the starting settings, 0 without sections
use Rattle.std.specs.Prelude.{ℕ, ◌+◌, ◌-◌, ◌*◌, ◌^◌, cond, List, eqb, length}
use Rattle.fsm_sections.specs.declared.FreeSection.{FreeSection}
use Rattle.fsm_sections.specs.Sections.{space}
use Rattle.fsm_blocks.specs.Fshd.{Header, fshd_size}
use Rattle.fsm_blocks.specs.Groups.{Widths}
use Rattle.fsm_blocks.specs.Fsse.{widths_of, fsse_bytes, size_by, fsse_size}

pub record Settings : Type 0 where
  pub bits : ℕ
  pub greatest : ℕ
  pub shrink : ℕ
  pub expand : ℕ
  pub surplus : ℕ

abbrev pub starting_set : ℕ → Settings
starting_set O = record { bits = 8 * O - 1; greatest = 2 ^ 63 - 1; shrink = 80; expand = 120; surplus = 0 }

-- by the sum of their sizes, their number, and their list's address and length
abbrev pub header_of : Settings → ℕ → ℕ → ℕ → ℕ → Header
header_of set space n fsse used = record {
  version = 0;
  client = 1;
  space = space;
  total = n;
  serialized = n;
  ghost = 0;
  classes = 3;
  shrink = set.shrink;
  expand = set.expand;
  bits = set.bits;
  greatest = set.greatest;
  fsse = fsse;
  used = used;
  allocated = used + set.surplus;
}

module _ (O : ℕ) (set : Settings) where
  abbrev pub widths_for : ℕ → Widths
  widths_for n = widths_of n set.greatest set.bits

  abbrev pub used_by : ℕ → ℕ → ℕ
  used_by n d = size_by (widths_for n) O n d

  abbrev pub fsse_used : List FreeSection → ℕ
  fsse_used l = fsse_size (widths_for (length l)) O l

  abbrev pub header_for : ℕ → List FreeSection → Header
  header_for fsse l = header_of set (space l) (length l) fsse (fsse_used l)

  abbrev pub fsse_for : (List ℕ → ℕ) → ℕ → ℕ → List FreeSection → List ℕ
  fsse_for sum fshd class l = fsse_bytes sum (widths_for (length l)) O fshd class l

abbrev pub blocks_size : ℕ → List FreeSection → ℕ
blocks_size O l = cond (eqb (length l) 0) 0 (fshd_size O + fsse_used O (starting_set O) l)
