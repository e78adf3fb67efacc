-- The groups of an FSSE as bytes, and their reading, by the widths of a count, a size and an address. From the HDF5 File Format
-- Specification, section III.H: a set is the number of its records, the size of its sections, and for each record its offset and type.
-- Assumes nothing.
-- In quotes: document 01's words, from "Blocks on file".
--   Widths        the bytes that a group's count, its size and an address take
--   entry_bytes   addresses with the class byte after each ("address (O) and class byte for each")
--   group_bytes   groups: count, size, entries ("A group is a count", "a size (8), then address (O) and class byte for each")
--   entry_size, head_size   how many bytes an entry takes; a count with its size
--   Entries       the addresses of some entries, how many sections are still to come, and the bytes left
--   in_front      an entry's address before those of the entries after it
--   read_entries  c entries where `left` sections are still to come: "A group head or entry that passes the payload, or an entry beyond the
--                 total, is 10"
--   read_more     the sections of a group before those read after it
--   read_groups   groups until `left` sections are read: "Reading ends at the total; total 0 reads no group. Zero-count groups are allowed";
--                 bytes left over are not looked at
--   parse_groups  the sections of a payload
--   SectionFits   a section's numbers fit the widths: for the proof that what is written reads back
use Rattle.std.specs.Prelude.{ℕ, zero, suc, ◌+◌, ◌^◌, ◌<◌, List, [], ◌∷◌, ◌++◌, ltb, length, drop}
use Rattle.error.specs.declared.Refusal.TheVariants.{InvalidManager}
use Rattle.error.specs.Outcome.{Outcome, answer, refused, when, first_of, and_then}
use Rattle.fields.specs.Le.{le_bytes}
use Rattle.fields.specs.Layout.{le_at}
use Rattle.fsm_sections.specs.declared.FreeSection.{FreeSection}
use Rattle.fsm_sections.specs.Sections.{Group, addrs, count, with_size}

pub record Widths : Type 0 where
  pub counts : ℕ
  pub sizes : ℕ
  pub addresses : ℕ

pub record Entries : Type 0 where
  pub found : List ℕ
  pub left : ℕ
  pub rest : List ℕ

pub record SectionFits (w : Widths) (s : FreeSection) : Type 0 where
  pub addr_fits : s.addr < 256 ^ w.addresses
  pub size_fits : s.size < 256 ^ w.sizes

module _ (w : Widths) where
  -- ---- writing

  unfoldable pub entry_bytes : ℕ → List ℕ → List ℕ
  entry_bytes class [] = []
  entry_bytes class (a ∷ rest) = le_bytes w.addresses a ++ (class ∷ entry_bytes class rest)

  unfoldable pub group_bytes : ℕ → List Group → List ℕ
  group_bytes class [] = []
  group_bytes class (g ∷ gs) =
      le_bytes w.counts (count g) ++ (le_bytes w.sizes g.size ++ (entry_bytes class (addrs g) ++ group_bytes class gs))

  -- ---- reading

  abbrev pub entry_size : ℕ
  entry_size = suc w.addresses

  abbrev pub head_size : ℕ
  head_size = w.counts + w.sizes

  abbrev pub in_front : ℕ → Entries → Outcome Entries
  in_front a e = answer (record { found = a ∷ e.found; left = e.left; rest = e.rest })

  unfoldable pub read_entries : ℕ → ℕ → List ℕ → Outcome Entries
  read_entries zero left bs = answer (record { found = []; left = left; rest = bs })
  read_entries (suc c) zero bs = refused InvalidManager
  read_entries (suc c) (suc left) bs =
      first_of (when (ltb (length bs) entry_size) InvalidManager ∷ [])
      (and_then (read_entries c left (drop entry_size bs)) (in_front (le_at 0 w.addresses bs)))

  abbrev pub read_more : ℕ → List ℕ → Outcome (List FreeSection) → Outcome (List FreeSection)
  read_more size found r = and_then r (λ l. answer (with_size size found ++ l))

  -- the fuel is at least the number of bytes: each group takes one of them at least
  unfoldable pub read_groups : ℕ → ℕ → List ℕ → Outcome (List FreeSection)
  read_groups zero zero bs = answer []
  read_groups zero (suc left) bs = refused InvalidManager
  read_groups (suc fuel) zero bs = answer []
  read_groups (suc fuel) (suc left) bs =
      first_of (when (ltb (length bs) head_size) InvalidManager ∷ [])
      (and_then (read_entries (le_at 0 w.counts bs) (suc left) (drop head_size bs))
      (λ e. read_more (le_at w.counts w.sizes bs) e.found (read_groups fuel e.left e.rest)))

  abbrev pub parse_groups : ℕ → List ℕ → Outcome (List FreeSection)
  parse_groups left bs = read_groups (length bs) left bs
