-- Managers are read back from an image that holds their blocks. Assumes nothing.
use mathlib.Core.Path.{◌≡◌, refl, sym, ap, ◌∙◌}
use mathlib.Core.List.{List, [], ◌∷◌, ◌++◌}
use Prim.Native.Nat.{ℕ, ◌+◌, ◌^◌, ◌≤◌, ◌<◌}
use native.Mathlib.Omega.{arith}
use borrow.Author.Tests.{le-ltb, ne_eqb}
use lib.ListN.{length, drop, length-take, length-drop, take-append-drop}
use Rattle.error.specs.Outcome.{answer, and_then}
use Rattle.error.proofs.OutcomeLaws.{first_pass}
use Rattle.fields.specs.Layout.{FieldFits, window}
use Rattle.fields.specs.Ranges.{top, undefined_addr}
use Rattle.checksum.specs.Lookup3.{lookup3}
use Rattle.fsm_sections.specs.declared.FreeSection.{FreeSection}
use Rattle.fsm_sections.specs.Sections.{by_size_then_addr, All}
use Rattle.fsm_blocks.specs.Groups.{SectionFits}
use Rattle.fsm_blocks.specs.Fshd.{fshd_row, fshd_size, fshd_bytes}
use Rattle.fsm_blocks.specs.Settings.{Settings, widths_for, fsse_used, header_for, fsse_for}
use Rattle.fsm_blocks.specs.declared.checks.Reading.{Reading}
use Rattle.fsm_blocks.specs.Reading.{read_named, read_manager, read_slots}
use Rattle.fsm_blocks.proofs.WrittenLaws.{length_fshd, length-fsse, fshd_read, fsse-read, fshd_checked, fsse_checked}

-- what stands whole at a place lies within the bytes
pub held : (p n : ℕ) (bytes b : List ℕ) → window p n bytes ≡ b → length b ≡ n → 0 < n → p + n ≤ length bytes
held p n bytes b e l h = omega (arith, length-take n (drop p bytes), length-drop p bytes, ap length e)

module _ (O base : ℕ) (set : Settings) where
  -- an image holds the two blocks of one manager at the addresses `slot` and `fsse`, in which the numbers fit
  pub record Stored (slot fsse class : ℕ) (l : List FreeSection) (bytes : List ℕ) : Type 0 where
    pub slot_defined : slot ≡ undefined_addr O → ⊥
    pub fsse_defined : fsse ≡ undefined_addr O → ⊥
    pub slot-fits : slot < 256 ^ O
    pub slot_near : slot + base ≤ top
    pub fsse_near : fsse + base ≤ top
    pub header_fits : All FieldFits (fshd_row O (header_for O set fsse l))
    pub bits_some : 0 < set.bits
    pub bits-few : set.bits ≤ 64
    pub sections-fit : All (SectionFits (widths_for O set (length l))) l
    pub header_there : window (slot + base) (fshd_size O) bytes ≡ fshd_bytes lookup3 O (header_for O set fsse l)
    pub list-there : window (fsse + base) (fsse_used O set l) bytes ≡ fsse_for O set lookup3 slot class l

  module _ (slot fsse class : ℕ) (l : List FreeSection) (bytes : List ℕ) (s : Stored slot fsse class l bytes) where
    list_in : fsse + base + fsse_used O set l ≤ length bytes
    list_in = held (fsse + base) (fsse_used O set l) bytes _ s.list-there (length-fsse lookup3 (widths_for O set (length l)) O slot class l) (omega arith)

    named_read : (how : Reading) → read_named how O base slot (header_for O set fsse l) bytes ≡ answer (by_size_then_addr l)
    unfolding read_named
    named_read how =
        rw (ne_eqb fsse (undefined_addr O) s.fsse_defined, s.list-there)
        (first_pass _ _
        (le-ltb top (fsse + base) s.fsse_near, (le-ltb (length bytes) (fsse + base + fsse_used O set l) list_in, fsse_checked how (widths_for O set (length l)) O slot class l s.slot-fits)))
        ∙ (fsse-read lookup3 O slot class set.bits set.greatest l s.bits_some s.bits-few s.header_fits.1.1.1.1.1.1.1.0 s.sections-fit)

    header_in : slot + base + fshd_size O ≤ length bytes
    header_in = held (slot + base) (fshd_size O) bytes _ s.header_there (length_fshd lookup3 O (header_for O set fsse l)) (omega arith)

    abbrev rest : List ℕ
    rest = drop (fshd_size O) (drop (slot + base) bytes)

    header_there : drop (slot + base) bytes ≡ fshd_bytes lookup3 O (header_for O set fsse l) ++ rest
    header_there = sym (take-append-drop (fshd_size O) (drop (slot + base) bytes)) ∙ ap (λ (b : List ℕ). b ++ rest) s.header_there

    -- the manager's sections are read, by size and then address, strictly too
    pub manager_read : (how : Reading) → read_manager how O base slot bytes ≡ answer (by_size_then_addr l)
    unfolding read_manager and_then
    manager_read how =
        let n : slot + base ≤ length bytes = omega (arith, header_in) in
        let h = header_for O set fsse l in
        let checks = fshd_checked how O h rest s.header_fits refl refl in
        rw (ne_eqb slot (undefined_addr O) s.slot_defined, header_there, fshd_read lookup3 O h rest s.header_fits)
        (first_pass _ _ (le-ltb top (slot + base) s.slot_near, (le-ltb (length bytes) (slot + base) n, checks)) ∙ named_read how)

-- ---- slots in a row

module _ (how : Reading) (O base : ℕ) (bytes : List ℕ) where
  pub slots-none : read_slots how O base [] bytes ≡ answer []
  unfolding read_slots
  slots-none = refl

  pub slots-more : (a : ℕ) (rest : List ℕ) (x : List FreeSection) (y : List (List FreeSection)) → read_manager how O base a bytes ≡ answer x → read_slots how O base rest bytes ≡ answer y
      → read_slots how O base (a ∷ rest) bytes ≡ answer (x ∷ y)
  unfolding read_slots and_then
  slots-more a rest x y p q = rw (p, q)
