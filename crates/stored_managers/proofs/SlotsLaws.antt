-- Managers on file, at any offset size, settings and base: blocks that stand in bytes one after another are read back. Assumes nothing.
--   ManagerFits   what the blocks of sections at an address need in order to be read back: they end within 64 bits, neither begins at the
--                 undefined address, and their fields hold their numbers
--   PlanFits      the same of managers one after another
--   sorted        what a slot reads as
use mathlib.Core.Path.{◌≡◌, refl, sym, ap, ◌∙◌}
use Prim.Native.Nat.{ℕ, ◌+◌, ◌≤◌, ◌<◌}
use native.Mathlib.Nat.{zero-lt-suc}
use native.Mathlib.Omega.{arith}
use mathlib.Core.Bool.{cond}
use mathlib.Core.List.{List, [], ◌∷◌, ◌++◌, map}
use lib.Dec.{eqb}
use borrow.Author.Tests.{eq-eqb}
use lib.ListN.{length, take, drop, replicate, length-replicate}
use lib.Seq.{take_at, drop_at, take_all, take-take}
use Rattle.error.specs.Outcome.{answer}
use Rattle.fields.specs.Ranges.{top, undefined_addr}
use Rattle.fields.specs.Layout.{FieldFits, window}
use Rattle.fields.proofs.LayoutLaws.{window-window}
use Rattle.checksum.specs.Lookup3.{lookup3}
use Rattle.fsm_sections.specs.declared.FreeSection.{FreeSection}
use Rattle.fsm_sections.specs.Sections.{by_size_then_addr, All}
use Rattle.fsm_blocks.specs.Fshd.{fshd_row, fshd_bytes, fshd_size}
use Rattle.fsm_blocks.specs.Groups.{SectionFits}
use Rattle.fsm_blocks.specs.Settings.{Settings, widths_for, header_for, fsse_for, fsse_used}
use Rattle.fsm_blocks.specs.declared.checks.Reading.{Reading}
use Rattle.fsm_blocks.specs.Reading.{read_manager, read_slots}
use Rattle.fsm_blocks.proofs.WrittenLaws.{length_fshd}
use Rattle.fsm_blocks.proofs.ImageLaws.{manager_read, slots-none, slots-more}
use Rattle.fsm_plan.specs.Managers.{Manager, manager, manager_size, size_of, slots_from, manager_bytes, blocks_from}
use Rattle.fsm_plan.proofs.PlannedLaws.{filled, pair_size, pair_bytes, length-list, length_both, length-manager, length_blocks}

-- ---- two runs that stand side by side

module _ (p m n : ℕ) (l A B : List ℕ) (e : window p (m + n) l ≡ A ++ B) (a : length A ≡ m) (b : length B ≡ n) where
  first-stands : window p m l ≡ A
  first-stands = sym (take-take m (m + n) (drop p l) (omega arith)) ∙ ap (take m) e ∙ take_at A B m a

  second-stands : window (p + m) n l ≡ B
  second-stands = sym (window-window m n p (m + n) l (omega arith)) ∙ ap (λ (x : List ℕ). take n (drop m x)) e ∙ ap (take n) (drop_at A B m a) ∙ take_all n B (omega arith)

-- ---- reading back

abbrev pub sorted : Manager → List FreeSection
sorted m = by_size_then_addr m.sections

module _ (O : ℕ) (set : Settings) (base : ℕ) where
  pub record ManagerFits (a : ℕ) (l : List FreeSection) : Type 0 where
    pub room : a + base + (fshd_size O + fsse_used O set l) ≤ top
    pub defined : a + fshd_size O < undefined_addr O
    pub header : All FieldFits (fshd_row O (header_for O set (a + fshd_size O) l))
    pub bits_some : 0 < set.bits
    pub bits-few : set.bits ≤ 64
    pub sections-fit : All (SectionFits (widths_for O set (length l))) l

  abbrev pub PlanFits : ℕ → List Manager → Type 0
  PlanFits a [] = Unit {0}
  PlanFits a (m ∷ ms) = (0 < length m.sections → ManagerFits a m.sections) × PlanFits (a + manager_size O set m) ms

  module _ (how : Reading) (image : List ℕ) where
    -- FSHD at a with its FSSE after it
    pair_read : (a class : ℕ) (l : List FreeSection) → window (a + base) (pair_size O set l) image ≡ pair_bytes O set lookup3 a class l → ManagerFits a l
        → read_manager how O base a image ≡ answer (by_size_then_addr l)
    pair_read a class l e f =
        let u : ℕ = fsse_used O set l + set.surplus in
        let A : List ℕ = fshd_bytes lookup3 O (header_for O set (a + fshd_size O) l) in
        let B : List ℕ = fsse_for O set lookup3 a class l in
        let Z : List ℕ = replicate set.surplus 0 in
        let lenA : length A ≡ fshd_size O = length_fshd lookup3 O (header_for O set (a + fshd_size O) l) in
        let lenB : length B ≡ fsse_used O set l = length-list O set lookup3 a class l in
        let lenBZ : length (B ++ Z) ≡ u = length_both O set lookup3 a class l in
        let list-there : window (a + base + fshd_size O) u image ≡ B ++ Z = second-stands (a + base) (fshd_size O) u image A (B ++ Z) e lenA lenBZ in
        let order : a + fshd_size O + base ≡ a + base + fshd_size O = omega arith in
        manager_read O base set a (a + fshd_size O) class l image (record {
          slot_defined = λ z. omega (arith, f.defined);
          fsse_defined = λ z. omega (arith, f.defined);
          slot-fits = omega (arith, f.defined);
          slot_near = omega (arith, f.room);
          fsse_near = omega (arith, f.room);
          header_fits = f.header;
          bits_some = f.bits_some;
          bits-few = f.bits-few;
          sections-fit = f.sections-fit;
          header_there = first-stands (a + base) (fshd_size O) u image A (B ++ Z) e lenA lenBZ;
          list-there = ap (λ (q : ℕ). window q (fsse_used O set l) image) order
              ∙ first-stands (a + base + fshd_size O) (fsse_used O set l) set.surplus image B Z list-there lenB (length-replicate set.surplus 0);
        }) how

    slot_read : (a class : ℕ) (l : List FreeSection) → window (a + base) (manager_size O set (manager class l)) image ≡ manager_bytes O set lookup3 a (manager class l)
        → (0 < length l → ManagerFits a l) → read_manager how O base (cond (eqb (length l) 0) (undefined_addr O) a) image ≡ answer (by_size_then_addr l)
    unfolding by_size_then_addr read_manager
    slot_read a class [] e f = rw (eq-eqb (undefined_addr O) (undefined_addr O) refl)
    slot_read a class (s ∷ l) e f = rw (filled s l) (pair_read a class (s ∷ l) (rw (filled s l) at e) (f (zero-lt-suc (length l))))

    -- each slot of managers whose blocks stand in the image, one after another
    pub slots_read : (ms : List Manager) (a : ℕ) → window (a + base) (size_of O set ms) image ≡ blocks_from O set lookup3 a ms → PlanFits a ms
        → read_slots how O base (slots_from O set a ms) image ≡ answer (map sorted ms)
    unfolding size_of slots_from blocks_from
    slots_read [] a e f = slots-none how O base image
    slots_read (m ∷ ms) a e f =
        let z : ℕ = manager_size O set m in
        let M : List ℕ = manager_bytes O set lookup3 a m in
        let B : List ℕ = blocks_from O set lookup3 (a + z) ms in
        let lenM : length M ≡ z = length-manager O set lookup3 a m.class m.sections in
        let lenB : length B ≡ size_of O set ms = length_blocks O set lookup3 ms (a + z) in
        let order : a + z + base ≡ a + base + z = omega arith in
        let rest : window (a + z + base) (size_of O set ms) image ≡ B =
        ap (λ (q : ℕ). window q (size_of O set ms) image) order ∙ second-stands (a + base) z (size_of O set ms) image M B e lenM lenB in
        slots-more how O base image _ (slots_from O set (a + z) ms) (sorted m) (map sorted ms)
        (slot_read a m.class m.sections (first-stands (a + base) z (size_of O set ms) image M B e lenM lenB) f.0)
        (slots_read ms (a + z) rest f.1)
