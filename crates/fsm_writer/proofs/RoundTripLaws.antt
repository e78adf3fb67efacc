-- What the serializers wrote is read again: acceptance says that every number fits its field, and what fits is read back. Assumes nothing.
use mathlib.Core.Path.{◌≡◌, refl, sym, ap, ◌∙◌, subst}
use Prim.Native.Nat.{ℕ, ◌+◌, ◌-◌, ◌*◌, ◌/◌, ◌%◌, ◌^◌, ◌≤◌, ◌<◌}
use native.Mathlib.Omega.{arith}
use mathlib.Core.Bool.{true, false, not}
use mathlib.Core.List.{List, [], ◌∷◌, ◌++◌, append-nil}
use borrow.Author.Tests.{not-false, ltb-false, leb-true, leb-false, le-ltb, eq-eqb}
use lib.Dec.{leb}
use lib.ListN.{length, take}
use Rattle.error.specs.Outcome.{Outcome, answer, first_of, and_then}
use Rattle.error.specs.Lent.{With, with, over}
use Rattle.error.proofs.TestLaws.{and_true, or_false}
use Rattle.error.proofs.OutcomeLaws.{first_answers, then_answers}
use Rattle.error.proofs.OverLaws.{take-over}
use Rattle.fields.specs.Ranges.{top}
use Rattle.fields.specs.Layout.{FieldFits}
use Rattle.fields.specs.Width.{enc_size, valid_width}
use Rattle.fields.proofs.WidthLaws.{width_in}
use Rattle.checksum.specs.Lookup3.{lookup3}
use Rattle.fsm_sections.specs.declared.FreeSection.{FreeSection}
use Rattle.fsm_sections.specs.Sections.{decode, flat, space, by_size_then_addr, All}
use Rattle.fsm_sections.proofs.SectionsLaws.{length-sorted}
use Rattle.fsm_sections.proofs.SortLaws.{sorted-sorted, times-sorted}
use Rattle.fsm_blocks.specs.declared.header.FsmHeader.{FsmHeader}
use Rattle.fsm_blocks.specs.Fshd.{fshd_row, fshd_bytes, fshd_size, kept, parsed_fshd}
use Rattle.fsm_blocks.specs.Groups.{SectionFits}
use Rattle.fsm_blocks.specs.Parts.{sections_by}
use Rattle.fsm_blocks.specs.Settings.{starting_set, widths_for, header_for, fsse_for, fsse_used}
use Rattle.fsm_blocks.specs.declared.checks.Reading.{Reading}
use Rattle.fsm_blocks.specs.Reading.{read_manager, joined, into_run, parsed_fsse, persisted}
use Rattle.fsm_blocks.specs.Named.{manager_count}
use Rattle.fsm_blocks.proofs.WrittenLaws.{length_fshd, length-fsse, fshd_read, fsse-read}
use Rattle.fsm_blocks.proofs.ImageLaws.{held, manager_read, slots-none, slots-more}
use Rattle.fsm_writer.specs.Serializing.{of_run, written_fshd, written_fsse}
use Rattle.fsm_sections.specs.Runs.{wide, any_wide}
use Rattle.fsm_writer.specs.Writing.{written}
use Rattle.fsm_writer.specs.RoundTrip.{fields_of, Standing, ReadBack, RoundTrip}
use Rattle.fsm_blocks.proofs.LengthLaws.{widths_are}

-- ---- what acceptance says

-- with what is answered first as a variable, so that `rw` can go under it
by_answer : {A B R : Type 0} (s : Outcome A) (g : A → Outcome B) (y : B) → and_then s g ≡ answer y → ((x : A) → s ≡ answer x → g x ≡ answer y → R) → R
by_answer s g y e k = let q = then_answers s g y e in k q.0 q.1 q.2

-- an address that is not refused as 12 fits
fits : (O a : ℕ) → wide O a ≡ false → a < 256 ^ O
fits O a e = let k = leb-false _ a e in omega (arith, k)

module _ (O : ℕ) (run : List ℕ) (n : ℕ) where
  abbrev l : List FreeSection
  l = decode n run

  record RunFits (m : List FreeSection) : Type 0 where
    width : valid_width O ≡ true
    small : space l ≤ top
    is : l ≡ m

  run_fits : (m : List FreeSection) → of_run O run n ≡ answer m → RunFits m
  unfolding of_run
  run_fits m e =
      let q = first_answers _ l m e in
      record { width = not-false (valid_width O) q.0.0; small = ltb-false top (space l) q.0.1.1.0; is = q.1 }

  -- refusal 12 was not given: the address of the list fits, and the header's bytes were written
  record HeaderFits (fsse a : ℕ) (u : List ℕ) : Type 0 where
    width : valid_width O ≡ true
    small : space l ≤ top
    address : fsse < 256 ^ O
    bytes : take a u ≡ fshd_bytes lookup3 O (header_for O (starting_set O) fsse l)

  header_fits : (fsse : ℕ) (x : List ℕ) (a : ℕ) (u : List ℕ) → written_fshd O run n fsse x ≡ answer (with a u) → HeaderFits fsse a u
  unfolding written_fshd
  header_fits fsse x a u e =
      by_answer (of_run O run n) _ (with a u) e
      (λ m i g.
      let r : RunFits m = run_fits m i in
      let q = first_answers _ _ (with a u) g in
      let bs : List ℕ = fshd_bytes lookup3 O (header_for O (starting_set O) fsse m) in
      let long : length bs ≡ fshd_size O = length_fshd lookup3 O (header_for O (starting_set O) fsse m) in
      let room : fshd_size O ≤ length x = ltb-false (length x) (fshd_size O) q.0.1.0 in
      let s : fshd_size O ≡ a = ap (λ (w : With ℕ (List ℕ)). w.value) q.1 in
      let t : over 0 bs x ≡ u = ap (λ (w : With ℕ (List ℕ)). w.memory) q.1 in
      record {
        width = r.width;
        small = r.small;
        address = fits O fsse q.0.0;
        bytes =
            rw (← t, ← s, ← long) (take-over bs x (omega arith))
            ∙ ap (λ (k : List FreeSection). fshd_bytes lookup3 O (header_for O (starting_set O) fsse k)) (sym r.is);
      })

  -- the same of the list: its header's address and its sections' fit
  record ListFits (fshd class b : ℕ) (y v : List ℕ) : Type 0 where
    narrow : any_wide O l ≡ false
    back : fshd < 256 ^ O
    room : fsse_used O (starting_set O) l ≤ length y
    bytes : take b v ≡ fsse_for O (starting_set O) lookup3 fshd class l

  list_fits : (fshd class : ℕ) (y : List ℕ) (b : ℕ) (v : List ℕ) → written_fsse O run n fshd class y ≡ answer (with b v) → ListFits fshd class b y v
  unfolding written_fsse
  list_fits fshd class y b v e =
      by_answer (of_run O run n) _ (with b v) e
      (λ m i g.
      let r : RunFits m = run_fits m i in
      let q = first_answers _ _ (with b v) g in
      let bs : List ℕ = fsse_for O (starting_set O) lookup3 fshd class m in
      let long : length bs ≡ fsse_used O (starting_set O) m = length-fsse lookup3 (widths_for O (starting_set O) (length m)) O fshd class m in
      let room : fsse_used O (starting_set O) m ≤ length y = ltb-false (length y) (fsse_used O (starting_set O) m) q.0.1.0 in
      let s : fsse_used O (starting_set O) m ≡ b = ap (λ (w : With ℕ (List ℕ)). w.value) q.1 in
      let t : over 0 bs y ≡ v = ap (λ (w : With ℕ (List ℕ)). w.memory) q.1 in
      record {
        narrow = ap (any_wide O) r.is ∙ (or_false (wide O fshd) (any_wide O m) q.0.0).1;
        back = fits O fshd (or_false (wide O fshd) (any_wide O m) q.0.0).0;
        room = subst (λ (k : List FreeSection). fsse_used O (starting_set O) k ≤ length y) (sym r.is) room;
        bytes =
            rw (← t, ← s, ← long) (take-over bs y (omega (arith, long)))
            ∙ ap (λ (k : List FreeSection). fsse_for O (starting_set O) lookup3 fshd class k) (sym r.is);
      })

-- ---- so every number fits its field

pub sections-fit : (c O : ℕ) (l : List FreeSection) → any_wide O l ≡ false → space l ≤ top → All (SectionFits (written c O)) l
unfolding space
sections-fit c O [] e h = tt
sections-fit c O (s ∷ l) e h =
    let q = or_false (wide O s.addr) (any_wide O l) e in
    (record { addr_fits = fits O s.addr q.0; size_fits = omega arith }, sections-fit c O l q.1 (omega arith))

pub row_fits : (O fsse : ℕ) (l : List FreeSection) → O ≤ 8 → fsse < 256 ^ O → space l ≤ top → fsse_used O (starting_set O) l < 2 ^ 64
    → All FieldFits (fshd_row O (header_for O (starting_set O) fsse l))
row_fits O fsse l o f s u = let few : length l ≤ fsse_used O (starting_set O) l = omega arith in omega arith

-- ---- and what fits is read back

-- sections that are read, into a lent run with room
module _ (l : List FreeSection) (out : List ℕ) (even : length out % 2 ≡ 0) (room : length l ≤ length out / 2) where
  abbrev lent : Outcome (With ℕ (List ℕ))
  lent = answer (with (length l) (over 0 (flat (by_size_then_addr l)) out))

  into-run : into_run out (by_size_then_addr l) ≡ lent
  unfolding first_of
  into-run = rw (length-sorted l, le-ltb (length out / 2) (length l) room)

  parsed-into : (h : FsmHeader) (O : ℕ) (list : List ℕ) → not (valid_width O) ≡ false → sections_by h O list ≡ answer (by_size_then_addr l) → parsed_fsse h O list out ≡ lent
  unfolding parsed_fsse first_of and_then
  parsed-into h O list w e = rw (w, eq-eqb (length out % 2) 0 even, e) into-run

  persisted-into : (how : Reading) (O base slot : ℕ) (bytes : List ℕ) → not (valid_width O) ≡ false → read_manager how O base slot bytes ≡ answer (by_size_then_addr l)
      → persisted how (slot ∷ []) base O bytes out ≡ lent
  unfolding persisted first_of and_then joined
  persisted-into how O base slot bytes w e =
      rw (w, eq-eqb (length out % 2) 0 even, slots-more how O base bytes slot [] (by_size_then_addr l) [] e (slots-none how O base bytes), append-nil (by_size_then_addr l)) into-run

module _ (O : ℕ) (l : List FreeSection) (fshd fsse class : ℕ) (low : 1 ≤ O) (high : O ≤ 8) (small : space l ≤ top) (address : fsse < 256 ^ O) (back : fshd < 256 ^ O)
    (narrow : any_wide O l ≡ false) (short : fsse_used O (starting_set O) l < 2 ^ 64) where
  abbrev header : List ℕ
  header = fshd_bytes lookup3 O (header_for O (starting_set O) fsse l)

  abbrev list : List ℕ
  list = fsse_for O (starting_set O) lookup3 fshd class l

  width : not (valid_width O) ≡ false
  width = width_in O low high

  fields_fit : All FieldFits (fshd_row O (header_for O (starting_set O) fsse l))
  fields_fit = row_fits O fsse l high address small short

  fit : All (SectionFits (widths_for O (starting_set O) (length l))) l
  fit = rw (widths_are O (length l)) (sections-fit (enc_size (length l)) O l narrow small)

  length-list : length list ≡ fsse_used O (starting_set O) l
  length-list = length-fsse lookup3 (widths_for O (starting_set O) (length l)) O fshd class l

  length-header : length header ≡ fshd_size O
  length-header = length_fshd lookup3 O (header_for O (starting_set O) fsse l)

  parsed-header : (rest : List ℕ) → kept (parsed_fshd O (header ++ rest)) ≡ answer (fields_of O l fshd fsse header list)
  unfolding parsed_fshd first_of and_then
  parsed-header rest = rw (width, fshd_read lookup3 O (header_for O (starting_set O) fsse l) rest fields_fit, length-list)

  parsed-list : sections_by (fields_of O l fshd fsse header list) O list ≡ answer (by_size_then_addr l)
  parsed-list = fsse-read lookup3 O fshd class (8 * O - 1) (2 ^ 63 - 1) l (omega arith) (omega arith) (omega arith) fit

  module _ (base : ℕ) (bytes : List ℕ) (s : Standing O l fshd fsse header list base bytes) where
    read : (how : Reading) → read_manager how O base fshd bytes ≡ answer (by_size_then_addr l)
    read how =
        let p = held (fshd + base) (length header) bytes header s.header_there refl (omega (arith, length-header)) in
        let q = held (fsse + base) (length list) bytes list s.list-there refl (omega (arith, length-list)) in
        manager_read O base (starting_set O) fshd fsse class l bytes
        (record {
          slot_defined = s.fshd_defined;
          fsse_defined = s.fsse_defined;
          slot-fits = back;
          slot_near = omega (arith, s.short);
          fsse_near = omega (arith, s.short);
          header_fits = fields_fit;
          bits_some = omega arith;
          bits-few = omega arith;
          sections-fit = fit;
          header_there = rw (← length-header) s.header_there;
          list-there = rw (← length-list) s.list-there;
        })
        how

    counted : (how : Reading) → manager_count how O base fshd bytes ≡ answer (length l)
    unfolding manager_count first_of and_then
    counted how = rw (width, read how, length-sorted l)

  pub read_back : ReadBack O l fshd fsse header list
  read_back = record {
    every = λ x. times-sorted x l;
    ordered = sorted-sorted l;
    header_parsed = parsed-header;
    list_parsed = λ out even room. parsed-into l out even room (fields_of O l fshd fsse header list) O list width parsed-list;
    manager_read = λ how base bytes s. read base bytes s how;
    manager_counted = λ how base bytes s. counted base bytes s how;
    persisted_read = λ how base bytes s out even room. persisted-into l out even room how O base fshd bytes width (read base bytes s how);
  }

pub round_trip : RoundTrip
round_trip O run n fshd fsse class x y a b u v few e f =
    let h = header_fits O run n fsse x a u e in
    let k = list_fits O run n fshd class y b v f in
    let w = and_true (leb 1 O) (leb O 8) h.width in
    rw (h.bytes, k.bytes)
    (read_back O (decode n run) fshd fsse class (leb-true 1 O w.0) (leb-true O 8 w.1) h.small h.address k.back k.narrow (omega (arith, k.room)))
