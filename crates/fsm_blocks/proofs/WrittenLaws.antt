-- The blocks as they are written: their lengths, their checksum, that they are read back, whatever follows, and that they pass the checks. Assumes nothing.
use mathlib.Core.Path.{◌≡◌, refl, sym, ap, ◌∙◌, subst}
use mathlib.Core.Bool.{true, false, ◌||◌, not}
use mathlib.Core.List.{List, [], ◌++◌, append_assoc, append-nil}
use Prim.Native.Nat.{ℕ, ◌+◌, ◌-◌, ◌^◌, ◌≤◌, ◌<◌}
use native.Mathlib.Omega.{arith}
use borrow.Author.Tests.{le-ltb, eq-eqb, ne_eqb}
use lib.Dec.{lit<, ltb, eqb}
use lib.ListN.{length, take, get_or, length-append}
use lib.Seq.{take_at}
use Rattle.error.specs.Outcome.{answer, first_of}
use Rattle.error.proofs.OutcomeLaws.{NoneHolds, first_shows}
use Rattle.fields.specs.Le.{le_bytes}
use Rattle.fields.specs.Layout.{Field, field, layout, widths, span, FieldFits, window, le_at}
use Rattle.fields.proofs.LeLaws.{length-le}
use Rattle.fields.proofs.WidthLaws.{enc_size-least}
use Rattle.checksum.specs.Lookup3.{lookup3}
use Rattle.checksum.specs.Trailing.{wrong_sum, trailing}
use Rattle.checksum.proofs.TrailingLaws.{closed}
use Rattle.fsm_sections.specs.declared.FreeSection.{FreeSection}
use Rattle.fsm_sections.specs.Sections.{by_size_then_addr, groups_of, distinct, All}
use Rattle.fsm_sections.proofs.AllLaws.{all_get_d}
use Rattle.fsm_sections.proofs.SectionsLaws.{length-sorted, ungroup-groups_of}
use Rattle.fsm_sections.proofs.SizesLaws.{groups_of-sizes}
use Rattle.fsm_blocks.specs.Groups.{Widths, SectionFits, group_bytes, parse_groups}
use Rattle.fsm_blocks.specs.Fshd.{Header, fshd_row, sealed, fshd_bytes, fshd_size, signed, header_at, parse_fshd}
use Rattle.fsm_blocks.specs.Fsse.{widths_of, fsse_head, fsse_bytes, fsse_size, parse_fsse}
use Rattle.fsm_blocks.specs.declared.checks.Reading.{Reading}
use Rattle.fsm_blocks.specs.declared.checks.Reading.TheVariants.{Loose, Strict}
use Rattle.fsm_blocks.specs.Checks.{fshd_checks, fsse_checks}
use Rattle.fields.proofs.LayoutLaws.{window-at, le_at-le, length-layout}
use Rattle.fsm_blocks.proofs.BytesLaws.{field_at}
use Rattle.fsm_blocks.proofs.GroupsLaws.{length_groups, parse_written}
use Rattle.fsm_blocks.proofs.FsseLaws.{fsse_groups}

-- ---- the checksum: it stands in the last four bytes, after what it is the checksum of

module _ (sum : List ℕ → ℕ) (body : List ℕ) where
  pub length-sealed : length (sealed sum body) ≡ length body + 4
  length-sealed = simp (length-append, length-le) refl

  pub sealed-body : take (length (sealed sum body) - 4) (sealed sum body) ≡ body
  sealed-body = take_at body (le_bytes 4 (sum body)) (length (sealed sum body) - 4) (omega (arith, length-sealed))

  pub sealed-sum : sum body < 2 ^ 32 → le_at (length (sealed sum body) - 4) 4 (sealed sum body) ≡ sum body
  sealed-sum h =
      let n : length body ≡ length (sealed sum body) - 4 = omega (arith, length-sealed) in
      subst (λ (l : List ℕ). le_at (length (sealed sum body) - 4) 4 (body ++ l) ≡ sum body) (append-nil (le_bytes 4 (sum body)))
      (le_at-le (length (sealed sum body) - 4) 4 (sum body) body [] n h)

-- four bytes that are the signature's
signed_is : (a b c d : ℕ) (bs : List ℕ) → le_at 0 1 bs ≡ a → le_at 1 1 bs ≡ b → le_at 2 1 bs ≡ c → le_at 3 1 bs ≡ d → signed a b c d bs ≡ true
signed_is a b c d bs ha hb hc hd = rw (eq-eqb _ _ ha, eq-eqb _ _ hb, eq-eqb _ _ hc, eq-eqb _ _ hd)

-- ---- FSHD

module _ (sum : List ℕ → ℕ) (O : ℕ) (h : Header) where
  pub length_fshd : length (fshd_bytes sum O h) ≡ fshd_size O
  unfolding fshd_bytes
  length_fshd = length-sealed sum (layout (fshd_row O h)) ∙ rw length-layout (omega arith)

  -- what stands in a header's bytes, whatever follows: every reading of it is a line from here
  pub record Stands (bs : List ℕ) : Type 0 where
    pub long : fshd_size O ≤ length bs
    pub signature : signed 70 83 72 68 bs ≡ true
    pub header : header_at O bs ≡ h

  pub fshd_stands : (rest : List ℕ) → All FieldFits (fshd_row O h) → Stands (fshd_bytes sum O h ++ rest)
  unfolding fshd_bytes
  fshd_stands rest fits =
      subst Stands (sym (append_assoc (layout fs) (le_bytes 4 (sum (layout fs))) rest))
      (record {
        long = long;
        signature = signed_is 70 83 72 68 bs (at 0 (lit< tt) 0 1 refl refl) (at 1 (lit< tt) 1 1 refl refl) (at 2 (lit< tt) 2 1 refl refl) (at 3 (lit< tt) 3 1 refl refl);
        header = same;
      })
    where
      fs : List Field
      fs = fshd_row O h

      bs : List ℕ
      bs = layout fs ++ (le_bytes 4 (sum (layout fs)) ++ rest)

      long : fshd_size O ≤ length bs
      long = simp (length-append, length-layout, length-le) (omega arith)

      at : (i : ℕ) → i < 18 → (p w : ℕ) → span (take i (widths fs)) ≡ p → get_or (widths fs) i 0 ≡ w → le_at p w bs ≡ (get_or fs i (field 0 0)).value
      at i l p w ep ew = field_at fs i (le_bytes 4 (sum (layout fs)) ++ rest) l (all_get_d FieldFits fs i (field 0 0) l fits) p w ep ew

      same : header_at O bs ≡ h
      same = λ i. record {
        version = at 4 (lit< tt) 4 1 refl refl i;
        client = at 5 (lit< tt) 5 1 refl refl i;
        space = at 6 (lit< tt) 6 8 refl refl i;
        total = at 7 (lit< tt) 14 8 refl refl i;
        serialized = at 8 (lit< tt) 22 8 refl refl i;
        ghost = at 9 (lit< tt) 30 8 refl refl i;
        classes = at 10 (lit< tt) 38 2 refl refl i;
        shrink = at 11 (lit< tt) 40 2 refl refl i;
        expand = at 12 (lit< tt) 42 2 refl refl i;
        bits = at 13 (lit< tt) 44 2 refl refl i;
        greatest = at 14 (lit< tt) 46 8 refl refl i;
        fsse = at 15 (lit< tt) 54 O refl refl i;
        used = at 16 (lit< tt) (54 + O) 8 (omega arith) refl i;
        allocated = at 17 (lit< tt) (62 + O) 8 (omega arith) refl i;
      }

  -- a header is read as it was written
  pub fshd_read : (rest : List ℕ) → All FieldFits (fshd_row O h) → parse_fshd O (fshd_bytes sum O h ++ rest) ≡ answer h
  unfolding first_of
  fshd_read rest fits =
      let s : Stands (fshd_bytes sum O h ++ rest) = fshd_stands rest fits in
      rw (le-ltb _ _ s.long, s.signature) (ap answer s.header)

-- ---- FSSE

module _ (sum : List ℕ → ℕ) (w : Widths) (O back class : ℕ) (l : List FreeSection) where
  pub length-fsse : length (fsse_bytes sum w O back class l) ≡ fsse_size w O l
  unfolding fsse_bytes
  length-fsse =
      let n = length_groups w class (groups_of (by_size_then_addr l)) in
      let g : length (groups_of (by_size_then_addr l)) ≡ distinct l = groups_of-sizes l in
      let u = ap length (ungroup-groups_of (by_size_then_addr l)) ∙ length-sorted l in
      simp (length-append, length-le, length-layout) (rw (n, g, u) (omega arith))

  -- what stands in its bytes
  pub record Listed (bs : List ℕ) : Type 0 where
    pub long : 9 + O ≤ length bs
    pub signature : signed 70 83 83 69 bs ≡ true
    pub version : le_at 4 1 bs ≡ 0
    pub back_is : back < 256 ^ O → le_at 5 O bs ≡ back
    pub groups : window (5 + O) (length bs - (9 + O)) bs ≡ group_bytes w class (groups_of (by_size_then_addr l))

  listed : (C : List ℕ) → length C ≡ 4 → Listed (layout (fsse_head O back) ++ (group_bytes w class (groups_of (by_size_then_addr l)) ++ C))
  listed C four = record {
    long = omega (arith, len);
    signature = signed_is 70 83 83 69 bs (at 0 (lit< tt) (lit< tt) 0 1 refl refl) (at 1 (lit< tt) (lit< tt) 1 1 refl refl) (at 2 (lit< tt) (lit< tt) 2 1 refl refl) (at 3 (lit< tt) (lit< tt) 3 1 refl refl);
    version = at 4 (lit< tt) (lit< tt) 4 1 refl refl;
    back_is = λ h. at 5 (lit< tt) h 5 O refl refl;
    groups = window-at (5 + O) (length bs - (9 + O)) (layout (fsse_head O back)) G C (length-layout (fsse_head O back) ∙ omega arith) (omega (arith, len));
  }
    where
      G : List ℕ
      G = group_bytes w class (groups_of (by_size_then_addr l))

      bs : List ℕ
      bs = layout (fsse_head O back) ++ (G ++ C)

      len : length bs ≡ 9 + O + length G
      len = simp (length-append, length-layout, four) (omega arith)

      at : (i : ℕ) → i < 6 → FieldFits (get_or (fsse_head O back) i (field 0 0)) → (p w : ℕ) → span (take i (widths (fsse_head O back))) ≡ p → get_or (widths (fsse_head O back)) i 0 ≡ w
          → le_at p w bs ≡ (get_or (fsse_head O back) i (field 0 0)).value
      at i h v p w ep ew = field_at (fsse_head O back) i (G ++ C) h v p w ep ew

  pub fsse_stands : Listed (fsse_bytes sum w O back class l)
  unfolding fsse_bytes
  fsse_stands =
      let G : List ℕ = group_bytes w class (groups_of (by_size_then_addr l)) in
      let H : List ℕ = layout (fsse_head O back) in
      subst Listed (sym (append_assoc H G (le_bytes 4 (sum (H ++ G))))) (listed (le_bytes 4 (sum (H ++ G))) (length-le 4 (sum (H ++ G))))

-- sections are read as they were written, by size and then address, duplicates included
pub fsse-read : (sum : List ℕ → ℕ) (O back class bits greatest : ℕ) (l : List FreeSection) → 0 < bits → bits ≤ 64 → length l < 2 ^ 64
    → All (SectionFits (widths_of (length l) greatest bits)) l
    → parse_fsse O bits greatest (length l) (fsse_bytes sum (widths_of (length l) greatest bits) O back class l) ≡ answer (by_size_then_addr l)
fsse-read sum O back class bits greatest l b1 b2 n fits =
    let w : Widths = widths_of (length l) greatest bits in
    let bs : List ℕ = fsse_bytes sum w O back class l in
    let s : Listed sum w O back class l bs = fsse_stands sum w O back class l in
    let some : (eqb bits 0 || ltb 64 bits) ≡ false = rw (ne_eqb bits 0 (λ q. omega arith), le-ltb 64 bits b2) in
    fsse_groups O bits greatest (length l) bs s.long (ap not s.signature) some
    ∙ ap (parse_groups w (length l)) (s.groups ∙ sym (append-nil (group_bytes w class (groups_of (by_size_then_addr l)))))
    ∙ parse_written w class l [] (enc_size-least (length l) n).holds fits

-- ---- and pass the checks of every reading, if the checksum is lookup3's

sealed_right : (body : List ℕ) → (wrong_sum (sealed lookup3 body)).holds ≡ false
unfolding trailing
sealed_right body = (first_shows _ (answer tt) tt (closed body)).0.1.0

pub fshd_checked : (how : Reading) (O : ℕ) (h : Header) (rest : List ℕ) → All FieldFits (fshd_row O h) → h.version ≡ 0 → h.client ≡ 1
    → NoneHolds (fshd_checks how O (fshd_bytes lookup3 O h ++ rest))
unfolding fshd_bytes
fshd_checked Loose O h rest fits v c = tt
fshd_checked Strict O h rest fits v c =
    let bs : List ℕ = fshd_bytes lookup3 O h ++ rest in
    let s : Stands lookup3 O h bs = fshd_stands lookup3 O h rest fits in
    let version : le_at 4 1 bs ≡ 0 = ap (λ (x : Header). x.version) s.header ∙ v in
    let client : le_at 5 1 bs ≡ 1 = ap (λ (x : Header). x.client) s.header ∙ c in
    (le-ltb _ _ s.long, (ap not s.signature, (ap not (eq-eqb _ 0 version), (ap not (eq-eqb _ 1 client), (sum_right, tt)))))
  where
    sum_right : (wrong_sum (take (fshd_size O) (fshd_bytes lookup3 O h ++ rest))).holds ≡ false
    sum_right = rw (take_at (fshd_bytes lookup3 O h) rest (fshd_size O) (length_fshd lookup3 O h)) (sealed_right (layout (fshd_row O h)))

pub fsse_checked : (how : Reading) (w : Widths) (O back class : ℕ) (l : List FreeSection) → back < 256 ^ O
    → NoneHolds (fsse_checks how O back (fsse_bytes lookup3 w O back class l))
unfolding fsse_bytes
fsse_checked Loose w O back class l b = tt
fsse_checked Strict w O back class l b =
    let s : Listed lookup3 w O back class l (fsse_bytes lookup3 w O back class l) = fsse_stands lookup3 w O back class l in
    (le-ltb _ _ s.long, (ap not s.signature, (ap not (eq-eqb _ 0 s.version), (sum_right, (ap not (eq-eqb _ back (s.back_is b)), tt)))))
  where
    sum_right : (wrong_sum (fsse_bytes lookup3 w O back class l)).holds ≡ false
    sum_right = sealed_right (layout (fsse_head O back) ++ group_bytes w class (groups_of (by_size_then_addr l)))
