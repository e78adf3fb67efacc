-- Rows of fields put one by one, blocks sealed, and the two blocks put together. Assumes nothing.
use mathlib.Core.Path.{◌≡◌, refl, sym, ap, ◌∙◌}
use Prim.Native.Nat.{ℕ, zero, suc, ◌+◌, ◌-◌, ◌*◌, ◌≤◌, ◌<◌}
use native.Mathlib.Omega.{arith}
use native.Mathlib.Numerals.{add-one}
use mathlib.Core.List.{List, [], ◌∷◌, ◌++◌, append_assoc, append-nil}
use lib.ListN.{length, length-append, take, get_or}
use lib.Seq.{take_all}
use Rattle.error.specs.Lent.{over}
use Rattle.error.proofs.OverLaws.{length_over, over_right, over-nil, take-over}
use Rattle.fields.specs.Le.{le_bytes}
use Rattle.fields.specs.Layout.{row, widths, layout, span}
use Rattle.fields.specs.Width.{enc_size}
use Rattle.fields.proofs.LeLaws.{length-le}
use Rattle.fields.proofs.LayoutLaws.{length-layout}
use Rattle.fsm_sections.specs.declared.FreeSection.{FreeSection}
use Rattle.fsm_sections.specs.Sections.{by_size_then_addr, groups_of}
use Rattle.fsm_blocks.specs.Fshd.{fshd_row, fshd_bytes, sealed}
use Rattle.fsm_blocks.specs.Groups.{Widths, group_bytes}
use Rattle.fsm_blocks.specs.Fsse.{fsse_head, fsse_bytes, fsse_size}
use Rattle.fsm_blocks.specs.Settings.{starting_set, header_of, widths_for, fsse_used, fsse_for}
use Rattle.fsm_blocks.proofs.LengthLaws.{widths_are}
use Rattle.fsm_writer.specs.Writing.{written}
use Rattle.fsm_writer.proofs.WriterLaws.{groups_length}

-- what is put after what stands at the front
pub over-after : (u v d : List ℕ) → over (length u) v (over 0 u d) ≡ over 0 (u ++ v) d
over-after u v d = let e : length u ≡ 0 + length u = omega arith in ap (λ (n : ℕ). over n v (over 0 u d)) e ∙ over_right 0 u v d

-- ---- rows

-- the first i fields and the next
row-suc : (ws vs : List ℕ) (i : ℕ) → i < length ws → length ws ≡ length vs
    → layout (row (take (suc i) ws) (take (suc i) vs)) ≡ layout (row (take i ws) (take i vs)) ++ le_bytes (get_or ws i 0) (get_or vs i 0)
unfolding layout
row-suc [] vs i h e = absurd (omega arith)
row-suc (w ∷ ws) [] i h e = absurd (omega arith)
row-suc (w ∷ ws) (v ∷ vs) zero h e = append-nil (le_bytes w v)
row-suc (w ∷ ws) (v ∷ vs) (suc i) h e =
    rw (row-suc ws vs i (omega arith) (omega arith)) (sym (append_assoc (le_bytes w v) (layout (row (take i ws) (take i vs))) (le_bytes (get_or ws i 0) (get_or vs i 0))))

row-short : (ws vs : List ℕ) (i : ℕ) → span (widths (row (take i ws) (take i vs))) ≤ span (widths (row ws vs))
row-short [] vs zero = omega arith
row-short [] vs (suc i) = omega arith
row-short (w ∷ ws) [] zero = omega arith
row-short (w ∷ ws) [] (suc i) = omega arith
row-short (w ∷ ws) (v ∷ vs) zero = omega arith
row-short (w ∷ ws) (v ∷ vs) (suc i) = omega (arith, row-short ws vs i)

pub record Row (ws vs d : List ℕ) (p i : ℕ) (out : List ℕ) : Type 0 where
  pub within : i ≤ length ws
  pub place : p ≡ length (layout (row (take i ws) (take i vs)))
  pub image : out ≡ over 0 (layout (row (take i ws) (take i vs))) d

module _ (ws vs d : List ℕ) (same : length ws ≡ length vs) (room : span (widths (row ws vs)) ≤ length d) where
  pub row-start : Row ws vs d 0 0 d
  unfolding layout
  row-start = record { within = omega arith; place = refl; image = sym (over-nil 0 d) }

  module _ (p i : ℕ) (out : List ℕ) (now : Row ws vs d p i out) where
    abbrev done : List ℕ
    done = layout (row (take i ws) (take i vs))

    pub row-length : length out ≡ length d
    row-length = ap length now.image ∙ length_over 0 done d

    module _ (h : i < length ws) (w : ℕ) (we : w ≡ get_or ws i 0) where
      next : layout (row (take (suc i) ws) (take (suc i) vs)) ≡ done ++ le_bytes w (get_or vs i 0)
      next = row-suc ws vs i h same ∙ rw we

      long : length (layout (row (take (suc i) ws) (take (suc i) vs))) ≡ length done + w
      long = ap length next ∙ length-append done (le_bytes w (get_or vs i 0)) ∙ omega (arith, length-le w (get_or vs i 0))

      pub row_room : p + w ≤ length d
      row_room = omega (arith, long, now.place, length-layout (row (take (suc i) ws) (take (suc i) vs)), row-short ws vs (suc i))

      pub row_step : (out' : List ℕ) → out' ≡ over p (le_bytes w (get_or vs i 0)) out → Row ws vs d (p + w) (i + 1) out'
      row_step out' e =
          rw add-one (record {
            within = h;
            place = omega (arith, long, now.place);
            image = e ∙ rw (now.place, now.image) (over-after done (le_bytes w (get_or vs i 0)) d ∙ ap (λ (m : List ℕ). over 0 m d) (sym next));
          })

    pub row_done : length ws ≤ i → out ≡ over 0 (layout (row ws vs)) d
    row_done h = now.image ∙ rw (take_all i ws h, take_all i vs (omega arith))

-- ---- a block and its checksum

pub sealed-put : (sum : List ℕ → ℕ) (u d m x : List ℕ) (n : ℕ) → n ≡ length u → n ≤ length d → m ≡ over 0 u d → x ≡ over n (le_bytes 4 (sum (take n m))) m → x ≡ over 0 (sealed sum u) d
sealed-put sum u d m x n e h f g =
    g ∙ rw (f, e) (ap (λ (b : List ℕ). over (length u) (le_bytes 4 (sum b)) (over 0 u d)) (take-over u d (omega arith)) ∙ over-after u (le_bytes 4 (sum u)) d)

-- ---- the header

abbrev pub fshd_widths : ℕ → List ℕ
fshd_widths o = 4 ∷ 1 ∷ 1 ∷ 8 ∷ 8 ∷ 8 ∷ 8 ∷ 2 ∷ 2 ∷ 2 ∷ 2 ∷ 8 ∷ o ∷ 8 ∷ 8 ∷ []

-- the signature's letters as one number, 1145590598
abbrev pub fshd_values : ℕ → ℕ → ℕ → ℕ → ℕ → ℕ → List ℕ
fshd_values o space n fsse used allocated =
    1145590598 ∷ 0 ∷ 1 ∷ space ∷ n ∷ n ∷ 0 ∷ 3 ∷ 80 ∷ 120 ∷ (8 * o - 1) ∷ 9223372036854775807 ∷ fsse ∷ used ∷ allocated ∷ []

module _ (o space n fsse used : ℕ) where
  row_is : layout (row (fshd_widths o) (fshd_values o space n fsse used used)) ≡ layout (fshd_row o (header_of (starting_set o) space n fsse used))
  unfolding layout le_bytes
  row_is = let e : used ≡ used + 0 = omega arith in ap (λ (m : ℕ). layout (row (fshd_widths o) (fshd_values o space n fsse used m))) e

  pub fshd_put : (sum : List ℕ → ℕ) (d m x : List ℕ) → 74 + o ≤ length d → m ≡ over 0 (layout (row (fshd_widths o) (fshd_values o space n fsse used used))) d
      → x ≡ over (70 + o) (le_bytes 4 (sum (take (70 + o) m))) m → x ≡ over 0 (fshd_bytes sum o (header_of (starting_set o) space n fsse used)) d
  unfolding fshd_bytes
  fshd_put sum d m x h f g =
      let fs = fshd_row o (header_of (starting_set o) space n fsse used) in
      sealed-put sum (layout fs) d m x (70 + o) (omega (arith, length-layout fs)) (omega arith) (f ∙ ap (λ (u : List ℕ). over 0 u d) row_is) g

-- ---- the section list

head_is : (o back : ℕ) → le_bytes 5 1163088710 ++ le_bytes o back ≡ layout (fsse_head o back)
unfolding layout le_bytes
head_is o back = rw (append-nil (le_bytes o back))

module _ (o back class : ℕ) (l : List FreeSection) (d : List ℕ) (some : 1 ≤ o) (n cw : ℕ) (ne : n ≡ length l) (ce : cw ≡ enc_size n) where
  abbrev w : Widths
  w = written cw o

  widths-written : widths_for o (starting_set o) (length l) ≡ w
  widths-written = widths_are o (length l) ∙ ap (λ (m : ℕ). written m o) (sym (ce ∙ ap enc_size ne))

  abbrev groups : List ℕ
  groups = group_bytes w class (groups_of (by_size_then_addr l))

  abbrev body : List ℕ
  body = (le_bytes 5 1163088710 ++ le_bytes o back) ++ groups

  pub used-is : fsse_used o (starting_set o) l ≡ 9 + o + length groups
  used-is = ap (λ (v : Widths). fsse_size v o l) widths-written ∙ omega (arith, groups_length w class l)

  body-long : length body ≡ 5 + o + length groups
  body-long =
      omega (arith, length-append (le_bytes 5 1163088710 ++ le_bytes o back) groups, length-append (le_bytes 5 1163088710) (le_bytes o back), length-le 5 1163088710, length-le o back)

  module _ (x₁ x₂ x₃ : List ℕ) (e₁ : x₁ ≡ over 0 (le_bytes 5 1163088710) d) (e₂ : x₂ ≡ over 5 (le_bytes o back) x₁) where
    two : x₂ ≡ over 0 (le_bytes 5 1163088710 ++ le_bytes o back) d
    two =
        let n : 5 ≡ length (le_bytes 5 1163088710) = sym (length-le 5 1163088710) in
        e₂ ∙ rw e₁ (ap (λ (k : ℕ). over k (le_bytes o back) (over 0 (le_bytes 5 1163088710) d)) n ∙ over-after (le_bytes 5 1163088710) (le_bytes o back) d)

    pub two-long : length x₂ ≡ length d
    two-long = ap length two ∙ length_over 0 (le_bytes 5 1163088710 ++ le_bytes o back) d

    module _ (e₃ : x₃ ≡ over (5 + o) groups x₂) where
      three : x₃ ≡ over 0 body d
      three =
          let h = le_bytes 5 1163088710 ++ le_bytes o back in
          let n : 5 + o ≡ length h = omega (arith, length-append (le_bytes 5 1163088710) (le_bytes o back), length-le 5 1163088710, length-le o back) in
          e₃ ∙ rw two (ap (λ (k : ℕ). over k groups (over 0 h d)) n ∙ over-after h groups d)

      pub three-long : length x₃ ≡ length d
      three-long = ap length three ∙ length_over 0 body d

      pub fsse-put : (sum : List ℕ → ℕ) (m : ℕ) (x : List ℕ) → m ≡ 5 + o + length groups → m ≤ length d → x ≡ over m (le_bytes 4 (sum (take m x₃))) x₃
          → x ≡ over 0 (fsse_for o (starting_set o) sum back class l) d
      unfolding fsse_bytes
      fsse-put sum m x e h f =
          sealed-put sum body d x₃ x m (omega (arith, body-long)) h three f
          ∙ rw (widths-written, ← head_is o back)
