-- Laws of rows of fields: their length, reading any field back, and writing one after another; and of windows. Assumes nothing.
use mathlib.Core.Path.{◌≡◌, refl, sym, ap, ap₂, ◌∙◌}
use mathlib.Core.Logic.{⊎_elim}
use mathlib.Core.List.{List, [], ◌∷◌, ◌++◌, append_assoc, append-nil}
use Prim.Native.Nat.{ℕ, zero, suc, ◌+◌, ◌-◌, ◌^◌, ◌≤◌, ◌<◌}
use native.Mathlib.Nat.{le_of_suc-le-suc, not-suc-le-zero, sub-zero, zero-sub, suc-sub-suc, lt_of_lt_of_le, le_trans, min-le_left, pow-le-pow_right}
use native.Mathlib.Omega.{arith}
use lib.Dec.{lit≤}
use lib.ListN.{length, take, drop, get_or, length-append, length-take, length-drop, get_or-eq_default}
use lib.Seq.{take_at, drop_at, take-suc, get_or-take, get_or-drop, length-take-le, take-nil, take-take, drop-drop}
use Rattle.error.specs.Lent.{over}
use Rattle.error.proofs.TestLaws.{le-or-lt}
use Rattle.error.proofs.OverLaws.{over_right}
use Rattle.fields.specs.Le.{le_bytes, le_value}
use Rattle.fields.specs.Layout.{Field, field, widths, span, layout, FieldFits, AllFit, window, le_at, field_at}
use Rattle.fields.proofs.LeLaws.{length-le, read_back, value-lt}

-- ---- windows

pub length-window : (p n : ℕ) (l : List ℕ) → p + n ≤ length l → length (window p n l) ≡ n
length-window p n l h = length-take-le n (drop p l) (simp length-drop (omega arith))

pub get_d_window : (p n : ℕ) (l : List ℕ) (i : ℕ) → i < n → get_or (window p n l) i 0 ≡ get_or l (p + i) 0
get_d_window p n l i h = get_or-take n (drop p l) i 0 h ∙ get_or-drop p l i 0

pub window-second : (k p n : ℕ) (a b : List ℕ) → length a ≡ k → window (k + p) n (a ++ b) ≡ window p n b
window-second k p n a b h = rw (← drop-drop p k (a ++ b), drop_at a b k h)

-- a run that stands between two others
pub window-at : (p n : ℕ) (a b c : List ℕ) → length a ≡ p → length b ≡ n → window p n (a ++ (b ++ c)) ≡ b
window-at p n a b c ha hb = rw (drop_at a (b ++ c) p ha) (take_at b c n hb)

-- a window of a window
pub drop-take : (k n : ℕ) (l : List ℕ) → drop k (take n l) ≡ take (n - k) (drop k l)
drop-take zero n l = rw sub-zero
drop-take (suc k) zero l = rw zero-sub
drop-take (suc k) (suc n) [] = sym (take-nil (suc n - suc k))
drop-take (suc k) (suc n) (x ∷ l) = rw suc-sub-suc (drop-take k n l)

pub window-window : (i w p n : ℕ) (l : List ℕ) → i + w ≤ n → window i w (window p n l) ≡ window (p + i) w l
window-window i w p n l h =
    ap (take w) (drop-take i n (drop p l) ∙ ap (take (n - i)) (drop-drop i p l)) ∙ take-take w (n - i) (drop (p + i) l) (omega arith)

-- ---- numbers at a place

pub le_at-le : (p w v : ℕ) (a c : List ℕ) → length a ≡ p → v < 256 ^ w → le_at p w (a ++ (le_bytes w v ++ c)) ≡ v
le_at-le p w v a c ha hv = ap le_value (window-at p w a (le_bytes w v) c ha (length-le w v)) ∙ read_back w v hv

-- bytes spell a number of their width
pub le_at-lt : (p w : ℕ) (l : List ℕ) → ((i : ℕ) → get_or l i 0 < 256) → le_at p w l < 256 ^ w
le_at-lt p w l h =
    let k : length (window p w l) ≤ w = simp length-take (min-le_left _ _) in
    lt_of_lt_of_le (value-lt (window p w l) small) (pow-le-pow_right (lit≤ tt) k)
  where
    small : (i : ℕ) → get_or (window p w l) i 0 < 256
    small i =
        ⊎_elim
        (λ (g : w ≤ i). let e : get_or (window p w l) i 0 ≡ 0 = get_or-eq_default (window p w l) 0 (le_trans (simp length-take (min-le_left _ _)) g) in omega arith)
        (λ (g : i < w). rw (get_d_window p w l i g) (h (p + i)))
        (le-or-lt w i)

-- a number of one byte is the byte
pub le_at-one : (p : ℕ) (l : List ℕ) → le_at p 1 l ≡ get_or l p 0
unfolding le_value
le_at-one zero [] = refl
le_at-one (suc p) [] = refl
le_at-one zero (x ∷ l) = omega arith
le_at-one (suc p) (x ∷ l) = le_at-one p l

-- ---- rows

pub length-layout : (fs : List Field) → length (layout fs) ≡ span (widths fs)
unfolding layout
length-layout [] = refl
length-layout (f ∷ fs) = simp (length-append, length-le, length-layout fs) refl

pub layout-append : (fs gs : List Field) → layout (fs ++ gs) ≡ layout fs ++ layout gs
unfolding layout
layout-append [] gs = refl
layout-append (f ∷ fs) gs = rw (layout-append fs gs, append_assoc)

pub layout_snoc : (fs : List Field) (w v : ℕ) → layout (fs ++ (field w v ∷ [])) ≡ layout fs ++ le_bytes w v
unfolding layout
layout_snoc fs w v = layout-append fs (field w v ∷ []) ∙ ap (λ (l : List ℕ). layout fs ++ l) (append-nil (le_bytes w v))

pub fits-at : (fs : List Field) (i : ℕ) → i < length fs → AllFit fs → FieldFits (get_or fs i (field 0 0))
fits-at [] i h a = absurd (not-suc-le-zero h)
fits-at (f ∷ fs) zero h a = a.0
fits-at (f ∷ fs) (suc i) h a = fits-at fs i (le_of_suc-le-suc h) a.1

pub fits-append : (fs gs : List Field) → AllFit (fs ++ gs) → AllFit fs × AllFit gs
fits-append [] gs a = (tt, a)
fits-append (f ∷ fs) gs a = let p = fits-append fs gs a.1 in ((a.0, p.0), p.1)

-- field i of a row reads as its number, whatever follows the row
pub field-read : (fs : List Field) (i : ℕ) (rest : List ℕ) → i < length fs → FieldFits (get_or fs i (field 0 0))
    → field_at (widths fs) i (layout fs ++ rest) ≡ (get_or fs i (field 0 0)).value
unfolding layout
field-read [] i rest h v = absurd (not-suc-le-zero h)
field-read (f ∷ fs) zero rest h v = rw append_assoc (le_at-le 0 f.width f.value [] (layout fs ++ rest) refl v)
field-read (f ∷ fs) (suc i) rest h v =
    rw append_assoc
    (ap le_value (window-second f.width (span (take i (widths fs))) (get_or (widths fs) i 0) (le_bytes f.width f.value) (layout fs ++ rest) (length-le f.width f.value))
    ∙ field-read fs i rest (le_of_suc-le-suc h) v)

-- field i written after those before it
pub field-written : (fs : List Field) (i p : ℕ) (xs : List ℕ) {q v : ℕ} {a b : List ℕ} → i < length fs → q ≡ p + span (widths (take i fs)) → v ≡ (get_or fs i (field 0 0)).value
    → a ≡ over p (layout (take i fs)) xs → b ≡ over q (le_bytes (get_or fs i (field 0 0)).width v) a → b ≡ over p (layout (take (suc i) fs)) xs
field-written fs i p xs {q} {v} {a} {b} h place number before stored =
    let f = get_or fs i (field 0 0) in
    let front = layout (take i fs) in
    let n : p + length front ≡ q = omega (arith, length-layout (take i fs)) in
    stored
    ∙ ap₂ (λ (x : ℕ) (l : List ℕ). over q (le_bytes f.width x) l) number before
    ∙ ap (λ (k : ℕ). over k (le_bytes f.width f.value) (over p front xs)) (sym n)
    ∙ over_right p front (le_bytes f.width f.value) xs
    ∙ ap (λ (l : List ℕ). over p l xs) (sym (ap layout (take-suc fs i (field 0 0) h) ∙ layout_snoc (take i fs) f.width f.value))
