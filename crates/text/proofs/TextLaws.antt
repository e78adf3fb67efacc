-- Laws of text in lent bytes: one text after another, a byte, and bytes that are copied. Assumes nothing.
use mathlib.Core.Path.{◌≡◌, refl, sym, ap, ap₂, ◌∙◌}
use mathlib.Core.List.{List, [], ◌∷◌, ◌++◌}
use mathlib.Core.Logic.{⊎_elim}
use Prim.Native.Nat.{ℕ, ◌+◌, ◌-◌, ◌≤◌, ◌<◌, min}
use native.Mathlib.Nat.{min-eq_left, min-eq_right}
use native.Mathlib.Omega.{arith}
use lib.ListN.{length, take, set, length-append}
use lib.Seq.{take-append_seam, take-length, length-take-le, take_all}
use borrow.Rule.Slice.PartMut.{put_mid}
use Rattle.std.proofs.lemmas.Slice.{put_mid-paste}
use Rattle.error.specs.Lent.{With, with, over}
use Rattle.error.proofs.TestLaws.{le-or-lt}
use Rattle.error.proofs.OverLaws.{length_over, over-nil, over_right, over-cut, over-end, set-over, over-paste}
use Rattle.text.specs.Decimal.{decimal}
use Rattle.text.specs.Text.{written}

-- ---- one text after another

module _ (at : ℕ) (a b out : List ℕ) where
  both : over (min (at + length a) (length out)) b (over at a out) ≡ over at (a ++ b) out
  both =
      ⊎_elim
      (λ (h : at + length a ≤ length out). ap (λ (p : ℕ). over p b (over at a out)) (min-eq_left h) ∙ over_right at a b out)
      (λ (h : length out < at + length a).
      let n : length out ≤ at + length a = omega arith in
      ap (λ (p : ℕ). over p b (over at a out)) (min-eq_right n)
      ∙ over-end (length out) b (over at a out) (omega (arith, length_over at a out))
      ∙ ap (λ (l : List ℕ). over at l out) (sym (take-append_seam a b))
      ∙ over-cut at (length a) (a ++ b) out n)
      (le-or-lt (at + length a) (length out))

  after : {r : ℕ} {m : List ℕ} → with r m ≡ written at a out → written r b m ≡ written at (a ++ b) out
  after e =
      let v : min (min (at + length a) (length out) + length b) (length (over at a out)) ≡ min (at + length (a ++ b)) (length out) =
      omega (arith, length_over at a out, length-append a b) in
      ap (λ (w : With ℕ (List ℕ)). written w.value b w.memory) e ∙ ap₂ with v both

  pub then : {r s : ℕ} {m n : List ℕ} → with r m ≡ written at a out → with s n ≡ written r b m → with s n ≡ written at (a ++ b) out
  then e f = f ∙ after e

-- ---- a text written piece by piece: `rest` is left of it, to be written at `to`

pub record Printing (whole : With ℕ (List ℕ)) (to : ℕ) (rest out : List ℕ) : Type 0 where
  pub inside : to ≤ length out
  pub same : written to rest out ≡ whole

-- the place after a text is inside
pub after-inside : (at : ℕ) (a out : List ℕ) {r : ℕ} {m : List ℕ} → with r m ≡ written at a out → r ≤ length m
after-inside at a out e =
    let v = ap (λ (w : With ℕ (List ℕ)). w.value) e in
    let n = ap (λ (w : With ℕ (List ℕ)). length w.memory) e in
    omega (arith, length_over at a out)

pub whole-left : (at : ℕ) (text out : List ℕ) → at ≤ length out → Printing (written at text out) at text out
whole-left at text out h = record { inside = h; same = refl }

pub piece : {whole : With ℕ (List ℕ)} (to : ℕ) (a b out : List ℕ) {r : ℕ} {m : List ℕ} → Printing whole to (a ++ b) out → with r m ≡ written to a out → Printing whole r b m
piece to a b out p e = record { inside = after-inside to a out e; same = after to a b out e ∙ p.same }

pub printed : {whole : With ℕ (List ℕ)} (to : ℕ) (out : List ℕ) → Printing whole to [] out → with to out ≡ whole
printed to out p =
    let h = p.inside in
    let n : to ≡ min (to + 0) (length out) = omega arith in
    ap₂ with n (sym (over-nil to out)) ∙ p.same

-- a loop that prints keeps the length
pub printing_length : (at : ℕ) (text out₀ : List ℕ) (to : ℕ) (rest out : List ℕ) → Printing (written at text out₀) to rest out → length out ≡ length out₀
printing_length at text out₀ to rest out p =
    let n = ap (λ (w : With ℕ (List ℕ)). length w.memory) p.same in
    omega (arith, length_over to rest out, length_over at text out₀)

-- ---- a byte

pub byte_in : (at v : ℕ) (out : List ℕ) → at < length out → with (at + 1) (set out at v) ≡ written at (v ∷ []) out
byte_in at v out h = let n : at + 1 ≡ min (at + 1) (length out) = omega arith in ap₂ with n (set-over out at v)

pub byte_out : (at v : ℕ) (out : List ℕ) → length out ≤ at → with (length out) out ≡ written at (v ∷ []) out
byte_out at v out h = let n : length out ≡ min (at + 1) (length out) = omega arith in ap₂ with n (sym (over-end at (v ∷ []) out h))

-- ---- a word: digits, whose number is counted, and the byte after them

pub digits-written : (n at : ℕ) (out : List ℕ) {count p : ℕ} {m : List ℕ} → count ≡ length (decimal n) → m ≡ over at (decimal n) out → p ≡ min (at + count) (length m)
    → with p m ≡ written at (decimal n) out
digits-written n at out {count} {p} {m} c e q =
    let l : length m ≡ length out = ap length e ∙ length_over at (decimal n) out in
    let v : p ≡ min (at + length (decimal n)) (length out) = omega arith in
    ap₂ with v e

-- ---- bytes that are copied: those before `to`

module _ (at : ℕ) (bytes out₀ : List ℕ) where
  pub copy_start : out₀ ≡ over at (take (at - at) bytes) out₀
  copy_start =
      let z : at - at ≡ 0 = omega arith in
      sym (ap (λ (k : ℕ). over at (take k bytes) out₀) z ∙ over-nil at out₀)

  pub copy_end : (to end : ℕ) {out : List ℕ} → at ≤ to → end ≤ to → to - at ≤ length bytes → end ≡ min (at + length bytes) (length out₀)
      → out ≡ over at (take (to - at) bytes) out₀ → with end out ≡ written at bytes out₀
  copy_end to end l h m e o =
      ap₂ with e
      (o
      ∙ ⊎_elim
      (λ (q : length bytes ≤ to - at).
      let k : to - at ≡ length bytes = omega arith in
      ap (λ (j : ℕ). over at (take j bytes) out₀) k ∙ ap (λ (s : List ℕ). over at s out₀) (take-length bytes))
      (λ (q : to - at < length bytes). over-cut at (to - at) bytes out₀ (omega arith))
      (le-or-lt (length bytes) (to - at)))

-- what stands in the part from at up to end after the copy
pub copied-part : (at end : ℕ) (bytes out part : List ℕ) → at < end → end ≡ min (at + length bytes) (length out) → part ≡ take (end - at) bytes
    → with end (put_mid at (end - at) out part) ≡ written at bytes out
copied-part at end bytes out part h e q =
    let n = end - at in
    let zs = take n bytes in
    let k : length zs ≡ n = length-take-le n bytes (omega arith) in
    let p : put_mid at n out part ≡ over at zs out =
    put_mid-paste at n out part zs n q refl (sym k)
    ∙ over-paste at n zs out (omega arith) (omega arith)
    ∙ ap (λ (l : List ℕ). over at l out) (take_all n zs (omega arith)) in
    copy_end at bytes out end end (omega arith) (omega arith) (omega arith) e p
