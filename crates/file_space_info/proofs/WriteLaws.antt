-- Laws of writing the message: its length, the iteration of the loop that writes addresses, and the cases of `serialize`. Assumes nothing.
use mathlib.Core.Path.{◌≡◌, refl, sym, ap, ap₂, ◌∙◌}
use mathlib.Core.Bool.{Bool, true, false, cond}
use mathlib.Core.List.{List, [], ◌∷◌, ◌++◌, append-nil}
use Prim.Native.Nat.{ℕ, ◌+◌, ◌*◌, ◌≤◌, ◌<◌}
use native.Mathlib.Nat.{le_of_lt}
use native.Mathlib.Numerals.{add-one}
use native.Mathlib.Omega.{arith}
use borrow.Author.Tests.{lt-ltb, le-ltb}
use lib.ListN.{length, take, get_or, length-append}
use lib.Seq.{take-suc, length-take-le}
use Rattle.error.specs.declared.Refusal.TheVariants.{OverCapacity}
use Rattle.error.specs.Outcome.{answer, refused}
use Rattle.error.specs.Lent.{left, leaving, over}
use Rattle.error.proofs.OutcomeLaws.{refuses, passes}
use Rattle.error.proofs.OverLaws.{over_right}
use Rattle.fields.specs.Le.{le_bytes}
use Rattle.fields.specs.Layout.{Field, field, row, widths, span, layout}
use Rattle.fields.proofs.LayoutLaws.{length-layout, layout-append, layout_snoc}
use Rattle.file_space_info.specs.declared.FileSpaceInfo.{FileSpaceInfo}
use Rattle.file_space_info.specs.Message.{shape, fixed_len, numbers_of, address_row, message_bytes, serialized}

-- ---- lengths

pub span-addresses : (O : ℕ) (l : List ℕ) → span (widths (address_row O l)) ≡ length l * O
span-addresses O [] = omega arith
span-addresses O (a ∷ l) = let e : span (widths (address_row O l)) ≡ length l * O = span-addresses O l in omega arith

pub length-addresses : (O : ℕ) (l : List ℕ) → length (layout (address_row O l)) ≡ length l * O
length-addresses O l = length-layout (address_row O l) ∙ span-addresses O l

-- the message is its fixed part, and its addresses if persist
pub message_parts : (O L : ℕ) (m : FileSpaceInfo) (addrs : List ℕ)
    → message_bytes O L m addrs ≡ layout (row (shape O L) (numbers_of m)) ++ cond m.persist (layout (address_row O addrs)) []
unfolding layout
message_parts O L m addrs = layout-append (row (shape O L) (numbers_of m)) (cond m.persist (address_row O addrs) []) ∙ ap (λ (l : List ℕ). layout (row (shape O L) (numbers_of m)) ++ l) (tail m.persist)
  where
    tail : (t : Bool) → layout (cond t (address_row O addrs) []) ≡ cond t (layout (address_row O addrs)) []
    tail true = refl
    tail false = refl

pub length_message : (O L : ℕ) (m : FileSpaceInfo) (addrs : List ℕ) → length (message_bytes O L m addrs) ≡ fixed_len O L + cond m.persist (length addrs * O) 0
length_message O L m addrs =
    ap length (message_parts O L m addrs)
    ∙ length-append (layout (row (shape O L) (numbers_of m))) (cond m.persist (layout (address_row O addrs)) [])
    ∙ ap₂ (λ (a b : ℕ). a + b) (length-layout (row (shape O L) (numbers_of m))) (tail m.persist)
  where
    tail : (t : Bool) → length (cond t (layout (address_row O addrs)) []) ≡ cond t (length addrs * O) 0
    tail true = length-addresses O addrs
    tail false = refl

-- ---- the addresses, one after another

address_snoc : (O : ℕ) (l : List ℕ) (a : ℕ) → address_row O (l ++ (a ∷ [])) ≡ address_row O l ++ (field O a ∷ [])
address_snoc O [] a = refl
address_snoc O (x ∷ l) a = ap (λ (fs : List Field). field O x ∷ fs) (address_snoc O l a)

pub write_step : (p w i : ℕ) (addrs xs : List ℕ) {out : List ℕ} → i < length addrs → out ≡ over p (layout (address_row w (take i addrs))) xs
    → over (p + i * w) (le_bytes w (get_or addrs i 0)) out ≡ over p (layout (address_row w (take (i + 1) addrs))) xs
write_step p w i addrs xs {out} h e =
    let front = address_row w (take i addrs) in
    let k : length (layout front) ≡ i * w = length-addresses w (take i addrs) ∙ ap (λ (n : ℕ). n * w) (length-take-le i addrs (le_of_lt h)) in
    let t : take (i + 1) addrs ≡ take i addrs ++ (get_or addrs i 0 ∷ []) = ap (λ (n : ℕ). take n addrs) (add-one i) ∙ take-suc addrs i 0 h in
    ap₂ (λ (n : ℕ) (l : List ℕ). over (p + n) (le_bytes w (get_or addrs i 0)) l) (sym k) e
    ∙ over_right p (layout front) (le_bytes w (get_or addrs i 0)) xs
    ∙ ap (λ (l : List ℕ). over p l xs)
    (sym (ap (λ (l : List ℕ). layout (address_row w l)) t ∙ ap layout (address_snoc w (take i addrs) (get_or addrs i 0)) ∙ layout_snoc front w (get_or addrs i 0)))

-- ---- `serialize`

module _ (m : FileSpaceInfo) (addrs out : List ℕ) where
  -- what the code writes is the message
  pub both_written : m.persist ≡ true → over 29 (layout (address_row 8 addrs)) (over 0 (layout (row (shape 8 8) (numbers_of m))) out) ≡ over 0 (message_bytes 8 8 m addrs) out
  both_written t =
      let fixed = layout (row (shape 8 8) (numbers_of m)) in
      let n : 29 ≡ 0 + length fixed = omega (arith, length-layout (row (shape 8 8) (numbers_of m))) in
      ap (λ (k : ℕ). over k (layout (address_row 8 addrs)) (over 0 fixed out)) n
      ∙ over_right 0 fixed (layout (address_row 8 addrs)) out
      ∙ ap (λ (l : List ℕ). over 0 l out) (sym (message_parts 8 8 m addrs ∙ rw t))

  pub fixed_written : m.persist ≡ false → over 0 (layout (row (shape 8 8) (numbers_of m))) out ≡ over 0 (message_bytes 8 8 m addrs) out
  fixed_written t = ap (λ (l : List ℕ). over 0 l out) (sym (message_parts 8 8 m addrs ∙ rw t (append-nil _)))

  module _ (n : ℕ) (len : n ≡ 29 + cond m.persist (length addrs * 8) 0) where
    needed : n ≡ length (message_bytes 8 8 m addrs)
    needed = len ∙ sym (length_message 8 8 m addrs)

    pub serialized-over : length out < n → left (refused (OverCapacity n (length out))) out ≡ leaving out (serialized m addrs out)
    unfolding serialized
    serialized-over h = rw needed (ap (leaving out) (refuses _ _ _ (lt-ltb (length out) (length (message_bytes 8 8 m addrs)) (rw needed at h))))

    pub serialized-is : n ≤ length out → left (answer n) (over 0 (message_bytes 8 8 m addrs) out) ≡ leaving out (serialized m addrs out)
    unfolding serialized
    serialized-is h = rw needed (ap (leaving out) (passes _ _ _ (le-ltb (length out) (length (message_bytes 8 8 m addrs)) (rw needed at h))))
