-- How many bytes a listing takes at the most. Assumes nothing.
use mathlib.Core.Bool.{Bool, true, false, cond}
use mathlib.Core.List.{List, [], ◌∷◌, ◌++◌}
use mathlib.Core.Logic.{⊎_elim}
use Prim.Native.Nat.{ℕ, zero, suc, ◌+◌, ◌*◌, ◌/◌, ◌%◌, ◌≤◌, ◌<◌}
use native.Mathlib.Omega.{arith}
use lib.Dec.{ltb}
use lib.ListN.{length, length-append}
use Rattle.error.proofs.TestLaws.{le-or-lt}
use Rattle.text.specs.Decimal.{digit, digits, decimal}
use Rattle.text.proofs.DecimalLaws.{length-one, length_more}
use Rattle.fsm_sections.specs.declared.FreeSection.{FreeSection}
use Rattle.text.specs.Text.{word}
use Rattle.holes_text.specs.Listing.{row_text, slot_text, refused_line, refused_text}

-- ---- numbers

length_digits : (f n : ℕ) → length (digits f n) ≤ f + 1
unfolding digits
length_digits zero n = omega arith
length_digits (suc f) n = pick (ltb n 10) (length_digits f (n / 10))
  where
    pick : (b : Bool) → length (digits f (n / 10)) ≤ f + 1 → length (cond b (digit n ∷ []) (digits f (n / 10) ++ (digit (n % 10) ∷ []))) ≤ suc f + 1
    pick true h = omega arith
    pick false h = omega (arith, length-append (digits f (n / 10)) (digit (n % 10) ∷ []))

word-at_most : (n stop : ℕ) → length (word n stop) ≤ 21
unfolding decimal
word-at_most n stop = omega (arith, length-append (decimal n) (stop ∷ []), length_digits 19 n)

-- two digits
short-word : (n stop : ℕ) → n < 100 → length (word n stop) ≤ 3
unfolding decimal
short-word n stop h =
    let a = length-append (decimal n) (stop ∷ []) in
    ⊎_elim
    (λ (q : n ≤ 9). omega (arith, length-one 19 n q))
    (λ (q : 9 < n).
    let t : n / 10 ≤ 9 = omega arith in
    omega (arith, length_more 18 n q, length-one 18 (n / 10) t))
    (le-or-lt n 9)

-- ---- lines

row-at_most : (i : ℕ) (s : FreeSection) → i < 100 → length (row_text i s) ≤ 45
row-at_most i s h =
    let v = word s.addr 32 in
    let w = word s.size 10 in
    omega (arith, length-append (word i 32) (v ++ w), length-append v w, short-word i 32 h, word-at_most s.addr 32, word-at_most s.size 10)

pub slot-at_most : (i : ℕ) (l : List FreeSection) → i < 100 → length (slot_text i l) ≤ 45 * length l
unfolding slot_text
slot-at_most i [] h = omega arith
slot-at_most i (s ∷ l) h =
    omega (arith, length-append (row_text i s) (slot_text i l), row-at_most i s h, slot-at_most i l h)

pub refused-at_most : (n : ℕ) → length (refused_text n) ≤ 29
unfolding refused_text
refused-at_most n = omega (arith, length-append refused_line (word n 10), word-at_most n 10)
