-- The length of a section list and of both blocks, and what a callee leaves of a part of lent bytes. Assumes nothing.
use mathlib.Core.Path.{◌≡◌, refl, sym, ap, ◌∙◌}
use mathlib.Core.Logic.{⊎_elim}
use Prim.Native.Nat.{ℕ, zero, suc, ◌+◌, ◌-◌, ◌*◌, ◌/◌, ◌^◌, ◌≤◌, ◌<◌}
use native.Mathlib.Nat.{mul-le-mul}
use native.Mathlib.Omega.{arith}
use mathlib.Core.List.{List, [], ◌∷◌, ◌++◌, append-nil}
use lib.ListN.{length, take, drop, length-drop, drop_of_length-le}
use lib.Seq.{take_all}
use borrow.Author.Tests.{ne_eqb}
use Rattle.error.specs.declared.Refusal.TheVariants.{Overflow}
use Rattle.error.specs.Outcome.{refused}
use Rattle.error.specs.Lent.{over}
use Rattle.error.proofs.TestLaws.{le-or-lt}
use Rattle.fields.specs.Ranges.{top}
use Rattle.fields.specs.Width.{enc_size, least_from}
use Rattle.fields.proofs.WidthLaws.{enc_size-least}
use Rattle.fsm_sections.specs.declared.FreeSection.{FreeSection}
use Rattle.fsm_sections.specs.Sections.{distinct}
use Rattle.fsm_sections.specs.Passes.{storable}
use Rattle.fsm_sections.proofs.StoredLaws.{too_great}
use Rattle.fsm_blocks.specs.Fsse.{size_by}
use Rattle.fsm_blocks.specs.Groups.{Widths}
use Rattle.fsm_blocks.specs.Settings.{starting_set, widths_for, used_by, fsse_used, blocks_size}

-- ---- the widths of the starting settings

pub width_small : (v : ℕ) → v < 2 ^ 64 → enc_size v ≤ 8
width_small v h = (enc_size-least v h).least 8 (omega arith) (omega arith)

abbrev pub starting_widths : ℕ → ℕ → Widths
starting_widths cw o = record { counts = cw; sizes = 8; addresses = o }

pub widths_are : (o n : ℕ) → widths_for o (starting_set o) n ≡ starting_widths (enc_size n) o
unfolding enc_size least_from
widths_are o n = let e : (8 * o - 1 + 7) / 8 ≡ o = omega arith in ap (λ (m : ℕ). starting_widths (enc_size n) m) e

pub used_by_lem : (o n d : ℕ) → used_by o (starting_set o) n d ≡ 9 + o + d * (enc_size n + 8) + n * (o + 1)
used_by_lem o n d = ap (λ (w : Widths). size_by w o n d) (widths_are o n)

module _ (o n d cw : ℕ) (ce : cw ≡ enc_size n) where
  groups_are : d * (cw + 8) ≡ d * (enc_size n + 8)
  groups_are = ap (λ (k : ℕ). d * (k + 8)) ce

  pub groups_over : top < 9 + o + d * (cw + 8) → refused Overflow ≡ storable (used_by o (starting_set o) n d)
  groups_over h = too_great (used_by o (starting_set o) n d) (omega (arith, groups_are, used_by_lem o n d))

  pub groups_in : (g : ℕ) → g ≡ 9 + o + d * (cw + 8) → storable (g + n * (o + 1)) ≡ storable (used_by o (starting_set o) n d)
  groups_in g e = ap storable (ap (λ (k : ℕ). k + n * (o + 1)) (e ∙ ap (λ (k : ℕ). 9 + o + k) groups_are) ∙ sym (used_by_lem o n d))

-- ---- the length of both blocks

module _ (O : ℕ) (l : List FreeSection) (some : length l ≡ 0 → ⊥) where
  pub size-some : blocks_size O l ≡ 74 + O + fsse_used O (starting_set O) l
  size-some = rw (ne_eqb (length l) 0 some)

  pub size-least : 83 + 2 * O + length l ≤ blocks_size O l
  size-least =
      let k : 1 ≤ O + 1 = omega arith in
      let r : length l ≤ length l = omega arith in
      omega (arith, size-some, used_by_lem O (length l) (distinct l), mul-le-mul r k)

pub size-length : (O : ℕ) (l : List FreeSection) → length l ≤ blocks_size O l
size-length O l = ⊎_elim (λ (p : length l ≤ 0). omega arith) (λ (p : 0 < length l). omega (arith, size-least O l (λ z. omega arith))) (le-or-lt (length l) 0)

-- ---- what a callee left of a part that begins at i

over_part : (i : ℕ) (vs xs : List ℕ) → take i xs ++ over 0 vs (drop i xs) ≡ over i vs xs
over_part zero vs xs = refl
over_part (suc i) vs [] = refl
over_part (suc i) vs (x ∷ xs) = ap (λ (l : List ℕ). x ∷ l) (over_part i vs xs)

part_lent : (d : List ℕ) (i : ℕ) → take (length d - i) (drop i d) ≡ drop i d
part_lent d i = take_all (length d - i) (drop i d) (omega (arith, length-drop i d))

pub part_room : (d : List ℕ) (i n : ℕ) → i + n ≤ length d → n ≤ length (take (length d - i) (drop i d))
part_room d i n h = rw (part_lent d i) (omega (arith, length-drop i d))

pub part_back : (d ys u : List ℕ) (i : ℕ) → ys ≡ over 0 u (take (length d - i) (drop i d)) → take i d ++ (ys ++ drop (length d - i) (drop i d)) ≡ over i u d
part_back d ys u i e =
    let z : drop (length d - i) (drop i d) ≡ [] = drop_of_length-le (drop i d) {i = length d - i} (omega (arith, length-drop i d)) in
    rw (z, append-nil ys) (ap (λ (x : List ℕ). take i d ++ x) (e ∙ rw (part_lent d i)) ∙ over_part i u d)
