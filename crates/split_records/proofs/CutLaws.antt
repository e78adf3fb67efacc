-- The next piece, where some bytes of a section are cut. Assumes nothing.
use mathlib.Core.Path.{◌≡◌, refl, sym, ap, ap₂, ◌∙◌}
use mathlib.Core.Logic.{⊎_elim}
use Prim.Native.Nat.{ℕ, zero, suc, ◌+◌, ◌-◌, ◌*◌, ◌%◌, ◌^◌, min, ◌≤◌, ◌<◌}
use native.Mathlib.Omega.{arith}
use mathlib.Core.Bool.{false}
use mathlib.Core.List.{List, [], ◌∷◌, ◌++◌}
use lib.Dec.{ltb}
use lib.ListN.{length, drop}
use Rattle.error.proofs.TestLaws.{le-or-lt, or_false}
use Rattle.fields.specs.Ranges.{top}
use Rattle.pairs.proofs.PairLaws.{decode-drop, decode-end}
use Rattle.fsm_sections.specs.declared.FreeSection.{FreeSection}
use Rattle.fsm_sections.specs.Sections.{section, decode, section_at}
use Rattle.fsm_sections.specs.Pages.{end, pieces, split}
use Rattle.fsm_sections.proofs.PagesLaws.{pieces_none}
use Rattle.fsm_sections.specs.Runs.{ends_above}
use Rattle.fsm_pages.proofs.PieceLaws.{left, piece_size, left-more, left-all}
use Rattle.fsm_sections.proofs.RunLaws.{fits-first}
use Rattle.split_records.specs.Records.{cut_off, pieces_left}

-- nothing is cut off
cut-none : (l : List FreeSection) → cut_off 0 l ≡ l
cut-none [] = refl
cut-none (s ∷ l) = let a : s.addr + 0 ≡ s.addr = omega arith in let z : s.size - 0 ≡ s.size = omega arith in ap₂ (λ (x y : ℕ). section x y ∷ l) a z

-- at the start all pieces are left
pub all_left : (xs : List ℕ) (n page : ℕ) → pieces_left page n xs 0 0 ≡ split page (decode n xs)
unfolding pieces_left
all_left xs n page = ap (split page) (cut-none (decode n xs))

-- where no section ends above, none of those after the first i does
fits_after : (i : ℕ) (l : List FreeSection) → ends_above l ≡ false → ends_above (drop i l) ≡ false
fits_after zero l h = h
fits_after (suc i) [] h = h
fits_after (suc i) (s ∷ l) h = fits_after i l (or_false (ltb top (end s)) (ends_above l) h).1

-- the end of section i is a number
pub fits-here : (n : ℕ) (xs : List ℕ) → 2 * n ≤ length xs → ends_above (decode n xs) ≡ false → (i : ℕ) → i < n → (section_at xs i).addr + (section_at xs i).size < 2 ^ 64
fits-here n xs run f i h = (fits-first _ _ _ (decode-drop section n i xs h run) (fits_after i (decode n xs) f)).0

-- where nothing is left of a section, it has no piece
no_piece : (page a z : ℕ) → z ≡ 0 → pieces page (section a z) ≡ []
unfolding pieces
no_piece page a z e = pieces_none z page a (a + z) (omega arith)

-- the first piece of what is left of a section, in front of the others
first_piece : (page a z d s : ℕ) → 0 < page → d < s → z ≡ min (s - d) (page - (a + d) % page)
    → pieces page (section (a + d) (s - d)) ≡ section (a + d) z ∷ pieces page (section (a + (d + z)) (s - (d + z)))
first_piece page a z d s p h e =
    let b = a + d in
    let t = s - d in
    let f : b + t - b ≡ t = omega arith in
    let q : z ≡ piece_size page b (b + t) = e ∙ ap (λ (x : ℕ). min x (page - b % page)) (sym f) in
    let g : a + (d + z) ≡ b + z = omega arith in
    let u : b + z + (s - (d + z)) ≡ b + t = omega arith in
    sym (left-all page b t)
    ∙ left-more page b (b + t) p (omega arith)
    ∙ sym (ap (λ (x : ℕ). section b x ∷ left page (b + x) (b + t)) q)
    ∙ sym (ap (λ (x : ℕ). section b z ∷ left page (b + z) x) u)
    ∙ ap (λ (l : List FreeSection). section b z ∷ l) (left-all page (b + z) (s - (d + z)))
    ∙ sym (ap (λ (x : ℕ). section b z ∷ pieces page (section x (s - (d + z)))) g)

module _ (page n : ℕ) (xs : List ℕ) (run : 2 * n ≤ length xs) where
  abbrev rest : ℕ → ℕ → List FreeSection
  rest = pieces_left page n xs

  -- while pieces are left, so is a section
  pub within : (i d : ℕ) → 0 < length (rest i d) → i < n
  unfolding pieces_left split
  within i d h = ⊎_elim none (λ (l : i < n). l) (le-or-lt n i)
    where
      none : n ≤ i → i < n
      none l = let e : length (rest i d) ≡ 0 = ap (λ (m : List FreeSection). length (split page (cut_off d m))) (decode-end section n i xs l run) in absurd (omega arith)

  opened : (i d : ℕ) → i < n → rest i d ≡ pieces page (section ((section_at xs i).addr + d) ((section_at xs i).size - d)) ++ split page (drop (i + 1) (decode n xs))
  unfolding pieces_left split
  opened i d h = ap (λ (m : List FreeSection). split page (cut_off d m)) (decode-drop section n i xs h run)

  -- a section that is cut whole is passed over
  pub skip : (i d : ℕ) → i < n → (section_at xs i).size ≤ d → rest i d ≡ rest (i + 1) 0
  unfolding pieces_left
  skip i d h o =
      let s = section_at xs i in
      let m = drop (i + 1) (decode n xs) in
      opened i d h
      ∙ ap (λ (l : List FreeSection). l ++ split page m) (no_piece page (s.addr + d) (s.size - d) (omega arith))
      ∙ sym (ap (split page) (cut-none m))

  pub cut : 0 < page → (i d z : ℕ) → i < n → d < (section_at xs i).size → z ≡ min ((section_at xs i).size - d) (page - ((section_at xs i).addr + d) % page)
      → rest i d ≡ section ((section_at xs i).addr + d) z ∷ rest i (d + z)
  cut p i d z h o e =
      let s = section_at xs i in
      opened i d h
      ∙ ap (λ (l : List FreeSection). l ++ split page (drop (i + 1) (decode n xs))) (first_piece page s.addr z d s.size p o e)
      ∙ ap (λ (l : List FreeSection). section (s.addr + d) z ∷ l) (sym (opened i (d + z) h))
