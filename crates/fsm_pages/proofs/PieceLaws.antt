-- How many pieces a section has, and how they are put one by one. Assumes nothing.
use mathlib.Core.Path.{◌≡◌, refl, sym, ap, ap₂, ◌∙◌}
use mathlib.Core.Logic.{⊎_elim}
use Prim.Native.Nat.{ℕ, zero, suc, ◌+◌, ◌-◌, ◌*◌, ◌/◌, ◌%◌, min, ◌≤◌, ◌<◌}
use native.Mathlib.Nat.{mod-lt, mul-mod_left, div-add-mod', div-eq_of_lt, mul-add-div_right, le-div_iff_mul-le, div-lt_iff_lt-mul, div-mul-le_self, mul-div_cancel}
use native.Mathlib.Omega.{arith}
use mathlib.Core.List.{List, [], ◌∷◌}
use lib.ListN.{length}
use Rattle.error.specs.Lent.{over}
use Rattle.error.proofs.OverLaws.{length_over, over-nil, over_right}
use Rattle.fsm_sections.specs.declared.FreeSection.{FreeSection}
use Rattle.fsm_sections.specs.Sections.{section, flat}
use Rattle.fsm_sections.specs.Pages.{page_end, cut_at, pieces_from, pieces}
use Rattle.fsm_sections.proofs.PagesLaws.{page-end-above, pieces_none, pieces_more, below_or_not}

-- ---- the number of pieces

div_mono : (a b page : ℕ) → 0 < page → a ≤ b → a / page ≤ b / page
div_mono a b page p h = (le-div_iff_mul-le {k = page} {x = a / page} {y = b} p).1 (omega (arith, div-mul-le_self a page))

-- one for each page that is touched
count-from : (fuel page a e : ℕ) → 0 < page → e ≤ a + fuel → a < e → length (pieces_from fuel page a e) ≡ (e - 1) / page - a / page + 1
count-from zero page a e p h l = absurd (omega arith)
count-from (suc fuel) page a e p h l =
    ap length (pieces_more fuel page a e l) ∙ ⊎_elim (more (count-from fuel page (page_end page a) e p)) last (below_or_not (page_end page a) e)
  where
    rest : List FreeSection
    rest = pieces_from fuel page (cut_at page a e) e

    more : (e ≤ page_end page a + fuel → page_end page a < e → length (pieces_from fuel page (page_end page a) e) ≡ (e - 1) / page - page_end page a / page + 1)
        → page_end page a < e → length (section a (cut_at page a e - a) ∷ rest) ≡ (e - 1) / page - a / page + 1
    more ih k =
        let z : cut_at page a e ≡ page_end page a = omega arith in
        let q : a < page_end page a = page-end-above page a p in
        let d : page_end page a / page ≡ suc (a / page) = mul-div_cancel (suc (a / page)) p in
        let m : page_end page a / page ≤ (e - 1) / page = div_mono (page_end page a) (e - 1) page p (omega arith) in
        let i : length (pieces_from fuel page (page_end page a) e) ≡ (e - 1) / page - page_end page a / page + 1 = ih (omega arith) k in
        let j : length rest ≡ length (pieces_from fuel page (page_end page a) e) = ap (λ (x : ℕ). length (pieces_from fuel page x e)) z in
        omega arith

    last : e ≤ page_end page a → length (section a (cut_at page a e - a) ∷ rest) ≡ (e - 1) / page - a / page + 1
    last k =
        let z : cut_at page a e ≡ e = omega arith in
        let j : length rest ≡ 0 = ap (λ (x : ℕ). length (pieces_from fuel page x e)) z ∙ ap length (pieces_none fuel page e e (omega arith)) in
        let m : a / page ≤ (e - 1) / page = div_mono a (e - 1) page p (omega arith) in
        let n : (e - 1) / page < suc (a / page) = (div-lt_iff_lt-mul {k = page} {x = e - 1} {y = suc (a / page)} p).1 (omega arith) in
        omega arith

-- how many pieces come after the first
abbrev pub pieces_after : ℕ → ℕ → ℕ → ℕ
pieces_after page addr size = length (pieces page (section addr size)) - 1

module _ (page addr size : ℕ) (p : 0 < page) where
  empty : size ≡ 0 → length (pieces page (section addr size)) ≡ 0
  unfolding pieces
  empty z = ap length (pieces_none size page addr (addr + size) (omega arith))

  -- one for each page that is touched
  some : (size ≡ 0 → ⊥) → length (pieces page (section addr size)) ≡ (addr + (size - 1)) / page - addr / page + 1
  unfolding pieces
  some h =
      let e : addr + size - 1 ≡ addr + (size - 1) = omega arith in
      count-from size page addr (addr + size) p (omega arith) (omega arith) ∙ ap (λ (x : ℕ). x / page - addr / page + 1) e

  pub pieces_number : length (pieces page (section addr size)) ≡ min size 1 + pieces_after page addr size
  pieces_number = ⊎_elim (λ (x : 0 < size). omega (arith, some (λ e. omega arith))) (λ (x : size ≤ 0). omega (arith, empty (omega arith))) (below_or_not 0 size)

  pub none_after : size ≤ page - addr % page → pieces_after page addr size ≡ 0
  none_after h = ⊎_elim one (λ (x : size ≤ 0). omega (arith, empty (omega arith))) (below_or_not 0 size)
    where
      one : 0 < size → pieces_after page addr size ≡ 0
      one x =
          let e : addr + (size - 1) ≡ addr / page * page + (addr % page + (size - 1)) = omega (arith, div-add-mod' addr page) in
          let z : (addr % page + (size - 1)) / page ≡ 0 = div-eq_of_lt (omega (arith, mod-lt addr p)) in
          let q : (addr + (size - 1)) / page ≡ addr / page + (addr % page + (size - 1)) / page = ap (λ (n : ℕ). n / page) e ∙ mul-add-div_right p (addr / page) (addr % page + (size - 1)) in
          omega (arith, some (λ e. omega arith))

  -- those after the first page multiple
  pub after-some : page - addr % page < size → pieces_after page addr size ≡ 1 + (size - (page - addr % page) - 1) / page
  after-some h =
      let d = size - (page - addr % page) - 1 in
      let e : addr + (size - 1) ≡ (addr / page + 1) * page + d = omega (arith, div-add-mod' addr page, mod-lt addr p) in
      let q : (addr + (size - 1)) / page ≡ addr / page + 1 + d / page = ap (λ (n : ℕ). n / page) e ∙ mul-add-div_right p (addr / page + 1) d in
      omega (arith, some (λ e. omega arith))

-- ---- a piece is put

-- more fuel than bytes gives no other pieces
fuel_free : (f g page a e : ℕ) → 0 < page → e ≤ a + f → e ≤ a + g → pieces_from f page a e ≡ pieces_from g page a e
unfolding pieces_from
fuel_free zero g page a e p h k = sym (pieces_none g page a e (omega arith))
fuel_free (suc f) zero page a e p h k = pieces_none (suc f) page a e (omega arith)
fuel_free (suc f) (suc g) page a e p h k = ⊎_elim (more (fuel_free f g page (cut_at page a e) e p)) none (below_or_not a e)
  where
    none : e ≤ a → pieces_from (suc f) page a e ≡ pieces_from (suc g) page a e
    none l = pieces_none (suc f) page a e l ∙ sym (pieces_none (suc g) page a e l)

    more : (e ≤ cut_at page a e + f → e ≤ cut_at page a e + g → pieces_from f page (cut_at page a e) e ≡ pieces_from g page (cut_at page a e) e) → a < e → pieces_from (suc f) page a e ≡ pieces_from (suc g) page a e
    more ih l =
        let q : a < page_end page a = page-end-above page a p in
        pieces_more f page a e l
        ∙ ap (λ (m : List FreeSection). section a (cut_at page a e - a) ∷ m) (ih (omega arith) (omega arith))
        ∙ sym (pieces_more g page a e l)

-- the pieces of the bytes from a up to e
abbrev pub left : ℕ → ℕ → ℕ → List FreeSection
left page a e = pieces_from (e - a) page a e

-- the size of the first piece, as the code has it
abbrev pub piece_size : ℕ → ℕ → ℕ → ℕ
piece_size page a e = min (e - a) (page - a % page)

min_shift : (a e d : ℕ) → a < e → min e (a + d) ≡ a + min (e - a) d
min_shift a e d l = omega arith

-- the next page multiple, as far as it is away
page-end-at : (page a : ℕ) → 0 < page → page_end page a ≡ a + (page - a % page)
page-end-at page a p = omega (arith, div-add-mod' a page, mod-lt a p)

module _ (page a e : ℕ) (p : 0 < page) (l : a < e) where
  pub piece-some : 0 < piece_size page a e
  piece-some = omega (arith, mod-lt a p)

  back : (c z : ℕ) → c ≡ a + z → c - a ≡ z
  back c z e = omega arith

  up_to : (x : ℕ) → e ≤ x + (e - x)
  up_to x = omega arith

  enough : (z : ℕ) → 0 < z → e ≤ a + z + (e - a - 1)
  enough z s = omega arith

  pub left-more : left page a e ≡ section a (piece_size page a e) ∷ left page (a + piece_size page a e) e
  left-more =
      let z = piece_size page a e in
      let f : e - a ≡ suc (e - a - 1) = omega arith in
      let c : cut_at page a e ≡ a + z = ap (min e) (page-end-at page a p) ∙ min_shift a e (page - a % page) l in
      let d : cut_at page a e - a ≡ z = back (cut_at page a e) z c in
      let s : 0 < z = piece-some in
      ap (λ (n : ℕ). pieces_from n page a e) f
      ∙ pieces_more (e - a - 1) page a e l
      ∙ ap₂ (λ (n : ℕ) (m : List FreeSection). section a n ∷ m) d
      (ap (λ (x : ℕ). pieces_from (e - a - 1) page x e) c ∙ fuel_free (e - a - 1) (e - (a + z)) page (a + z) e p (enough z s) (up_to (a + z)))

pub left-all : (page addr size : ℕ) → left page addr (addr + size) ≡ pieces page (section addr size)
unfolding pieces
left-all page addr size = let e : addr + size - addr ≡ size = omega arith in ap (λ (n : ℕ). pieces_from n page addr (addr + size)) e

-- at the head of the loop: what is left to put gives the run that is to be
pub record Cutting (page addr end from : ℕ) (out₀ out : List ℕ) (a k : ℕ) : Type 0 where
  pub within : a ≤ end
  pub number : k + 2 * length (left page a end) ≡ from + 2 * length (left page addr end)
  pub same_length : length out ≡ length out₀
  pub same : over k (flat (left page a end)) out ≡ over from (flat (left page addr end)) out₀

module _ (page addr end from : ℕ) (out₀ : List ℕ) (p : 0 < page) (room : from + 2 * length (left page addr end) ≤ length out₀) where
  pub cut-start : addr ≤ end → Cutting page addr end from out₀ out₀ addr from
  cut-start h = record { within = h; number = refl; same_length = refl; same = refl }

  module _ (out : List ℕ) (a k : ℕ) (now : Cutting page addr end from out₀ out a k) where
    module _ (l : a < end) where
      longer : length (left page a end) ≡ suc (length (left page (a + piece_size page a end) end))
      longer = ap length (left-more page a end p l)

      pub cut-room : k + 2 ≤ length out
      cut-room = omega (arith, longer, now.number, now.same_length)

      pub cut_step : (z : ℕ) → z ≡ piece_size page a end → (out' : List ℕ) → out' ≡ over k (a ∷ z ∷ []) out → Cutting page addr end from out₀ out' (a + z) (k + 2)
      cut_step z e out' o =
          let rest = left page (a + z) end in
          let q : left page a end ≡ section a z ∷ rest = left-more page a end p l ∙ ap (λ (n : ℕ). section a n ∷ left page (a + n) end) (sym e) in
          let n : length (left page a end) ≡ suc (length rest) = ap length q in
          record {
            within = omega arith;
            number = omega (arith, now.number);
            same_length = ap length o ∙ length_over k (a ∷ z ∷ []) out ∙ now.same_length;
            same =
                ap (over (k + 2) (flat rest)) o
                ∙ over_right k (a ∷ z ∷ []) (flat rest) out
                ∙ sym (ap (λ (m : List FreeSection). over k (flat m) out) q)
                ∙ now.same;
          }

    module _ (h : end ≤ a) where
      none : left page a end ≡ []
      none = pieces_none (end - a) page a end h

      pub cut_end : out ≡ over from (flat (left page addr end)) out₀
      cut_end = sym (over-nil k out) ∙ sym (ap (λ (m : List FreeSection). over k (flat m) out) none) ∙ now.same

      pub cut-place : k ≡ from + 2 * length (left page addr end)
      cut-place = let z : length (left page a end) ≡ 0 = ap length none in omega (arith, now.number)

-- the same, with what is left of the section and the room up to the next page multiple
pub record Walking (page addr end from : ℕ) (out₀ out : List ℕ) (a rest room k : ℕ) : Type 0 where
  pub cut : Cutting page addr end from out₀ out a k
  pub ends : a + rest ≡ end
  pub next : room ≡ page - a % page

module _ (page addr size from : ℕ) (out₀ : List ℕ) (p : 0 < page) (room₀ : from + 2 * length (pieces page (section addr size)) ≤ length out₀) where
  enough-room : from + 2 * length (left page addr (addr + size)) ≤ length out₀
  enough-room = omega (arith, ap length (left-all page addr size))

  -- all of them are put
  abbrev Done : List ℕ → ℕ → Type 0
  Done out j = (out ≡ over from (flat (pieces page (section addr size))) out₀) × (j ≡ from + 2 * length (pieces page (section addr size)))

  finished : (out : List ℕ) (j b : ℕ) → Cutting page addr (addr + size) from out₀ out b j → addr + size ≤ b → Done out j
  finished out j b w h =
      let e = left-all page addr size in (
        cut_end page addr (addr + size) from out₀ p enough-room out b j w h ∙ ap (λ (m : List FreeSection). over from (flat m) out₀) e,
        cut-place page addr (addr + size) from out₀ p enough-room out b j w h ∙ ap (λ (m : List FreeSection). from + 2 * length m) e,
      )

  pub walk_start : (room : ℕ) → room ≡ page - addr % page → Walking page addr (addr + size) from out₀ out₀ addr size room from
  walk_start room e = record { cut = cut-start page addr (addr + size) from out₀ p enough-room (omega arith); ends = refl; next = e }

  module _ (out : List ℕ) (a rest room k : ℕ) (now : Walking page addr (addr + size) from out₀ out a rest room k) where
    pub room-some : 0 < room
    room-some = omega (arith, now.next, mod-lt a p)

    pub walk-room : 0 < rest → k + 2 ≤ length out
    walk-room h = cut-room page addr (addr + size) from out₀ p enough-room out a k now.cut (omega (arith, now.ends))

    at-multiple : (a + room) % page ≡ 0
    at-multiple = ap (λ (n : ℕ). n % page) (ap (λ (n : ℕ). a + n) now.next ∙ sym (page-end-at page a p)) ∙ mul-mod_left (suc (a / page)) page

    pub walk_step : room < rest → (out' : List ℕ) → out' ≡ over k (a ∷ room ∷ []) out → Walking page addr (addr + size) from out₀ out' (a + room) (rest - room) page (k + 2)
    walk_step h out' o = record {
      cut = cut_step page addr (addr + size) from out₀ p enough-room out a k now.cut (omega (arith, now.ends)) room (omega (arith, now.ends, now.next)) out' o;
      ends = omega (arith, now.ends);
      next = omega (arith, at-multiple);
    }

    pub walk_none : rest ≡ 0 → Done out k
    walk_none h = finished out k a now.cut (omega (arith, now.ends))

    pub walk-last : rest ≤ room → (rest ≡ 0 → ⊥) → (out' : List ℕ) → out' ≡ over k (a ∷ rest ∷ []) out → Done out' (k + 2)
    walk-last h s out' o =
        finished out' (k + 2) (a + rest)
        (cut_step page addr (addr + size) from out₀ p enough-room out a k now.cut (omega (arith, now.ends)) rest (omega (arith, now.ends, now.next)) out' o)
        (omega (arith, now.ends))
