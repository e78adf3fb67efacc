-- Laws of pieces: each byte of a region is in one piece, a piece is at most a page, and pieces in closed form. Assumes nothing.
use Rattle.std.proofs.Common.{◌≡◌, ℕ, zero, suc, ◌+◌, ◌-◌, ◌*◌, ◌/◌, ◌%◌, ◌<◌, ◌≤◌, min, Bool, true, false, cond, ◌&&◌, eqb, ltb, leb, ◌⊎◌, List, [], ◌∷◌, ◌++◌, sym, refl, ap, ◌∙◌, ap₂, inl, inr, ⊎_elim, mod-lt, mod-eq_of_lt, div-add-mod', mul-div_cancel, add-one, arith, ltb-false, ltb-true, le-ltb, lt-ltb, ne_eqb, eqb-true, le-leb}
use native.Mathlib.Nat.{lt-div-mul-add, div-eq_of_lt, div-eq-sub-div, mod-eq-sub-mod, add-div_right, zero-div, zero-mod}
use borrow.Author.Tests.{eqb-false, lt-leb}
use Rattle.error.proofs.TestLaws.{le-or-lt}
use Rattle.fsm_sections.specs.declared.FreeSection.{FreeSection}
use Rattle.fsm_sections.specs.Sections.{section, All}
use Rattle.fsm_sections.specs.Pages.{end, page_end, cut_at, pieces_from, pieces, split, below_page, from_page, slot0, slot2, slot6, among, holding}
use Rattle.fsm_sections.specs.Chains.{chain}
use Rattle.fsm_sections.specs.Sources.{pad, head_size, body_size}

-- ---- a cut
pub page-end-above : (page a : ℕ) → 0 < page → a < page_end page a
page-end-above page a p = omega (arith, lt-div-mul-add {a = a} {b = page} p)

pub page-end_near : (page a : ℕ) → page_end page a ≤ a + page
page-end_near page a = omega (arith, div-add-mod' a page)

-- ---- bytes
pub among_in : (a e b : ℕ) → a ≤ b → b < e → among a e b ≡ 1
unfolding among
among_in a e b h k = rw (le-leb a b h, lt-ltb b e k)

pub among-low : (a e b : ℕ) → b < a → among a e b ≡ 0
unfolding among
among-low a e b h = rw (lt-leb a b h)

pub among-high : (a e b : ℕ) → e ≤ b → among a e b ≡ 0
unfolding among
among-high a e b h = rw (le-ltb b e h) (pick (leb a b))
  where
    pick : (t : Bool) → ◌≡◌ {A = ℕ} (cond (t && false) 1 0) 0
    pick true = refl
    pick false = refl

-- the other way round than `le-or-lt`
pub below_or_not : (a b : ℕ) → (a < b) ⊎ (b ≤ a)
below_or_not a b = ⊎_elim inr inl (le-or-lt b a)

pub among-split : (a m e b : ℕ) → a ≤ m → m ≤ e → among a m b + among m e b ≡ among a e b
among-split a m e b h k =
    ⊎_elim
    (λ (x : b < m). ⊎_elim
    (λ (y : b < a). omega (arith, among-low a m b y, among-low m e b x, among-low a e b y))
    (λ (y : a ≤ b). omega (arith, among_in a m b y x, among-low m e b x, among_in a e b y (omega arith)))
    (below_or_not b a))
    (λ (x : m ≤ b). ⊎_elim
    (λ (y : b < e). omega (arith, among-high a m b x, among_in m e b x y, among_in a e b (omega arith) y))
    (λ (y : e ≤ b). omega (arith, among-high a m b x, among-high m e b y, among-high a e b y))
    (below_or_not b e))
    (below_or_not b m)

pub among_none : (a e b : ℕ) → e ≤ a → among a e b ≡ 0
among_none a e b h = ⊎_elim (λ (x : b < a). among-low a e b x) (λ (x : a ≤ b). among-high a e b (omega arith)) (below_or_not b a)

-- each byte is in one piece
pub holding-from : (fuel page a e b : ℕ) → 0 < page → e ≤ a + fuel → holding b (pieces_from fuel page a e) ≡ among a e b
unfolding pieces_from holding
holding-from zero page a e b p h = sym (among_none a e b (omega arith))
holding-from (suc fuel) page a e b p h = pick (ltb a e) (ltb-true a e) (ltb-false a e) (holding-from fuel page (cut_at page a e) e b p)
  where
    pick : (t : Bool) → (t ≡ true → a < e) → (t ≡ false → e ≤ a) → (e ≤ cut_at page a e + fuel → holding b (pieces_from fuel page (cut_at page a e) e) ≡ among (cut_at page a e) e b)
        → holding b (cond t (section a (cut_at page a e - a) ∷ pieces_from fuel page (cut_at page a e) e) []) ≡ among a e b
    pick true f g ih =
        let l : a < e = f refl in
        let q : a < page_end page a = page-end-above page a p in
        let m : a < cut_at page a e = omega arith in
        let n : cut_at page a e ≤ e = omega arith in
        let z : a + (cut_at page a e - a) ≡ cut_at page a e = omega arith in
        rw (z, ih (omega arith)) (among-split a (cut_at page a e) e b (omega arith) n)
    pick false f g ih = sym (among_none a e b (g refl))

pub holding-pieces : (page : ℕ) (r : FreeSection) (b : ℕ) → 0 < page → holding b (pieces page r) ≡ among r.addr (end r) b
unfolding pieces
holding-pieces page r b p = holding-from r.size page r.addr (end r) b p (omega arith)

-- each piece has a byte, and no more than a page
pub record Piece (page : ℕ) (s : FreeSection) : Type 0 where
  pub some : 0 < s.size
  pub within : s.size ≤ page

pub pieces-from : (fuel page a e : ℕ) → 0 < page → All (Piece page) (pieces_from fuel page a e)
unfolding pieces_from
pieces-from zero page a e p = tt
pieces-from (suc fuel) page a e p = pick (ltb a e) (ltb-true a e) (pieces-from fuel page (cut_at page a e) e p)
  where
    pick : (t : Bool) → (t ≡ true → a < e) → All (Piece page) (pieces_from fuel page (cut_at page a e) e)
        → All (Piece page) (cond t (section a (cut_at page a e - a) ∷ pieces_from fuel page (cut_at page a e) e) [])
    pick true f ih =
        let l : a < e = f refl in
        let q : a < page_end page a = page-end-above page a p in
        let n : page_end page a ≤ a + page = page-end_near page a in
        (record { some = omega arith; within = omega arith }, ih)
    pick false f ih = tt

pub pieces-all : (page : ℕ) (r : FreeSection) → 0 < page → All (Piece page) (pieces page r)
unfolding pieces
pieces-all page r p = pieces-from r.size page r.addr (end r) p

-- ---- holding, over lists
pub holding-append : (b : ℕ) (l m : List FreeSection) → holding b (l ++ m) ≡ holding b l + holding b m
unfolding holding
holding-append b [] m = omega arith
holding-append b (x ∷ l) m = omega (arith, holding-append b l m)

pub holding-split : (page : ℕ) (rs : List FreeSection) (b : ℕ) → 0 < page → holding b (split page rs) ≡ holding b rs
unfolding split holding
holding-split page [] b p = refl
holding-split page (r ∷ rs) b p = holding-append b (pieces page r) (split page rs) ∙ ap₂ (λ (m n : ℕ). m + n) (holding-pieces page r b p) (holding-split page rs b p)

pub holding_parts : (page : ℕ) (l : List FreeSection) (b : ℕ) → holding b (below_page page l) + holding b (from_page page l) ≡ holding b l
unfolding holding below_page from_page
holding_parts page [] b = refl
holding_parts page (s ∷ l) b = pick (ltb s.size page) (holding_parts page l b)
  where
    pick : (t : Bool) → holding b (below_page page l) + holding b (from_page page l) ≡ holding b l
        → holding b (cond t (s ∷ below_page page l) (below_page page l)) + holding b (cond t (from_page page l) (s ∷ from_page page l)) ≡ among s.addr (end s) b + holding b l
    pick true ih = omega arith
    pick false ih = omega arith

-- the three slots hold a byte as often as the three lists do
pub slots_hold : (page : ℕ) (meta raw uncl : List FreeSection) (b : ℕ) → 0 < page
    → holding b (slot0 page meta) + (holding b (slot2 page raw) + holding b (slot6 page meta raw uncl)) ≡ holding b meta + (holding b raw + holding b uncl)
slots_hold page meta raw uncl b p =
    omega (
      arith,
      holding_parts page (split page meta) b,
      holding_parts page (split page raw) b,
      holding-split page meta b p,
      holding-split page raw b p,
      holding-append b (from_page page (split page meta)) (from_page page (split page raw) ++ uncl),
      holding-append b (from_page page (split page raw)) uncl,
    )

-- at most one section of all slots holds a byte that at most one region of the lists holds
pub slots-once : (page : ℕ) (meta raw uncl : List FreeSection) (b : ℕ) → 0 < page → holding b meta + (holding b raw + holding b uncl) ≤ 1
    → holding b (slot0 page meta) + (holding b (slot2 page raw) + holding b (slot6 page meta raw uncl)) ≤ 1
slots-once page meta raw uncl b p h = omega (arith, slots_hold page meta raw uncl b p)

-- ---- the closed form
-- whole pages from a on, and what is left after them
closed : ℕ → ℕ → ℕ → ℕ → List FreeSection
closed page a c t = chain a page c ++ chain (a + c * page) t (cond (eqb t 0) 0 1)

closed_none : (page a : ℕ) → closed page a 0 0 ≡ []
unfolding closed chain
closed_none page a = refl

closed_part : (page a t : ℕ) → 0 < t → closed page a 0 t ≡ section a t ∷ []
unfolding closed chain
closed_part page a t h = let z : a + 0 * page ≡ a = omega arith in rw (z, ne_eqb t 0 (λ e. omega arith))

closed_suc : (page a c t : ℕ) → closed page a (suc c) t ≡ section a page ∷ closed page (a + page) c t
unfolding closed chain
closed_suc page a c t = let z : a + suc c * page ≡ a + page + c * page = omega arith in rw z

pub pieces_none : (fuel page a e : ℕ) → e ≤ a → pieces_from fuel page a e ≡ []
unfolding pieces_from
pieces_none zero page a e h = refl
pieces_none (suc fuel) page a e h = rw (le-ltb a e h)

-- one piece, and the others
pub pieces_more : (fuel page a e : ℕ) → a < e → pieces_from (suc fuel) page a e ≡ section a (cut_at page a e - a) ∷ pieces_from fuel page (cut_at page a e) e
unfolding pieces_from
pieces_more fuel page a e h = rw (lt-ltb a e h)

aligned_none : (fuel page a e : ℕ) → e ≤ a → pieces_from fuel page a e ≡ closed page a ((e - a) / page) ((e - a) % page)
aligned_none fuel page a e h =
    let z : e - a ≡ 0 = omega arith in
    pieces_none fuel page a e h ∙ sym (closed_none page a) ∙ rw (z, zero-div, zero-mod)

-- from a page multiple on
aligned : (fuel page a e : ℕ) → 0 < page → e ≤ a + fuel → page_end page a ≡ a + page → pieces_from fuel page a e ≡ closed page a ((e - a) / page) ((e - a) % page)
aligned zero page a e p h q = aligned_none zero page a e (omega arith)
aligned (suc fuel) page a e p h q = ⊎_elim (more (aligned fuel page (a + page) e p)) (λ (x : e ≤ a). aligned_none (suc fuel) page a e x) (below_or_not a e)
  where
    more : (e ≤ a + page + fuel → page_end page (a + page) ≡ a + page + page → pieces_from fuel page (a + page) e ≡ closed page (a + page) ((e - (a + page)) / page) ((e - (a + page)) % page))
        → a < e → pieces_from (suc fuel) page a e ≡ closed page a ((e - a) / page) ((e - a) % page)
    more ih l = pieces_more fuel page a e l ∙ ⊎_elim part full (below_or_not e (a + page))
      where
        part : e < a + page → section a (cut_at page a e - a) ∷ pieces_from fuel page (cut_at page a e) e ≡ closed page a ((e - a) / page) ((e - a) % page)
        part k =
            let z : cut_at page a e ≡ e = omega arith in
            let d : (e - a) / page ≡ 0 = div-eq_of_lt (omega arith) in
            let m : (e - a) % page ≡ e - a = mod-eq_of_lt (omega arith) in
            rw (z, pieces_none fuel page e e (omega arith), d, m) (sym (closed_part page a (e - a) (omega arith)))

        full : a + page ≤ e → section a (cut_at page a e - a) ∷ pieces_from fuel page (cut_at page a e) e ≡ closed page a ((e - a) / page) ((e - a) % page)
        full k =
            let z : cut_at page a e ≡ a + page = omega arith in
            let w : a + page - a ≡ page = omega arith in
            let v : e - a - page ≡ e - (a + page) = omega arith in
            let n : page ≤ e - a = omega arith in
            let u : (a + page) / page ≡ a / page + 1 = add-div_right a p in
            let i : page_end page (a + page) ≡ a + page + page = rw u (omega arith) in
            let d : (e - a) / page ≡ suc ((e - (a + page)) / page) = div-eq-sub-div p n ∙ rw (v, add-one) in
            let m : (e - a) % page ≡ (e - (a + page)) % page = mod-eq-sub-mod n ∙ rw v in
            rw (z, w, d, m, ih (omega arith) i) (sym (closed_suc page a ((e - (a + page)) / page) ((e - (a + page)) % page)))

shape : ℕ → ℕ → ℕ → ℕ → List FreeSection
shape page a n h = chain a h (cond (eqb h 0) 0 1) ++ closed page (a + h) ((n - h) / page) ((n - h) % page)

shape-zero : (page a n : ℕ) → shape page a n 0 ≡ closed page a (n / page) (n % page)
unfolding shape chain
shape-zero page a n = let z : a + 0 ≡ a = omega arith in let w : n - 0 ≡ n = omega arith in rw (z, w)

shape-more : (page a n h : ℕ) → 0 < h → shape page a n h ≡ section a h ∷ closed page (a + h) ((n - h) / page) ((n - h) % page)
unfolding shape chain
shape-more page a n h k = rw (ne_eqb h 0 (λ e. omega arith))

-- a region that begins at a page multiple
at-multiple : (page a n : ℕ) → 0 < page → a % page ≡ 0 → pieces_from n page a (a + n) ≡ shape page a n 0
at-multiple page a n p h =
    let q : page_end page a ≡ a + page = omega (arith, div-add-mod' a page) in
    let z : a + n - a ≡ n = omega arith in
    aligned n page a (a + n) p (omega arith) q ∙ rw z (sym (shape-zero page a n))

-- and one that does not, d bytes before the next
before-multiple : (page a n d : ℕ) → 0 < page → 0 < d → page_end page a ≡ a + d → pieces_from n page a (a + n) ≡ shape page a n (min n d)
before-multiple page a zero d p k q = pieces_none 0 page a (a + 0) (omega arith) ∙ sym (rw (zero-div, zero-mod) (closed_none page a)) ∙ sym (shape-zero page a 0) ∙ ap (shape page a 0) (omega arith)
before-multiple page a (suc n) d p k q = pieces_more n page a (a + suc n) (omega arith) ∙ ⊎_elim all some (below_or_not d (suc n))
  where
    all : d < suc n → section a (cut_at page a (a + suc n) - a) ∷ pieces_from n page (cut_at page a (a + suc n)) (a + suc n) ≡ shape page a (suc n) (min (suc n) d)
    all l =
        let z : cut_at page a (a + suc n) ≡ a + d = omega arith in
        let w : a + d - a ≡ d = omega arith in
        let v : min (suc n) d ≡ d = omega arith in
        let y : a + suc n - (a + d) ≡ suc n - d = omega arith in
        let u : (a + d) / page ≡ suc (a / page) = rw (← q) (mul-div_cancel (suc (a / page)) p) in
        let i : page_end page (a + d) ≡ a + d + page = rw u (omega arith) in
        rw (z, w, v) (ap (λ (m : List FreeSection). section a d ∷ m) (aligned n page (a + d) (a + suc n) p (omega arith) i ∙ rw y) ∙ sym (shape-more page a (suc n) d k))

    some : suc n ≤ d → section a (cut_at page a (a + suc n) - a) ∷ pieces_from n page (cut_at page a (a + suc n)) (a + suc n) ≡ shape page a (suc n) (min (suc n) d)
    some l =
        let z : cut_at page a (a + suc n) ≡ a + suc n = omega arith in
        let w : a + suc n - a ≡ suc n = omega arith in
        let v : min (suc n) d ≡ suc n = omega arith in
        let y : suc n - suc n ≡ 0 = omega arith in
        rw (z, w, v, pieces_none n page (a + suc n) (a + suc n) (omega arith))
        (sym (shape-more page a (suc n) (suc n) (omega arith) ∙ rw (y, zero-div, zero-mod, closed_none)))

by_shape : (page a n : ℕ) → 0 < page → pieces_from n page a (a + n) ≡ shape page a n (min n (pad page a))
by_shape page a n p = pick (eqb (a % page) 0) (eqb-true (a % page) 0) (eqb-false (a % page) 0)
  where
    pick : (t : Bool) → (t ≡ true → a % page ≡ 0) → (t ≡ false → a % page ≡ 0 → ⊥) → pieces_from n page a (a + n) ≡ shape page a n (min n (cond t 0 (page - a % page)))
    pick true f g = at-multiple page a n p (f refl) ∙ ap (shape page a n) (omega arith)
    pick false f g =
        let l : a % page < page = mod-lt a p in
        before-multiple page a n (page - a % page) p (omega arith) (omega (arith, div-add-mod' a page))

-- a piece before the first page multiple, whole pages, and a piece after the last
pub pieces_closed : (page : ℕ) (r : FreeSection) → 0 < page
    → pieces page r
    ≡ chain r.addr (head_size page r) (cond (eqb (head_size page r) 0) 0 1)
    ++ (chain (r.addr + head_size page r) page (body_size page r / page)
    ++ chain (r.addr + head_size page r + body_size page r / page * page) (body_size page r % page) (cond (eqb (body_size page r % page) 0) 0 1))
unfolding pieces shape closed
pieces_closed page r p = by_shape page r.addr r.size p
