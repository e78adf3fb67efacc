-- Whether an address of one of all pieces of sections does not fit the offset size. Assumes nothing.
use mathlib.Core.Path.{◌≡◌, refl, sym, ap, ap₂, ◌∙◌}
use mathlib.Core.Logic.{◌⊎◌, inl, inr, ⊎_elim}
use Prim.Native.Nat.{ℕ, zero, suc, ◌+◌, ◌-◌, ◌*◌, ◌/◌, ◌^◌, ◌≤◌, ◌<◌, max}
use native.Mathlib.Nat.{le-div_iff_mul-le, div-lt_iff_lt-mul, div-mul-le_self, mul-le-mul_right}
use native.Mathlib.Omega.{arith}
use mathlib.Core.Bool.{Bool, true, false, cond, ◌||◌}
use mathlib.Core.List.{List, [], ◌∷◌, ◌++◌}
use lib.Dec.{ltb, leb}
use borrow.Author.Tests.{leb-true, le-leb}
use Rattle.error.proofs.TestLaws.{le-or-lt, or_decides, or-leaves}
use Rattle.fsm_sections.specs.declared.FreeSection.{FreeSection}
use Rattle.fsm_sections.specs.Sections.{section}
use Rattle.fsm_sections.specs.Pages.{page_end, cut_at, pieces_from, pieces, split, below_page, from_page, slot0, slot2, slot6}
use Rattle.fsm_sections.proofs.PagesLaws.{page-end-above, pieces_none, pieces_more, below_or_not}
use Rattle.fsm_sections.specs.Runs.{wide, any_of, any_wide}

-- ---- a test of some section

pub any_append : (test : FreeSection → Bool) (l m : List FreeSection) → any_of test (l ++ m) ≡ (any_of test l || any_of test m)
any_append test [] m = refl
any_append test (s ∷ l) m = pick (test s) (any_append test l m)
  where
    pick : (t : Bool) → any_of test (l ++ m) ≡ (any_of test l || any_of test m) → (t || any_of test (l ++ m)) ≡ ((t || any_of test l) || any_of test m)
    pick true e = refl
    pick false e = e

-- below a page or not
pub any_parts : (test : FreeSection → Bool) (page : ℕ) (l : List FreeSection) → (any_of test (below_page page l) || any_of test (from_page page l)) ≡ any_of test l
unfolding below_page from_page
any_parts test page [] = refl
any_parts test page (s ∷ l) = pick (ltb s.size page) (any_parts test page l)
  where
    pick : (t : Bool) → (any_of test (below_page page l) || any_of test (from_page page l)) ≡ any_of test l
        → (any_of test (cond t (s ∷ below_page page l) (below_page page l)) || any_of test (cond t (from_page page l) (s ∷ from_page page l))) ≡ (test s || any_of test l)
    pick true e = assoc (test s) (any_of test (below_page page l)) (any_of test (from_page page l)) ∙ ap (λ (x : Bool). test s || x) e
      where
        assoc : (x y z : Bool) → ((x || y) || z) ≡ (x || (y || z))
        assoc true y z = refl
        assoc false y z = refl
    pick false e = swap (any_of test (below_page page l)) (test s) (any_of test (from_page page l)) ∙ ap (λ (x : Bool). test s || x) e
      where
        swap : (y x z : Bool) → (y || (x || z)) ≡ (x || (y || z))
        swap true true z = refl
        swap true false z = refl
        swap false x z = refl

-- the pieces of slots 0, 2 and 6 are those of the metadata and raw sections, and the unclassified
pub any_slots : (test : FreeSection → Bool) (page : ℕ) (meta raw uncl : List FreeSection)
    → (any_of test (split page meta) || (any_of test (split page raw) || any_of test uncl))
    ≡ (any_of test (slot0 page meta) || (any_of test (slot2 page raw) || any_of test (slot6 page meta raw uncl)))
any_slots test page meta raw uncl =
    let m = split page meta in
    let r = split page raw in
    ap₂ (λ (x y : Bool). x || (y || any_of test uncl)) (sym (any_parts test page m)) (sym (any_parts test page r))
    ∙ order (any_of test (below_page page m)) (any_of test (from_page page m)) (any_of test (below_page page r)) (any_of test (from_page page r)) (any_of test uncl)
    ∙ ap (λ (x : Bool). any_of test (below_page page m) || (any_of test (below_page page r) || x))
    (sym (any_append test (from_page page m) (from_page page r ++ uncl) ∙ ap (λ (x : Bool). any_of test (from_page page m) || x) (any_append test (from_page page r) uncl)))
  where
    order : (a b c d e : Bool) → ((a || b) || ((c || d) || e)) ≡ (a || (c || (b || (d || e))))
    order true b c d e = refl
    order false true true d e = refl
    order false true false d e = refl
    order false false true d e = refl
    order false false false d e = refl

-- ---- an address does not fit

pub wide_mono : (o a b : ℕ) → a ≤ b → (wide o a || wide o b) ≡ wide o b
wide_mono o a b h = pick (leb (256 ^ o) a) (leb-true (256 ^ o) a)
  where
    pick : (t : Bool) → (t ≡ true → 256 ^ o ≤ a) → (t || wide o b) ≡ wide o b
    pick true f = let q : 256 ^ o ≤ a = f refl in sym (le-leb (256 ^ o) b (omega arith))
    pick false f = refl

or_false_right : (t : Bool) → (t || false) ≡ t
or_false_right true = refl
or_false_right false = refl

-- the last piece has the greatest address
wide_from : (o fuel page a e m : ℕ) → 0 < page → e ≤ a + fuel → a < e → a ≤ m → (e - 1) / page * page ≤ m → (m ≡ a) ⊎ (m ≡ (e - 1) / page * page)
    → any_wide o (pieces_from fuel page a e) ≡ wide o m
wide_from o zero page a e m p h l u v w = absurd (omega arith)
wide_from o (suc fuel) page a e m p h l u v w =
    ap (any_wide o) (pieces_more fuel page a e l) ∙ ⊎_elim (more (wide_from o fuel page (page_end page a) e m p)) last (below_or_not (page_end page a) e)
  where
    rest : List FreeSection
    rest = pieces_from fuel page (cut_at page a e) e

    more : (e ≤ page_end page a + fuel → page_end page a < e → page_end page a ≤ m → (e - 1) / page * page ≤ m → (m ≡ page_end page a) ⊎ (m ≡ (e - 1) / page * page)
        → any_wide o (pieces_from fuel page (page_end page a) e) ≡ wide o m)
        → page_end page a < e → (wide o a || any_wide o rest) ≡ wide o m
    more ih k =
        let z : cut_at page a e ≡ page_end page a = omega arith in
        let q : a < page_end page a = page-end-above page a p in
        let d : suc (a / page) ≤ (e - 1) / page = (le-div_iff_mul-le {k = page} {x = suc (a / page)} {y = e - 1} p).1 (omega arith) in
        let g : page_end page a ≤ (e - 1) / page * page = mul-le-mul_right page d in
        let y : (m ≡ page_end page a) ⊎ (m ≡ (e - 1) / page * page) = ⊎_elim (λ (y : m ≡ a). absurd (omega arith)) (λ (y : m ≡ (e - 1) / page * page). inr y) w in
        let i : any_wide o (pieces_from fuel page (page_end page a) e) ≡ wide o m = ih (omega arith) k (omega arith) v y in
        ap (λ (b : Bool). wide o a || b) (ap (λ (n : ℕ). any_wide o (pieces_from fuel page n e)) z ∙ i) ∙ wide_mono o a m u

    last : e ≤ page_end page a → (wide o a || any_wide o rest) ≡ wide o m
    last k =
        let z : cut_at page a e ≡ e = omega arith in
        let j : any_wide o rest ≡ false = ap (λ (n : ℕ). any_wide o (pieces_from fuel page n e)) z ∙ ap (any_wide o) (pieces_none fuel page e e (omega arith)) in
        let n : (e - 1) / page < suc (a / page) = (div-lt_iff_lt-mul {k = page} {x = e - 1} {y = suc (a / page)} p).1 (omega arith) in
        let g : (e - 1) / page * page ≤ a / page * page = mul-le-mul_right page (omega arith) in
        let r : m ≡ a = ⊎_elim (λ (y : m ≡ a). y) (λ (y : m ≡ (e - 1) / page * page). omega (arith, div-mul-le_self a page)) w in
        ap (λ (b : Bool). wide o a || b) j ∙ or_false_right (wide o a) ∙ ap (wide o) (sym r)

module _ (o page addr size : ℕ) (p : 0 < page) where
  pub wide-none : size ≡ 0 → false ≡ any_wide o (pieces page (section addr size))
  unfolding pieces
  wide-none z = sym (ap (any_wide o) (pieces_none size page addr (addr + size) (omega arith)))

  -- the last page multiple within is the q-th
  module _ (some : size ≡ 0 → ⊥) (q : ℕ) (qe : q ≡ (addr + (size - 1)) / page) where
    abbrev at : ℕ
    at = q * page

    last-is : (addr + size - 1) / page * page ≡ at
    last-is = let e : addr + size - 1 ≡ addr + (size - 1) = omega arith in ap (λ (n : ℕ). n / page * page) e ∙ ap (λ (n : ℕ). n * page) (sym qe)

    pub at-fits : at ≤ addr + (size - 1)
    at-fits = rw qe (div-mul-le_self (addr + (size - 1)) page)

    wide-first : at < addr → wide o addr ≡ any_wide o (pieces page (section addr size))
    unfolding pieces
    wide-first h = sym (wide_from o size page addr (addr + size) addr p (omega arith) (omega arith) (omega arith) (omega (arith, last-is)) (inl refl))

    wide-last : addr ≤ at → wide o at ≡ any_wide o (pieces page (section addr size))
    unfolding pieces
    wide-last h = sym (wide_from o size page addr (addr + size) at p (omega arith) (omega arith) h (omega (arith, last-is)) (inr (sym last-is)))

    -- the greater of the two
    pub wide_greatest : (m : ℕ) → m ≡ max at addr → wide o m ≡ any_wide o (pieces page (section addr size))
    wide_greatest m e = ⊎_elim
        (λ (h : addr ≤ at). let q : m ≡ at = omega arith in rw q (wide-last h))
        (λ (h : at < addr). let q : m ≡ addr = omega arith in rw q (wide-first h)) (le-or-lt addr at)

-- ---- the passes over all sections

module _ (page o : ℕ) (l : List FreeSection) (v : Bool) (p : any_wide o (split page l) ≡ v) where
  pub any_wide-end : l ≡ [] → false ≡ v
  unfolding split
  any_wide-end e = ap (λ (k : List FreeSection). any_wide o (split page k)) (sym e) ∙ p

  module _ (x : FreeSection) (m : List FreeSection) (e : l ≡ x ∷ m) (t : Bool) (f : t ≡ any_wide o (pieces page x)) where
    open_wide : (any_wide o (pieces page x) || any_wide o (split page m)) ≡ v
    unfolding split
    open_wide =
        sym (any_append (λ s. wide o s.addr) (pieces page x) (split page m)) ∙ sym (ap (λ (k : List FreeSection). any_wide o (split page k)) e) ∙ p

    pub any_wide-found : t ≡ true → true ≡ v
    any_wide-found g = or_decides t _ (any_wide o (split page m)) f g ∙ open_wide

    pub any_wide_step : t ≡ false → any_wide o (split page m) ≡ v
    any_wide_step g = or-leaves t _ (any_wide o (split page m)) f g ∙ open_wide
