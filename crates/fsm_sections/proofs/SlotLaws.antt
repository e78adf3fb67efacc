-- The slots' sections are those of sources. Assumes nothing.
use Rattle.std.proofs.Common.{◌≡◌, ℕ, zero, suc, ◌+◌, ◌-◌, ◌%◌, ◌<◌, ◌≤◌, Bool, true, false, cond, eqb, ltb, List, [], ◌∷◌, ◌++◌, sym, refl, ap, ◌∙◌, append_assoc, append-nil, le_refl, mod-lt, arith, le-ltb, lt-ltb}
use borrow.Author.Tests.{eqb-false}
use Rattle.fsm_sections.specs.declared.FreeSection.{FreeSection}
use Rattle.fsm_sections.specs.Sections.{decode, times, by_size_then_addr}
use Rattle.fsm_sections.proofs.SortLaws.{sorted-sorted, times-sorted, by_size_then_addr_lem}
use Rattle.fsm_sections.specs.Pages.{pieces, split, below_page, from_page, slot0, slot6}
use Rattle.fsm_sections.specs.Chains.{chain, sections_of}
use Rattle.fsm_sections.specs.Sources.{pad, body_size, part_of, chains_in, chains_of, small_source, large_source, plain_source}
use Rattle.fsm_sections.specs.declared.Chain.{Chain}
use Rattle.fsm_sections.specs.declared.Part.{Part}
use Rattle.fsm_sections.specs.declared.Part.TheVariants.{Head, Pages, Tail, Whole}
use Rattle.fsm_sections.proofs.PagesLaws.{pieces_closed}

-- ---- below a page, and not
pub below-append : (page : ℕ) (l m : List FreeSection) → below_page page (l ++ m) ≡ below_page page l ++ below_page page m
unfolding below_page
below-append page [] m = refl
below-append page (x ∷ l) m = pick (ltb x.size page) (below-append page l m)
  where
    pick : (t : Bool) → below_page page (l ++ m) ≡ below_page page l ++ below_page page m
        → cond t (x ∷ below_page page (l ++ m)) (below_page page (l ++ m)) ≡ cond t (x ∷ below_page page l) (below_page page l) ++ below_page page m
    pick true e = ap (λ (k : List FreeSection). x ∷ k) e
    pick false e = e

pub from-append : (page : ℕ) (l m : List FreeSection) → from_page page (l ++ m) ≡ from_page page l ++ from_page page m
unfolding from_page
from-append page [] m = refl
from-append page (x ∷ l) m = pick (ltb x.size page) (from-append page l m)
  where
    pick : (t : Bool) → from_page page (l ++ m) ≡ from_page page l ++ from_page page m
        → cond t (from_page page (l ++ m)) (x ∷ from_page page (l ++ m)) ≡ cond t (from_page page l) (x ∷ from_page page l) ++ from_page page m
    pick true e = e
    pick false e = ap (λ (k : List FreeSection). x ∷ k) e

below-low : (page a z c : ℕ) → z < page → below_page page (chain a z c) ≡ chain a z c
unfolding below_page chain
below-low page a z zero h = refl
below-low page a z (suc c) h = rw (lt-ltb z page h, below-low page (a + z) z c h)

from_low : (page a z c : ℕ) → z < page → from_page page (chain a z c) ≡ []
unfolding from_page chain
from_low page a z zero h = refl
from_low page a z (suc c) h = rw (lt-ltb z page h, from_low page (a + z) z c h)

below-high : (page a z c : ℕ) → page ≤ z → below_page page (chain a z c) ≡ []
unfolding below_page chain
below-high page a z zero h = refl
below-high page a z (suc c) h = rw (le-ltb z page h, below-high page (a + z) z c h)

from-high : (page a z c : ℕ) → page ≤ z → from_page page (chain a z c) ≡ chain a z c
unfolding from_page chain
from-high page a z zero h = refl
from-high page a z (suc c) h = rw (le-ltb z page h, from-high page (a + z) z c h)

pad-low : (page a : ℕ) → 0 < page → pad page a < page
pad-low page a p = pick (eqb (a % page) 0) (eqb-false (a % page) 0)
  where
    pick : (t : Bool) → (t ≡ false → a % page ≡ 0 → ⊥) → cond t 0 (page - a % page) < page
    pick true f = p
    pick false f = let n : a % page ≡ 0 → ⊥ = f refl in omega arith

-- a region's pieces below a page are its head and its tail, the others its whole pages
module _ (page : ℕ) (r : FreeSection) (p : 0 < page) where
  abbrev part : Part → List FreeSection
  part q = chain (part_of q page r).addr (part_of q page r).size (part_of q page r).count

  three : pieces page r ≡ part Head ++ (part Pages ++ part Tail)
  unfolding part_of
  three = pieces_closed page r p

  head_low : (part_of Head page r).size < page
  unfolding part_of
  head_low = omega (arith, pad-low page r.addr p)

  tail_low : (part_of Tail page r).size < page
  unfolding part_of
  tail_low = mod-lt (body_size page r) p

  pages-high : page ≤ (part_of Pages page r).size
  unfolding part_of
  pages-high = le_refl page

  pub below-pieces : below_page page (pieces page r) ≡ part Head ++ part Tail
  below-pieces =
      rw (
        three,
        below-append page (part Head) (part Pages ++ part Tail),
        below-append page (part Pages) (part Tail),
        below-low page (part_of Head page r).addr (part_of Head page r).size (part_of Head page r).count head_low,
        below-high page (part_of Pages page r).addr (part_of Pages page r).size (part_of Pages page r).count pages-high,
        below-low page (part_of Tail page r).addr (part_of Tail page r).size (part_of Tail page r).count tail_low,
      )

  pub from_pieces : from_page page (pieces page r) ≡ part Pages
  from_pieces =
      rw (
        three,
        from-append page (part Head) (part Pages ++ part Tail),
        from-append page (part Pages) (part Tail),
        from_low page (part_of Head page r).addr (part_of Head page r).size (part_of Head page r).count head_low,
        from-high page (part_of Pages page r).addr (part_of Pages page r).size (part_of Pages page r).count pages-high,
        from_low page (part_of Tail page r).addr (part_of Tail page r).size (part_of Tail page r).count tail_low,
      )
      (append-nil (part Pages))

-- ---- counts over lists
pub times-append : (x : FreeSection) (l m : List FreeSection) → times x (l ++ m) ≡ times x l + times x m
unfolding times
times-append x [] m = omega arith
times-append x (y ∷ l) m = omega (arith, times-append x l m)

pub sections-append : (l m : List Chain) → sections_of (l ++ m) ≡ sections_of l ++ sections_of m
unfolding sections_of
sections-append [] m = refl
sections-append (r ∷ l) m = rw (sections-append l m) (sym (append_assoc (chain r.addr r.size r.count) (sections_of l) (sections_of m)))

pub pages_are : (page : ℕ) (rs : List FreeSection) → 0 < page → from_page page (split page rs) ≡ sections_of (chains_in Pages page rs)
unfolding split sections_of from_page
pages_are page [] p = refl
pages_are page (r ∷ rs) p = from-append page (pieces page r) (split page rs) ∙ rw (from_pieces page r p, pages_are page rs p)

pub whole_are : (page : ℕ) (rs : List FreeSection) → sections_of (chains_in Whole page rs) ≡ rs
unfolding sections_of part_of chain
whole_are page [] = refl
whole_are page (r ∷ rs) = ap (λ (k : List FreeSection). r ∷ k) (whole_are page rs)

pub small_are : (page : ℕ) (rs : List FreeSection) (x : FreeSection) → 0 < page
    → times x (below_page page (split page rs)) ≡ times x (sections_of (chains_in Head page rs)) + times x (sections_of (chains_in Tail page rs))
unfolding split sections_of below_page times
small_are page [] x p = refl
small_are page (r ∷ rs) x p =
    let h = chain (part_of Head page r).addr (part_of Head page r).size (part_of Head page r).count in
    let t = chain (part_of Tail page r).addr (part_of Tail page r).size (part_of Tail page r).count in
    let e : below_page page (pieces page r ++ split page rs) ≡ (h ++ t) ++ below_page page (split page rs) = below-append page (pieces page r) (split page rs) ∙ rw (below-pieces page r p) in
    rw e (omega (
      arith,
      times-append x (h ++ t) (below_page page (split page rs)),
      times-append x h t,
      small_are page rs x p,
      times-append x h (sections_of (chains_in Head page rs)),
      times-append x t (sections_of (chains_in Tail page rs)),
    ))

-- ---- the sources of the slots
pub slot0-runs : (page n : ℕ) (a c : List ℕ) (x : FreeSection) → 0 < page → times x (slot0 page (decode n a)) ≡ times x (sections_of (chains_of (small_source page n) a a c))
unfolding chains_of
slot0-runs page n a c x p =
    small_are page (decode n a) x p
    ∙ sym (rw (sections-append (chains_in Head page (decode n a)) (chains_in Tail page (decode n a) ++ []), append-nil)
    (times-append x (sections_of (chains_in Head page (decode n a))) (sections_of (chains_in Tail page (decode n a)))))

pub slot6-runs : (page n m k : ℕ) (a b c : List ℕ) → 0 < page → slot6 page (decode n a) (decode m b) (decode k c) ≡ sections_of (chains_of (large_source page n m k) a b c)
unfolding chains_of
slot6-runs page n m k a b c p =
    rw (
      sections-append (chains_in Pages page (decode n a)) (chains_in Pages page (decode m b) ++ chains_in Whole page (decode k c)),
      sections-append (chains_in Pages page (decode m b)) (chains_in Whole page (decode k c)),
      pages_are page (decode n a) p,
      pages_are page (decode m b) p,
      whole_are page (decode k c),
    )

pub plain_runs : (n : ℕ) (a b c : List ℕ) → decode n a ≡ sections_of (chains_of (plain_source n) a b c)
unfolding chains_of
plain_runs n a b c = rw (append-nil, whole_are 1 (decode n a))

-- lists with the same sections_of have the same order
pub same-order : (l m : List FreeSection) → ((x : FreeSection) → times x l ≡ times x m) → by_size_then_addr l ≡ by_size_then_addr m
same-order l m e = by_size_then_addr_lem m (by_size_then_addr l) (sorted-sorted l) (λ s. times-sorted s l ∙ e s)
