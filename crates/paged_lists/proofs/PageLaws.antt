-- Laws of pages: which page a byte lies in, which marks are set, and what the tests over pages say of each byte. Assumes nothing.
use mathlib.Core.Path.{◌≡◌, refl, sym, ap, ◌∙◌, subst}
use mathlib.Core.Bool.{Bool, true, false, cond, ◌&&◌, ◌||◌, not}
use mathlib.Core.List.{List, [], ◌∷◌}
use mathlib.Core.Logic.{inl, inr, ⊎_elim, ◌↔◌}
use Prim.Native.Nat.{ℕ, zero, suc, ◌+◌, ◌-◌, ◌*◌, ◌/◌, ◌%◌, ◌≤◌, ◌<◌}
use native.Mathlib.Nat.{div-add-mod', mod-lt, add-mul, suc-mul, le-div_iff_mul-le, div-lt_iff_lt-mul}
use native.Mathlib.Omega.{arith}
use borrow.Author.Tests.{le-leb, leb-true, ltb-true, eqb-true, not-false}
use lib.Dec.{leb, ltb, eqb}
use lib.ListN.{get_or-eq_default, length, get_or, replicate, length-replicate}
use Rattle.error.specs.Lent.{over}
use Rattle.error.proofs.TestLaws.{le-or-lt, true_not_false, and_true}
use Rattle.error.proofs.OverLaws.{length_over, get_or-below, get_or-above}
use Rattle.free_regions.specs.declared.FreeRegion.{FreeRegion}
use Rattle.free_regions.specs.Regions.{end, Free}
use Rattle.free_regions.proofs.OkLaws.{Within}
use Rattle.free_regions.specs.Sets.{Between}
use Rattle.free_regions.proofs.SetLaws.{free-between}
use Rattle.paged_lists.specs.Pages.{mark_at, pages_fit, last_page, all_marked, other_kind, covers, whole_page, whole_from, whole_up_to, marked}

-- ---- marks in a row

set_in : (i n v q : ℕ) (ms : List ℕ) → Between i (i + n) q → q < length ms → get_or (over i (replicate n v) ms) q 0 ≡ v
set_in i n v q [] b l = absurd (omega arith)
set_in zero zero v q (m ∷ ms) b l = absurd (omega arith)
set_in zero (suc n) v zero (m ∷ ms) b l = refl
set_in zero (suc n) v (suc q) (m ∷ ms) b l = set_in zero n v q ms (omega arith, omega arith) (omega arith)
set_in (suc i) n v zero (m ∷ ms) b l = absurd (omega arith)
set_in (suc i) n v (suc q) (m ∷ ms) b l = set_in i n v q ms (omega arith, omega arith) (omega arith)

-- 0 is also what a page without a mark has
set-zero : (i n q : ℕ) (ms : List ℕ) → Between i (i + n) q → get_or (over i (replicate n 0) ms) q 0 ≡ 0
set-zero i n q ms b =
    let vs : List ℕ = replicate n 0 in
    ⊎_elim (λ h. get_or-eq_default (over i vs ms) 0 (omega (arith, h, length_over i vs ms))) (λ h. set_in i n 0 q ms b h) (le-or-lt (length ms) q)

set_out : (i n v q : ℕ) (ms : List ℕ) → (Between i (i + n) q → ⊥) → get_or (over i (replicate n v) ms) q 0 ≡ get_or ms q 0
set_out i n v q ms b =
    ⊎_elim (λ h. ⊎_elim (λ k. get_or-above i q (replicate n v) ms (omega (arith, length-replicate {A = ℕ} n v))) (λ k. absurd (b (h, k))) (le-or-lt (i + n) q))
    (λ h. get_or-below i q (replicate n v) ms h) (le-or-lt i q)

-- ---- pages of bytes

module _ (page : ℕ) (pos : 0 < page) where
  -- the pages from p on, n of them
  pub in_pages : (p n x : ℕ) → Between (p * page) (p * page + n * page) x ↔ Between p (p + n) (x / page)
  in_pages p n x =
      let s : (p + n) * page ≡ p * page + n * page = add-mul p n page in (
        λ b. ((le-div_iff_mul-le pos).1 b.0, (div-lt_iff_lt-mul pos).1 (omega (arith, b.1))),
        λ b. ((le-div_iff_mul-le pos).0 b.0, omega (arith, (div-lt_iff_lt-mul {k = page} {x = x} {y = p + n} pos).0 b.1)),
      )

  -- n bytes from a multiple a on are whole pages where n is a multiple too
  pub in_units : (a n x : ℕ) → a % page ≡ 0 → n % page ≡ 0 → Between a (a + n) x ↔ Between (a / page) (a / page + n / page) (x / page)
  in_units a n x u v =
      let d = div-add-mod' a page in
      let e = div-add-mod' n page in
      let f : a / page * page ≡ a = omega arith in
      let g : n / page * page ≡ n = omega arith in
      subst (λ (y : ℕ). Between y (y + n) x ↔ Between (a / page) (a / page + n / page) (x / page)) f
      (subst (λ (y : ℕ). Between (a / page * page) (a / page * page + y) x ↔ Between (a / page) (a / page + n / page) (x / page)) g (in_pages (a / page) (n / page) x))

  pub page-le : (x : ℕ) → x / page * page ≤ x
  page-le x = omega (arith, div-add-mod' x page)

  pub page-lt : (x : ℕ) → x < x / page * page + page
  page-lt x = omega (arith, div-add-mod' x page, mod-lt x pos)

  pub page_mono : (x y : ℕ) → x ≤ y → x / page ≤ y / page
  page_mono x y h = (le-div_iff_mul-le pos).1 (omega (arith, page-le x))

  -- ---- what the marks are after setting

  pub mark_set : (q n v : ℕ) (ms : List ℕ) (x : ℕ) → Between q (q + n) (x / page) → x / page < length ms → mark_at page (marked q n v ms) x ≡ v
  mark_set q n v ms x b l = set_in q n v (x / page) ms b l

  pub mark_cleared : (q n : ℕ) (ms : List ℕ) (x : ℕ) → Between q (q + n) (x / page) → mark_at page (marked q n 0 ms) x ≡ 0
  mark_cleared q n ms x b = set-zero q n (x / page) ms b

  pub mark_kept : (q n v : ℕ) (ms : List ℕ) (x : ℕ) → (Between q (q + n) (x / page) → ⊥) → mark_at page (marked q n v ms) x ≡ mark_at page ms x
  mark_kept q n v ms x b = set_out q n v (x / page) ms b

  -- ---- what the tests say

  pub free-marked : (n : ℕ) (rs : List FreeRegion) (x : ℕ) → pages_fit page n rs ≡ true → Free rs x → x / page < n
  free-marked n [] x e f = absurd f
  free-marked n (r ∷ rs) x e (inl t) =
      let p = and_true (ltb ((end r - 1) / page) n) (pages_fit page n rs) e in
      let l = ltb-true ((end r - 1) / page) n p.0 in
      omega (arith, page_mono x (end r - 1) (omega arith))
  free-marked n (r ∷ rs) x e (inr t) = free-marked n rs x (and_true (ltb ((end r - 1) / page) n) (pages_fit page n rs) e).1 t

  all-marked : (m n q k : ℕ) (ms : List ℕ) → all_marked m n q ms ≡ true → Between q (q + n) k → get_or ms k 0 ≡ m
  all-marked m zero q k ms e b = absurd (omega arith)
  all-marked m (suc n) q k ms e b =
      let p = and_true (eqb (get_or ms q 0) m) (all_marked m n (suc q) ms) e in
      ⊎_elim (λ h. all-marked m n (suc q) k ms p.1 (h, omega arith))
      (λ h. let z : q ≡ k = omega arith in ap (λ (i : ℕ). get_or ms i 0) (sym z) ∙ eqb-true (get_or ms q 0) m p.0) (le-or-lt (suc q) k)

  pub own-kind : (m a len : ℕ) (ms : List ℕ) (x : ℕ) → other_kind page m a len ms ≡ false → Between a (a + len) x → mark_at page ms x ≡ m
  own-kind m a len ms x e b = go (eqb len 0) refl e
    where
      n : ℕ
      n = suc (last_page page a len - a / page)

      go : (t : Bool) → eqb len 0 ≡ t → cond t false (not (all_marked m n (a / page) ms)) ≡ false → mark_at page ms x ≡ m
      go true t f = let z = eqb-true len 0 t in absurd (omega arith)
      go false t f =
          let u = page_mono a x b.0 in
          let v = page_mono x (a + len - 1) (omega arith) in
          all-marked m n (a / page) (x / page) ms (not-false (all_marked m n (a / page) ms) f) (u, omega arith)

  -- ---- pages that are all free

  covers-free : (a e : ℕ) (rs : List FreeRegion) (x : ℕ) → covers a e rs ≡ true → Between a e x → Free rs x
  covers-free a e [] x t b = true_not_false false t refl
  covers-free a e (r ∷ rs) x t b = go (leb r.addr a && leb e (end r)) refl t (covers-free a e rs x)
    where
      go : (u : Bool) → (leb r.addr a && leb e (end r)) ≡ u → (u || covers a e rs) ≡ true → (covers a e rs ≡ true → Between a e x → Free rs x) → Free (r ∷ rs) x
      go true u t ih =
          let p = and_true (leb r.addr a) (leb e (end r)) u in
          let f = leb-true r.addr a p.0 in
          let g = leb-true e (end r) p.1 in
          inl (omega arith, omega arith)
      go false u t ih = inr (ih t b)

  from-whole : (rs : List FreeRegion) (a : ℕ) → (a / page ≤ whole_from page rs a) × (whole_from page rs a ≤ a / page → whole_page page rs (a / page) ≡ true)
  from-whole rs a = go (whole_page page rs (a / page)) refl
    where
      go : (t : Bool) → whole_page page rs (a / page) ≡ t → (a / page ≤ cond t (a / page) (suc (a / page))) × (cond t (a / page) (suc (a / page)) ≤ a / page → whole_page page rs (a / page) ≡ true)
      go true e = (omega arith, λ h. e)
      go false e = (omega arith, λ h. absurd (omega arith))

  up_to-whole : (rs : List FreeRegion) (a len : ℕ) → (whole_up_to page rs a len ≤ suc (last_page page a len)) × (last_page page a len < whole_up_to page rs a len → whole_page page rs (last_page page a len) ≡ true)
  up_to-whole rs a len = go (whole_page page rs (last_page page a len)) refl
    where
      go : (t : Bool) → whole_page page rs (last_page page a len) ≡ t
          → (cond t (suc (last_page page a len)) (last_page page a len) ≤ suc (last_page page a len)) × (last_page page a len < cond t (suc (last_page page a len)) (last_page page a len) → whole_page page rs (last_page page a len) ≡ true)
      go true e = (omega arith, λ h. e)
      go false e = (omega arith, λ h. absurd (omega arith))

  from_le : (rs : List FreeRegion) (a q : ℕ) → a / page ≤ q → (a / page ≡ q → whole_page page rs (a / page) ≡ true) → whole_from page rs a ≤ q
  from_le rs a q l h = go (whole_page page rs (a / page)) refl
    where
      go : (t : Bool) → whole_page page rs (a / page) ≡ t → cond t (a / page) (suc (a / page)) ≤ q
      go true e = l
      go false e = ⊎_elim (λ k. true_not_false (whole_page page rs (a / page)) (h (omega arith)) e) (λ k. omega arith) (le-or-lt q (a / page))

  le-up_to : (rs : List FreeRegion) (a len q : ℕ) → q ≤ last_page page a len → (last_page page a len ≡ q → whole_page page rs (last_page page a len) ≡ true) → q < whole_up_to page rs a len
  le-up_to rs a len q l h = go (whole_page page rs (last_page page a len)) refl
    where
      go : (t : Bool) → whole_page page rs (last_page page a len) ≡ t → q < cond t (suc (last_page page a len)) (last_page page a len)
      go true e = omega arith
      go false e = ⊎_elim (λ k. true_not_false (whole_page page rs (last_page page a len)) (h (omega arith)) e) (λ k. k) (le-or-lt (last_page page a len) q)

  whole-free : (rs : List FreeRegion) (q x : ℕ) → whole_page page rs q ≡ true → q ≡ x / page → Free rs x
  whole-free rs q x t e =
      let f : q * page ≡ x / page * page = ap (λ (n : ℕ). n * page) e in
      let g = page-le x in
      let h = page-lt x in
      covers-free (q * page) (q * page + page) rs x t (omega arith, omega arith)

  -- each byte of these pages is free, where the bytes of the range are
  pub whole-pages : (rs : List FreeRegion) (a len x : ℕ) → 0 < len → ((y : ℕ) → Between a (a + len) y → Free rs y) → whole_from page rs a ≤ x / page → x / page < whole_up_to page rs a len → Free rs x
  whole-pages rs a len x some f u v =
      let F = from-whole rs a in
      let G = up_to-whole rs a len in
      let q = a / page in
      let r = last_page page a len in
      ⊎_elim
      (λ (h : x / page ≤ q). whole-free rs q x (F.1 (omega arith)) (omega (arith, F.0)))
      (λ (h : q < x / page). ⊎_elim
      (λ (k : r ≤ x / page). whole-free rs r x (G.1 (omega arith)) (omega (arith, G.0)))
      (λ (k : x / page < r).
      let m : a < x / page * page = (div-lt_iff_lt-mul {k = page} {x = a} {y = x / page} pos).0 h in
      let n : suc (x / page) * page ≤ a + len - 1 = (le-div_iff_mul-le {k = page} {x = suc (x / page)} {y = a + len - 1} pos).0 k in
      f x (omega (arith, page-le x), omega (arith, page-lt x, suc-mul (x / page) page)))
      (le-or-lt r (x / page)))
      (le-or-lt (x / page) q)

  -- and a page all of whose bytes are free lies in one region, since regions have gaps between them
  free-covers : (low high a e : ℕ) (rs : List FreeRegion) → Within low high rs → a < e → ((x : ℕ) → Between a e x → Free rs x) → covers a e rs ≡ true
  free-covers low high a e [] w h f = absurd (f a (omega arith, h))
  free-covers low high a e (r ∷ rs) w h f =
      ⊎_elim
      (λ (k : end r ≤ a). or_right (leb r.addr a && leb e (end r)) (free-covers (suc (end r)) high a e rs w.3 h
      (λ x b. ⊎_elim (λ t. absurd (omega arith)) (λ t. t) (f x b))))
      (λ (k : a < end r).
      let p : r.addr ≤ a = ⊎_elim (λ t. t.0) (λ t. absurd (omega (arith, free-between (suc (end r)) high a rs w.3 t))) (f a (omega arith, h)) in
      let q : e ≤ end r = ⊎_elim (λ t. t) (λ t. ⊎_elim (λ u. absurd (omega arith)) (λ u. absurd (omega (arith, free-between (suc (end r)) high (end r) rs w.3 u))) (f (end r) (omega arith, t))) (le-or-lt e (end r)) in
      rw (le-leb r.addr a p, le-leb e (end r) q))
      (le-or-lt (end r) a)
    where
      or_right : (t : Bool) {u : Bool} → u ≡ true → (t || u) ≡ true
      or_right true e = refl
      or_right false e = e

  -- so the pages taken are exactly those of the range of which every byte is free
  pub pages-exact : (rs : List FreeRegion) (a len high q : ℕ) → Within 0 high rs → 0 < len → ((y : ℕ) → Between a (a + len) y → Free rs y)
      → Between (whole_from page rs a) (whole_up_to page rs a len) q ↔ ((a / page ≤ q) × (q ≤ last_page page a len) × ((x : ℕ) → x / page ≡ q → Free rs x))
  pages-exact rs a len high q w some f =
      let F = from-whole rs a in
      let G = up_to-whole rs a len in (
        λ b. (omega (arith, F.0), omega (arith, G.0), λ x e. whole-pages rs a len x some f (omega arith) (omega arith)),
        λ t. (from_le rs a q t.0 (λ e. whole q t.2 (a / page) e), le-up_to rs a len q t.1 (λ e. whole q t.2 (last_page page a len) e)),
      )
    where
      whole : (q : ℕ) → ((x : ℕ) → x / page ≡ q → Free rs x) → (p : ℕ) → p ≡ q → whole_page page rs p ≡ true
      whole q f p e = free-covers 0 high (p * page) (p * page + page) rs w (omega arith)
          (λ x b. let s : 1 * page ≡ page = omega arith in let u = (in_pages p 1 x).0 (omega arith, omega arith) in f x (omega arith))
