-- Laws of the tests that the code makes otherwise than the definitions say. Assumes nothing.
use mathlib.Core.Path.{◌≡◌, refl, sym, ap, ap₂, ◌∙◌, subst}
use mathlib.Core.Bool as bool
use mathlib.Core.Bool.{Bool, true, false, ◌&&◌}
use mathlib.Core.List.{List, [], ◌∷◌}
use mathlib.Core.Logic.{⊎_elim}
use Prim.Native.Nat.{ℕ, zero, suc, ◌-◌, ◌/◌, ◌≤◌, ◌<◌, max}
use native.Mathlib.Omega.{arith}
use borrow.Author.Tests.{lt-ltb, ltb-true, eq-eqb, ne_eqb}
use lib.Dec.{ltb}
use lib.ListN.{length, get_or}
use Rattle.error.proofs.TestLaws.{and_true, le-or-lt}
use Rattle.fields.specs.Ranges.{top}
use Rattle.free_regions.specs.declared.FreeRegion.{FreeRegion}
use Rattle.free_regions.specs.Regions.{region, end}
use Rattle.free_regions.proofs.OkLaws.{Within, Fit, ok_prop}
use Rattle.pairs.proofs.PairLaws.{length-decode, decode-at}
use Rattle.free_space.specs.declared.list.FreeList.{FreeList}
use Rattle.free_space.specs.Runs.{region_at, regions, is_list}
use Rattle.free_space.proofs.ListLaws.{listed, region-fits}
use Rattle.free_lists.specs.declared.calls.Which.TheVariants.{Metadata, Raw, Unclassified}
use Rattle.free_lists.specs.Lists.{regions_of, Lists}
use Rattle.paged_lists.specs.Pages.{pages_fit}
use Rattle.paged_lists.proofs.PageLaws.{page_mono}
use Rattle.paged_calls.specs.Decisions.{end_fits, Reaches, ReachesAll}

-- ---- of regions in order the last one reaches highest

-- the last region of a list that has one
pub last-region : (xs : List ℕ) (l : FreeList) (r : FreeRegion) → is_list xs l ≡ true → 0 < l.count → r ≡ region_at xs (l.count - 1) → Fit 0 r
last-region xs l r ok h e = subst (Fit 0) (sym e) (region-fits xs l (l.count - 1) ok (omega arith))

module _ (page n : ℕ) (pos : 0 < page) where
  -- so the test of the first one of two or more is not needed
  first_fits : (low : ℕ) (r s : FreeRegion) (rs : List FreeRegion) → Within low top (r ∷ s ∷ rs) → pages_fit page n (s ∷ rs) ≡ pages_fit page n (r ∷ s ∷ rs)
  first_fits low r s rs w = go (pages_fit page n (s ∷ rs)) refl
    where
      go : (t : Bool) → pages_fit page n (s ∷ rs) ≡ t → t ≡ (ltb ((end r - 1) / page) n && t)
      go false e = sym (bool.and-false (ltb ((end r - 1) / page) n))
      go true e =
          let l = ltb-true ((end s - 1) / page) n (and_true (ltb ((end s - 1) / page) n) (pages_fit page n rs) e).0 in
          let m = page_mono page pos (end r - 1) (end s - 1) (omega (arith, w.3.2)) in
          rw (lt-ltb ((end r - 1) / page) n (omega arith))

  last_fits : (low i : ℕ) (rs : List FreeRegion) (d : FreeRegion) → Within low top rs → suc i ≡ length rs
      → ltb ((end (get_or rs i d) - 1) / page) n ≡ pages_fit page n rs
  last_fits low i [] d w e = absurd (omega arith)
  last_fits low zero (r ∷ []) d w e = sym (bool.and-true (ltb ((end r - 1) / page) n))
  last_fits low (suc i) (r ∷ []) d w e = absurd (omega arith)
  last_fits low zero (r ∷ s ∷ rs) d w e = absurd (omega arith)
  last_fits low (suc i) (r ∷ s ∷ rs) d w e = last_fits (suc (end r)) i (s ∷ rs) d w.3 (omega arith) ∙ first_fits low r s rs w

  list-marked : (xs : List ℕ) (l : FreeList) (r : FreeRegion) → is_list xs l ≡ true → 0 < l.count → r ≡ region_at xs (l.count - 1)
      → ltb ((end r - 1) / page) n ≡ pages_fit page n (regions xs l)
  list-marked xs l r ok h e =
      let p = listed xs l ok in
      let i = l.count - 1 in
      let q = decode-at region l.count i xs (region 0 0) (omega arith) p.room in
      ap (λ (s : FreeRegion). ltb ((end s - 1) / page) n) (e ∙ sym q)
      ∙ last_fits 0 i (regions xs l) (region 0 0) ((ok_prop 0 (regions xs l)).0 p.ok) (omega (arith, length-decode region l.count xs p.room))

  -- ---- by an end: what lies below one that has a mark has one

  lower-fits : (a b : ℕ) → a ≤ b → end_fits page n b ≡ true → end_fits page n a ≡ true
  lower-fits a b h t = ⊎_elim
      (λ z. rw (eq-eqb a 0 (omega arith)))
      (λ z. let l = ltb-true ((b - 1) / page) n (rw (ne_eqb b 0 (λ e. omega arith)) at t) in
      let m = page_mono page pos (a - 1) (b - 1) (omega arith) in
      rw (ne_eqb a 0 (λ e. omega arith)) (lt-ltb ((a - 1) / page) n (omega arith)))
      (le-or-lt a 0)

  two-fit : (a b : ℕ) → end_fits page n (max a b) ≡ (end_fits page n a && end_fits page n b)
  two-fit a b = ⊎_elim
      (λ h. let m : max a b ≡ b = omega arith in ap (end_fits page n) m ∙ right (end_fits page n a) (end_fits page n b) (lower-fits a b h))
      (λ h. let m : max a b ≡ a = omega arith in ap (end_fits page n) m ∙ left (end_fits page n a) (end_fits page n b) (lower-fits b a (omega arith)))
      (le-or-lt a b)
    where
      right : (x y : Bool) → (y ≡ true → x ≡ true) → y ≡ (x && y)
      right true y f = refl
      right false true f = sym (f refl)
      right false false f = refl

      left : (x y : Bool) → (x ≡ true → y ≡ true) → x ≡ (x && y)
      left true y f = sym (f refl)
      left false y f = refl

pub last_reached : (xs : List ℕ) (l : FreeList) (r : FreeRegion) → is_list xs l ≡ true → 0 < l.count → r ≡ region_at xs (l.count - 1) → Reaches (end r) (regions xs l)
last_reached xs l r ok h e page n pos =
    let f = last-region xs l r ok h e in
    rw (ne_eqb (end r) 0 (λ z. omega (arith, f.some))) (list-marked page n pos xs l r ok h e)

pub all_reached : (ls : Lists) (a b c : ℕ) → Reaches a (regions_of (ls Metadata)) → Reaches b (regions_of (ls Raw)) → Reaches c (regions_of (ls Unclassified)) → (e : ℕ) → e ≡ max a (max b c)
    → ReachesAll e ls
all_reached ls a b c f g h e is page n pos =
    ap (end_fits page n) is ∙ two-fit page n pos a (max b c) ∙ ap₂ (λ (x y : Bool). x && y) (f page n pos) (two-fit page n pos b c ∙ ap₂ (λ (x y : Bool). x && y) (g page n pos) (h page n pos))
