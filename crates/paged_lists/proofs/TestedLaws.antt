-- What the tests for refusals 3 and 5 say of lists and marks. Assumes nothing.
use mathlib.Core.Path.{◌≡◌, refl}
use mathlib.Core.Bool.{Bool, true, false, ◌&&◌, ◌||◌}
use mathlib.Core.List.{List, [], ◌∷◌}
use mathlib.Core.Logic.{inl, inr}
use Prim.Native.Nat.{ℕ, zero, suc, ◌+◌, ◌-◌, ◌/◌, ◌≤◌, ◌<◌}
use native.Mathlib.Omega.{arith}
use borrow.Author.Tests.{leb-true, leb-false, ltb-false, not-true, not-false}
use lib.Dec.{leb, ltb}
use lib.ListN.{length, get_or}
use Rattle.error.proofs.TestLaws.{true_not_false, and_true, or_false}
use Rattle.free_regions.specs.declared.FreeRegion.{FreeRegion}
use Rattle.free_regions.specs.Regions.{region, end, Free, shares}
use Rattle.free_regions.specs.Sets.{Between, Common}
use Rattle.free_regions.proofs.OkLaws.{Within}
use Rattle.free_regions.proofs.ShareLaws.{shares_byte}
use Rattle.free_space.specs.Runs.{is_list}
use Rattle.free_lists.specs.declared.calls.Which.{Which}
use Rattle.free_lists.specs.declared.calls.Which.TheVariants.{Metadata, Raw, Unclassified}
use Rattle.free_lists.specs.Lists.{LentList, regions_of, Lists, are_lists}
use Rattle.free_lists.specs.Decided.{is_held}
use Rattle.free_lists.specs.ListsSay.{FreeInAny}
use Rattle.free_lists.proofs.FreeBytesLaws.{adds_up}
use Rattle.paged_lists.specs.Pages.{marks_fit, pages_fit}
use Rattle.paged_lists.specs.PagedCalls.{PagedLists, unsound}
use Rattle.paged_lists.specs.RefusalsSay.{Unsound}
use Rattle.paged_lists.proofs.PageLaws.{free-marked}

-- ---- refusal 3

abbrev IsList : LentList → Type 0
IsList l = is_list l.run l.list ≡ true

pub lists-ok : (ls : Lists) → are_lists ls ≡ true → (i : Which) → is_list (ls i).run (ls i).list ≡ true
lists-ok ls e = let p = and_true (is_list (ls Metadata).run (ls Metadata).list) _ e in go p.0 (and_true (is_list (ls Raw).run (ls Raw).list) _ p.1)
  where
    go : IsList (ls Metadata) → IsList (ls Raw) × IsList (ls Unclassified) → (i : Which) → IsList (ls i)
    go m q Metadata = m
    go m q Raw = q.0
    go m q Unclassified = q.1

marks-low : (ms : List ℕ) → marks_fit ms ≡ true → (q : ℕ) → get_or ms q 0 ≤ 2
marks-low [] e q = omega arith
marks-low (m ∷ ms) e zero = leb-true m 2 (and_true (leb m 2) (marks_fit ms) e).0
marks-low (m ∷ ms) e (suc q) = marks-low ms (and_true (leb m 2) (marks_fit ms) e).1 q

mark_high : (ms : List ℕ) → marks_fit ms ≡ false → (q : ℕ) × (2 < get_or ms q 0)
mark_high [] e = true_not_false true refl e
mark_high (m ∷ ms) e = go (leb m 2) refl e (mark_high ms)
  where
    go : (t : Bool) → leb m 2 ≡ t → (t && marks_fit ms) ≡ false → (marks_fit ms ≡ false → (q : ℕ) × (2 < get_or ms q 0)) → (q : ℕ) × (2 < get_or (m ∷ ms) q 0)
    go true t e ih = let r = ih e in (suc r.0, r.1)
    go false t e ih = (0, leb-false m 2 t)

-- n is the number of marks
unmarked : (page n low high : ℕ) (rs : List FreeRegion) → Within low high rs → pages_fit page n rs ≡ false → (b : ℕ) × Free rs b × (n ≤ b / page)
unmarked page n low high [] w e = true_not_false true refl e
unmarked page n low high (r ∷ rs) w e = go (ltb ((end r - 1) / page) n) refl e (unmarked page n (suc (end r)) high rs w.3)
  where
    go : (t : Bool) → ltb ((end r - 1) / page) n ≡ t → (t && pages_fit page n rs) ≡ false
        → (pages_fit page n rs ≡ false → (b : ℕ) × Free rs b × (n ≤ b / page)) → (b : ℕ) × Free (r ∷ rs) b × (n ≤ b / page)
    go true t e ih = let q = ih e in (q.0, inr q.1, q.2)
    go false t e ih = (end r - 1, inl (omega (arith, w.0), omega (arith, w.0)), ltb-false ((end r - 1) / page) n t)

module _ (page : ℕ) (s : PagedLists) where
  abbrev fit : Which → Bool
  fit i = pages_fit page (length s.marks) (regions_of (s.lists i))

  -- the test as it stands in `unsound`
  abbrev all : Bool
  all = are_lists s.lists && (marks_fit s.marks && (fit Metadata && (fit Raw && fit Unclassified)))

  module _ (e : unsound page s ≡ false) where
    pub sound-lists : are_lists s.lists ≡ true
    sound-lists = (and_true (are_lists s.lists) _ (not-false all e)).0

    sound-marks : (marks_fit s.marks ≡ true) × ((fit Metadata && (fit Raw && fit Unclassified)) ≡ true)
    sound-marks = and_true (marks_fit s.marks) _ (and_true (are_lists s.lists) _ (not-false all e)).1

    pub sound-fits : 0 < page → (i : Which) (x : ℕ) → Free (regions_of (s.lists i)) x → x / page < length s.marks
    sound-fits pos i x f = free-marked page pos (length s.marks) (regions_of (s.lists i)) x (go i (and_true (fit Metadata) _ sound-marks.1)) f
      where
        go : (i : Which) → (fit Metadata ≡ true) × ((fit Raw && fit Unclassified) ≡ true) → fit i ≡ true
        go Metadata p = p.0
        go Raw p = (and_true (fit Raw) (fit Unclassified) p.1).0
        go Unclassified p = (and_true (fit Raw) (fit Unclassified) p.1).1

    pub sound-says : 0 < page → Unsound page s → ⊥
    sound-says pos (inl h) = true_not_false (are_lists s.lists) sound-lists h
    sound-says pos (inr (inl (q, h))) = omega (arith, marks-low s.marks sound-marks.0 q)
    sound-says pos (inr (inr (b, (i, f), h))) = omega (arith, sound-fits pos i b f)

  pub unsound-says : unsound page s ≡ true → Unsound page s
  unsound-says e = by_lists (are_lists s.lists) refl (not-true all e)
    where
      without : are_lists s.lists ≡ true → (i : Which) → fit i ≡ false → Unsound page s
      without ok i e =
          let q = unmarked page (length s.marks) 0 _ (regions_of (s.lists i)) (adds_up (s.lists i).run (s.lists i).list (lists-ok s.lists ok i)).order e in
          inr (inr (q.0, (i, q.1), q.2))

      by_pages : are_lists s.lists ≡ true → (m : Bool) → fit Metadata ≡ m → (r : Bool) → fit Raw ≡ r → (m && (r && fit Unclassified)) ≡ false → Unsound page s
      by_pages ok false p r q e = without ok Metadata p
      by_pages ok true p false q e = without ok Raw q
      by_pages ok true p true q e = without ok Unclassified e

      by_marks : are_lists s.lists ≡ true → (t : Bool) → marks_fit s.marks ≡ t → (t && (fit Metadata && (fit Raw && fit Unclassified))) ≡ false → Unsound page s
      by_marks ok false p e = inr (inl (mark_high s.marks p))
      by_marks ok true p e = by_pages ok (fit Metadata) refl (fit Raw) refl e

      by_lists : (t : Bool) → are_lists s.lists ≡ t → (t && (marks_fit s.marks && (fit Metadata && (fit Raw && fit Unclassified)))) ≡ false → Unsound page s
      by_lists false p e = inl p
      by_lists true p e = by_marks p (marks_fit s.marks) refl e

-- ---- refusal 5

module _ (a len : ℕ) (ls : Lists) where
  abbrev in_list_lem : Which → Bool
  in_list_lem i = shares (region a len) (regions_of (ls i))

  pub none_held : is_held a len ls ≡ false → (i : Which) (x : ℕ) → Between a (a + len) x → Free (regions_of (ls i)) x → ⊥
  none_held e i x b f =
      let p = or_false (in_list_lem Metadata) _ e in
      true_not_false (in_list_lem i) ((shares_byte (region a len) (regions_of (ls i))).1 (x, b, f)) (go i p.0 (or_false (in_list_lem Raw) _ p.1))
    where
      go : (i : Which) → in_list_lem Metadata ≡ false → (in_list_lem Raw ≡ false) × (in_list_lem Unclassified ≡ false) → in_list_lem i ≡ false
      go Metadata m q = m
      go Raw m q = q.0
      go Unclassified m q = q.1

  pub held_says : is_held a len ls ≡ true → Common (Between a (a + len)) (FreeInAny ls)
  held_says e = go (in_list_lem Metadata) refl (in_list_lem Raw) refl e
    where
      from : (i : Which) → in_list_lem i ≡ true → Common (Between a (a + len)) (FreeInAny ls)
      from i t = let q = (shares_byte (region a len) (regions_of (ls i))).0 t in (q.0, q.1, (i, q.2))

      go : (m : Bool) → in_list_lem Metadata ≡ m → (r : Bool) → in_list_lem Raw ≡ r → (m || (r || in_list_lem Unclassified)) ≡ true → Common (Between a (a + len)) (FreeInAny ls)
      go true p r q e = from Metadata p
      go false p true q e = from Raw q
      go false p false q e = from Unclassified e
