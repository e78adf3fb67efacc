-- An accepted paged call keeps the invariant. Assumes nothing.
--   Now       whether a byte is in use for a kind after the last call over it, where F tells whether it was before
--   Kept      the invariant: ByteKept at every byte
--   Turned    the lists after list calls on a kind's list and the shared one
--   From      where a byte that a call goes over was before it
--   Draws     an allocation draws bytes in a row from the shared list, or none; freeing draws none
--   Drew      what a call did to the shared list
--   Good      all that an accepted call does
use mathlib.Core.Path.{◌≡◌, refl, sym, ◌∙◌, subst}
use mathlib.Core.Bool.{true, false, cond}
use mathlib.Core.List.{List, [], ◌∷◌}
use mathlib.Core.Logic.{◌⊎◌, inl, inr, ⊎_elim, ◌↔◌}
use Prim.Native.Nat.{ℕ, ◌+◌, ◌-◌, ◌*◌, ◌/◌, ◌%◌, ◌≤◌, ◌<◌}
use native.Mathlib.Nat.{div-add-mod'}
use native.Mathlib.Omega.{arith}
use borrow.Author.Tests.{eqb-false, leb-false}
use lib.Dec.{leb, ltb, eqb}
use lib.ListN.{length}
use Rattle.error.proofs.TestLaws.{le-or-lt, or_false}
use Rattle.error.proofs.EndsLaws.{answers, says_nothing, chosen}
use Rattle.fields.specs.Ranges.{Range, first_multiple}
use Rattle.free_regions.specs.Regions.{Free}
use Rattle.free_regions.specs.Sets.{Between, Adds, Removes}
use Rattle.free_regions.proofs.InteriorLaws.{first-multiple}
use Rattle.free_lists.specs.declared.calls.Which.TheVariants as which
use Rattle.free_lists.specs.declared.calls.ListCall.{ListCall}
use Rattle.free_lists.specs.declared.calls.ListCall.TheVariants as call
use Rattle.free_lists.specs.Lists.{LentList, regions_of, Lists, regions_in, shared_byte}
use Rattle.free_lists.specs.Decided.{is_held}
use Rattle.free_lists.specs.History.{bytes, on, lists_after, holds}
use Rattle.free_lists.proofs.HistoryLaws.{holds-or}
use Rattle.paged_lists.specs.declared.PageType.{PageType}
use Rattle.paged_lists.specs.declared.PageType.TheVariants.{Meta, Raw}
use Rattle.paged_lists.specs.declared.PagedCall.{PagedCall}
use Rattle.paged_lists.specs.declared.PagedCall.TheVariants as paging
use Rattle.paged_lists.specs.Kinds.{mark_of, list_of}
use Rattle.paged_lists.specs.Pages.{mark_at, marked}
use Rattle.paged_lists.specs.PagedCalls.{PagedLists, Made, left_by, own_bytes, new_pages, paged_alloc, returned, paged_free, paged}
use Rattle.paged_lists.specs.PagedHistory.{LastPaged, never, was, InUse, FreeIn}
use Rattle.paged_lists.proofs.AcceptLaws.{Leaving, Accepts, past, or_else_lem, and_then_lem, Took, free_does, take_does, alloc_does, units_does}
use Rattle.paged_lists.proofs.PageLaws.{in_pages, in_units, mark_set, mark_cleared, mark_kept, own-kind, whole-pages}
use Rattle.paged_lists.proofs.TestedLaws.{sound-fits, none_held}
use Rattle.paged_lists.proofs.ByteLaws.{other, by_kind_lem, ByteKept, now_used, now_listed, now_shared, as_before, not-other, not-shared, shared-free, shared-unused, listed-unused}

abbrev pub Now : PageType → LastPaged → Type 0 → Type 0
Now k never F = F
Now k (was c) F = InUse k (was c)

abbrev pub Kept : ℕ → Lists → List ℕ → (PageType → ℕ → Type 0) → Type 0
Kept page ls ms U = (x : ℕ) → ByteKept (λ k. FreeIn ls (list_of k) x) (λ k. U k x) (FreeIn ls which.Unclassified x) (mark_at page ms x)

-- ---- in a range or not

between-or : (s e x : ℕ) → Between s e x ⊎ (Between s e x → ⊥)
between-or s e x = ⊎_elim (λ h. inl h.1) (λ h. inr h.1) (holds-or s e x)

holds_in : (s e x : ℕ) → Between s e x → holds (bytes s e) x ≡ true
holds_in s e x b = ⊎_elim (λ h. h.0) (λ h. absurd (h.1 b)) (holds-or s e x)

holds-out : (s e x : ℕ) → (Between s e x → ⊥) → holds (bytes s e) x ≡ false
holds-out s e x n = ⊎_elim (λ h. absurd (n h.1)) (λ h. h.0) (holds-or s e x)

-- the call c goes over the bytes from s up to e
module _ (c : PagedCall) (s e x : ℕ) (F : PageType → Type 0) where
  abbrev After : PageType → Type 0
  After k = Now k (cond (holds (bytes s e) x) (was c) never) (F k)

  after_in : Between s e x → (k : PageType) → After k ↔ InUse k (was c)
  after_in b k = rw (holds_in s e x b) (λ t. t, λ t. t)

  after-out : (Between s e x → ⊥) → (k : PageType) → After k ↔ F k
  after-out n k = rw (holds-out s e x n) (λ t. t, λ t. t)

-- ---- an answers call, by what it does to the lists and marks

-- the lists after list calls on the kind's own list and the shared one
record Turned (k : PageType) (ls ls' : Lists) (own shared : LentList) : Type 0 where
  own_is : ls' (list_of k) ≡ own
  other-is : ls' (list_of (other k)) ≡ ls (list_of (other k))
  shared-is : ls' which.Unclassified ≡ shared

module _ (page : ℕ) (k : PageType) (ls : Lists) (ms : List ℕ) (U : PageType → ℕ → Type 0) (kept : Kept page ls ms U) where
  other-same : {ls' : Lists} {own shared : LentList} (x : ℕ) → Turned k ls ls' own shared → FreeIn ls' (list_of (other k)) x ↔ FreeIn ls (list_of (other k)) x
  other-same x t = rw t.other-is (λ f. f, λ f. f)

  own-kept : (len p : ℕ) (ls' : Lists) → Turned k ls ls' (left_by (call.Alloc len) (ls (list_of k))) (ls which.Unclassified)
      → Took len (ls (list_of k)) (bytes p (p + len)) (left_by (call.Alloc len) (ls (list_of k)))
      → Kept page ls' ms (λ j x. After (paging.Alloc k len) p (p + len) x (λ i. U i x) j)
  own-kept len p ls' t q x =
      let b = kept x in
      let f = other-same x t in
      ⊎_elim
      (λ (i : Between p (p + len) x).
      let w = q.were x i in
      let e = b.listed k w in
      now_used k e
      (by_kind_lem k (λ j. FreeIn ls' (list_of j) x → ⊥) (rw t.own_is (λ g. ((q.left.bytes x).0 g).1 i)) (λ g. not-other b k e (f.0 g)))
      (after_in (paging.Alloc k len) p (p + len) x (λ i. U i x) i)
      (rw t.shared-is (not-shared b k e)))
      (λ (n : Between p (p + len) x → ⊥).
      as_before b refl
      (by_kind_lem k (λ j. FreeIn ls' (list_of j) x ↔ FreeIn ls (list_of j) x) (rw t.own_is (λ g. ((q.left.bytes x).0 g).0, λ g. (q.left.bytes x).1 (g, n))) f)
      (after-out (paging.Alloc k len) p (p + len) x (λ i. U i x) n)
      (rw t.shared-is (λ g. g)))
      (between-or p (p + len) x)

  module _ (pos : 0 < page) where
    new_kept : (len w p : ℕ) (ls' : Lists) → Turned k ls ls' (left_by (call.Free (p + len) (w - len)) (ls (list_of k))) (left_by (call.AllocWholeUnits w page) (ls which.Unclassified))
        → len ≤ w → w % page ≡ 0 → p % page ≡ 0 → ((x : ℕ) → FreeIn ls which.Unclassified x → x / page < length ms)
        → Took w (ls which.Unclassified) (bytes p (p + w)) (left_by (call.AllocWholeUnits w page) (ls which.Unclassified))
        → Adds (p + len) (p + len + (w - len)) (regions_of (ls (list_of k))) (regions_of (left_by (call.Free (p + len) (w - len)) (ls (list_of k))))
        → Kept page ls' (marked (p / page) (w / page) (mark_of k) ms) (λ j x. After (paging.Alloc k len) p (p + len) x (λ i. U i x) j)
    new_kept len w p ls' t h wm pm fits q a x =
        let b = kept x in
        let f = other-same x t in
        let u = in_units page pos p w x pm wm in
        ⊎_elim
        (λ (i : Between p (p + w) x).
        let s = q.were x i in
        let e : mark_at page (marked (p / page) (w / page) (mark_of k) ms) x ≡ mark_of k = mark_set page pos (p / page) (w / page) (mark_of k) ms x (u.0 i) (fits x s) in
        let no_other : FreeIn ls' (list_of (other k)) x → ⊥ = λ g. shared-free b s (other k) (f.0 g) in
        let no_shared : FreeIn ls' which.Unclassified x → ⊥ = rw t.shared-is (λ g. ((q.left.bytes x).0 g).1 i) in
        ⊎_elim
        (λ (y : p + len ≤ x).
        now_listed k e (rw t.own_is ((a x).1 (inl (y, omega arith)))) no_other
        (λ j g. shared-unused b s j ((after-out (paging.Alloc k len) p (p + len) x (λ i. U i x) (λ z. omega arith) j).0 g)) no_shared)
        (λ (y : x < p + len).
        now_used k e
        (by_kind_lem k (λ j. FreeIn ls' (list_of j) x → ⊥) (rw t.own_is (λ g. ⊎_elim (λ z. omega arith) (λ z. shared-free b s k z) ((a x).0 g))) no_other)
        (after_in (paging.Alloc k len) p (p + len) x (λ i. U i x) (i.0, y)) no_shared)
        (le-or-lt (p + len) x))
        (λ (n : Between p (p + w) x → ⊥).
        as_before b (mark_kept page pos (p / page) (w / page) (mark_of k) ms x (λ z. n (u.1 z)))
        (by_kind_lem k (λ j. FreeIn ls' (list_of j) x ↔ FreeIn ls (list_of j) x)
        (rw t.own_is (λ g. ⊎_elim (λ z. absurd (n (omega arith, omega arith))) (λ z. z) ((a x).0 g), λ g. (a x).1 (inr g))) f)
        (after-out (paging.Alloc k len) p (p + len) x (λ i. U i x) (λ z. n (omega arith, omega arith)))
        (rw t.shared-is (λ g. ((q.left.bytes x).0 g).0)))
        (between-or p (p + w) x)

    -- ---- a freed range; every byte of it is in pages of the kind, and in no list

    module _ (a len : ℕ) (mine : (x : ℕ) → Between a (a + len) x → mark_at page ms x ≡ mark_of k) where
      -- no page is then all free
      back-kept : (ls' : Lists) → Turned k ls ls' (left_by (call.Free a len) (ls (list_of k))) (ls which.Unclassified)
          → Adds a (a + len) (regions_of (ls (list_of k))) (regions_of (left_by (call.Free a len) (ls (list_of k))))
          → Kept page ls' ms (λ j x. After (paging.Free k a len) a (a + len) x (λ i. U i x) j)
      back-kept ls' t d x =
          let b = kept x in
          let f = other-same x t in
          ⊎_elim
          (λ (i : Between a (a + len) x).
          let e = mine x i in
          now_listed k e (rw t.own_is ((d x).1 (inl i))) (λ g. not-other b k e (f.0 g)) (λ j g. (after_in (paging.Free k a len) a (a + len) x (λ i. U i x) i j).0 g)
          (rw t.shared-is (not-shared b k e)))
          (λ (n : Between a (a + len) x → ⊥).
          as_before b refl
          (by_kind_lem k (λ j. FreeIn ls' (list_of j) x ↔ FreeIn ls (list_of j) x) (rw t.own_is (λ g. ⊎_elim (λ z. absurd (n z)) (λ z. z) ((d x).0 g), λ g. (d x).1 (inr g))) f)
          (after-out (paging.Free k a len) a (a + len) x (λ i. U i x) n)
          (rw t.shared-is (λ g. g)))
          (between-or a (a + len) x)

      -- the n pages from p on are
      pages-kept : (p n : ℕ) (ls' : Lists)
          → Turned k ls ls' (left_by (call.TakeRange (p * page) (n * page)) (left_by (call.Free a len) (ls (list_of k)))) (left_by (call.Free (p * page) (n * page)) (ls which.Unclassified))
          → Adds a (a + len) (regions_of (ls (list_of k))) (regions_of (left_by (call.Free a len) (ls (list_of k))))
          → ((x : ℕ) → Between (p * page) (p * page + n * page) x → Free (regions_of (left_by (call.Free a len) (ls (list_of k)))) x)
          → Removes (p * page) (p * page + n * page) (regions_of (left_by (call.Free a len) (ls (list_of k)))) (regions_of (left_by (call.TakeRange (p * page) (n * page)) (left_by (call.Free a len) (ls (list_of k)))))
          → Adds (p * page) (p * page + n * page) (regions_of (ls which.Unclassified)) (regions_of (left_by (call.Free (p * page) (n * page)) (ls which.Unclassified)))
          → Kept page ls' (marked p n 0 ms) (λ j x. After (paging.Free k a len) a (a + len) x (λ i. U i x) j)
      pages-kept p n ls' t d whole r s x =
          let b = kept x in
          let f = other-same x t in
          let u = in_pages page pos p n x in
          let in-range = after_in (paging.Free k a len) a (a + len) x (λ i. U i x) in
          let out_of_range = after-out (paging.Free k a len) a (a + len) x (λ i. U i x) in
          ⊎_elim
          (λ (i : Between (p * page) (p * page + n * page) x).
          let e : mark_at page ms x ≡ mark_of k = ⊎_elim (λ z. mine x z) (λ z. b.listed k z) ((d x).0 (whole x i)) in
          now_shared (mark_cleared page pos p n ms x (u.0 i))
          (by_kind_lem k (λ j. FreeIn ls' (list_of j) x → ⊥) (rw t.own_is (λ g. ((r x).0 g).1 i)) (λ g. not-other b k e (f.0 g)))
          (λ j g. ⊎_elim (λ z. (in-range z j).0 g)
          (λ z. listed-unused b k (⊎_elim (λ y. absurd (z y)) (λ y. y) ((d x).0 (whole x i))) j ((out_of_range z j).0 g)) (between-or a (a + len) x)))
          (λ (o : Between (p * page) (p * page + n * page) x → ⊥).
          let m : mark_at page (marked p n 0 ms) x ≡ mark_at page ms x = mark_kept page pos p n 0 ms x (λ z. o (u.1 z)) in
          ⊎_elim
          (λ (i : Between a (a + len) x).
          let e = mine x i in
          now_listed k (m ∙ e) (rw t.own_is ((r x).1 ((d x).1 (inl i), o))) (λ g. not-other b k e (f.0 g)) (λ j g. (in-range i j).0 g)
          (rw t.shared-is (λ g. ⊎_elim o (not-shared b k e) ((s x).0 g))))
          (λ (z : Between a (a + len) x → ⊥).
          as_before b m
          (by_kind_lem k (λ j. FreeIn ls' (list_of j) x ↔ FreeIn ls (list_of j) x)
          (rw t.own_is (λ g. ⊎_elim (λ y. absurd (z y)) (λ y. y) ((d x).0 ((r x).0 g).0), λ g. (r x).1 ((d x).1 (inr g), o))) f)
          (out_of_range z)
          (rw t.shared-is (λ g. ⊎_elim (λ y. absurd (o y)) (λ y. y) ((s x).0 g))))
          (between-or a (a + len) x))
          (between-or (p * page) (p * page + n * page) x)

-- ---- the lists after the list calls

module _ (k : PageType) (ls : Lists) where
  turned-own : (c : ListCall) → Turned k ls (lists_after (on (list_of k) c ∷ []) ls) (left_by c (ls (list_of k))) (ls which.Unclassified)
  unfolding lists_after
  turned-own c = go k
    where
      go : (k : PageType) → Turned k ls (lists_after (on (list_of k) c ∷ []) ls) (left_by c (ls (list_of k))) (ls which.Unclassified)
      go Meta = record { own_is = refl; other-is = refl; shared-is = refl }
      go Raw = record { own_is = refl; other-is = refl; shared-is = refl }

  turned_new : (c d : ListCall) → Turned k ls (lists_after (on which.Unclassified c ∷ on (list_of k) d ∷ []) ls) (left_by d (ls (list_of k))) (left_by c (ls which.Unclassified))
  unfolding lists_after
  turned_new c d = go k
    where
      go : (k : PageType) → Turned k ls (lists_after (on which.Unclassified c ∷ on (list_of k) d ∷ []) ls) (left_by d (ls (list_of k))) (left_by c (ls which.Unclassified))
      go Meta = record { own_is = refl; other-is = refl; shared-is = refl }
      go Raw = record { own_is = refl; other-is = refl; shared-is = refl }

  turned-back : (c d e : ListCall) → Turned k ls (lists_after (on (list_of k) c ∷ on (list_of k) d ∷ on which.Unclassified e ∷ []) ls) (left_by d (left_by c (ls (list_of k)))) (left_by e (ls which.Unclassified))
  unfolding lists_after
  turned-back c d e = go k
    where
      go : (k : PageType) → Turned k ls (lists_after (on (list_of k) c ∷ on (list_of k) d ∷ on which.Unclassified e ∷ []) ls) (left_by d (left_by c (ls (list_of k)))) (left_by e (ls which.Unclassified))
      go Meta = record { own_is = refl; other-is = refl; shared-is = refl }
      go Raw = record { own_is = refl; other-is = refl; shared-is = refl }

-- ---- the calls

-- where the bytes that a call goes over were before it
abbrev pub From : PagedCall → ℕ → PagedLists → ℕ → Type 0
From (paging.Alloc k len) page s x = FreeIn s.lists (list_of k) x ⊎ FreeIn s.lists which.Unclassified x
From (paging.Free k a len) page s x = (mark_at page s.marks x ≡ mark_of k) × (FreeIn s.lists (list_of k) x → ⊥)

-- an allocation draws w bytes from p on, or none; freeing draws none
pub record Draws (len page : ℕ) (l m : LentList) : Type 0 where
  pub at : ℕ
  pub count : ℕ
  pub fewer : count < len + page
  pub removes : (l ≡ m) ⊎ Leaving (Removes at (at + count)) l m

abbrev pub Drew : PagedCall → ℕ → LentList → LentList → Type 0
Drew (paging.Alloc k len) page l m = Draws len page l m
Drew (paging.Free k a len) page l m = (l ≡ m) ⊎ ((p : ℕ) × (e : ℕ) × Leaving (Adds p e) l m)

pub record Good (page : ℕ) (c : PagedCall) (s : PagedLists) (U : PageType → ℕ → Type 0) (m : Made) : Type 0 where
  pub kept : Kept page s.lists s.marks U
      → Kept page (lists_after m.calls s.lists) m.marks (λ j x. Now j (cond (holds m.over x) (was c) never) (U j x))
  pub from : (x : ℕ) → Between m.over.start m.over.end x → From c page s x
  pub drew : Drew c page (s.lists which.Unclassified) (lists_after m.calls s.lists which.Unclassified)

module _ (page : ℕ) (k : PageType) (s : PagedLists) (U : PageType → ℕ → Type 0) (pos : 0 < page) where
  own_good : (len : ℕ) → Accepts (Good page (paging.Alloc k len) s U) (own_bytes k len s)
  unfolding own_bytes
  own_good len =
      and_then_lem _ _ (alloc_does (s.lists (list_of k)) len)
      (λ r q. answers
      (let t = turned-own k s.lists (call.Alloc len) in
      subst (λ (r : Range). Took len (s.lists (list_of k)) r (left_by (call.Alloc len) (s.lists (list_of k)))
      → Good page (paging.Alloc k len) s U (record { over = r; calls = on (list_of k) (call.Alloc len) ∷ []; marks = s.marks })) (sym q.range)
      (λ q. record {
        kept = λ h. own-kept page k s.lists s.marks U h len r.start _ t q;
        from = λ x b. inl (q.were x b);
        drew = record { at = 0; count = 0; fewer = omega arith; removes = inl (sym t.shared-is) };
      }) q))

  new_good : (len w : ℕ) → len ≤ w → w < len + page → w % page ≡ 0 → ((x : ℕ) → FreeIn s.lists which.Unclassified x → x / page < length s.marks)
      → Accepts (Good page (paging.Alloc k len) s U) (new_pages page k len w s)
  unfolding new_pages
  new_good len w h less wm fits =
      and_then_lem _ _ (units_does (s.lists which.Unclassified) w page)
      (λ r q. and_then_lem _ _ (free_does (s.lists (list_of k)) (r.start + len) (w - len))
      (λ i d. answers
      (let t = turned_new k s.lists (call.AllocWholeUnits w page) (call.Free (r.start + len) (w - len)) in
      record {
        kept = λ e. new_kept page k s.lists s.marks U e pos len w r.start _ t h wm q.at fits (widen r q.took) d.bytes;
        from = λ x b. inr (q.took.were x (omega arith, omega arith));
        drew = record { at = r.start; count = w; fewer = less; removes = inr (rw t.shared-is q.took.left) };
      })))
    where
      widen : (r : Range) → Took w (s.lists which.Unclassified) r (left_by (call.AllocWholeUnits w page) (s.lists which.Unclassified))
          → Took w (s.lists which.Unclassified) (bytes r.start (r.start + w)) (left_by (call.AllocWholeUnits w page) (s.lists which.Unclassified))
      widen r q = record { range = refl; were = q.were; left = q.left }

  back_good : (a len p e : ℕ) → ((x : ℕ) → Between a (a + len) x → From (paging.Free k a len) page s x)
      → Leaving (Adds a (a + len)) (s.lists (list_of k)) (left_by (call.Free a len) (s.lists (list_of k)))
      → ((x : ℕ) → p ≤ x / page → x / page < e → Free (regions_of (left_by (call.Free a len) (s.lists (list_of k)))) x)
      → Accepts (Good page (paging.Free k a len) s U) (returned page k a len p e s)
  unfolding returned
  back_good a len p e from d whole =
      chosen (leb e p)
      (λ c. answers
      (let t = turned-own k s.lists (call.Free a len) in
      record {
        kept = λ h. back-kept page k s.lists s.marks U h pos a len (λ x b. (from x b).0) _ t d.bytes;
        from = from;
        drew = inl (sym t.shared-is);
      }))
      (λ c.
      let less = leb-false e p c in
      and_then_lem _ _ (take_does (left_by (call.Free a len) (s.lists (list_of k))) (p * page) ((e - p) * page))
      (λ i r. and_then_lem _ _ (free_does (s.lists which.Unclassified) (p * page) ((e - p) * page))
      (λ j u. answers
      (let t = turned-back k s.lists (call.Free a len) (call.TakeRange (p * page) ((e - p) * page)) (call.Free (p * page) ((e - p) * page)) in
      record {
        kept = λ h. pages-kept page k s.lists s.marks U h pos a len (λ x b. (from x b).0) p (e - p) _ t d.bytes
            (λ x b. let z = (in_pages page pos p (e - p) x).0 b in whole x z.0 (omega arith)) r.bytes u.bytes;
        from = from;
        drew = inr (p * page, p * page + (e - p) * page, rw t.shared-is u);
      }))))

-- ---- the theorem of one call

-- the first multiple is less than a unit away
multiple_near : (a u : ℕ) → 0 < u → first_multiple a u < a + u
unfolding first_multiple
multiple_near a u some = omega (arith, div-add-mod' (a + (u - 1)) u)

module _ (page : ℕ) (s : PagedLists) (U : PageType → ℕ → Type 0) where
  alloc_good : (k : PageType) (len : ℕ) → Accepts (Good page (paging.Alloc k len) s U) (paged_alloc page k len s)
  unfolding paged_alloc
  alloc_good k len =
      past _ _ (λ h.
      let z = eqb-false page 0 h.0 in
      let pos : 0 < page = omega arith in
      let w = first_multiple len page in
      let f = first-multiple page pos len in
      let new = new_good page k s U pos len w f.above (multiple_near len page pos) f.multiple (sound-fits page s h.1.0 pos which.Unclassified) in
      chosen (eqb len 0) (λ t. says_nothing tt) (λ t. chosen (ltb len page) (λ u. or_else_lem _ _ (own_good page k s U pos len) (λ e. new)) (λ u. new)))

  free_good : (k : PageType) (a len : ℕ) → Accepts (Good page (paging.Free k a len) s U) (paged_free page k a len s)
  unfolding paged_free
  free_good k a len =
      past _ _ (λ h.
      let z = eqb-false page 0 h.0 in
      let pos : 0 < page = omega arith in
      let held = (or_false (shared_byte (regions_in s.lists)) (is_held a len s.lists) h.1.1.1.0).1 in
      chosen (eqb len 0) (λ t. says_nothing tt)
      (λ t. let y = eqb-false len 0 t in
      and_then_lem _ _ (free_does (s.lists (list_of k)) a len)
      (λ r d. back_good page k s U pos a len _ _
      (λ x b. (own-kind page pos (mark_of k) a len s.marks x h.1.1.1.1.0 b, none_held a len s.lists held (list_of k) x b)) d
      (λ x p e. whole-pages page pos (regions_of (left_by (call.Free a len) (s.lists (list_of k)))) a len x (omega arith) (λ y b. (d.bytes y).1 (inl b)) p e))))

  pub paged_good : (c : PagedCall) → Accepts (Good page c s U) (paged page c s)
  paged_good (paging.Alloc k len) = alloc_good k len
  paged_good (paging.Free k a len) = free_good k a len
