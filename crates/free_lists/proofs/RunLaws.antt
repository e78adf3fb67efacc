-- What pins the two questions that are asked of three lists together (specs/ListsSay.antt), proved. Assumes nothing.
--   Disjoint   no region of a list is empty, and no two of them share a byte
--   Falls      no region of a list is empty, and each lies above all that come after it
--   Reaches    where a walk down such regions ends
use mathlib.Core.Path.{◌≡◌, refl}
use mathlib.Core.List.{List, [], ◌∷◌, ◌++◌}
use mathlib.Core.Bool.{Bool, true, false, cond, ◌||◌}
use mathlib.Core.Logic.{◌⊎◌, inl, inr, ⊎_elim, ◌↔◌}
use Prim.Native.Nat.{ℕ, suc, ◌-◌, ◌≤◌, ◌<◌, min}
use native.Mathlib.Omega.{arith}
use borrow.Author.Tests.{leb-true, leb-false, ltb-true, ltb-false, not-true, not-false}
use lib.Dec.{leb, ltb}
use Rattle.error.proofs.EndsLaws.{answers, untested, tested}
use Rattle.error.proofs.TestLaws.{le-or-lt, true_not_false, and_true}
use Rattle.error.specs.Ends.{Ends}
use Rattle.error.specs.Outcome.{Outcome, first_of}
use Rattle.fields.specs.Ranges.{top}
use Rattle.free_regions.specs.declared.FreeRegion.{FreeRegion}
use Rattle.free_regions.specs.Regions.{end, In, Free, share_bytes}
use Rattle.free_regions.specs.Sets.{Between, Common}
use Rattle.free_regions.proofs.OkLaws.{Within, ok_prop}
use Rattle.free_regions.proofs.SetLaws.{free-between, free-append}
use Rattle.free_regions.proofs.ShareLaws.{lists_byte}
use Rattle.free_space.specs.Runs.{is_list}
use Rattle.free_space.proofs.ListLaws.{listed}
use Rattle.free_lists.specs.declared.calls.Which.{Which}
use Rattle.free_lists.specs.declared.calls.Which.TheVariants.{Metadata, Raw, Unclassified}
use Rattle.free_lists.specs.Lists.{LentList, regions_of, Lists, regions_in, are_lists, shared_byte, apart}
use Rattle.free_lists.specs.Trailing.{put, falling, walk, all_regions, run_start}
use Rattle.free_lists.specs.ListsSay.{FreeInAny, TwoShare, NotTogether, three, five, RunTo, ListsSay}

-- ---- regions that share no byte

abbrev Disjoint : List FreeRegion → Type 0
Disjoint [] = Unit {0}
Disjoint (r ∷ rs) = (0 < r.len) × ((x : ℕ) → In r x → Free rs x → ⊥) × Disjoint rs

within_disjoint : (low high : ℕ) (rs : List FreeRegion) → Within low high rs → Disjoint rs
within_disjoint low high [] w = tt
within_disjoint low high (r ∷ rs) w =
    (w.0, (λ x i f. let b = free-between (suc (end r)) high x rs w.3 f in omega arith), within_disjoint (suc (end r)) high rs w.3)

append_disjoint : (rs ss : List FreeRegion) → Disjoint rs → Disjoint ss → (Common (Free rs) (Free ss) → ⊥) → Disjoint (rs ++ ss)
append_disjoint [] ss d e n = e
append_disjoint (r ∷ rs) ss d e n =
    (d.0, (λ x i f. ⊎_elim (d.1 x i) (λ g. n (x, inl i, g)) ((free-append x rs ss).0 f)), append_disjoint rs ss d.2 e (λ q. n (q.0, inr q.1, q.2)))

-- ---- by falling address

put-free : (r : FreeRegion) (ss : List FreeRegion) (x : ℕ) → Free (put r ss) x ↔ (In r x ⊎ Free ss x)
put-free r [] x = (λ f. f, λ f. f)
put-free r (s ∷ ss) x = go (leb s.addr r.addr) (put-free r ss x)
  where
    go : (t : Bool) → (Free (put r ss) x ↔ (In r x ⊎ Free ss x)) → Free (cond t (r ∷ s ∷ ss) (s ∷ put r ss)) x ↔ (In r x ⊎ (In s x ⊎ Free ss x))
    go true ih = (λ f. f, λ f. f)
    go false ih = (
      ⊎_elim (λ i. inr (inl i)) (λ f. ⊎_elim (λ i. inl i) (λ g. inr (inr g)) (ih.0 f)),
      ⊎_elim (λ i. inr (ih.1 (inl i))) (⊎_elim (λ i. inl i) (λ g. inr (ih.1 (inr g)))),
    )

falling-free : (rs : List FreeRegion) (x : ℕ) → Free (falling rs) x ↔ Free rs x
falling-free [] x = (λ f. f, λ f. f)
falling-free (r ∷ rs) x =
    let p = put-free r (falling rs) x in
    let ih = falling-free rs x in
    (λ f. ⊎_elim (λ i. inl i) (λ g. inr (ih.0 g)) (p.0 f), ⊎_elim (λ i. p.1 (inl i)) (λ g. p.1 (inr (ih.1 g))))

abbrev Falls : List FreeRegion → Type 0
Falls [] = Unit {0}
Falls (r ∷ rs) = (0 < r.len) × ((x : ℕ) → Free rs x → x < r.addr) × Falls rs

put_falls : (r : FreeRegion) (ss : List FreeRegion) → 0 < r.len → ((x : ℕ) → In r x → Free ss x → ⊥) → Falls ss → Falls (put r ss)
put_falls r [] k n f = (k, (λ x g. absurd g), tt)
put_falls r (s ∷ ss) k n f = go (leb s.addr r.addr) refl (put_falls r ss k (λ x i g. n x i (inr g)) f.2)
  where
    some : 0 < s.len
    some = f.0

    -- the first byte of one would be in the other
    under : s.addr ≤ r.addr → (x : ℕ) → In s x → x < r.addr
    under h x i = ⊎_elim (λ (m : r.addr ≤ x). absurd (n r.addr (omega arith, omega arith) (inl (h, omega arith)))) (λ m. m) (le-or-lt r.addr x)

    above : r.addr < s.addr → (x : ℕ) → In r x → x < s.addr
    above h x i = ⊎_elim (λ (m : s.addr ≤ x). absurd (n s.addr (omega arith, omega arith) (inl (omega arith, omega arith)))) (λ m. m) (le-or-lt s.addr x)

    go : (t : Bool) → leb s.addr r.addr ≡ t → Falls (put r ss) → Falls (cond t (r ∷ s ∷ ss) (s ∷ put r ss))
    go true e ih =
        let h : s.addr ≤ r.addr = leb-true s.addr r.addr e in
        (k, (λ x g. ⊎_elim (under h x) (λ q. let l : x < s.addr = f.1 x q in omega arith) g), f)
    go false e ih =
        let h : r.addr < s.addr = leb-false s.addr r.addr e in
        (some, (λ x g. ⊎_elim (above h x) (f.1 x) ((put-free r ss x).0 g)), ih)

falls : (rs : List FreeRegion) → Disjoint rs → Falls (falling rs)
falls [] d = tt
falls (r ∷ rs) d = put_falls r (falling rs) d.0 (λ x i f. d.1 x i ((falling-free rs x).0 f)) (falls rs d.2)

-- ---- the walk

record Reaches (from : ℕ) (rs : List FreeRegion) (start : ℕ) : Type 0 where
  below : start ≤ from
  free : (x : ℕ) → Between start from x → Free rs x
  stops : 0 < start → Free rs (start - 1) → ⊥

walk_reaches : (from : ℕ) (rs : List FreeRegion) → Falls rs → Reaches from rs (walk from rs)
walk_reaches from [] f = record { below = omega arith; free = λ x b. omega arith; stops = λ p g. g }
walk_reaches from (r ∷ rs) f = go (ltb (end r) from) refl (walk_reaches (min from r.addr) rs f.2)
  where
    go : (t : Bool) → ltb (end r) from ≡ t → Reaches (min from r.addr) rs (walk (min from r.addr) rs)
        → Reaches from (r ∷ rs) (cond t from (walk (min from r.addr) rs))
    go true e q =
        let h : end r < from = ltb-true (end r) from e in record {
          below = omega arith;
          free = λ x b. absurd (omega arith);
          stops = λ p. ⊎_elim (λ i. omega arith) (λ g. let l : from - 1 < r.addr = f.1 (from - 1) g in omega arith);
        }
    go false e q =
        let h : from ≤ end r = ltb-false (end r) from e in
        let k = q.below in record {
          below = omega arith;
          free = λ x b. ⊎_elim (λ (m : min from r.addr ≤ x). inl (omega arith, omega arith)) (λ m. inr (q.free x (b.0, m))) (le-or-lt (min from r.addr) x);
          stops = λ p. ⊎_elim (λ i. omega arith) (q.stops p);
        }

-- ---- three lists

module _ (ls : Lists) where
  abbrev of : Which → List FreeRegion
  of i = regions_of (ls i)

  any_free : (x : ℕ) → Free (all_regions ls) x ↔ FreeInAny ls x
  any_free x =
      let p = free-append x (of Metadata) (of Raw ++ of Unclassified) in
      let q = free-append x (of Raw) (of Unclassified) in
      (λ f. ⊎_elim (λ g. (Metadata, g)) (λ g. ⊎_elim (λ h. (Raw, h)) (λ h. (Unclassified, h)) (q.0 g)) (p.0 f), back p q)
    where
      back : (Free (all_regions ls) x ↔ (Free (of Metadata) x ⊎ Free (of Raw ++ of Unclassified) x))
          → (Free (of Raw ++ of Unclassified) x ↔ (Free (of Raw) x ⊎ Free (of Unclassified) x)) → FreeInAny ls x → Free (all_regions ls) x
      back p q (Metadata, f) = p.1 (inl f)
      back p q (Raw, f) = p.1 (inr (q.1 (inl f)))
      back p q (Unclassified, f) = p.1 (inr (q.1 (inr f)))

  -- two lists share a byte where the test says so, and nowhere else
  pub shared : shared_byte (regions_in ls) ≡ true → TwoShare ls
  shared e = go (share_bytes (of Metadata) (of Raw)) refl (share_bytes (of Metadata) (of Unclassified)) refl e
    where
      go : (s : Bool) → share_bytes (of Metadata) (of Raw) ≡ s → (t : Bool) → share_bytes (of Metadata) (of Unclassified) ≡ t
          → (s || (t || share_bytes (of Raw) (of Unclassified))) ≡ true → TwoShare ls
      go true p t q e = (Metadata, Raw, refl, (lists_byte (of Metadata) (of Raw)).0 p)
      go false p true q e = (Metadata, Unclassified, refl, (lists_byte (of Metadata) (of Unclassified)).0 q)
      go false p false q e = (Raw, Unclassified, refl, (lists_byte (of Raw) (of Unclassified)).0 e)

  module _ (no : shared_byte (regions_in ls) ≡ false) where
    either_no : (s t : Bool) → (s || t) ≡ false → (s ≡ false) × (t ≡ false)
    either_no true t e = true_not_false true refl e
    either_no false t e = (refl, e)

    abbrev rest_no : (share_bytes (of Metadata) (of Unclassified) ≡ false) × (share_bytes (of Raw) (of Unclassified) ≡ false)
    rest_no = either_no (share_bytes (of Metadata) (of Unclassified)) (share_bytes (of Raw) (of Unclassified))
        (either_no (share_bytes (of Metadata) (of Raw)) (share_bytes (of Metadata) (of Unclassified) || share_bytes (of Raw) (of Unclassified)) no).1

    not_common : (i j : Which) → share_bytes (of i) (of j) ≡ false → Common (Free (of i)) (Free (of j)) → ⊥
    not_common i j e q = true_not_false (share_bytes (of i) (of j)) ((lists_byte (of i) (of j)).1 q) e

    meta-raw : Common (Free (of Metadata)) (Free (of Raw)) → ⊥
    meta-raw = not_common Metadata Raw (either_no (share_bytes (of Metadata) (of Raw)) (share_bytes (of Metadata) (of Unclassified) || share_bytes (of Raw) (of Unclassified)) no).0

    meta-unclassified : Common (Free (of Metadata)) (Free (of Unclassified)) → ⊥
    meta-unclassified = not_common Metadata Unclassified rest_no.0

    raw-unclassified : Common (Free (of Raw)) (Free (of Unclassified)) → ⊥
    raw-unclassified = not_common Raw Unclassified rest_no.1

    pub none-shared : TwoShare ls → ⊥
    none-shared (Metadata, Metadata, e, q) = true_not_false true refl e
    none-shared (Metadata, Raw, e, q) = meta-raw q
    none-shared (Metadata, Unclassified, e, q) = meta-unclassified q
    none-shared (Raw, Metadata, e, q) = meta-raw (q.0, q.2, q.1)
    none-shared (Raw, Raw, e, q) = true_not_false true refl e
    none-shared (Raw, Unclassified, e, q) = raw-unclassified q
    none-shared (Unclassified, Metadata, e, q) = meta-unclassified (q.0, q.2, q.1)
    none-shared (Unclassified, Raw, e, q) = raw-unclassified (q.0, q.2, q.1)
    none-shared (Unclassified, Unclassified, e, q) = true_not_false true refl e

    all_disjoint : are_lists ls ≡ true → Disjoint (all_regions ls)
    all_disjoint ok =
        let p = and_true (is_list (ls Metadata).run (ls Metadata).list) _ ok in
        let q = and_true (is_list (ls Raw).run (ls Raw).list) _ p.1 in
        append_disjoint (of Metadata) (of Raw ++ of Unclassified) (one (ls Metadata) p.0)
        (append_disjoint (of Raw) (of Unclassified) (one (ls Raw) q.0) (one (ls Unclassified) q.1) raw-unclassified)
        (λ t. ⊎_elim (λ g. meta-raw (t.0, t.1, g)) (λ g. meta-unclassified (t.0, t.1, g)) ((free-append t.0 (of Raw) (of Unclassified)).0 t.2))
      where
        one : (l : LentList) → is_list l.run l.list ≡ true → Disjoint (regions_of l)
        one l e = within_disjoint 0 top (regions_of l) ((ok_prop 0 (regions_of l)).0 (listed l.run l.list e).ok)

    run_to : (eof : ℕ) → are_lists ls ≡ true → RunTo ls eof (walk eof (falling (all_regions ls)))
    run_to eof ok =
        let w = walk_reaches eof (falling (all_regions ls)) (falls (all_regions ls) (all_disjoint ok)) in record {
          accepted = record { lists = ok; apart = none-shared };
          below = w.below;
          free = λ x b. (any_free x).0 ((falling-free (all_regions ls) x).0 (w.free x b));
          stops = λ p f. w.stops p ((falling-free (all_regions ls) _).1 ((any_free _).1 f));
        }

  -- the refusals, in their order
  tested-together : {A : Type 0} {P : A → Type 0} (x : Outcome A) → (are_lists ls ≡ true → shared_byte (regions_in ls) ≡ false → Ends P ⊥ (NotTogether ls) x)
      → Ends P ⊥ (NotTogether ls) (first_of (apart ls) x)
  tested-together x f = tested _ _ _ (λ t. three (not-true (are_lists ls) t)) (λ t. let ok = not-false (are_lists ls) t in
      tested _ _ _ (λ s. five ok (shared s)) (λ s. untested _ (f ok s)))

  pub lists_say : ListsSay ls
  unfolding run_start
  lists_say = record {
    check_lists = tested-together _ (λ ok no. answers (record { lists = ok; apart = none-shared no }));
    trailing_run_start = λ eof. tested-together _ (λ ok no. answers (run_to no eof ok));
  }
