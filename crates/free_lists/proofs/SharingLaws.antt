-- Laws of lists that are given together: each in order, two of them compared for a shared byte in one pass, and the refusals of three. Assumes nothing.
--   Compared   what is left of two lists shares a byte if the lists do
use mathlib.Core.Path.{◌≡◌, refl, sym, ap, ap₂, ◌∙◌, subst}
use mathlib.Core.List.{List, [], ◌∷◌}
use mathlib.Core.Bool.{Bool, true, false, ◌||◌, not}
use Prim.Native.Nat.{ℕ, zero, suc, ◌+◌, ◌≤◌, ◌<◌}
use native.Mathlib.Nat.{le_of_suc-le-suc, not-suc-le-zero}
use native.Mathlib.Omega.{arith}
use borrow.Author.Tests.{not-false}
use lib.ListN.{length, get_or, drop}
use Rattle.std.specs.Prelude.{Result, Ok, Err}
use Rattle.error.specs.Answers.{as_outcome}
use Rattle.error.specs.declared.Refusal.{Refusal}
use Rattle.error.specs.declared.Refusal.TheVariants.{NotAList, SharedAddress}
use Rattle.error.specs.Outcome.{answer, refused}
use Rattle.error.proofs.OutcomeLaws.{NoneHolds, first_holds, first_passes, first_pass, first_answers, first_refuses}
use Rattle.error.proofs.TestLaws.{and_true}
use Rattle.fields.specs.Ranges.{top}
use Rattle.free_regions.specs.declared.FreeRegion.{FreeRegion}
use Rattle.free_regions.specs.Regions.{region, end, fits_from, ok_from, shares, share_bytes}
use Rattle.free_regions.proofs.OkLaws.{Within, Fit, ok_at, ok_prop}
use Rattle.free_regions.proofs.OrderLaws.{drop-within}
use Rattle.free_regions.proofs.ShareLaws.{meets_both, shares-above, share_past, share_nil}
use Rattle.free_space.specs.declared.list.FreeList.{FreeList}
use Rattle.free_space.specs.Runs.{region_at, decode, is_list}
use Rattle.free_space.proofs.DecodeLaws.{here}
use Rattle.free_space.proofs.ListLaws.{listed}
use Rattle.pairs.proofs.PairLaws.{length-decode, decode-at, decode-end}
use Rattle.free_lists.specs.declared.FileLists.{FileLists}
use Rattle.free_lists.specs.Trailing.{falling, walk, run_start}
use Rattle.free_lists.specs.Lists.{Lists, lists_in, regions_in, are_lists, shared_byte, apart, together}
use Rattle.free_lists.specs.Walks.{counts_of, InOrder, AllInOrder, remaining}

-- ---- regions in order

in_order : (xs : List ℕ) (l : FreeList) → is_list xs l ≡ true → InOrder xs l.count
in_order xs l e = let p = listed xs l e in record { room = p.room; ok = p.ok }

ok-less : (low m n : ℕ) (xs : List ℕ) → m ≤ n → ok_from low (decode n xs) ≡ true → ok_from low (decode m xs) ≡ true
ok-less low zero n xs l e = refl
ok-less low (suc m) zero xs l e = absurd (not-suc-le-zero l)
ok-less low (suc m) (suc n) [] l e = refl
ok-less low (suc m) (suc n) (a ∷ []) l e = refl
ok-less low (suc m) (suc n) (a ∷ b ∷ xs) l e =
    let r = region a b in
    let p = and_true (fits_from low r) (ok_from (suc (end r)) (decode n xs)) e in
    rw p.0 (ok-less (suc (end r)) m n xs (le_of_suc-le-suc l) p.1)

-- the first of them are in order too
pub in_order-less : {xs : List ℕ} {n : ℕ} (m : ℕ) → m ≤ n → InOrder xs n → InOrder xs m
in_order-less {xs} {n} m l p = record { room = omega (arith, p.room); ok = ok-less 0 m n xs l p.ok }

-- each of them, as the code reads it
module _ {xs : List ℕ} {n : ℕ} (p : InOrder xs n) (i : ℕ) (r : FreeRegion) (is : r ≡ region_at xs i) (l : i < n) where
  at_i : get_or (decode n xs) i (region 0 0) ≡ r
  at_i = decode-at region n i xs (region 0 0) l p.room ∙ sym is

  long : i < length (decode n xs)
  long = omega (arith, length-decode region n xs p.room)

  pub order-fits : Fit 0 r
  order-fits = subst (Fit 0) at_i (ok_at 0 i (decode n xs) (region 0 0) p.ok long)

  -- those from it on begin at its address or later
  pub from-here : Within r.addr top (drop i (decode n xs))
  from-here =
      subst (λ (q : FreeRegion). Within q.addr top (drop i (decode n xs))) at_i
      (drop-within 0 top i (decode n xs) (region 0 0) ((ok_prop 0 (decode n xs)).0 p.ok) long)

-- ---- two lists share a byte

pub record Compared (xs : List ℕ) (n : ℕ) (ys : List ℕ) (m i j : ℕ) : Type 0 where
  pub same : share_bytes (drop i (decode n xs)) (drop j (decode m ys)) ≡ share_bytes (decode n xs) (decode m ys)

module _ {xs : List ℕ} {n : ℕ} {ys : List ℕ} {m i j : ℕ} (c : Compared xs n ys m i j) where
  pub no_more : InOrder xs n → n ≤ i → false ≡ share_bytes (decode n xs) (decode m ys)
  no_more p h = sym (ap (λ (l : List FreeRegion). share_bytes l (drop j (decode m ys))) (decode-end region n i xs h p.room)) ∙ c.same

  pub no_others : InOrder ys m → m ≤ j → false ≡ share_bytes (decode n xs) (decode m ys)
  no_others q h =
      sym (share_nil (drop i (decode n xs)))
      ∙ sym (ap (λ (l : List FreeRegion). share_bytes (drop i (decode n xs)) l) (decode-end region m j ys h q.room))
      ∙ c.same

  module _ (p : InOrder xs n) (q : InOrder ys m) (r s : FreeRegion) (is-r : r ≡ region_at xs i) (is-s : s ≡ region_at ys j) (l : i < n) (k : j < m) where
    pub pass_left : end r ≤ s.addr → Compared xs n ys m (i + 1) j
    pass_left h = record {
      same = sym (ap (λ (l : List FreeRegion). share_bytes l (drop j (decode m ys))) (here n i xs r is-r l p.room)
          ∙ ap (λ (b : Bool). b || share_bytes (drop (i + 1) (decode n xs)) (drop j (decode m ys))) (shares-above r s.addr top (drop j (decode m ys)) (from-here q j s is-s k) h))
          ∙ c.same;
    }

    pub pass_right : end s ≤ r.addr → Compared xs n ys m i (j + 1)
    pass_right h = record {
      same = sym (ap (λ (l : List FreeRegion). share_bytes (drop i (decode n xs)) l) (here m j ys s is-s k q.room)
          ∙ share_past r.addr top s (drop i (decode n xs)) (drop (j + 1) (decode m ys)) (from-here p i r is-r l) h)
          ∙ c.same;
    }

    pub both : s.addr < end r → r.addr < end s → true ≡ share_bytes (decode n xs) (decode m ys)
    both a b =
        let f = order-fits p i r is-r l in
        let g = order-fits q j s is-s k in
        let t = meets_both r s f.some g.some a b in
        sym (ap₂ share_bytes (here n i xs r is-r l p.room) (here m j ys s is-s k q.room)
        ∙ ap (λ (b : Bool). (b || shares r (drop (j + 1) (decode m ys))) || share_bytes (drop (i + 1) (decode n xs)) (s ∷ drop (j + 1) (decode m ys))) t)
        ∙ c.same

-- ---- refusals 3 and 5 of three lists

module _ (xs ys zs : List ℕ) (f : FileLists) where
  abbrev ls : Lists
  ls = lists_in xs ys zs f

  -- b and s are the flags of the code
  pub lists-order : {b : Bool} → b ≡ are_lists ls → b ≡ true → AllInOrder xs ys zs (counts_of f)
  lists-order e h =
      let p = and_true (is_list xs f.metadata) _ (sym e ∙ h) in
      let q = and_true (is_list ys f.raw) (is_list zs f.unclassified) p.1 in
      record { meta = in_order xs f.metadata p.0; raw = in_order ys f.raw q.0; unclassified = in_order zs f.unclassified q.1 }

  pub apart_not : {b : Bool} → b ≡ are_lists ls → b ≡ false → refused NotAList ≡ together ls
  apart_not e h = sym (first_holds _ _ _ _ (ap not (sym e ∙ h)))

  pub apart_shared : {b s : Bool} → b ≡ are_lists ls → b ≡ true → s ≡ shared_byte (regions_in ls) → s ≡ true → refused SharedAddress ≡ together ls
  apart_shared e h f g = sym (first_passes _ _ _ _ (ap not (sym e ∙ h)) ∙ first_holds _ _ _ _ (sym f ∙ g))

  pub apart_fine : {b s : Bool} → b ≡ are_lists ls → b ≡ true → s ≡ shared_byte (regions_in ls) → s ≡ false → answer tt ≡ together ls
  apart_fine e h f g = sym (first_pass (apart ls) (answer tt) (ap not (sym e ∙ h), (sym f ∙ g, tt)))

  -- what the answer of the test tells
  module _ {o : (Result (Unit {0}) Refusal)} (a : as_outcome o ≡ together ls) where
    none : o ≡ (Ok tt) → NoneHolds (apart ls)
    none h = (first_answers (apart ls) tt tt (sym a ∙ ap as_outcome h)).0

    pub fine_order : o ≡ (Ok tt) → AllInOrder xs ys zs (counts_of f)
    fine_order h = lists-order refl (not-false (are_lists ls) (none h).0)

    pub start_is : (eof n : ℕ) → o ≡ (Ok tt) → n ≡ walk eof (falling (remaining xs ys zs (counts_of f))) → answer n ≡ run_start ls eof
    unfolding run_start
    start_is eof n h e = ap answer e ∙ sym (first_pass (apart ls) _ (none h))

    pub start_refused : (eof : ℕ) (x : Refusal) → o ≡ Err x → refused x ≡ run_start ls eof
    unfolding run_start
    start_refused eof x h = first_refuses (apart ls) tt x _ (sym (ap as_outcome h) ∙ a)
