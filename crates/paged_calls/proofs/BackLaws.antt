-- A paged `free` past its tests: what is freed joins the kind's list, and the pages that are then all free go to the shared one. Assumes nothing.
use mathlib.Core.Path.{◌≡◌, refl, sym, ap, ap₂, ◌∙◌, subst, subst⁻¹}
use mathlib.Core.Bool.{Bool, true, false, cond, ◌&&◌}
use mathlib.Core.List.{List, [], ◌∷◌}
use Prim.Native.Nat.{ℕ, suc, ◌+◌, ◌-◌, ◌*◌, ◌/◌, ◌≤◌, ◌<◌}
use native.Mathlib.Nat.{mul-pos, add-mul, suc-mul, div-le_self}
use native.Mathlib.Numerals.{add-one}
use native.Mathlib.Omega.{arith}
use borrow.Author.Tests.{le-leb, lt-leb, leb-true, lt-ltb, ltb-true, eq-eqb, eqb-true}
use lib.Dec.{leb, ltb, eqb}
use lib.ListN.{length, take, drop, get_or}
use lib.Seq.{length-take-le, get_or-append_seam}
use Rattle.std.specs.Prelude.{Some, Ok, Err}
use Rattle.free_space.specs.Splices.{Decision, change}
use Rattle.error.specs.declared.Refusal.{Refusal}
use Rattle.error.specs.declared.Refusal.TheVariants.{OverCapacity}
use Rattle.error.specs.Outcome.{Outcome, answer, refused, and_then}
use Rattle.error.specs.Lent.{With}
use Rattle.error.proofs.TestLaws.{true_not_false, and_true}
use Rattle.fields.specs.Ranges.{Range, top}
use Rattle.free_regions.specs.declared.FreeRegion.{FreeRegion}
use Rattle.free_regions.specs.Regions.{region, end, In, spliced}
use Rattle.free_regions.proofs.OkLaws.{Within, ok_prop}
use Rattle.free_regions.proofs.SetLaws.{at-within}
use Rattle.pairs.specs.Pairs.{capacity}
use Rattle.pairs.proofs.PairLaws.{length-decode, length-spliced}
use Rattle.free_space.specs.declared.list.FreeList.{FreeList}
use Rattle.free_space.specs.declared.decide.Replacement.{Replacement}
use Rattle.free_space.specs.declared.run.Patch.{Patch}
use Rattle.free_space.specs.declared.run.Patch.TheVariants.{Empty, One, Two}
use Rattle.free_space.specs.Runs.{is_list, record_of, stored}
use Rattle.free_space.specs.Calls.{freed}
use Rattle.free_space.specs.Decisions.{kept_by, Keeps, Folds}
use Rattle.free_space.proofs.DecodeLaws.{region_form, decode-stored}
use Rattle.free_space.proofs.ListLaws.{listed}
use Rattle.free_space.proofs.CarryLaws.{carried}
use Rattle.free_lists.specs.declared.calls.Which.TheVariants.{Unclassified}
use Rattle.free_lists.specs.declared.calls.ListCall.TheVariants.{Free, TakeRange}
use Rattle.free_lists.specs.Lists.{LentList, list_in, regions_of, Lists}
use Rattle.free_lists.specs.History.{bytes, on}
use Rattle.free_lists.specs.CallsSay.{FreeSays}
use Rattle.free_lists.proofs.CallLaws.{free_law}
use Rattle.paged_lists.specs.declared.PageType.{PageType}
use Rattle.paged_lists.specs.declared.PagedCall.TheVariants as call
use Rattle.paged_lists.specs.Kinds.{list_of}
use Rattle.paged_lists.specs.Pages.{last_page, whole_page, whole_from, whole_up_to, marked}
use Rattle.paged_lists.specs.PagedCalls.{PagedLists, Made, outcome_of, left_by, joined, returned}
use Rattle.paged_lists.proofs.PageLaws.{page-le, page-lt}
use Rattle.paged_calls.specs.declared.free_pages.Freed.{Freed}
use Rattle.paged_calls.specs.Decisions.{Refused, Own, Returned, carried_in, folded_in, returned_with, Ranged, Joins, GivesBack}
use Rattle.paged_calls.proofs.LeftLaws.{stands-refused, stands-made, own_call, own_twice_then_shared}
use Rattle.paged_calls.proofs.ListDecisionLaws.{kept_as, free_comes_to, free-leaves}
use Rattle.paged_calls.proofs.RegionLaws.{whole-at, take-full, take-room}

-- ---- the list of the kind after what is freed joined it

-- the freed bytes lie in the region r, at a place of the list
pub record Folded (l : LentList) (f : Freed) (r : FreeRegion) : Type 0 where
  pub list : is_list l.run l.list ≡ true
  pub place : ℕ
  pub below : place < length (regions_of l)
  pub is : get_or (regions_of l) place (region 0 0) ≡ r
  pub from : r.addr ≤ f.addr
  pub upto : f.addr + f.len ≤ end r

module _ (f : Freed) (own : LentList) (b lo hi total : ℕ) (r : FreeRegion)
    (keeps : Keeps own.run own.list (freed own.run own.list f.addr f.len) (change b lo hi total (One r)))
    (folds : Folds f.addr f.len (change b lo hi total (One r))) where
  abbrev rs : List FreeRegion
  rs = spliced (regions_of own) lo hi (r ∷ [])

  abbrev pub freed_list : LentList
  freed_list = list_in (stored own.run own.list.count rs) (record_of rs)

  says : FreeSays own.run own.list f.addr f.len (kept_by own.run own.list (change b lo hi total (One r)))
  says = subst⁻¹ (FreeSays own.run own.list f.addr f.len) keeps.0 (free_law own.run own.list f.addr f.len)

  left_is : left_by (Free f.addr f.len) own ≡ freed_list
  left_is =
      sym (free-leaves own (change b lo hi total (One r)) f.addr f.len keeps)
      ∙ ap (λ (w : With FreeList (List ℕ)). list_in w.memory w.value) (carried own.run own.list b lo hi total (One r) keeps.1)

  long : length rs ≡ lo + 1 + (own.list.count - hi)
  long = let k = keeps.1 in length-spliced region_form own.run own.list.count lo hi (r ∷ []) k.0 k.1 k.2

  regions_are : regions_of freed_list ≡ rs
  regions_are = decode-stored own.run own.list.count rs (omega (arith, long, keeps.1.3))

  count-is : lo + 1 + (own.list.count - hi) ≡ freed_list.list.count
  count-is = sym long

  room-is : capacity own.run ≡ capacity freed_list.run
  room-is = ap (λ (n : ℕ). n / 2) (sym says.says.1.long)

  pub folded : Folded freed_list f r
  folded =
      let k = keeps.1 in
      let n : length (take lo (regions_of own)) ≡ lo = length-take-le lo (regions_of own) (omega (arith, k.0, k.1, length-decode region own.list.count own.run k.2)) in
      record {
        list = says.says.1.left;
        place = lo;
        below = subst⁻¹ (λ (q : List FreeRegion). lo < length q) regions_are (omega (arith, long));
        is = ap (λ (q : List FreeRegion). get_or q lo (region 0 0)) regions_are
            ∙ ap (λ (i : ℕ). get_or rs i (region 0 0)) (sym n) ∙ get_or-append_seam (take lo (regions_of own)) r (drop hi (regions_of own)) (region 0 0);
        from = folds.0;
        upto = folds.1;
      }

-- ---- the pages that are then all free

module _ (page : ℕ) (f : Freed) (ranged : Ranged page f) (l : LentList) (r : FreeRegion) (folded : Folded l f r) where
  abbrev pub whole_in : ℕ → Bool
  whole_in q = leb r.addr (q * page) && leb (q * page + page) (end r)

  within : Within 0 top (regions_of l)
  within = (ok_prop 0 (regions_of l)).0 (listed l.run l.list folded.list).ok

  region-ends : end r ≤ top
  region-ends = subst (λ (q : FreeRegion). end q ≤ top) folded.is (at-within 0 top folded.place (regions_of l) (region 0 0) within folded.below).1

  whole_is : (x : ℕ) → In r x → whole_page page (regions_of l) (x / page) ≡ whole_in (x / page)
  whole_is x t =
      subst (λ (q : FreeRegion). whole_page page (regions_of l) (x / page) ≡ (leb q.addr (x / page * page) && leb (x / page * page + page) (end q))) folded.is
      (whole-at page ranged.page_some (region 0 0) 0 top folded.place x (regions_of l) within folded.below (subst⁻¹ (λ (q : FreeRegion). In q x) folded.is t))

  from_is : {p : ℕ} → p ≡ cond (whole_in f.first) f.first (suc f.first) → whole_from page (regions_of l) f.addr ≡ p
  from_is e =
      ap (λ (t : Bool). cond t (f.addr / page) (suc (f.addr / page))) (whole_is f.addr (folded.from, omega (arith, folded.upto, ranged.some)))
      ∙ ap (λ (q : ℕ). cond (whole_in q) q (suc q)) (sym ranged.first-is) ∙ sym e

  up_to-is : {e : ℕ} → e ≡ cond (whole_in f.last) (suc f.last) f.last → whole_up_to page (regions_of l) f.addr f.len ≡ e
  up_to-is e =
      ap (λ (t : Bool). cond t (suc (last_page page f.addr f.len)) (last_page page f.addr f.len))
      (whole_is (f.addr + f.len - 1) (omega (arith, folded.from, ranged.some), omega (arith, folded.upto, ranged.some)))
      ∙ ap (λ (q : ℕ). cond (whole_in q) (suc q) q) (sym ranged.last-is) ∙ sym e

  -- they lie in the region
  from_in : {p : ℕ} → p ≡ cond (whole_in f.first) f.first (suc f.first) → r.addr ≤ p * page
  from_in e = subst⁻¹ (λ (p : ℕ). r.addr ≤ p * page) e (go (whole_in f.first) refl)
    where
      go : (t : Bool) → whole_in f.first ≡ t → r.addr ≤ cond t f.first (suc f.first) * page
      go true t = leb-true r.addr (f.first * page) (and_true (leb r.addr (f.first * page)) _ t).0
      go false t =
          let h = page-lt page ranged.page_some f.addr in
          let q : f.first * page ≡ f.addr / page * page = ap (λ (n : ℕ). n * page) ranged.first-is in
          omega (arith, suc-mul f.first page, folded.from)

  up_to_in : {e : ℕ} → e ≡ cond (whole_in f.last) (suc f.last) f.last → e * page ≤ end r
  up_to_in e = subst⁻¹ (λ (p : ℕ). p * page ≤ end r) e (go (whole_in f.last) refl)
    where
      go : (t : Bool) → whole_in f.last ≡ t → cond t (suc f.last) f.last * page ≤ end r
      go true t =
          let h = leb-true (f.last * page + page) (end r) (and_true (leb r.addr (f.last * page)) _ t).1 in
          omega (arith, suc-mul f.last page)
      go false t =
          let h = page-le page ranged.page_some (f.addr + f.len - 1) in
          let q : f.last * page ≡ last_page page f.addr f.len * page = ap (λ (n : ℕ). n * page) ranged.last-is in
          omega (arith, folded.upto, ranged.some)

  -- whether they can be taken
  module _ (p e : ℕ) (some : p < e) (low : r.addr ≤ p * page) (high : e * page ≤ end r) where
    span : p * page + (e - p) * page ≡ e * page
    span = let s : p + (e - p) ≡ e = omega arith in sym (add-mul p (e - p) page) ∙ ap (λ (n : ℕ). n * page) s

    bytes-some : 0 < (e - p) * page
    bytes-some = mul-pos {m = e - p} {n = page} (omega arith) ranged.page_some

    pages-fit : p * page + (e - p) * page ≤ top
    pages-fit = omega (arith, span, region-ends)

    abbrev is_over : Bool
    is_over = eqb l.list.count (capacity l.run) && (ltb r.addr (p * page) && ltb (e * page) (end r))

    in_region : In (get_or (regions_of l) folded.place (region 0 0)) (p * page)
    in_region = subst⁻¹ (λ (q : FreeRegion). In q (p * page)) folded.is (low, omega (arith, span, bytes-some))

    taken-over : is_over ≡ true → outcome_of (TakeRange (p * page) ((e - p) * page)) l ≡ refused (OverCapacity (suc l.list.count) (capacity l.run))
    taken-over t =
        let u = and_true (eqb l.list.count (capacity l.run)) _ t in
        let v = and_true (ltb r.addr (p * page)) _ u.1 in
        let x = ltb-true (e * page) (end r) v.1 in
        let y : end (get_or (regions_of l) folded.place (region 0 0)) ≡ end r = ap end folded.is in
        let z : (get_or (regions_of l) folded.place (region 0 0)).addr ≡ r.addr = ap (λ (q : FreeRegion). q.addr) folded.is in
        take-full l (p * page) ((e - p) * page) folded.place (p * page) folded.list pages-fit bytes-some (omega arith, omega (arith, bytes-some)) folded.below in_region
        (eqb-true l.list.count (capacity l.run) u.0) (omega (arith, ltb-true r.addr (p * page) v.0)) (omega (arith, span))

    taken-fits : is_over ≡ false → outcome_of (TakeRange (p * page) ((e - p) * page)) l ≡ answer (bytes (p * page) (p * page + (e - p) * page))
    taken-fits t =
        let y : end (get_or (regions_of l) folded.place (region 0 0)) ≡ end r = ap end folded.is in
        let z : (get_or (regions_of l) folded.place (region 0 0)).addr ≡ r.addr = ap (λ (q : FreeRegion). q.addr) folded.is in
        take-room l (p * page) ((e - p) * page) folded.place (p * page) folded.list pages-fit bytes-some (omega arith, omega (arith, bytes-some)) folded.below in_region
        (λ full front back. true_not_false is_over
        (rw (eq-eqb l.list.count (capacity l.run) full, lt-ltb r.addr (p * page) (omega (arith, front))) (lt-ltb (e * page) (end r) (omega (arith, back, span)))) t)

-- ---- what the code answers

module _ (page : ℕ) (f : Freed) (own shared : LentList) where
  -- the kind's list refuses, which is 14
  pub back-refused : {d : Decision} {r : Refusal} → Joins page f own d → d ≡ Err r → GivesBack page f own shared (Refused r)
  unfolding and_then
  back-refused {d} {r} joins e k s i j =
      let o : outcome_of (Free f.addr f.len) own ≡ refused r = free_comes_to own d f.addr f.len joins.keeps.0 ∙ ap (kept_as (bytes f.addr (f.addr + f.len))) e in
      stands-refused (call.Free k f.addr f.len) s r
      (ap (λ (x : Outcome Range). and_then x (λ freed. returned page k f.addr f.len (whole_from page (regions_of (left_by (Free f.addr f.len) own)) f.addr)
      (whole_up_to page (regions_of (left_by (Free f.addr f.len) own)) f.addr f.len) s)) o)

  module _ (d : Decision) (keeps : Keeps own.run own.list (freed own.run own.list f.addr f.len) d)
      (o : outcome_of (Free f.addr f.len) own ≡ answer (bytes f.addr (f.addr + f.len))) (p e : ℕ)
      (from : whole_from page (regions_of (left_by (Free f.addr f.len) own)) f.addr ≡ p)
      (upto : whole_up_to page (regions_of (left_by (Free f.addr f.len) own)) f.addr f.len ≡ e) where
    leaves : carried_in own d ≡ left_by (Free f.addr f.len) own
    leaves = free-leaves own d f.addr f.len keeps

    abbrev outcome : PageType → PagedLists → Outcome Made
    outcome k s =
        and_then (outcome_of (Free f.addr f.len) own)
        (λ freed. returned page k f.addr f.len (whole_from page (regions_of (left_by (Free f.addr f.len) own)) f.addr)
        (whole_up_to page (regions_of (left_by (Free f.addr f.len) own)) f.addr f.len) s)

    back-joined : e ≤ p → GivesBack page f own shared (Own f.addr d)
    unfolding and_then returned
    back-joined h k s i j =
        let n : outcome k s ≡ answer (joined k f.addr f.len s) = rw (o, from, upto, le-leb e p h) refl in
        stands-made (call.Free k f.addr f.len) s (Own f.addr d) (joined k f.addr f.len s) n refl
        (ap (λ (ls : Lists). record { lists = ls; marks = s.marks })
        (own_call s.lists k (Free f.addr f.len) (ap (λ (l : LentList). carried_in l d) i ∙ leaves ∙ ap (left_by (Free f.addr f.len)) (sym i)) refl))

    module _ (some : p < e) where
      back-over : (r : Refusal) → outcome_of (TakeRange (p * page) ((e - p) * page)) (left_by (Free f.addr f.len) own) ≡ refused r → GivesBack page f own shared (Refused r)
      unfolding and_then returned
      back-over r t k s i j =
          let n : outcome k s ≡ refused r = rw (o, from, upto, lt-leb e p some, i, t) refl in
          stands-refused (call.Free k f.addr f.len) s r n

      module _ (t : outcome_of (TakeRange (p * page) ((e - p) * page)) (left_by (Free f.addr f.len) own) ≡ answer (bytes (p * page) (p * page + (e - p) * page))) where
        back : PageType → PagedLists → Made
        back k s = record {
          over = bytes f.addr (f.addr + f.len);
          calls = on (list_of k) (Free f.addr f.len) ∷ on (list_of k) (TakeRange (p * page) ((e - p) * page)) ∷ on Unclassified (Free (p * page) ((e - p) * page)) ∷ [];
          marks = marked p (e - p) 0 s.marks;
        }

        by_pages : (pages : Decision) → Keeps shared.run shared.list (freed shared.run shared.list (p * page) ((e - p) * page)) pages
            → outcome_of (Free (p * page) ((e - p) * page)) shared ≡ answer (bytes (p * page) (p * page + (e - p) * page))
            → GivesBack page f own shared (Returned d (p * page) ((e - p) * page) pages p (e - p))
        unfolding and_then returned back
        by_pages pages h u k s i j =
            let n : outcome k s ≡ answer (back k s) = rw (o, from, upto, lt-leb e p some, i, t, j, u) refl in
            stands-made (call.Free k f.addr f.len) s (Returned d (p * page) ((e - p) * page) pages p (e - p)) (back k s) n refl
            (ap (λ (ls : Lists). record { lists = ls; marks = marked p (e - p) 0 s.marks })
            (own_twice_then_shared s.lists k (Free f.addr f.len) (TakeRange (p * page) ((e - p) * page)) (Free (p * page) ((e - p) * page))
            (ap (left_by (TakeRange (p * page) ((e - p) * page))) (ap (λ (l : LentList). carried_in l d) i ∙ leaves ∙ ap (left_by (Free f.addr f.len)) (sym i)))
            (ap (λ (l : LentList). carried_in l pages) j ∙ free-leaves shared pages (p * page) ((e - p) * page) h ∙ ap (left_by (Free (p * page) ((e - p) * page))) (sym j))))

        back-made : (pages : Decision) → Keeps shared.run shared.list (freed shared.run shared.list (p * page) ((e - p) * page)) pages
            → GivesBack page f own shared (returned_with d (p * page) ((e - p) * page) p (e - p) pages)
        unfolding and_then returned
        back-made (Err r) h = λ k s i j.
            let u : outcome_of (Free (p * page) ((e - p) * page)) shared ≡ refused r = free_comes_to shared (Err r) (p * page) ((e - p) * page) h.0 in
            let n : outcome k s ≡ refused r = rw (o, from, upto, lt-leb e p some, i, t, j, u) refl in
            stands-refused (call.Free k f.addr f.len) s r n
        back-made (Ok c) h = by_pages (Ok c) h (free_comes_to shared (Ok c) (p * page) ((e - p) * page) h.0)

-- ---- by the decision of the code, and by the pages that it found

one-region : (a len b lo hi total : ℕ) (q : Patch) → Folds a len (change b lo hi total q) → q ≡ One (folded_in q)
one-region a len b lo hi total Empty f = absurd f
one-region a len b lo hi total (One r) f = refl
one-region a len b lo hi total (Two r s) f = absurd f

module _ {page : ℕ} {f : Freed} {own : LentList} {d : Decision} (joins : Joins page f own d) {c : Replacement} (is : d ≡ Ok (Some c))
    {r : FreeRegion} (found : r ≡ folded_in c.patch) where
  abbrev b : ℕ
  b = c.addr

  abbrev lo : ℕ
  lo = c.lo

  abbrev hi : ℕ
  hi = c.hi

  abbrev total : ℕ
  total = c.total

  abbrev q : Patch
  q = c.patch

  in_one : change b lo hi total q ≡ change b lo hi total (One r)
  in_one =
      ap (change b lo hi total) (one-region f.addr f.len b lo hi total q (subst (Folds f.addr f.len) is joins.folds) ∙ ap One (sym found))

  keeps_as : Keeps own.run own.list (freed own.run own.list f.addr f.len) (change b lo hi total q)
  keeps_as = subst (Keeps own.run own.list (freed own.run own.list f.addr f.len)) is joins.keeps

  keeps_one : Keeps own.run own.list (freed own.run own.list f.addr f.len) (change b lo hi total (One r))
  keeps_one = subst (Keeps own.run own.list (freed own.run own.list f.addr f.len)) in_one keeps_as

  folds_one : Folds f.addr f.len (change b lo hi total (One r))
  folds_one = subst (Folds f.addr f.len) (is ∙ in_one) joins.folds

  l : LentList
  l = freed_list f own b lo hi total r keeps_one folds_one

  in_l : Folded l f r
  unfolding l
  in_l = folded f own b lo hi total r keeps_one folds_one

  is-left : left_by (Free f.addr f.len) own ≡ l
  unfolding l
  is-left = left_is f own b lo hi total r keeps_one folds_one

  pub ends : end r ≤ top
  ends = region-ends page f joins.ranged l r in_l

  pub first-low : (f.first * page ≤ end r) × (f.first < top)
  first-low =
      let h = page-le page joins.ranged.page_some f.addr in
      let g : f.first * page ≡ f.addr / page * page = ap (λ (n : ℕ). n * page) joins.ranged.first-is in
      (omega (arith, in_l.upto), omega (arith, joins.ranged.first-is, div-le_self f.addr page, joins.ranged.within, joins.ranged.some))

  pub last-low : (f.last * page ≤ end r) × (f.last < top)
  last-low =
      let h = page-le page joins.ranged.page_some (f.addr + f.len - 1) in
      let g : f.last * page ≡ last_page page f.addr f.len * page = ap (λ (n : ℕ). n * page) joins.ranged.last-is in
      (omega (arith, in_l.upto, joins.ranged.some), omega (arith, joins.ranged.last-is, div-le_self (f.addr + f.len - 1) page, joins.ranged.within, joins.ranged.some))

  module _ {p e : ℕ} (from : p ≡ cond (leb r.addr (f.first * page) && leb (f.first * page + page) (end r)) f.first (suc f.first))
      (upto : e ≡ cond (leb r.addr (f.last * page) && leb (f.last * page + page) (end r)) (suc f.last) f.last) where
    low : r.addr ≤ p * page
    low = from_in page f joins.ranged l r in_l from

    high : e * page ≤ end r
    high = up_to_in page f joins.ranged l r in_l upto

    accepted : outcome_of (Free f.addr f.len) own ≡ answer (bytes f.addr (f.addr + f.len))
    accepted = free_comes_to own (change b lo hi total q) f.addr f.len keeps_as.0

    from_l : whole_from page (regions_of (left_by (Free f.addr f.len) own)) f.addr ≡ p
    from_l = ap (λ (x : LentList). whole_from page (regions_of x) f.addr) is-left ∙ from_is page f joins.ranged l r in_l from

    upto_l : whole_up_to page (regions_of (left_by (Free f.addr f.len) own)) f.addr f.len ≡ e
    upto_l = ap (λ (x : LentList). whole_up_to page (regions_of x) f.addr f.len) is-left ∙ up_to-is page f joins.ranged l r in_l upto

    pub gives-own : (shared : LentList) → e ≤ p → GivesBack page f own shared (Own f.addr d)
    gives-own shared h =
        subst⁻¹ (λ (x : Decision). GivesBack page f own shared (Own f.addr x)) is
        (back-joined page f own shared (change b lo hi total q) keeps_as accepted p e from_l upto_l h)

    module _ (some : p < e) where
      pages-span : p * page + (e - p) * page ≡ e * page
      pages-span = span page f joins.ranged l r in_l p e some low high

      pub pages_lie : (p * page ≤ top) × ((e - p) * page ≤ top) × (e * page ≤ top)
      pages_lie = (omega (arith, pages-span, high, ends), omega (arith, pages-span, high, ends), omega (arith, high, ends))

      -- whether the code found the run full
      module _ (shared : LentList) {t : Bool} (tested : t ≡ (eqb (lo + 1 + (own.list.count - hi)) (capacity own.run) && (ltb r.addr (p * page) && ltb (e * page) (end r)))) where
        at_l : t ≡ (eqb l.list.count (capacity l.run) && (ltb r.addr (p * page) && ltb (e * page) (end r)))
        unfolding l
        at_l = tested ∙ ap₂ (λ (n m : ℕ). eqb n m && (ltb r.addr (p * page) && ltb (e * page) (end r)))
            (count-is f own b lo hi total r keeps_one folds_one) (room-is f own b lo hi total r keeps_one folds_one)

        pub gives-full : t ≡ true → GivesBack page f own shared (Refused (OverCapacity (lo + 1 + (own.list.count - hi) + 1) (capacity own.run)))
        unfolding l
        gives-full h =
            back-over page f own shared (change b lo hi total q) keeps_as accepted p e from_l upto_l some (OverCapacity (lo + 1 + (own.list.count - hi) + 1) (capacity own.run))
            (ap (outcome_of (TakeRange (p * page) ((e - p) * page))) is-left ∙ taken-over page f joins.ranged l r in_l p e some low high (sym at_l ∙ h)
            ∙ ap₂ (λ (n m : ℕ). refused (OverCapacity n m))
            (ap suc (sym (count-is f own b lo hi total r keeps_one folds_one)) ∙ sym (add-one (lo + 1 + (own.list.count - hi))))
            (sym (room-is f own b lo hi total r keeps_one folds_one)))

        pub gives-pages : t ≡ false → (pages : Decision) → Keeps shared.run shared.list (freed shared.run shared.list (p * page) ((e - p) * page)) pages
            → GivesBack page f own shared (returned_with d (p * page) ((e - p) * page) p (e - p) pages)
        gives-pages h pages k =
            subst⁻¹ (λ (x : Decision). GivesBack page f own shared (returned_with x (p * page) ((e - p) * page) p (e - p) pages)) is
            (back-made page f own shared (change b lo hi total q) keeps_as accepted p e from_l upto_l some
            (ap (outcome_of (TakeRange (p * page) ((e - p) * page))) is-left ∙ taken-fits page f joins.ranged l r in_l p e some low high (sym at_l ∙ h)) pages k)
