-- What pins each of the five calls (specs/CallsSay.antt), proved: along the conditions of its definition, and then of the run that it leaves. Assumes nothing.
use mathlib.Core.Path.{◌≡◌, refl, sym, ap, ◌∙◌, subst}
use mathlib.Core.List.{List, [], ◌∷◌, ◌++◌}
use mathlib.Core.Bool.{Bool, true, false, cond, not, ◌&&◌}
use mathlib.Core.Logic.{inl, inr, ⊎_elim, ◌↔◌}
use Prim.Native.Nat.{ℕ, zero, suc, ◌+◌, ◌-◌, ◌*◌, ◌%◌, ◌≤◌, ◌<◌}
use native.Mathlib.Omega.{arith}
use borrow.Author.Tests.{ltb-true, ltb-false, ne_eqb, eqb-true, eqb-false, not-true, not-false}
use lib.Dec.{ltb, eqb}
use lib.ListN.{length, get_or, replicate, length-append, length-replicate}
use Rattle.error.specs.Outcome.{Outcome, nothing, Condition, first_of}
use Rattle.error.specs.Lent.{With, with, over}
use Rattle.error.proofs.TestLaws.{le-or-lt, true_not_false, and_true}
use Rattle.error.proofs.EndsLaws.{answers, says_nothing, chosen, untested, tested}
use Rattle.error.proofs.OverLaws.{length_over, over_right, get_or-above}
use Rattle.fields.specs.Ranges.{top}
use Rattle.free_regions.specs.declared.FreeRegion.{FreeRegion}
use Rattle.free_regions.specs.Regions.{region, end, shares, insert, cut_all, around, spliced, Found, none, at, best}
use Rattle.free_regions.specs.Units.{interior_start, interior_span}
use Rattle.free_regions.specs.Sets.{Shared, Adds, Removes, nth, FirstMultiple}
use Rattle.free_regions.proofs.OkLaws.{Within, ok_prop}
use Rattle.free_regions.proofs.SetLaws.{insert-within, insert-free, taken-within, taken_free, were-free, dropped_within, dropped_free}
use Rattle.free_regions.proofs.CutSets.{Grows, cut-all-within, cut-all-free, cut-all-long, insert-long, taken-long, dropped_long}
use Rattle.free_regions.proofs.BestLaws.{best_none, best_at}
use Rattle.free_regions.proofs.InteriorLaws.{first-multiple, interior-inside}
use Rattle.free_regions.proofs.ShareLaws.{shares_byte}
use Rattle.free_space.specs.declared.list.FreeList.{FreeList}
use Rattle.free_space.specs.Runs.{flat, record_of, regions, is_list, stored}
use Rattle.free_space.specs.Calls.{not_list, overflows, part_unit, no_room, placed, keeping, giving, freed, range_taken, serve, allocated, allocated_units, trailing_taken}
use Rattle.free_space.proofs.DecodeLaws.{decode-stored, region_form}
use Rattle.free_space.proofs.ListLaws.{listed, record_is-list}
use Rattle.pairs.specs.Pairs.{capacity}
use Rattle.pairs.proofs.PairLaws.{length-decode, length-flat}
use Rattle.free_lists.specs.CallsSay.{Passes, Refuses, three, four, five, six, fourteen, CallSays, Leaves, FreeSays, TakeRangeSays, TwoLeft, ServeSays, AllocSays, PartUnit, UnitsSays, last_of, TrailingSays, CallsSay}

-- ---- what an accepted call leaves

zeros_at : (i n k : ℕ) (xs : List ℕ) → i ≤ k → k < i + n → get_or (over i (replicate n 0) xs) k 0 ≡ 0
zeros_at i n k [] h l = refl
zeros_at zero zero k (x ∷ xs) h l = absurd (omega arith)
zeros_at zero (suc n) zero (x ∷ xs) h l = refl
zeros_at zero (suc n) (suc k) (x ∷ xs) h l = zeros_at zero n k xs (omega arith) (omega arith)
zeros_at (suc i) n zero (x ∷ xs) h l = absurd (omega arith)
zeros_at (suc i) n (suc k) (x ∷ xs) h l = zeros_at i n k xs (omega arith) (omega arith)

module _ (xs : List ℕ) (n : ℕ) (rs : List FreeRegion) where
  zeros : List ℕ
  zeros = replicate (2 * n - length (flat rs)) 0

  stored-long : length (stored xs n rs) ≡ length xs
  unfolding stored
  stored-long = length_over 0 (flat rs ++ replicate (2 * n - length (flat rs)) 0) xs

  stored-cleared : (k : ℕ) → 2 * length rs ≤ k → k < 2 * n → get_or (stored xs n rs) k 0 ≡ 0
  unfolding stored zeros
  stored-cleared k h l =
      let f = length-flat region_form rs in
      ap (λ (ys : List ℕ). get_or ys k 0) (sym (over_right 0 (flat rs) zeros xs))
      ∙ zeros_at (0 + length (flat rs)) (2 * n - length (flat rs)) k (over 0 (flat rs) xs) (omega arith) (omega arith)

  stored-rest : (k : ℕ) → 2 * length rs ≤ k → 2 * n ≤ k → get_or (stored xs n rs) k 0 ≡ get_or xs k 0
  unfolding stored zeros
  stored-rest k h l =
      get_or-above 0 k (flat rs ++ zeros) xs (omega (arith, length-flat region_form rs, length-append (flat rs) zeros, length-replicate {A = ℕ} (2 * n - length (flat rs)) 0))

leaves : (Change : List FreeRegion → List FreeRegion → Type 0) (xs : List ℕ) (l : FreeList) (rs : List FreeRegion) → is_list xs l ≡ true
    → Within 0 top rs → length rs ≤ capacity xs → Change (regions xs l) rs → Leaves Change xs l (stored xs l.count rs) (record_of rs)
leaves Change xs l rs ok w room c =
    let ys = stored xs l.count rs in
    let same : length ys ≡ length xs = stored-long xs l.count rs in
    let back : regions ys (record_of rs) ≡ rs = decode-stored xs l.count rs (omega arith) in
    record {
      given = ok;
      left = record_is-list ys rs (ap (λ (k : ℕ). k % 2) same ∙ (listed xs l ok).even) (omega arith) back ((ok_prop 0 rs).1 w);
      bytes = rw back c;
      long = same;
      cleared = stored-cleared xs l.count rs;
      rest = stored-rest xs l.count rs;
    }

-- ---- the order of the refusals

module _ (xs : List ℕ) (l : FreeList) (over shared part full : Type 0) {A : Type 0} {P : With A (List ℕ) → Type 0} {N : Type 0} where
  -- refusal 3 first
  on_list : (cs : List Condition) (x : Outcome (With A (List ℕ))) → (is_list xs l ≡ true → CallSays xs l over shared part full P N (first_of cs x))
      → CallSays xs l over shared part full P N (first_of (not_list xs l ∷ cs) x)
  on_list cs x f = tested (not_list xs l) cs x (λ t. three (not-true (is_list xs l) t)) (λ t. f (not-false (is_list xs l) t))

  -- the regions rs are left if the run has room for them; full says why they are more than before
  places : (give : FreeList → A) (Change : List FreeRegion → List FreeRegion → Type 0) (rs : List FreeRegion) → Passes xs l over shared part
      → Within 0 top rs → Change (regions xs l) rs → (l.count < length rs → (length rs ≡ suc l.count) × full)
      → (Leaves Change xs l (stored xs l.count rs) (record_of rs) → P (with (give (record_of rs)) (stored xs l.count rs)))
      → CallSays xs l over shared part full P N (placed give xs l rs)
  places give Change rs ok w c more f =
      tested (no_room xs rs) _ _ no_room_lem (λ t. untested _ (answers (ok, f (leaves Change xs l rs ok.list w (ltb-false (capacity xs) (length rs) t) c))))
    where
      no_room_lem : ltb (capacity xs) (length rs) ≡ true → Refuses xs l over shared part full 14 (length rs ∷ capacity xs ∷ [])
      no_room_lem t =
          let h : capacity xs < length rs = ltb-true (capacity xs) (length rs) t in
          let k : l.count ≤ capacity xs = omega (arith, (listed xs l ok.list).room) in
          let q = more (omega arith) in
          let e : suc l.count ≡ length rs = omega (arith, q.0) in
          subst (λ (n : ℕ). Refuses xs l over shared part full 14 (n ∷ capacity xs ∷ [])) e (fourteen ok (omega (arith, q.0)) q.1)

-- none of 4, 5 and 6 is one of the call's refusals
passes : (xs : List ℕ) (l : FreeList) → is_list xs l ≡ true → Passes xs l ⊥ ⊥ ⊥
passes xs l ok = record { list = ok; fits = λ t. t; fresh = λ t. t; whole = λ t. t }

-- ---- `free` and `take_range`

module _ (xs : List ℕ) (l : FreeList) where
  within : is_list xs l ≡ true → Within 0 top (regions xs l)
  within ok = (ok_prop 0 (regions xs l)).0 (listed xs l ok).ok

  long : is_list xs l ≡ true → length (regions xs l) ≡ l.count
  long ok = length-decode region l.count xs (listed xs l ok).room

  -- where a change that may grow has grown
  grew : (rs : List FreeRegion) (full : Type 0) → is_list xs l ≡ true → Grows (regions xs l) rs full → l.count < length rs → (length rs ≡ suc l.count) × full
  grew rs full ok g h = let n = long ok in ⊎_elim (λ p. absurd (omega arith)) (λ p. (omega arith, p.1)) g

  module _ (a len : ℕ) where
    fit : ltb top (a + len) ≡ false → top < a + len → ⊥
    fit o h = let k : a + len ≤ top = ltb-false top (a + len) o in omega arith

    pub free_law : FreeSays xs l a len (freed xs l a len)
    unfolding freed
    free_law =
        on_list xs l _ _ _ _ _ _ (λ ok. tested (overflows a len) _ _ (λ t. four ok (ltb-true top (a + len) t))
        (λ o. tested _ _ _ (λ t. five ok (fit o) ((shares_byte (region a len) (regions xs l)).0 t))
        (λ s. untested _ (by_zero (record {
          list = ok;
          fits = fit o;
          fresh = λ q. true_not_false (shares (region a len) (regions xs l)) ((shares_byte (region a len) (regions xs l)).1 q) s;
          whole = λ t. t;
        }) (eqb len 0) refl))))
      where
        by_zero : Passes xs l (top < a + len) (Shared a (a + len) (regions xs l)) ⊥ → (b : Bool) → eqb len 0 ≡ b
            → FreeSays xs l a len (placed keeping xs l (cond b (regions xs l) (insert (region a len) (regions xs l))))
        by_zero p true t =
            let z : len ≡ 0 = eqb-true len 0 t in
            let n = long p.list in
            places xs l _ _ _ _ keeping (Adds a (a + len)) (regions xs l) p (within p.list) (λ x. (inr, ⊎_elim (λ u. absurd (omega arith)) (λ f. f)))
            (λ g. absurd (omega arith)) (λ q. q)
        by_zero p false t =
            let z : len ≡ 0 → ⊥ = eqb-false len 0 t in
            let new = region a len in
            let rs = regions xs l in
            let h : a + len ≤ top = ⊎_elim (λ k. k) (λ k. absurd (p.fits k)) (le-or-lt (a + len) top) in
            places xs l _ _ _ _ keeping (Adds a (a + len)) (insert new rs) p (insert-within 0 top new rs (within p.list) (omega arith) (omega arith) h)
            (insert-free 0 top new rs (within p.list))
            (λ h. let g = grew (insert new rs) _ p.list (insert-long 0 top new rs (within p.list)) h in (g.0, (omega arith, g.1))) (λ q. q)

    pub take_law : TakeRangeSays xs l a len (range_taken xs l a len)
    unfolding range_taken
    take_law =
        on_list xs l _ _ _ _ _ _ (λ ok. tested (overflows a len) _ _ (λ t. four ok (ltb-true top (a + len) t))
        (λ o. untested _ (by_zero (record { list = ok; fits = fit o; fresh = λ t. t; whole = λ t. t }) (eqb len 0) refl)))
      where
        by_zero : Passes xs l (top < a + len) ⊥ ⊥ → (b : Bool) → eqb len 0 ≡ b → TakeRangeSays xs l a len (placed keeping xs l (cond b (regions xs l) (cut_all a (a + len) (regions xs l))))
        by_zero p true t =
            let z : len ≡ 0 = eqb-true len 0 t in
            let n = long p.list in
            places xs l _ _ _ _ keeping (Removes a (a + len)) (regions xs l) p (within p.list) (λ x. (λ f. (f, λ u. omega arith), λ q. q.0))
            (λ g. absurd (omega arith)) (λ q. q)
        by_zero p false t =
            let z : len ≡ 0 → ⊥ = eqb-false len 0 t in
            let some : a < a + len = omega arith in
            let rs = regions xs l in
            places xs l _ _ _ _ keeping (Removes a (a + len)) (cut_all a (a + len) rs) p (cut-all-within a (a + len) some 0 top rs (within p.list))
            (cut-all-free a (a + len) some rs)
            (λ h. let g = grew (cut_all a (a + len) rs) _ p.list (cut-all-long a (a + len) some 0 top rs (within p.list)) h in (g.0, (omega arith, g.1))) (λ q. q)

-- ---- allocations

module _ (xs : List ℕ) (l : FreeList) (span start : FreeRegion → ℕ) (Address : FreeRegion → ℕ → Type 0) (len : ℕ) (part full : Type 0) where
  -- inside says that a region which suffices does so from start on
  served : Passes xs l ⊥ ⊥ part → ((r : FreeRegion) → 0 < len → len ≤ span r → (r.addr ≤ start r) × (start r + len ≤ end r) × Address r (start r))
      → (TwoLeft span start len (regions xs l) → full) → ServeSays xs l span Address len part full (cond (eqb len 0) nothing (serve start xs l len (best span len 0 (regions xs l))))
  served p inside two = chosen (eqb len 0) (λ z. says_nothing (p, inl (eqb-true len 0 z))) (λ z. by_found (eqb-false len 0 z) (best span len 0 (regions xs l)) refl)
    where
      rs : List FreeRegion
      rs = regions xs l

      by_found : (len ≡ 0 → ⊥) → (f : Found) → best span len 0 (regions xs l) ≡ f → ServeSays xs l span Address len part full (serve start xs l len f)
      by_found z none e = says_nothing (p, inr (best_none span len rs e))
      by_found z (at i s) e =
          let b = best_at span len rs i s e in
          let r = nth rs i in
          let from = start r in
          let some : 0 < len = omega arith in
          let q = inside r some b.suffices in
          let ss = spliced rs i (suc i) (around r from len) in
          let w = within xs l p.list in
          places xs l _ _ _ _ (giving from) (Removes from (from + len)) ss p
          (taken-within 0 top i from len rs (region 0 0) w b.there some q.0 q.1)
          (taken_free 0 top i from len rs (region 0 0) w b.there some q.0 q.1)
          (λ h.
          let g = grew xs l ss _ p.list (taken-long i from len rs (region 0 0) b.there) h in
          (g.0, two (record { place = i; some = some; best = b; before = g.1.0; after = g.1.1 })))
          (λ t. record {
            place = i;
            some = some;
            best = b;
            address = q.2;
            were = were-free 0 top i from len rs (region 0 0) w b.there some q.0 q.1;
            leaves = t;
          })

part_unit_lem : (len unit : ℕ) → (not (eqb unit 0) && not (eqb (len % unit) 0)) ≡ true ↔ PartUnit len unit
part_unit_lem len unit = (
  λ t. let p = and_true (not (eqb unit 0)) (not (eqb (len % unit) 0)) t in
      (eqb-false unit 0 (not-true (eqb unit 0) p.0), eqb-false (len % unit) 0 (not-true (eqb (len % unit) 0) p.1)),
  λ p. rw (ne_eqb unit 0 p.0, ne_eqb (len % unit) 0 p.1) refl,
)

module _ (xs : List ℕ) (l : FreeList) (len : ℕ) where
  -- from the front, so that no bytes are left before it
  pub alloc_law : AllocSays xs l len (allocated xs l len)
  unfolding allocated
  alloc_law =
      on_list xs l _ _ _ _ _ _
      (λ ok. untested _ (served xs l (λ r. r.len) (λ r. r.addr) (λ r p. p ≡ r.addr) len ⊥ ⊥ (passes xs l ok)
      (λ r some h. (omega arith, omega arith, refl)) (λ q. let h = q.before in omega arith)))

  pub units_law : (unit : ℕ) → UnitsSays xs l len unit (allocated_units xs l len unit)
  unfolding allocated_units
  units_law unit =
      on_list xs l _ _ _ _ _ _
      (λ ok. tested _ _ _ (λ t. six ok (λ v. v) (λ v. v) ((part_unit_lem len unit).0 t))
      (λ t. untested _ (served xs l (interior_span unit) (interior_start unit) (λ r p. FirstMultiple unit r.addr p) len _ _
      (record { list = ok; fits = λ v. v; fresh = λ v. v; whole = λ q. true_not_false (part_unit len unit) ((part_unit_lem len unit).1 q) t })
      (λ r some h. let q = interior-inside unit len r some h in let m = first-multiple unit q.0 r.addr in (m.above, q.1, m)) (λ q. q))))

-- ---- `take_trailing`

module _ (xs : List ℕ) (l : FreeList) (eof : ℕ) where
  pub trailing_law : TrailingSays xs l eof (trailing_taken xs l eof)
  unfolding trailing_taken
  trailing_law = on_list xs l _ _ _ _ _ _ (λ ok. untested _ (by_last (passes xs l ok) (eqb (length rs) 0) refl (eqb (end (last_of rs)) eof) refl))
    where
      rs : List FreeRegion
      rs = regions xs l

      ss : List FreeRegion
      ss = spliced rs (length rs - 1) (suc (length rs - 1)) []

      by_last : Passes xs l ⊥ ⊥ ⊥ → (e : Bool) → eqb (length rs) 0 ≡ e → (f : Bool) → eqb (end (last_of rs)) eof ≡ f
          → TrailingSays xs l eof (cond (not e && f) (placed (giving (last_of rs).addr) xs l ss) nothing)
      by_last p true t f u = says_nothing (p, inl (eqb-true (length rs) 0 t))
      by_last p false t false u = says_nothing (p, inr (eqb-false (end (last_of rs)) eof u))
      by_last p false t true u =
          let z : length rs ≡ 0 → ⊥ = eqb-false (length rs) 0 t in
          let e : end (last_of rs) ≡ eof = eqb-true (end (last_of rs)) eof u in
          let last = length rs - 1 in
          let n = long xs l p.list in
          let w = within xs l p.list in
          let k : last < length rs = omega arith in
          let d = region 0 0 in
          places xs l _ _ _ _ (giving (last_of rs).addr) (Removes (last_of rs).addr eof) ss p (dropped_within 0 top last rs d w k)
          (rw e at (dropped_free 0 top last rs d w k)) (λ h. absurd (omega (arith, dropped_long last rs k))) (λ q. record { some = omega arith; ends = e; address = refl; leaves = q })

-- ---- all five

pub calls_say : (xs : List ℕ) (l : FreeList) → CallsSay xs l
calls_say xs l = record {
  free = free_law xs l;
  take_range = take_law xs l;
  alloc = alloc_law xs l;
  alloc_whole_units = units_law xs l;
  take_trailing = trailing_law xs l;
}
