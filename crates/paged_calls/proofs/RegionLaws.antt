-- What code needs to decide a paged `free` before it changes anything: which pages go back, and whether taking them is refused, by the one
-- region that the freed bytes fold into. Assumes nothing.
use mathlib.Core.Path.{◌≡◌, refl, ap, ◌∙◌}
use mathlib.Core.Bool.{Bool, true, false, cond, ◌&&◌, ◌||◌, not}
use mathlib.Core.List.{List, [], ◌∷◌}
use mathlib.Core.Logic.{inl, inr, ⊎_elim, ◌↔◌}
use Prim.Native.Nat.{ℕ, zero, suc, ◌+◌, ◌*◌, ◌/◌, ◌≤◌, ◌<◌}
use native.Mathlib.Nat.{not-suc-le-zero, le_of_suc-le-suc}
use native.Mathlib.Omega.{arith}
use borrow.Author.Tests.{lt-leb, lt-ltb, le-ltb, ne_eqb}
use lib.Dec.{leb}
use lib.ListN.{length, get_or}
use Rattle.error.specs.declared.Refusal.TheVariants.{OverCapacity}
use Rattle.error.specs.Outcome.{Outcome, answer, refused}
use Rattle.error.specs.Lent.{With, leaving}
use Rattle.error.proofs.OutcomeLaws.{first_pass, first_holds}
use Rattle.error.proofs.TestLaws.{le-or-lt}
use Rattle.fields.specs.Ranges.{top}
use Rattle.free_regions.specs.declared.FreeRegion.{FreeRegion}
use Rattle.free_regions.specs.Regions.{region, end, In, cut_all}
use Rattle.free_regions.specs.Sets.{Between, StrictlyInside}
use Rattle.free_regions.proofs.OkLaws.{Within, ok_prop}
use Rattle.free_regions.proofs.SetLaws.{at-within}
use Rattle.free_regions.proofs.CutSets.{cut-all-long}
use Rattle.pairs.specs.Pairs.{capacity}
use Rattle.pairs.proofs.PairLaws.{length-decode}
use Rattle.free_space.specs.declared.list.FreeList.{FreeList}
use Rattle.free_space.specs.Runs.{is_list}
use Rattle.free_space.specs.Calls.{not_list, overflows, no_room, placed, keeping, range_taken}
use Rattle.free_space.proofs.ListLaws.{listed}
use Rattle.free_lists.specs.declared.calls.ListCall.TheVariants.{TakeRange}
use Rattle.free_lists.specs.Lists.{LentList, regions_of}
use Rattle.free_lists.specs.History.{mapped, bytes}
use Rattle.paged_lists.specs.Pages.{covers, whole_page}
use Rattle.paged_lists.specs.PagedCalls.{outcome_of}
use Rattle.paged_lists.proofs.PageLaws.{page-le, page-lt}

-- ---- the one region that a byte lies in decides for every range around the byte

above-covers : (low high a e x : ℕ) (rs : List FreeRegion) → Within low high rs → x < low → a ≤ x → covers a e rs ≡ false
above-covers low high a e x [] w h k = refl
above-covers low high a e x (r ∷ rs) w h k =
    let from = w.2 in
    rw (lt-leb r.addr a (omega arith)) (above-covers (suc (end r)) high a e x rs w.3 (omega arith) k)

above-inside : (low high a e x : ℕ) (rs : List FreeRegion) → Within low high rs → x < low → a ≤ x → StrictlyInside a e rs → ⊥
above-inside low high a e x [] w h k t = t
above-inside low high a e x (r ∷ rs) w h k (inl t) = let from = w.2 in omega arith
above-inside low high a e x (r ∷ rs) w h k (inr t) = let from = w.2 in above-inside (suc (end r)) high a e x rs w.3 (omega arith) k t

module _ (a e x : ℕ) (b : Between a e x) (d : FreeRegion) where
  covers_at : (low high i : ℕ) (rs : List FreeRegion) → Within low high rs → i < length rs → In (get_or rs i d) x
      → covers a e rs ≡ (leb (get_or rs i d).addr a && leb e (end (get_or rs i d)))
  covers_at low high i [] w l t = absurd (not-suc-le-zero l)
  covers_at low high zero (r ∷ rs) w l t = rw (above-covers (suc (end r)) high a e x rs w.3 (omega arith) b.0) (or_false_right (leb r.addr a && leb e (end r)))
    where
      or_false_right : (t : Bool) → (t || false) ≡ t
      or_false_right true = refl
      or_false_right false = refl
  covers_at low high (suc i) (r ∷ rs) w l t =
      let q = at-within (suc (end r)) high i rs d w.3 (le_of_suc-le-suc l) in
      rw (lt-leb e (end r) (omega arith), and_false_right (leb r.addr a)) (covers_at (suc (end r)) high i rs w.3 (le_of_suc-le-suc l) t)
    where
      and_false_right : (t : Bool) → (t && false) ≡ false
      and_false_right true = refl
      and_false_right false = refl

  inside-at : (low high i : ℕ) (rs : List FreeRegion) → Within low high rs → i < length rs → In (get_or rs i d) x
      → StrictlyInside a e rs ↔ (((get_or rs i d).addr < a) × (e < end (get_or rs i d)))
  inside-at low high i [] w l t = absurd (not-suc-le-zero l)
  inside-at low high zero (r ∷ rs) w l t =
      (⊎_elim (λ u. u) (λ u. absurd (above-inside (suc (end r)) high a e x rs w.3 (omega arith) b.0 u)), λ u. inl u)
  inside-at low high (suc i) (r ∷ rs) w l t =
      let q = at-within (suc (end r)) high i rs d w.3 (le_of_suc-le-suc l) in
      let ih = inside-at (suc (end r)) high i rs w.3 (le_of_suc-le-suc l) t in
      (⊎_elim (λ u. absurd (omega arith)) ih.0, λ u. inr (ih.1 u))

-- so a page that a freed range meets goes back exactly where that region has it whole
module _ (page : ℕ) (pos : 0 < page) (d : FreeRegion) (low high i x : ℕ) (rs : List FreeRegion) (w : Within low high rs) (l : i < length rs) (t : In (get_or rs i d) x) where
  pub whole-at : whole_page page rs (x / page) ≡ (leb (get_or rs i d).addr (x / page * page) && leb (x / page * page + page) (end (get_or rs i d)))
  whole-at = covers_at (x / page * page) (x / page * page + page) x (page-le page pos x, page-lt page pos x) d low high i rs w l t

-- ---- whether `take_range` is refused, where the region at i holds a byte of the range

module _ (l : LentList) (a n i x : ℕ) (ok : is_list l.run l.list ≡ true) (fits : a + n ≤ top) (some : 0 < n) (b : Between a (a + n) x)
    (k : i < length (regions_of l)) (t : In (get_or (regions_of l) i (region 0 0)) x) where
  within : Within 0 top (regions_of l)
  within = (ok_prop 0 (regions_of l)).0 (listed l.run l.list ok).ok

  long : length (regions_of l) ≡ l.list.count
  long = length-decode region l.list.count l.run (listed l.run l.list ok).room

  placing : range_taken l.run l.list a n ≡ placed keeping l.run l.list (cut_all a (a + n) (regions_of l))
  unfolding range_taken
  placing =
      first_pass (not_list l.run l.list ∷ overflows a n ∷ []) _ (ap not ok, (le-ltb top (a + n) fits, tt))
      ∙ ap (λ (z : Bool). placed keeping l.run l.list (cond z (regions_of l) (cut_all a (a + n) (regions_of l)))) (ne_eqb n 0 (λ z. omega arith))

  -- the outcome of the call, by that of its definition
  told : {o : Outcome (With FreeList (List ℕ))} → range_taken l.run l.list a n ≡ o → outcome_of (TakeRange a n) l ≡ mapped (λ m. bytes a (a + n)) (leaving l.run o).outcome
  told e = ap (λ (o : Outcome (With FreeList (List ℕ))). mapped (λ (m : FreeList). bytes a (a + n)) (leaving l.run o).outcome) e

  pub take-full : l.list.count ≡ capacity l.run → (get_or (regions_of l) i (region 0 0)).addr < a → a + n < end (get_or (regions_of l) i (region 0 0))
      → outcome_of (TakeRange a n) l ≡ refused (OverCapacity (suc l.list.count) (capacity l.run))
  take-full full front back = ⊎_elim
      (λ p. absurd (p.1 ((inside-at a (a + n) x b (region 0 0) 0 top i (regions_of l) within k t).1 (front, back))))
      (λ p. let m : length (cut_all a (a + n) (regions_of l)) ≡ suc l.list.count = p.0 ∙ ap suc long in
      told (placing ∙ first_holds _ _ _ _ (lt-ltb (capacity l.run) (length (cut_all a (a + n) (regions_of l))) (omega arith)))
      ∙ ap (λ (m : ℕ). refused (OverCapacity m (capacity l.run))) m)
      (cut-all-long a (a + n) (omega arith) 0 top (regions_of l) within)

  pub take-room : (l.list.count ≡ capacity l.run → (get_or (regions_of l) i (region 0 0)).addr < a → a + n < end (get_or (regions_of l) i (region 0 0)) → ⊥)
      → outcome_of (TakeRange a n) l ≡ answer (bytes a (a + n))
  take-room room =
      let c : l.list.count ≤ capacity l.run = omega (arith, (listed l.run l.list ok).room) in
      ⊎_elim
      (λ p. fine (omega (arith, p.0, long)))
      (λ p. let s = (inside-at a (a + n) x b (region 0 0) 0 top i (regions_of l) within k t).0 p.1 in
      ⊎_elim (λ h. absurd (room (omega arith) s.0 s.1)) (λ h. fine (omega (arith, p.0, long))) (le-or-lt (capacity l.run) l.list.count))
      (cut-all-long a (a + n) (omega arith) 0 top (regions_of l) within)
    where
      fine : length (cut_all a (a + n) (regions_of l)) ≤ capacity l.run → outcome_of (TakeRange a n) l ≡ answer (bytes a (a + n))
      fine h = told (placing ∙ first_pass (no_room l.run (cut_all a (a + n) (regions_of l)) ∷ []) _ (le-ltb (capacity l.run) (length (cut_all a (a + n) (regions_of l))) h, tt))
