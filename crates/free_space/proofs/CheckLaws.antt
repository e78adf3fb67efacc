-- Laws of the functions that test for refusal 3: one region, an iteration of a pass, and the whole. Assumes nothing.
use Rattle.std.proofs.Common.{◌≡◌, ℕ, suc, ◌+◌, ◌<◌, ◌≤◌, Bool, true, false, ◌&&◌, eqb, leb, List, drop, sym, refl, ap, ◌∙◌, subst, arith}
use Rattle.error.proofs.TestLaws.{and_true, true_not_false}
use Rattle.pairs.specs.Pairs.{capacity, is_even, is_run}
use Rattle.free_regions.specs.declared.FreeRegion.{FreeRegion}
use Rattle.free_regions.specs.Regions.{region, end, sum_of_lengths, fits_from, ok_from}
use Rattle.free_regions.proofs.OkLaws.{Fit, fit}
use Rattle.pairs.proofs.PairLaws.{decode-end}
use Rattle.pairs.proofs.RunLaws.{run_room}
use Rattle.free_space.specs.declared.list.FreeList.{FreeList}
use Rattle.free_space.specs.Runs.{region_at, decode, regions, is_list}
use Rattle.free_space.specs.Splices.{goes_on, Tested, First}
use Rattle.free_space.proofs.DecodeLaws.{here}
use Rattle.free_space.proofs.ListLaws.{region-fits}

-- two tests that hold together are one
pub same_test : (a b : Bool) → (a ≡ true → b ≡ true) → (b ≡ true → a ≡ true) → a ≡ b
same_test true b f g = sym (f refl)
same_test false true f g = g refl
same_test false false f g = refl

-- ---- an iteration of a pass that tests the regions and adds their lengths, from what the code reads

module _ {xs : List ℕ} {l : FreeList} {i prev sum : ℕ} (t : Tested xs l i prev sum) where
  module _ (h : i < l.count) (r : FreeRegion) (got : r ≡ region_at xs i) where
    abbrev rest : List FreeRegion
    rest = drop (i + 1) (regions xs l)

    goes_on_lem : (b : Bool) → fits_from (suc prev) r ≡ b → is_list xs l ≡ ((b && ok_from (suc (end r)) rest) && eqb l.total (sum + (r.len + sum_of_lengths rest)))
    goes_on_lem b e =
        t.rest
        ∙ ap (goes_on prev sum l.total) (here l.count i xs r got h t.room)
        ∙ ap (λ (c : Bool). (c && ok_from (suc (end r)) rest) && eqb l.total (sum + (r.len + sum_of_lengths rest))) e

    pub pass_stops : fits_from (suc prev) r ≡ false → is_list xs l ≡ false
    pass_stops e = goes_on_lem false e

    pub pass_goes : fits_from (suc prev) r ≡ true → Tested xs l (i + 1) (end r) (sum + r.len)
    pass_goes e =
        let f = fit (suc prev) r e in
        let s : sum + (r.len + sum_of_lengths rest) ≡ sum + r.len + sum_of_lengths rest = omega arith in record {
          room = t.room;
          within = f.within;
          less = omega (arith, f.above, t.less);
          rest = goes_on_lem true e ∙ ap (λ (n : ℕ). ok_from (suc (end r)) rest && eqb l.total n) s;
        }

  -- the lengths of a list whose end the pass has come to
  pub pass_ends : l.count ≤ i → is_list xs l ≡ eqb l.total sum
  pass_ends h =
      let s : sum + 0 ≡ sum = omega arith in
      t.rest ∙ ap (goes_on prev sum l.total) (decode-end region l.count i xs h t.room) ∙ ap (eqb l.total) s

-- ---- the whole

module _ (xs : List ℕ) (l : FreeList) where
  pub list-no_room : is_run xs l.count ≡ false → is_list xs l ≡ false
  unfolding is_list
  list-no_room e = go (is_even xs) (leb l.count (capacity xs)) e
    where
      go : (a b : Bool) → (a && b) ≡ false → (a && (b && (ok_from 0 (regions xs l) && eqb l.total (sum_of_lengths (regions xs l))))) ≡ false
      go true true e = true_not_false true refl e
      go true false e = refl
      go false b e = refl

  module _ (has : is_run xs l.count ≡ true) where
    list-room : is_list xs l ≡ (ok_from 0 (regions xs l) && eqb l.total (sum_of_lengths (regions xs l)))
    unfolding is_list
    list-room = let p = and_true (is_even xs) (leb l.count (capacity xs)) has in rw (p.0, p.1)

    -- no regions: their lengths add up to 0
    pub list_empty : l.count ≡ 0 → is_list xs l ≡ eqb l.total 0
    list_empty z = list-room ∙ ap (λ (n : ℕ). ok_from 0 (decode n xs) && eqb l.total (sum_of_lengths (decode n xs))) z

    -- the first region, which follows none
    module _ (some : 0 < l.count) (r : FreeRegion) (got : r ≡ region_at xs 0) where
      abbrev after : List FreeRegion
      after = drop 1 (regions xs l)

      begins : (b : Bool) → fits_from 0 r ≡ b → is_list xs l ≡ ((b && ok_from (suc (end r)) after) && eqb l.total (r.len + sum_of_lengths after))
      begins b e =
          list-room
          ∙ ap (λ (rs : List FreeRegion). ok_from 0 rs && eqb l.total (sum_of_lengths rs))
          (here l.count 0 xs r got some (run_room xs l.count has))
          ∙ ap (λ (c : Bool). (c && ok_from (suc (end r)) after) && eqb l.total (r.len + sum_of_lengths after)) e

      pub first_stops : fits_from 0 r ≡ false → is_list xs l ≡ false
      first_stops e = begins false e

      pub first_goes : fits_from 0 r ≡ true → First xs l r
      first_goes e =
          let f = fit 0 r e in record {
            is = got;
            some = some;
            tested = record { room = run_room xs l.count has; within = f.within; less = omega arith; rest = begins true e };
          }

-- a region that the code reads
pub read_fits : (xs : List ℕ) (l : FreeList) (i : ℕ) (r : FreeRegion) → is_list xs l ≡ true → i < l.count → r ≡ region_at xs i → Fit 0 r
read_fits xs l i r ok h got = subst (Fit 0) (sym got) (region-fits xs l i ok h)
