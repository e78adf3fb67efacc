-- Laws of the inner functions: a run written over itself, the new total, and the outcome of a decision. Assumes nothing.
use Rattle.std.proofs.Common.{◌≡◌, ℕ, ◌+◌, ◌-◌, ◌*◌, ◌<◌, ◌≤◌, Bool, true, false, cond, ltb, List, [], ◌++◌, length, replicate, sym, refl, ap, ◌∙◌, ap₂, arith, le-ltb}
use Rattle.std.specs.Prelude.{Ok, Err, None}
use Rattle.free_space.specs.Splices.{change}
use Rattle.error.specs.declared.Refusal.TheVariants.{OverCapacity}
use Rattle.error.specs.Outcome.{answer, refused}
use Rattle.error.specs.Lent.{with, over}
use Rattle.error.proofs.OverLaws.{over-nil, over-front}
use Rattle.error.proofs.OutcomeLaws.{refuses, passes}
use Rattle.free_regions.specs.declared.FreeRegion.{FreeRegion}
use Rattle.free_regions.specs.Regions.{region, sum_of_lengths, spliced}
use Rattle.pairs.proofs.PairLaws.{length-decode, length-flat, flat-decode, length-spliced}
use Rattle.pairs.specs.Pairs.{capacity}
use Rattle.free_regions.proofs.LengthLaws.{sum_parts, sum-spliced}
use Rattle.free_space.specs.declared.list.FreeList.{FreeList}
use Rattle.free_space.specs.declared.run.Patch.{Patch}
use Rattle.free_space.specs.Runs.{record_of, region_at, decode, flat, regions, is_list, stored}
use Rattle.free_space.specs.Calls.{leave, placed, giving, keeping}
use Rattle.free_space.specs.Splices.{Goes, patch, Replaces}
use Rattle.free_space.specs.Decisions.{fitted, given_by, kept_by}
use Rattle.free_space.proofs.ListLaws.{listed}
use Rattle.free_space.proofs.DecodeLaws.{region_form}
use Rattle.free_space.proofs.PlaceLaws.{goes_one}

-- ---- the test for room

module _ (given n a lo hi total : ℕ) (p : Patch) where
  pub fitted-is : lo + length (patch p) + (n - hi) ≤ given → change a lo hi total p ≡ fitted given n a lo hi total p
  fitted-is h = rw (le-ltb given (lo + length (patch p) + (n - hi)) h)

-- a change that is fitted to the run leaves the regions, or is refused, as the definitions of the calls say
module _ (xs : List ℕ) (l : FreeList) (a lo hi total : ℕ) (p : Patch) (t : Replaces xs l lo hi total (patch p)) where
  rs : List FreeRegion
  rs = spliced (regions xs l) lo hi (patch p)

  needed : ℕ
  needed = lo + length (patch p) + (l.count - hi)

  long : length rs ≡ needed
  unfolding rs needed
  long = length-spliced region_form xs l.count lo hi (patch p) t.order t.within (listed xs l t.list).room

  refuse : {A : Type 0} (give : FreeList → A) → ltb (capacity xs) needed ≡ true → refused (OverCapacity needed (capacity xs)) ≡ placed give xs l rs
  refuse give e =
      ap (λ (m : ℕ). refused (OverCapacity m (capacity xs))) (sym long)
      ∙ refuses _ _ _ (ap (ltb (capacity xs)) long ∙ e)

  accept : {A : Type 0} (give : FreeList → A) → ltb (capacity xs) needed ≡ false → leave give xs l rs ≡ placed give xs l rs
  accept give e = passes _ _ _ (ap (ltb (capacity xs)) long ∙ e)

  pub given-fitted : given_by xs l (fitted (capacity xs) l.count a lo hi total p) ≡ placed (giving a) xs l (spliced (regions xs l) lo hi (patch p))
  unfolding rs needed
  given-fitted = go (ltb (capacity xs) needed) refl
    where
      go : (t : Bool) → ltb (capacity xs) needed ≡ t
          → given_by xs l (cond t (Err (OverCapacity needed (capacity xs))) (change a lo hi total p)) ≡ placed (giving a) xs l rs
      go true e = refuse (giving a) e
      go false e = accept (giving a) e

  pub kept-fitted : kept_by xs l (fitted (capacity xs) l.count a lo hi total p) ≡ placed keeping xs l (spliced (regions xs l) lo hi (patch p))
  unfolding rs needed
  kept-fitted = go (ltb (capacity xs) needed) refl
    where
      go : (t : Bool) → ltb (capacity xs) needed ≡ t
          → kept_by xs l (cond t (Err (OverCapacity needed (capacity xs))) (change a lo hi total p)) ≡ placed keeping xs l rs
      go true e = refuse keeping e
      go false e = accept keeping e

-- the new total of all five calls: the old, less what goes, plus what comes
pub new_total : (xs : List ℕ) (l : FreeList) (lo hi gone total : ℕ) (p : List FreeRegion) → is_list xs l ≡ true → Goes (regions xs l) lo hi gone
    → total + gone ≡ l.total + sum_of_lengths p → total ≡ sum_of_lengths (spliced (regions xs l) lo hi p)
new_total xs l lo hi gone total p ok goes e = omega (arith, e, (listed xs l ok).total, sum-spliced (regions xs l) p lo hi gone goes)

-- no more bytes go than there are
pub gone_less : (xs : List ℕ) (l : FreeList) (lo hi gone : ℕ) → is_list xs l ≡ true → Goes (regions xs l) lo hi gone → gone ≤ l.total
gone_less xs l lo hi gone ok goes = omega (arith, (listed xs l ok).total, sum_parts lo (regions xs l), goes)

-- one region of a list goes, and p comes, with as many bytes less
module _ (xs : List ℕ) (l : FreeList) (ok : is_list xs l ≡ true) (i hi : ℕ) (r : FreeRegion) (h : i < l.count) (next : hi ≡ i + 1) (got : r ≡ region_at xs i) where
  goes : Goes (regions xs l) i hi r.len
  goes = rw next (goes_one xs l ok i r h got)

  pub one_less : r.len ≤ l.total
  one_less = gone_less xs l i hi r.len ok goes

  pub replaces_one : (gone : ℕ) (p : List FreeRegion) → sum_of_lengths p + gone ≡ r.len → Replaces xs l i hi (l.total - gone) p
  replaces_one gone p e = record {
    list = ok;
    order = omega arith;
    within = omega arith;
    sum = new_total xs l i hi r.len (l.total - gone) p ok goes (omega (arith, one_less));
  }

-- ---- a call that changes nothing

pub stored_same : (xs : List ℕ) (n : ℕ) → 2 * n ≤ length xs → stored xs n (decode n xs) ≡ xs
unfolding stored
stored_same xs n h =
    let rs = decode n xs in
    let z : 2 * n - length (flat rs) ≡ 0 = omega (arith, length-flat region_form rs, length-decode region n xs h) in
    ap₂ (λ (l : List ℕ) (k : ℕ). over 0 (l ++ replicate k 0) xs) (flat-decode region_form n xs h) z ∙ sym (over-front (2 * n) [] xs h) ∙ over-nil (2 * n) xs

-- a list's record is the one that its regions have
pub record_same : (xs : List ℕ) (l : FreeList) → is_list xs l ≡ true → record_of (regions xs l) ≡ l
record_same xs l ok =
    let q = listed xs l ok in
    ap₂ (λ (n k : ℕ). record { count = n; total = k }) (length-decode region l.count xs q.room) (sym q.total)

pub kept_same : (xs : List ℕ) (l : FreeList) (rs : List FreeRegion) → is_list xs l ≡ true → rs ≡ regions xs l → kept_by xs l (Ok None) ≡ placed keeping xs l rs
kept_same xs l rs ok e =
    let n = l.count in
    let room = (listed xs l ok).room in
    let long : length (regions xs l) ≡ n = length-decode region n xs room in
    let fits : ltb (capacity xs) (length (regions xs l)) ≡ false = le-ltb (capacity xs) (length (regions xs l)) (omega arith) in
    ap₂ (λ (k : FreeList) (ys : List ℕ). answer (with k ys)) (sym (record_same xs l ok)) (sym (stored_same xs n room))
    ∙ passes _ _ _ fits
    ∙ ap (placed keeping xs l) (sym e)
