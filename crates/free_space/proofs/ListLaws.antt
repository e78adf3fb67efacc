-- Laws of refusal 3's test: its parts, and that a list is determined by its free bytes. Assumes nothing.
--   Listed    a run and a record that are a list, as facts
use Rattle.std.proofs.Common.{◌≡◌, ℕ, ◌*◌, ◌/◌, ◌%◌, ◌<◌, ◌≤◌, Bool, true, ◌&&◌, eqb, leb, ◌↔◌, List, length, refl, ap, ◌∙◌, subst, ap₂, arith, eq-eqb, eqb-true, le-leb, leb-true}
use Rattle.error.proofs.TestLaws.{and_true}
use Rattle.fields.specs.Ranges.{top}
use Rattle.free_regions.specs.declared.FreeRegion.{FreeRegion}
use Rattle.free_regions.specs.Regions.{region, Free, sum_of_lengths, ok_from}
use Rattle.free_regions.proofs.OkLaws.{Fit, ok_at, ok_prop}
use Rattle.free_regions.proofs.LengthLaws.{sum-within}
use Rattle.free_regions.proofs.UniqueLaws.{list_unique}
use Rattle.pairs.proofs.PairLaws.{length-decode, decode-at}
use Rattle.pairs.specs.Pairs.{capacity}
use Rattle.free_space.specs.declared.list.FreeList.{FreeList}
use Rattle.free_space.specs.Runs.{record_of, region_at, decode, regions, is_list}

-- ---- a list as its parts

pub is-list_else : (xs : List ℕ) (l : FreeList) → length xs % 2 ≡ 0 → l.count ≤ capacity xs
    → is_list xs l ≡ (ok_from 0 (regions xs l) && eqb l.total (sum_of_lengths (regions xs l)))
unfolding is_list
is-list_else xs l e h = rw (eq-eqb (length xs % 2) 0 e, le-leb l.count (length xs / 2) h)

-- the record of regions, and a run that holds them
pub record_is-list : (xs : List ℕ) (rs : List FreeRegion) → length xs % 2 ≡ 0 → length rs ≤ capacity xs → regions xs (record_of rs) ≡ rs → ok_from 0 rs ≡ true
    → is_list xs (record_of rs) ≡ true
record_is-list xs rs e h back ok =
    is-list_else xs (record_of rs) e h
    ∙ ap (λ (q : List FreeRegion). ok_from 0 q && eqb (sum_of_lengths rs) (sum_of_lengths q)) back
    ∙ ap₂ (λ (a b : Bool). a && b) ok (eq-eqb (sum_of_lengths rs) (sum_of_lengths rs) refl)

pub record Listed (xs : List ℕ) (l : FreeList) : Type 0 where
  pub even : length xs % 2 ≡ 0
  pub room : 2 * l.count ≤ length xs
  pub ok : ok_from 0 (regions xs l) ≡ true
  pub total : l.total ≡ sum_of_lengths (regions xs l)

pub listed : (xs : List ℕ) (l : FreeList) → is_list xs l ≡ true → Listed xs l
unfolding is_list
listed xs l e =
    let n = l.count in
    let p = and_true (eqb (length xs % 2) 0) _ e in
    let q = and_true (leb n (length xs / 2)) _ p.1 in
    let r = and_true (ok_from 0 (regions xs l)) _ q.1 in
    let h : n ≤ length xs / 2 = leb-true n (length xs / 2) q.0 in
    record { even = eqb-true (length xs % 2) 0 p.0; room = omega arith; ok = r.0; total = eqb-true l.total (sum_of_lengths (regions xs l)) r.1 }

-- the sum has 64 bits
pub list-sum : (xs : List ℕ) (l : FreeList) → is_list xs l ≡ true → sum_of_lengths (regions xs l) ≤ top
list-sum xs l e = sum-within 0 top (regions xs l) ((ok_prop 0 (regions xs l)).0 (listed xs l e).ok)

-- ---- a region of a list

pub region-fits : (xs : List ℕ) (l : FreeList) (i : ℕ) → is_list xs l ≡ true → i < l.count → Fit 0 (region_at xs i)
region-fits xs l i e h =
    let p = listed xs l e in
    let n = l.count in
    let k : i < length (decode n xs) = omega (arith, length-decode region n xs p.room) in
    subst (Fit 0) (decode-at region n i xs (region 0 0) h p.room) (ok_at 0 i (decode n xs) (region 0 0) p.ok k)

-- ---- two runs and records that are lists

pub lists_unique : (xs ys : List ℕ) (l m : FreeList) → is_list xs l ≡ true → is_list ys m ≡ true → ((x : ℕ) → Free (regions xs l) x ↔ Free (regions ys m) x)
    → regions xs l ≡ regions ys m
lists_unique xs ys l m p q f =
    list_unique 0 top 0 top (regions xs l) (regions ys m) ((ok_prop 0 (regions xs l)).0 (listed xs l p).ok) ((ok_prop 0 (regions ys m)).0 (listed ys m q).ok) f
