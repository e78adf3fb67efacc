-- Laws of the best fit: a pass upwards finds what the definition says, and what is found suffices. Assumes nothing.
use Rattle.std.proofs.Common.{◌≡◌, ℕ, ◌+◌, ◌-◌, ◌*◌, ◌^◌, ◌<◌, ◌≤◌, Bool, true, false, cond, leb, List, length, drop, sym, refl, ap, ◌∙◌, ⊎_elim, add-one, arith, le-ltb, lt-ltb, le-leb, leb-false, leb-true}
use mathlib.Core.Path.{subst⁻¹}
use borrow.Author.Tests.{lt-leb}
use Rattle.std.specs.Prelude.{Result, Option, Ok, Some, None}
use Rattle.error.specs.declared.Refusal.{Refusal}
use Rattle.error.proofs.TestLaws.{le-or-lt}
use Rattle.free_regions.specs.declared.FreeRegion.{FreeRegion}
use Rattle.free_regions.specs.Regions.{region, Found, none, at, one_at, lower, best}
use Rattle.free_regions.specs.Sets.{nth}
use Rattle.free_regions.proofs.BestLaws.{best_at}
use Rattle.pairs.proofs.PairLaws.{length-decode, decode-at, decode-drop, decode-end}
use Rattle.free_space.specs.declared.list.FreeList.{FreeList}
use Rattle.free_space.specs.declared.fit.Best.{Best}
use Rattle.free_space.specs.Runs.{region_at, decode, regions, is_list}
use Rattle.free_space.specs.Searches.{so_far, answered, Finds}
use Rattle.free_space.proofs.ListLaws.{listed}

-- ---- what is found lower, and above it

pub lower-none : (f : Found) → lower f none ≡ f
lower-none none = refl
lower-none (at i s) = refl

lower_assoc : (f g h : Found) → lower (lower f g) h ≡ lower f (lower g h)
lower_assoc none g h = refl
lower_assoc (at i s) none h = refl
lower_assoc (at i s) (at j t) none = lower-none (cond (leb s t) (at i s) (at j t))
lower_assoc (at i s) (at j t) (at k u) = go (leb s t) (leb t u) refl refl
  where
    go : (p q : Bool) → leb s t ≡ p → leb t u ≡ q → lower (cond p (at i s) (at j t)) (at k u) ≡ lower (at i s) (cond q (at j t) (at k u))
    go true true e f =
        let a = leb-true s t e in
        let b = leb-true t u f in
        rw (le-leb s u (omega arith), e)
    go true false e f = refl
    go false true e f = rw (e, f)
    go false false e f =
        let a = leb-false s t e in
        let b = leb-false t u f in
        rw (lt-leb s u (omega arith), f)

-- ---- what is kept

pub so_far-none : (len : ℕ) (b : Best) → 2 ^ 64 - len ≤ b.slack → so_far len b ≡ none
so_far-none len b h = rw (le-ltb b.slack (2 ^ 64 - len) h)

pub so_far-at : (len : ℕ) (b : Best) → b.slack < 2 ^ 64 - len → so_far len b ≡ at b.index (b.slack + len)
so_far-at len b h = rw (lt-ltb b.slack (2 ^ 64 - len) h)

-- ---- an iteration of a pass

best_step : (span : FreeRegion → ℕ) (len i n : ℕ) (xs : List ℕ) → i < n → 2 * n ≤ length xs
    → best span len i (drop i (decode n xs)) ≡ lower (one_at len i (span (region_at xs i))) (best span len (i + 1) (drop (i + 1) (decode n xs)))
best_step span len i n xs l room =
    ap (best span len i) (decode-drop region n i xs l room)
    ∙ ap (λ (j : ℕ). lower (one_at len i (span (region_at xs i))) (best span len j (drop (i + 1) (decode n xs)))) (sym (add-one i))

-- b is kept before the region r at i, and b' after it
pub fit_step : (span : FreeRegion → ℕ) (len i n : ℕ) (xs : List ℕ) (b b' : Best) (r : FreeRegion) → i < n → 2 * n ≤ length xs → r ≡ region_at xs i
    → so_far len b' ≡ lower (so_far len b) (one_at len i (span r))
    → lower (so_far len b) (best span len i (drop i (decode n xs))) ≡ lower (so_far len b') (best span len (i + 1) (drop (i + 1) (decode n xs)))
fit_step span len i n xs b b' r l room got e =
    let rest = best span len (i + 1) (drop (i + 1) (decode n xs)) in
    ap (lower (so_far len b)) (best_step span len i n xs l room)
    ∙ sym (lower_assoc (so_far len b) (one_at len i (span (region_at xs i))) rest)
    ∙ ap (λ (q : FreeRegion). lower (lower (so_far len b) (one_at len i (span q))) rest) (sym got)
    ∙ ap (λ (f : Found). lower f rest) (sym e)

-- the first region, before which nothing is found
pub fit-first : (span : FreeRegion → ℕ) (len n : ℕ) (xs : List ℕ) (b b' : Best) (r : FreeRegion) → 0 < n → 2 * n ≤ length xs → r ≡ region_at xs 0
    → 2 ^ 64 - len ≤ b.slack → so_far len b' ≡ lower (so_far len b) (one_at len 0 (span r))
    → best span len 0 (decode n xs) ≡ lower (so_far len b') (best span len 1 (drop 1 (decode n xs)))
fit-first span len n xs b b' r l room got z e = ap (λ (f : Found). lower f (best span len 0 (decode n xs))) (sym (so_far-none len b z)) ∙ fit_step span len 0 n xs b b' r l room got e

pub fit-end : (span : FreeRegion → ℕ) (len i n : ℕ) (xs : List ℕ) (b : Best) → n ≤ i → 2 * n ≤ length xs
    → lower (so_far len b) (best span len i (drop i (decode n xs))) ≡ so_far len b
fit-end span len i n xs b l room = ap (λ (q : List FreeRegion). lower (so_far len b) (best span len i q)) (decode-end region n i xs l room) ∙ lower-none (so_far len b)

-- ---- the answer

pub found_at : (len : ℕ) (b : Best) → b.slack < 2 ^ 64 - len → Ok (Some b.index) ≡ answered len b
found_at len b h = rw (lt-ltb b.slack (2 ^ 64 - len) h)

pub found_none : (len : ℕ) (b : Best) → 2 ^ 64 - len ≤ b.slack → (Ok None) ≡ answered len b
found_none len b h = rw (le-ltb b.slack (2 ^ 64 - len) h)

-- ---- what is found suffices

-- the answer, where the pass came to the end of a list
pub finds : (measure : FreeRegion → ℕ) (xs : List ℕ) (l : FreeList) (len : ℕ) (b : Best) (s : (Result (Option ℕ) Refusal)) → is_list xs l ≡ true
    → best measure len 0 (regions xs l) ≡ so_far len b → s ≡ answered len b → Finds measure xs l len s
finds measure xs l len b s ok e is = ⊎_elim none_left served (le-or-lt (2 ^ 64 - len) b.slack)
  where
    none_left : 2 ^ 64 - len ≤ b.slack → Finds measure xs l len s
    none_left h = subst⁻¹ (Finds measure xs l len) (is ∙ sym (found_none len b h)) (ok, e ∙ so_far-none len b h)

    served : b.slack < 2 ^ 64 - len → Finds measure xs l len s
    served h =
        let n = l.count in
        let i = b.index in
        let room = (listed xs l ok).room in
        let found = e ∙ so_far-at len b h in
        let t = best_at measure len (decode n xs) i (b.slack + len) found in
        let below : i < n = omega (arith, t.there, length-decode region n xs room) in
        let g : nth (decode n xs) i ≡ region_at xs i = decode-at region n i xs (region 0 0) below room in
        subst⁻¹ (Finds measure xs l len) (is ∙ sym (found_at len b h))
        (record { list = ok; room = room; below = below; suffices = omega (arith, t.suffices, ap measure g); span = b.slack + len; is = found })
