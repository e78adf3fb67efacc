-- What `best` finds, of any span. Assumes nothing.
use mathlib.Core.Path.{◌≡◌, refl, subst}
use mathlib.Core.List.{List, [], ◌∷◌}
use mathlib.Core.Logic.{⊎_elim}
use Prim.Native.Nat.{ℕ, zero, suc, ◌+◌, ◌≤◌, ◌<◌}
use native.Mathlib.Nat.{not-suc-le-zero, le_of_suc-le-suc}
use native.Mathlib.Omega.{arith}
use borrow.Author.Tests.{le-leb, lt-leb}
use lib.ListN.{length}
use Rattle.error.proofs.TestLaws.{le-or-lt}
use Rattle.free_regions.specs.declared.FreeRegion.{FreeRegion}
use Rattle.free_regions.specs.Regions.{Found, none, at, one_at, lower, best}
use Rattle.free_regions.specs.Sets.{nth, NoneSuffices, Best}

module _ (span : FreeRegion → ℕ) (len : ℕ) where
  -- what was found among regions of which the first stands at i
  record FoundAt (i : ℕ) (rs : List FreeRegion) (k s : ℕ) : Type 0 where
    off : ℕ
    place : k ≡ i + off
    spans : s ≡ span (nth rs off)
    is : Best span len rs off

  abbrev Finds : ℕ → List FreeRegion → Found → Type 0
  Finds i rs none = NoneSuffices span len rs
  Finds i rs (at k s) = FoundAt i rs k s

  first : (i : ℕ) (r : FreeRegion) (rs : List FreeRegion) → len ≤ span r → ((j : ℕ) → j < length rs → len ≤ span (nth rs j) → span r ≤ span (nth rs j)) → FoundAt i (r ∷ rs) i (span r)
  first i r rs h f = record {
    off = 0;
    place = omega arith;
    spans = refl;
    is = record { there = omega arith; suffices = h; least = all; lowest = λ j l k. absurd (not-suc-le-zero l) };
  }
    where
      all : (j : ℕ) → j < length (r ∷ rs) → len ≤ span (nth (r ∷ rs) j) → span r ≤ span (nth (r ∷ rs) j)
      all zero l k = omega arith
      all (suc j) l k = f j (le_of_suc-le-suc l) k

  later : (i k s : ℕ) (r : FreeRegion) (rs : List FreeRegion) → FoundAt (suc i) rs k s → (len ≤ span r → s < span r) → FoundAt i (r ∷ rs) k s
  later i k s r rs q f = record {
    off = suc q.off;
    place = omega (arith, q.place);
    spans = q.spans;
    is = record { there = omega (arith, q.is.there); suffices = q.is.suffices; least = least'; lowest = lowest' };
  }
    where
      least' : (j : ℕ) → j < length (r ∷ rs) → len ≤ span (nth (r ∷ rs) j) → span (nth rs q.off) ≤ span (nth (r ∷ rs) j)
      least' zero l h = omega (arith, q.spans, f h)
      least' (suc j) l h = q.is.least j (le_of_suc-le-suc l) h

      lowest' : (j : ℕ) → j < suc q.off → len ≤ span (nth (r ∷ rs) j) → span (nth rs q.off) < span (nth (r ∷ rs) j)
      lowest' zero l h = omega (arith, q.spans, f h)
      lowest' (suc j) l h = q.is.lowest j (le_of_suc-le-suc l) h

  none_too : (r : FreeRegion) (rs : List FreeRegion) → span r < len → NoneSuffices span len rs → NoneSuffices span len (r ∷ rs)
  none_too r rs h f zero l = h
  none_too r rs h f (suc j) l = f j (le_of_suc-le-suc l)

  step : (i : ℕ) (r : FreeRegion) (rs : List FreeRegion) (f : Found) → Finds (suc i) rs f → Finds i (r ∷ rs) (lower (one_at len i (span r)) f)
  step i r rs none q =
      ⊎_elim
      (λ (h : len ≤ span r). rw le-leb (first i r rs h (λ j l k. absurd (omega (arith, q j l)))))
      (λ (h : span r < len). rw lt-leb (none_too r rs h q))
      (le-or-lt len (span r))
  step i r rs (at k s) q =
      ⊎_elim
      (λ (h : len ≤ span r). ⊎_elim
      (λ (m : span r ≤ s). rw (le-leb len (span r) h, le-leb) (first i r rs h (λ j l n. omega (arith, q.spans, q.is.least j l n))))
      (λ (m : s < span r). rw (le-leb len (span r) h, lt-leb) (later i k s r rs q (λ n. m)))
      (le-or-lt (span r) s))
      (λ (h : span r < len). rw (lt-leb len (span r) h) (later i k s r rs q (λ n. absurd (omega arith))))
      (le-or-lt len (span r))

  finds : (i : ℕ) (rs : List FreeRegion) → Finds i rs (best span len i rs)
  finds i [] = λ j l. absurd (not-suc-le-zero l)
  finds i (r ∷ rs) = step i r rs (best span len (suc i) rs) (finds (suc i) rs)

  -- of all the regions of a list
  pub best_none : (rs : List FreeRegion) → best span len 0 rs ≡ none → NoneSuffices span len rs
  best_none rs e = subst (Finds 0 rs) e (finds 0 rs)

  pub best_at : (rs : List FreeRegion) (i s : ℕ) → best span len 0 rs ≡ at i s → Best span len rs i
  best_at rs i s e =
      let q : FoundAt 0 rs i s = subst (Finds 0 rs) e (finds 0 rs) in
      let o : q.off ≡ i = omega (arith, q.place) in
      subst (Best span len rs) o q.is
