-- Laws of the search by halving over the regions of a run, as pairs: the regions end one after another, so that those which end too low come first.
-- Assumes nothing.
use mathlib.Core.Path.{◌≡◌, refl, sym, ap, ap₂, ◌∙◌}
use mathlib.Core.List.{List, [], ◌∷◌}
use mathlib.Core.Bool.{true, false}
use Prim.Native.Nat.{ℕ, zero, suc, ◌+◌, ◌-◌, ◌*◌, ◌/◌, ◌≤◌, ◌<◌, min}
use native.Mathlib.Omega.{arith}
use borrow.Author.Tests.{leb-true, leb-false}
use lib.Dec.{leb}
use lib.ListN.{length, get_or, take, drop}
use lib.Seq.{get_or-take, get_or-drop}
use Rattle.std.specs.List.Sorted.{IsPartitionPoint, IsNonDecreasingBy}
use Rattle.std.specs.Simd.{first_chunks}
use Rattle.fields.specs.Ranges.{top}
use Rattle.free_regions.specs.Regions.{end}
use Rattle.free_space.specs.Runs.{region_at}

-- a pair of a run
abbrev pair : ℕ → List ℕ → List ℕ
pair i xs = get_or xs (2 * i) 0 ∷ get_or xs (2 * i + 1) 0 ∷ []

pair_of : (k i : ℕ) (xs : List ℕ) (d : List ℕ) → i < k → 2 * k ≤ length xs → get_or (first_chunks 2 k xs) i d ≡ pair i xs
pair_of zero i xs d l h = absurd (omega arith)
pair_of (suc k) i [] d l h = absurd (omega arith)
pair_of (suc k) i (a ∷ []) d l h = absurd (omega arith)
pair_of (suc k) zero (a ∷ b ∷ xs) d l h = refl
pair_of (suc k) (suc i) (a ∷ b ∷ xs) d l h =
    let even : 2 * suc i ≡ suc (suc (2 * i)) = omega arith in
    let odd : 2 * suc i + 1 ≡ suc (suc (2 * i + 1)) = omega arith in
    pair_of k i xs d (omega arith) (omega arith)
    ∙ sym (ap₂ (λ (u v : ℕ). get_or (a ∷ b ∷ xs) u 0 ∷ get_or (a ∷ b ∷ xs) v 0 ∷ []) even odd)

-- the pairs of a run as they are lent: m of them from a place on
pub lent_from : (xs : List ℕ) (from m : ℕ) (rs : List (List ℕ)) → 2 * (from + m) ≤ length xs → rs ≡ first_chunks 2 (length xs / 2) xs
    → (i : ℕ) (d : List ℕ) → i < m → get_or (take m (drop from rs)) i d ≡ pair (from + i) xs
lent_from xs from m rs h is i d l =
    get_or-take m (drop from rs) i d l ∙ get_or-drop from rs i d ∙ ap (λ (q : List (List ℕ)). get_or q (from + i) d) is
    ∙ pair_of (length xs / 2) (from + i) xs d (omega arith) (omega arith)

-- where a pair ends, as the code computes it
abbrev pub ends : List ℕ → ℕ
ends y = min (get_or y 0 0 + get_or y 1 0) top

-- m regions from a place on, of n that end one after another
module _ (xs : List ℕ) (n : ℕ) (within : (i : ℕ) → i < n → end (region_at xs i) ≤ top)
    (later : (i k : ℕ) → i + k < n → end (region_at xs i) ≤ end (region_at xs (i + k)))
    (from m a : ℕ) (h : from + m ≤ n) (ys : List (List ℕ)) (long : length ys ≡ m) (each : (i : ℕ) (d : List ℕ) → i < m → get_or ys i d ≡ pair (from + i) xs) where
  ends_at : (i : ℕ) (d : List ℕ) → i < m → ends (get_or ys i d) ≡ end (region_at xs (from + i))
  ends_at i d l =
      let w : end (region_at xs (from + i)) ≤ top = within (from + i) (omega arith) in
      let cut : min (end (region_at xs (from + i))) top ≡ end (region_at xs (from + i)) = omega arith in
      ap ends (each i d l) ∙ cut

  pub in_turn : IsNonDecreasingBy ends ys
  in_turn i j d u v =
      let e : from + i + (j - i) ≡ from + j = omega arith in
      let t = rw e at (later (from + i) (j - i) (omega arith)) in
      omega (arith, ends_at i d (omega arith), ends_at j d (omega arith), t)

  pub found : (r : ℕ) → r ≤ length ys → IsPartitionPoint (λ y. leb (ends y) a ≡ true) (λ y. leb (ends y) a ≡ false) ys r
      → (0 < r → end (region_at xs (from + r - 1)) ≤ a) × (r < m → a < end (region_at xs (from + r)))
  found r u q = (
    λ l.
        let e : from + (r - 1) ≡ from + r - 1 = omega arith in
        let t = leb-true _ _ (q.0 (r - 1) [] (omega arith) (omega arith)) in
        let z = rw e at (ends_at (r - 1) [] (omega arith)) in
        omega (arith, t, z),
    λ l.
        let t = leb-false _ _ (q.1 r [] (omega arith) (omega arith)) in
        let z = ends_at r [] (omega arith) in
        omega (arith, t, z),
  )
