-- Free bytes, ranges and multiples as facts: what the laws of the list calls are stated in. Assumes nothing.
--   how_many         the number of places below a bound for which a test holds
--   Between          a byte lies from a place up to another
--   Common           some byte is one of two sets
--   Shared           some byte from a place up to another is free
--   Adds             a list of regions holds what another does, and the bytes of a range
--   Removes          a list of regions holds what another does, but for the bytes of a range
--   TouchesNone      no region of a list touches a range, so that nothing folds
--   StrictlyInside   a range lies strictly inside one region of a list
--   nth              the region at a place of a list
--   NoneSuffices     no region of a list has the span that is asked for
--   Best             the region at a place suffices, none that suffices has a smaller span, and none with as small a span stands before it
--   FirstMultiple    a number is the first multiple of a unit at or after another
--   LastMultiple     a number is the last multiple of a unit at or before another
--   Inside           an interior: the region ends within 64 bits, and the interior runs from the first multiple to the last
--   NoneInside       no interior: the region ends within 64 bits, and no whole unit lies in it
--   Outside          refusal 4, which comes before Nothing: the region ends above 2^64 - 1
--   InteriorSays     what pins `aligned_interior`
use Rattle.std.specs.Prelude.{◌≡◌, Bool, cond, List, [], ◌∷◌, ◌⊎◌, ◌↔◌, ℕ, zero, suc, ◌+◌, ◌%◌, ◌≤◌, ◌<◌, length, get_or}
use Rattle.error.specs.Ends.{Ends}
use Rattle.fields.specs.Ranges.{top}
use Rattle.free_regions.specs.declared.FreeRegion.{FreeRegion}
use Rattle.free_regions.specs.Regions.{region, end, Free}
use Rattle.free_regions.specs.declared.Whole.{Whole}
use Rattle.free_regions.specs.Units.{interior}

-- ---- free bytes

unfoldable pub how_many : ℕ → (ℕ → Bool) → ℕ
how_many zero P = 0
how_many (suc n) P = cond (P n) 1 0 + how_many n P

abbrev pub Between : ℕ → ℕ → ℕ → Type 0
Between a e x = (a ≤ x) × (x < e)

abbrev pub Common : (ℕ → Type 0) → (ℕ → Type 0) → Type 0
Common P Q = (x : ℕ) × (P x) × (Q x)

abbrev pub Shared : ℕ → ℕ → List FreeRegion → Type 0
Shared a e rs = Common (Between a e) (Free rs)

abbrev pub Adds : ℕ → ℕ → List FreeRegion → List FreeRegion → Type 0
Adds a e rs ss = (x : ℕ) → Free ss x ↔ (Between a e x ⊎ Free rs x)

abbrev pub Removes : ℕ → ℕ → List FreeRegion → List FreeRegion → Type 0
Removes a e rs ss = (x : ℕ) → Free ss x ↔ (Free rs x × (Between a e x → ⊥))

abbrev pub TouchesNone : ℕ → ℕ → List FreeRegion → Type 0
TouchesNone a e [] = Unit {0}
TouchesNone a e (r ∷ rs) = ((end r < a) ⊎ (e < r.addr)) × TouchesNone a e rs

abbrev pub StrictlyInside : ℕ → ℕ → List FreeRegion → Type 0
StrictlyInside a e [] = ⊥
StrictlyInside a e (r ∷ rs) = ((r.addr < a) × (e < end r)) ⊎ StrictlyInside a e rs

-- ---- best fit; span gives the bytes of a region that can serve

abbrev pub nth : List FreeRegion → ℕ → FreeRegion
nth rs i = get_or rs i (region 0 0)

abbrev pub NoneSuffices : (FreeRegion → ℕ) → ℕ → List FreeRegion → Type 0
NoneSuffices span len rs = (j : ℕ) → j < length rs → span (nth rs j) < len

pub record Best (span : FreeRegion → ℕ) (len : ℕ) (rs : List FreeRegion) (i : ℕ) : Type 0 where
  pub there : i < length rs
  pub suffices : len ≤ span (nth rs i)
  pub least : (j : ℕ) → j < length rs → len ≤ span (nth rs j) → span (nth rs i) ≤ span (nth rs j)
  pub lowest : (j : ℕ) → j < i → len ≤ span (nth rs j) → span (nth rs i) < span (nth rs j)

-- ---- multiples, and the aligned interior

pub record FirstMultiple (u a s : ℕ) : Type 0 where
  pub multiple : s % u ≡ 0
  pub above : a ≤ s
  pub first : (m : ℕ) → m % u ≡ 0 → a ≤ m → s ≤ m

pub record LastMultiple (u e s : ℕ) : Type 0 where
  pub multiple : s % u ≡ 0
  pub below : s ≤ e
  pub last : (m : ℕ) → m % u ≡ 0 → m ≤ e → m ≤ s

pub record Inside (u : ℕ) (r : FreeRegion) (w : Whole) : Type 0 where
  pub within : end r ≤ top
  pub unit : 0 < u
  pub some : 0 < w.span
  pub start : FirstMultiple u r.addr w.start
  pub stop : LastMultiple u (end r) (w.start + w.span)

pub record NoneInside (u : ℕ) (r : FreeRegion) : Type 0 where
  pub within : end r ≤ top
  pub none : (u ≡ 0) ⊎ ((m : ℕ) → m % u ≡ 0 → r.addr ≤ m → end r < m + u)

pub data Outside (r : FreeRegion) : ℕ → List ℕ → Type 0 where
  four : top < end r → Outside r 4 []

-- whatever unit and region
pub record InteriorSays (u : ℕ) (r : FreeRegion) : Type 0 where
  pub says : Ends (Inside u r) (NoneInside u r) (Outside r) (interior u r)
