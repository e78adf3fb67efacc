-- Laws of refusal 3's test of regions: what it says of each, and the same as a proposition. Assumes nothing.
--   Within    regions in order from a place up to another, each after the end of the one before with a gap: the test as a proposition, with any end
--   Fit       a region that begins at a place or later, is not empty and ends within 64 bits
use mathlib.Core.Path.{◌≡◌, refl}
use mathlib.Core.List.{List, [], ◌∷◌}
use mathlib.Core.Bool.{true, ◌&&◌}
use mathlib.Core.Logic.{◌↔◌}
use Prim.Native.Nat.{ℕ, zero, suc, ◌≤◌, ◌<◌}
use native.Mathlib.Nat.{not-suc-le-zero, le_of_suc-le-suc}
use native.Mathlib.Omega.{arith}
use borrow.Author.Tests.{le-leb, lt-ltb, leb-true, ltb-true}
use lib.ListN.{length, get_or}
use lib.Dec.{leb, ltb}
use Rattle.error.proofs.TestLaws.{and_true}
use Rattle.fields.specs.Ranges.{top}
use Rattle.free_regions.specs.declared.FreeRegion.{FreeRegion}
use Rattle.free_regions.specs.Regions.{end, fits_from, ok_from}

abbrev pub Within : ℕ → ℕ → List FreeRegion → Type 0
Within low high [] = Unit {0}
Within low high (r ∷ rs) = (0 < r.len) × (end r ≤ high) × (low ≤ r.addr) × Within (suc (end r)) high rs

-- ---- what the tests tell

pub record Fit (low : ℕ) (r : FreeRegion) : Type 0 where
  pub some : 0 < r.len
  pub within : end r ≤ top
  pub above : low ≤ r.addr

pub fit : (low : ℕ) (r : FreeRegion) → fits_from low r ≡ true → Fit low r
fit low r e =
    let p = and_true (ltb 0 r.len) (leb (end r) top && leb low r.addr) e in
    let q = and_true (leb (end r) top) (leb low r.addr) p.1 in
    record { some = ltb-true 0 r.len p.0; within = leb-true (end r) top q.0; above = leb-true low r.addr q.1 }

pub fit-back : (low : ℕ) (r : FreeRegion) → Fit low r → fits_from low r ≡ true
fit-back low r f = rw (lt-ltb 0 r.len f.some, le-leb (end r) top f.within, le-leb low r.addr f.above)

-- each region of a list is one that fits
pub ok_at : (low i : ℕ) (rs : List FreeRegion) (d : FreeRegion) → ok_from low rs ≡ true → i < length rs → Fit low (get_or rs i d)
ok_at low i [] d e l = absurd (not-suc-le-zero l)
ok_at low zero (r ∷ rs) d e l = fit low r (and_true (fits_from low r) (ok_from (suc (end r)) rs) e).0
ok_at low (suc i) (r ∷ rs) d e l =
    let p = and_true (fits_from low r) (ok_from (suc (end r)) rs) e in
    let f = fit low r p.0 in
    let g = ok_at (suc (end r)) i rs d p.1 (le_of_suc-le-suc l) in
    record { some = g.some; within = g.within; above = omega arith }

-- ---- the test and the proposition say the same

pub ok_prop : (low : ℕ) (rs : List FreeRegion) → ok_from low rs ≡ true ↔ Within low top rs
ok_prop low [] = (λ e. tt, λ t. refl)
ok_prop low (r ∷ rs) = (
  λ e. let p = and_true (fits_from low r) (ok_from (suc (end r)) rs) e in let f = fit low r p.0 in
      (f.some, f.within, f.above, (ok_prop (suc (end r)) rs).0 p.1),
  λ t. rw (fit-back low r (record { some = t.0; within = t.1; above = t.2 })) ((ok_prop (suc (end r)) rs).1 t.3),
)
