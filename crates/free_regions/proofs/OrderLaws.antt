-- Regions in order, by their places. Assumes nothing.
--   EndBefore   regions that are not empty and end below a place
use mathlib.Core.Path.{◌≡◌, refl, ap, ◌∙◌}
use mathlib.Core.List.{List, [], ◌∷◌, ◌++◌}
use Prim.Native.Nat.{ℕ, zero, suc, ◌≤◌, ◌<◌}
use native.Mathlib.Nat.{not-suc-le-zero, le_of_suc-le-suc}
use native.Mathlib.Omega.{arith}
use lib.ListN.{length, take, drop, get_or}
use Rattle.free_regions.specs.declared.FreeRegion.{FreeRegion}
use Rattle.free_regions.specs.Regions.{end}
use Rattle.free_regions.proofs.OkLaws.{Within}

abbrev pub EndBefore : ℕ → List FreeRegion → Type 0
EndBefore b [] = Unit {0}
EndBefore b (r ∷ rs) = (0 < r.len) × (end r < b) × EndBefore b rs

pub end_before : (b i : ℕ) (rs : List FreeRegion) (d : FreeRegion) → ((k : ℕ) → k < i → (0 < (get_or rs k d).len) × (end (get_or rs k d) < b)) → i ≤ length rs
    → EndBefore b (take i rs)
end_before b zero rs d h l = tt
end_before b (suc i) [] d h l = tt
end_before b (suc i) (r ∷ rs) d h l =
    let p = h 0 (omega arith) in
    (p.0, p.1, end_before b i rs d (λ k m. h (suc k) (omega arith)) (le_of_suc-le-suc l))

-- what becomes of a list by F, where F keeps each region that ends below b
pub keep_prefix : (F : List FreeRegion → List FreeRegion) (b : ℕ) → ((r : FreeRegion) (t : List FreeRegion) → 0 < r.len → end r < b → F (r ∷ t) ≡ r ∷ F t)
    → (i : ℕ) (rs : List FreeRegion) → EndBefore b (take i rs) → F rs ≡ take i rs ++ F (drop i rs)
keep_prefix F b keep zero rs h = refl
keep_prefix F b keep (suc i) [] h = refl
keep_prefix F b keep (suc i) (r ∷ rs) h =
    keep r rs h.0 h.1 ∙ ap (λ (q : List FreeRegion). r ∷ q) (keep_prefix F b keep i rs h.2)

pub drop-within : (low high i : ℕ) (rs : List FreeRegion) (d : FreeRegion) → Within low high rs → i < length rs → Within (get_or rs i d).addr high (drop i rs)
drop-within low high i [] d w l = absurd (not-suc-le-zero l)
drop-within low high zero (r ∷ rs) d w l = (w.0, w.1, omega arith, w.3)
drop-within low high (suc i) (r ∷ rs) d w l = drop-within (suc (end r)) high i rs d w.3 (le_of_suc-le-suc l)

pub next_in : (low high i : ℕ) (rs : List FreeRegion) (d : FreeRegion) → Within low high rs → suc i < length rs → end (get_or rs i d) < (get_or rs (suc i) d).addr
next_in low high i [] d w l = absurd (not-suc-le-zero l)
next_in low high zero (r ∷ []) d w l = absurd (omega arith)
next_in low high zero (r ∷ s ∷ rs) d w l = w.3.2
next_in low high (suc i) (r ∷ rs) d w l = next_in (suc (end r)) high i rs d w.3 (le_of_suc-le-suc l)
