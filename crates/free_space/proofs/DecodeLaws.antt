-- A run's pairs as regions, and what is stored when regions are replaced by others. Assumes nothing.
--   region_form   a region is a pair of numbers
use Rattle.std.proofs.Common.{◌≡◌, ℕ, ◌+◌, ◌-◌, ◌*◌, ◌<◌, ◌≤◌, List, ◌∷◌, length, drop, replicate, sym, refl, ap, ◌∙◌, zero-add, arith}
use lib.Seq.{slice}
use Rattle.error.specs.Lent.{over}
use Rattle.error.proofs.OverLaws.{over_right}
use Rattle.pairs.proofs.PairLaws.{Form, length-flat, decode-drop, decode-over, length-spliced, spliced-over}
use Rattle.free_regions.specs.declared.FreeRegion.{FreeRegion}
use Rattle.free_regions.specs.Regions.{region, spliced}
use Rattle.free_space.specs.Runs.{region_at, decode, flat, stored}

abbrev pub region_form : Form FreeRegion
region_form = record {
  make = region;
  first = λ r. r.addr;
  second = λ r. r.len;
  first_made = λ a b. refl;
  second_made = λ a b. refl;
  made = λ r. refl;
}

-- the regions from i on, of which r is the one that the code reads
pub here : (n i : ℕ) (xs : List ℕ) (r : FreeRegion) → r ≡ region_at xs i → i < n → 2 * n ≤ length xs → drop i (decode n xs) ≡ r ∷ drop (i + 1) (decode n xs)
here n i xs r is l h = decode-drop region n i xs l h ∙ ap (λ (q : FreeRegion). q ∷ drop (i + 1) (decode n xs)) (sym is)

-- what a call left is what the next one finds
pub decode-stored : (xs : List ℕ) (n : ℕ) (rs : List FreeRegion) → 2 * length rs ≤ length xs → decode (length rs) (stored xs n rs) ≡ rs
unfolding stored
decode-stored xs n rs h = decode-over region_form rs (replicate (2 * n - length (flat rs)) 0) xs h

-- the steps of `replace`: the regions above moved, the new ones written, and zeros
pub replaced : (xs : List ℕ) (n lo hi : ℕ) (new : List FreeRegion) → lo ≤ hi → hi ≤ n → 2 * n ≤ length xs
    → let k = lo + length new in
    over (2 * (k + (n - hi))) (replicate (2 * n - 2 * (k + (n - hi))) 0) (over (2 * lo) (flat new) (over (2 * k) (slice (2 * hi) (2 * n) xs) xs))
    ≡ stored xs n (spliced (decode n xs) lo hi new)
unfolding stored
replaced xs n lo hi new lo-hi hi-n room =
    let m = lo + length new + (n - hi) in
    let rs = spliced (decode n xs) lo hi new in
    let z : ℕ → List ℕ = λ j. replicate (2 * n - j) 0 in
    let long : 2 * m ≡ length (flat rs) = omega (arith, length-flat region_form rs, length-spliced region_form xs n lo hi new lo-hi hi-n room) in
    ap (over (2 * m) (z (2 * m))) (spliced-over region_form xs n lo hi new lo-hi hi-n room)
    ∙ ap (λ (j : ℕ). over j (z j) (over 0 (flat rs) xs)) long
    ∙ ap (λ (j : ℕ). over j (z (length (flat rs))) (over 0 (flat rs) xs)) (sym (zero-add (length (flat rs))))
    ∙ over_right 0 (flat rs) (z (length (flat rs))) xs
