-- Laws of the length of a section list: it does not depend on addresses, and where the sum of the sizes fits 64 bits it does too, since
-- there are then few sizes. Assumes nothing.
use mathlib.Core.Path.{◌≡◌, refl, sym, ap, ◌∙◌}
use Prim.Native.Nat.{ℕ, zero, suc, ◌+◌, ◌*◌, ◌^◌, ◌≤◌, ◌<◌}
use native.Mathlib.Nat.{mul-le-mul}
use native.Mathlib.Omega.{arith}
use native.Mathlib.Numerals.{add-one}
use mathlib.Core.Bool.{Bool, true, false, cond, not, ◌||◌}
use mathlib.Core.List.{List, [], ◌∷◌, map}
use lib.Dec.{leb, ltb, eqb}
use lib.ListN.{length, drop, get_or, drop_of_length-le}
use lib.Seq.{drop-cons}
use borrow.Author.Tests.{eqb-true, eqb-false, ltb-true, ltb-false, leb-true, eq-eqb, ne_eqb, lt-ltb, le-ltb}
use Rattle.std.specs.List.{list_any}
use Rattle.error.specs.declared.Refusal.TheVariants.{Width, Overflow}
use Rattle.error.specs.Outcome.{refused}
use Rattle.error.proofs.TestLaws.{and_true, true_not_false}
use Rattle.error.proofs.OutcomeLaws.{first-none, first_holds, first_passes}
use Rattle.fields.specs.Ranges.{top}
use Rattle.fields.specs.Width.{valid_width, enc_size}
use Rattle.fsm_sections.specs.declared.FreeSection.{FreeSection}
use Rattle.fsm_sections.specs.Sections.{section, space, of_size, distinct}
use Rattle.fsm_sections.specs.Passes.{storable}
use Rattle.fsm_sections.proofs.StoredLaws.{great_enough}
use Rattle.fsm_blocks.specs.Settings.{Settings, starting_set, used_by, fsse_used}
use Rattle.fsm_blocks.proofs.LengthLaws.{width_small, used_by_lem}
use Rattle.fsm_lengths.specs.Lengths.{unplaced, fsse_len}

-- ---- few sizes: those below a bound are no more than the bound, each other one adds the bound to the sum

-- how many sizes below b there are
unfoldable below : ℕ → List FreeSection → ℕ
below zero l = 0
below (suc b) l = cond (eqb (of_size b l) 0) 0 1 + below b l

below-few : (b : ℕ) (l : List FreeSection) → below b l ≤ b
unfolding below
below-few zero l = omega arith
below-few (suc b) l = pick (eqb (of_size b l) 0) (below-few b l)
  where
    pick : (t : Bool) → below b l ≤ b → cond t 0 1 + below b l ≤ suc b
    pick true h = omega arith
    pick false h = omega arith

-- a section of a new size below the bound adds one
below-cons : (b : ℕ) (y : FreeSection) (l : List FreeSection)
    → below b (y ∷ l) ≡ cond (ltb y.size b) (cond (eqb (of_size y.size l) 0) 1 0) 0 + below b l
unfolding below of_size
below-cons zero y l = rw (le-ltb y.size 0 (omega arith))
below-cons (suc b) y l = pick (eqb b y.size) (eqb-true b y.size) (eqb-false b y.size) (below-cons b y l)
  where
    fresh : ℕ → ℕ
    fresh n = cond (eqb n 0) 1 0

    one_of : (t : Bool) → cond t 1 0 + cond t 0 1 ≡ 1
    one_of true = refl
    one_of false = refl

    same_test : (y.size ≡ b → ⊥) → ltb y.size (suc b) ≡ ltb y.size b
    same_test n = go (ltb y.size b) (ltb-true y.size b) (ltb-false y.size b)
      where
        go : (t : Bool) → (t ≡ true → y.size < b) → (t ≡ false → b ≤ y.size) → ltb y.size (suc b) ≡ t
        go true f g = lt-ltb y.size (suc b) (omega (arith, f refl))
        go false f g = le-ltb y.size (suc b) (above (g refl))
          where
            above : b ≤ y.size → suc b ≤ y.size
            above h = omega (arith, h, n)

    pick : (t : Bool) → (t ≡ true → b ≡ y.size) → (t ≡ false → b ≡ y.size → ⊥)
        → below b (y ∷ l) ≡ cond (ltb y.size b) (cond (eqb (of_size y.size l) 0) 1 0) 0 + below b l
        → cond (eqb (cond t 1 0 + of_size b l) 0) 0 1 + below b (y ∷ l)
        ≡ cond (ltb y.size (suc b)) (cond (eqb (of_size y.size l) 0) 1 0) 0 + (cond (eqb (of_size b l) 0) 0 1 + below b l)
    pick true f g h =
        let e : y.size ≡ b = sym (f refl) in
        let lo : ltb y.size (suc b) ≡ true = lt-ltb y.size (suc b) (omega arith) in
        let hi : ltb y.size b ≡ false = le-ltb y.size b (omega arith) in
        let o : cond (eqb (of_size y.size l) 0) 1 0 + cond (eqb (of_size b l) 0) 0 1 ≡ 1 = rw e (one_of (eqb (of_size b l) 0)) in
        let i : below b (y ∷ l) ≡ below b l = h ∙ rw hi (omega arith) in
        rw (lo, i, ne_eqb (1 + of_size b l) 0 (λ q. omega arith)) (omega (arith, o))
    pick false f g h =
        let z : 0 + of_size b l ≡ of_size b l = omega arith in
        rw (same_test (λ q. g refl (sym q)), h, z) (omega arith)

-- the bound is 2^33
abbrev bound : ℕ
bound = 8589934592

sizes-split : (l : List FreeSection) → distinct l * bound ≤ below bound l * bound + space l
unfolding distinct space
sizes-split [] = omega arith
sizes-split (y ∷ l) =
    rw (below-cons bound y l)
    (pick (ltb y.size bound) (ltb-false y.size bound) (cond (eqb (of_size y.size l) 0) 1 0) (bit (eqb (of_size y.size l) 0)) (sizes-split l))
  where
    bit : (t : Bool) → cond t 1 0 ≤ 1
    bit true = omega arith
    bit false = omega arith

    pick : (t : Bool) → (t ≡ false → bound ≤ y.size) → (new : ℕ) → new ≤ 1 → distinct l * bound ≤ below bound l * bound + space l
        → (new + distinct l) * bound ≤ (cond t new 0 + below bound l) * bound + (y.size + space l)
    pick true f new b h = omega arith
    pick false f new b h = let g : bound ≤ y.size = f refl in omega arith

pub few-sizes : (l : List FreeSection) → space l < 2 ^ 64 → distinct l ≤ 2 ^ 34
few-sizes l h = omega (arith, sizes-split l, below-few bound l)

-- ---- sizes one by one

module _ (zs : List ℕ) (i : ℕ) where
  pub next-size : i < length zs → unplaced (drop i zs) ≡ section 0 (get_or zs i 0) ∷ unplaced (drop (i + 1) zs)
  next-size h = rw (add-one i) (ap unplaced (drop-cons zs i 0 h))

  pub no_size : length zs ≤ i → unplaced (drop i zs) ≡ []
  no_size h = ap unplaced (drop_of_length-le zs {i = i} h)

-- whether a size stands in a list
pub stands : (z : ℕ) (zs : List ℕ) → list_any (λ y. eqb y z) zs ≡ ltb 0 (of_size z (unplaced zs))
unfolding of_size
stands z [] = sym (le-ltb 0 0 (omega arith))
stands z (y ∷ zs) = pick (eqb y z) (eqb-true y z) (eqb-false y z) (stands z zs)
  where
    pick : (t : Bool) → (t ≡ true → y ≡ z) → (t ≡ false → y ≡ z → ⊥) → list_any (λ y. eqb y z) zs ≡ ltb 0 (of_size z (unplaced zs))
        → (t || list_any (λ y. eqb y z) zs) ≡ ltb 0 (cond (eqb z y) 1 0 + of_size z (unplaced zs))
    pick true f g h = rw (eq-eqb z y (sym (f refl))) (sym (lt-ltb 0 (1 + of_size z (unplaced zs)) (omega arith)))
    pick false f g h = let q : 0 + of_size z (unplaced zs) ≡ of_size z (unplaced zs) = omega arith in rw (ne_eqb z y (λ e. g refl (sym e)), q) h

-- n are counted before place i, and all are counted once
module _ (zs : List ℕ) (i n : ℕ) (e : n + distinct (unplaced (drop i zs)) ≡ distinct (unplaced zs)) where
  -- t: the size at i comes again
  pub counted : i < length zs → (t : Bool) → t ≡ ltb 0 (of_size (get_or zs i 0) (unplaced (drop (i + 1) zs)))
      → (n + cond t 0 1) + distinct (unplaced (drop (i + 1) zs)) ≡ distinct (unplaced zs)
  unfolding distinct
  counted h true f =
      let k : 0 < of_size (get_or zs i 0) (unplaced (drop (i + 1) zs)) = ltb-true 0 (of_size (get_or zs i 0) (unplaced (drop (i + 1) zs))) (sym f) in
      let q : distinct (unplaced (drop i zs)) ≡ 0 + distinct (unplaced (drop (i + 1) zs)) =
      rw (next-size zs i h, ne_eqb (of_size (get_or zs i 0) (unplaced (drop (i + 1) zs))) 0 (λ r. omega arith)) in
      omega arith
  counted h false f =
      let k : of_size (get_or zs i 0) (unplaced (drop (i + 1) zs)) ≤ 0 = ltb-false 0 (of_size (get_or zs i 0) (unplaced (drop (i + 1) zs))) (sym f) in
      let q : distinct (unplaced (drop i zs)) ≡ 1 + distinct (unplaced (drop (i + 1) zs)) =
      rw (next-size zs i h, eq-eqb (of_size (get_or zs i 0) (unplaced (drop (i + 1) zs))) 0 (omega arith)) in
      omega arith

  pub all-counted : length zs ≤ i → n ≡ distinct (unplaced zs)
  unfolding distinct
  all-counted h =
      let q : distinct (unplaced (drop i zs)) ≡ 0 = rw (no_size zs i h) in
      omega arith

-- n is the sum of the sizes before place i
module _ (zs : List ℕ) (i n : ℕ) (e : n + space (unplaced (drop i zs)) ≡ space (unplaced zs)) where
  pub added : i < length zs → (n + get_or zs i 0) + space (unplaced (drop (i + 1) zs)) ≡ space (unplaced zs)
  unfolding space
  added h =
      let q : space (unplaced (drop i zs)) ≡ get_or zs i 0 + space (unplaced (drop (i + 1) zs)) = rw (next-size zs i h) in
      omega arith

  pub too_great : i < length zs → top < n + get_or zs i 0 → true ≡ ltb top (space (unplaced zs))
  too_great h p = sym (lt-ltb top (space (unplaced zs)) (omega (arith, added h)))

  pub all_added : length zs ≤ i → n ≤ top → false ≡ ltb top (space (unplaced zs))
  unfolding space
  all_added h p =
      let q : space (unplaced (drop i zs)) ≡ 0 = rw (no_size zs i h) in
      sym (le-ltb top (space (unplaced zs)) (omega arith))

-- ---- the formula

pub length-unplaced : (zs : List ℕ) → length (unplaced zs) ≡ length zs
length-unplaced [] = refl
length-unplaced (z ∷ zs) = ap suc (length-unplaced zs)

-- where the sum of the sizes fits, so does the length
module _ (o : ℕ) (zs : List ℕ) (high : o ≤ 8) (sum : space (unplaced zs) ≤ top) (few : length zs < 2 ^ 60) where
  abbrev d : ℕ
  d = distinct (unplaced zs)

  groups_fit : d * (enc_size (length zs) + 8) ≤ 2 ^ 38
  groups_fit =
      let f : d ≤ 2 ^ 34 = omega (arith, few-sizes (unplaced zs) (omega arith)) in
      let w : enc_size (length zs) + 8 ≤ 16 = omega (arith, width_small (length zs) (omega arith)) in
      omega (arith, mul-le-mul f w)

  entries_fit : length zs * (o + 1) ≤ 9 * length zs
  entries_fit =
      let n : length zs ≤ length zs = omega arith in
      let k : o + 1 ≤ 9 = omega arith in
      omega (arith, mul-le-mul n k)

  pub used-fits : used_by o (starting_set o) (length zs) d ≤ top
  used-fits = omega (arith, used_by_lem o (length zs) d, groups_fit, entries_fit)

-- what a parse reads back has the length that its sizes give: only sizes count
pub by_sizes : (o : ℕ) (set : Settings) (l : List FreeSection) → fsse_used o set (unplaced (map (λ s. s.size) l)) ≡ fsse_used o set l
unfolding of_size distinct
by_sizes o set l = rw (length-same l, distinct-same l)
  where
    length-same : (l : List FreeSection) → length (unplaced (map (λ s. s.size) l)) ≡ length l
    length-same [] = refl
    length-same (s ∷ l) = ap suc (length-same l)

    of_size-same : (z : ℕ) (l : List FreeSection) → of_size z (unplaced (map (λ s. s.size) l)) ≡ of_size z l
    of_size-same z [] = refl
    of_size-same z (s ∷ l) = rw (of_size-same z l)

    distinct-same : (l : List FreeSection) → distinct (unplaced (map (λ s. s.size) l)) ≡ distinct l
    distinct-same [] = refl
    distinct-same (s ∷ l) = rw (of_size-same s.size l, distinct-same l)

-- ---- the entry

not_false : (b : Bool) → not b ≡ false → b ≡ true
not_false true e = refl
not_false false e = true_not_false true refl e

module _ (O : ℕ) (zs : List ℕ) where
  pub len_width : not (valid_width O) ≡ true → refused Width ≡ fsse_len O zs
  unfolding fsse_len
  len_width h = sym (first_holds _ Width _ _ h)

  module _ (v : not (valid_width O) ≡ false) where
    pub len_over : true ≡ ltb top (space (unplaced zs)) → refused Overflow ≡ fsse_len O zs
    unfolding fsse_len
    len_over h = sym (first_passes _ Width _ _ v ∙ first_holds _ Overflow _ _ (sym h))

    pub len_is : false ≡ ltb top (space (unplaced zs)) → length zs < 2 ^ 60 → (sizes : ℕ) → sizes ≡ distinct (unplaced zs)
        → storable (used_by O (starting_set O) (length zs) sizes) ≡ fsse_len O zs
    unfolding fsse_len
    len_is h few sizes e =
        let w = and_true (leb 1 O) (leb O 8) (not_false (valid_width O) v) in
        let k : used_by O (starting_set O) (length zs) (distinct (unplaced zs)) ≡ fsse_used O (starting_set O) (unplaced zs) = rw (length-unplaced zs) in
        let g = used-fits O zs (leb-true O 8 w.1) (ltb-false top (space (unplaced zs)) (sym h)) few in
        sym (first_passes _ Width _ _ v ∙ first_passes _ Overflow [] _ (sym h) ∙ first-none _ ∙ great_enough _ _ (sym (ap (used_by O (starting_set O) (length zs)) e ∙ k)) (omega (arith, g, k)))
