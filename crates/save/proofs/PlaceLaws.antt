-- What refusal 13 tests of message, blocks and free regions. Assumes nothing.
--   way     a region ends past `start` or meets the message
--   ways    a region of a list does
use mathlib.Core.Path.{◌≡◌, refl, sym, ap, ◌∙◌}
use mathlib.Core.Logic.{◌⊎◌, inl, inr, ⊎_elim}
use Prim.Native.Nat.{ℕ, suc, ◌+◌, ◌-◌, ◌≤◌, ◌<◌, min, max}
use native.Mathlib.Omega.{arith}
use mathlib.Core.Bool.{Bool, true, false, ◌||◌}
use mathlib.Core.List.{List, [], ◌∷◌, map}
use borrow.Author.Tests.{lt-ltb, le-ltb, le-leb, lt-leb, ltb-false}
use lib.Dec.{ltb, leb}
use lib.ListN.{length}
use Rattle.error.proofs.TestLaws.{le-or-lt, and_true, and_false, or_false, or_decides, or-leaves}
use Rattle.free_regions.specs.declared.FreeRegion.{FreeRegion}
use Rattle.free_regions.specs.Regions.{region, end, fits_from, ok_from, meets, shares}
use Rattle.free_regions.proofs.OkLaws.{Fit, fit}
use Rattle.free_space.specs.declared.list.FreeList.{FreeList}
use Rattle.free_space.specs.Runs.{is_list, regions}
use Rattle.free_space.proofs.ListLaws.{listed}
use Rattle.pairs.proofs.PairLaws.{decode-map}
use Rattle.fsm_sections.specs.declared.FreeSection.{FreeSection}
use Rattle.fsm_sections.specs.Sections.{section, decode}
use Rattle.save.specs.Saving.{ends_past, message_in, blocks_out}

-- two comparisons that say the same
pub same_test : (a b c d : ℕ) → (a < b → c < d) → (c < d → a < b) → ltb a b ≡ ltb c d
same_test a b c d f g =
    ⊎_elim (λ (h : b ≤ a). le-ltb a b h ∙ sym (⊎_elim (λ (k : d ≤ c). le-ltb c d k) (λ (k : c < d). let z : a < b = g k in absurd (omega arith)) (le-or-lt d c)))
    (λ (h : a < b). lt-ltb a b h ∙ sym (lt-ltb c d (f h))) (le-or-lt b a)

-- ---- the message in the image, and what meets it

module _ (place : ℕ) (image : List ℕ) where
  pub message_short : length image < 125 → false ≡ message_in place image
  message_short h = sym (lt-leb (place + 125) (length image) (omega arith))

  pub message_long : 125 ≤ length image → leb place (length image - 125) ≡ message_in place image
  message_long h =
      ⊎_elim
      (λ (k : place ≤ length image - 125). le-leb place (length image - 125) k ∙ sym (le-leb (place + 125) (length image) (omega arith)))
      (λ (k : length image - 125 < place). lt-leb place (length image - 125) k ∙ sym (lt-leb (place + 125) (length image) (omega arith)))
      (le-or-lt place (length image - 125))

module _ (a n b m : ℕ) (some : (0 < n) × (0 < m)) where
  pub meet_not : b + m ≤ a → false ≡ meets (region a n) (region b m)
  meet_not h = sym (le-ltb (max a b) (min (a + n) (b + m)) (omega arith))

  pub meet_else : a < b + m → ltb b (a + n) ≡ meets (region a n) (region b m)
  meet_else h = same_test b (a + n) (max a b) (min (a + n) (b + m)) (λ k. omega arith) (λ k. omega arith)

-- how many bytes of blocks stand within the image and before the message
module _ (start place : ℕ) (image : List ℕ) where
  abbrev Room : ℕ → Type 0
  Room r = (L : ℕ) → blocks_out L start place image ≡ ltb r L

  room_by : (r : ℕ) → ((L : ℕ) → 0 < L → L ≤ r → (start + L ≤ length image) × (min (start + L) (place + 125) ≤ max start place))
      → ((L : ℕ) → r < L → (length image < start + L) ⊎ (max start place < min (start + L) (place + 125))) → Room r
  room_by r f g L = ⊎_elim fits over (le-or-lt L r)
    where
      or_true : (t : Bool) → (t || true) ≡ true
      or_true true = refl
      or_true false = refl

      fits : L ≤ r → blocks_out L start place image ≡ ltb r L
      fits h =
          ⊎_elim
          (λ (k : L ≤ 0). rw (le-ltb 0 L k, le-ltb r L h))
          (λ (k : 0 < L). let q = f L k h in rw (lt-ltb 0 L k, le-ltb (length image) (start + L) q.0, le-ltb (max start place) (min (start + L) (place + 125)) q.1, le-ltb r L h))
          (le-or-lt L 0)

      over : r < L → blocks_out L start place image ≡ ltb r L
      over h =
          let k : 0 < L = omega arith in
          ⊎_elim
          (λ (q : length image < start + L). rw (lt-ltb 0 L k, lt-ltb (length image) (start + L) q, lt-ltb r L h))
          (λ (q : max start place < min (start + L) (place + 125)). rw (lt-ltb 0 L k, lt-ltb (max start place) (min (start + L) (place + 125)) q, lt-ltb r L h) (or_true (ltb (length image) (start + L))))
          (g L h)

  module _ (r : ℕ) where
    pub room-before : start < place + 125 → r ≡ min (length image - start) (place - start) → Room r
    room-before h e =
        room_by r (λ L k l. (omega arith, omega arith))
        (λ L l. ⊎_elim (λ (q : start + L ≤ length image). inr (omega arith)) (λ (q : length image < start + L). inl q) (le-or-lt (start + L) (length image)))

    pub room_after : place + 125 ≤ start → r ≡ length image - start → Room r
    room_after h e = room_by r (λ L k l. (omega arith, omega arith)) (λ L l. inl (omega arith))

-- blocks that do not leave the image are no longer than it
pub not_longer : (len start place : ℕ) (image : List ℕ) (b : Bool) → b ≡ blocks_out len start place image → b ≡ false → len ≤ length image
not_longer len start place image b e f =
    ⊎_elim
    (λ (h : 1 ≤ len).
    let q = or_false (ltb (length image) (start + len)) _ (and_false (ltb 0 len) _ (sym e ∙ f) (lt-ltb 0 len h)) in
    let k = ltb-false (length image) (start + len) q.0 in omega arith)
    (λ (h : len < 1). omega arith)
    (le-or-lt 1 len)

-- ---- regions in the way

-- a pass over a run gives sections: the same pairs as regions
abbrev as_region : FreeSection → FreeRegion
as_region s = region s.addr s.size

module _ (start place : ℕ) where
  abbrev way : FreeRegion → Bool
  way r = ltb start (end r) || meets (region place 125) r

  abbrev ways : List FreeRegion → Bool
  ways rs = ends_past start rs || shares (region place 125) rs

  ways_more : (r : FreeRegion) (rs : List FreeRegion) → ways (r ∷ rs) ≡ (way r || ways rs)
  ways_more r rs = swap (ltb start (end r)) (ends_past start rs) (meets (region place 125) r) (shares (region place 125) rs)
    where
      swap : (a b c d : Bool) → ((a || b) || (c || d)) ≡ ((a || c) || (b || d))
      swap true b c d = refl
      swap false true true d = refl
      swap false true false d = refl
      swap false false c d = refl

  -- at the head of the loop, where the regions of l are left
  pub record Ways (all : List FreeRegion) (l : List FreeSection) : Type 0 where
    pub low : ℕ
    pub ok : ok_from low (map as_region l) ≡ true
    pub same : ways (map as_region l) ≡ ways all

  pub way_start : (xs : List ℕ) (r : FreeList) → is_list xs r ≡ true → (l : List FreeSection) → l ≡ decode r.count xs → Ways (regions xs r) l
  way_start xs r e l f =
      let g : map as_region l ≡ regions xs r = ap (map as_region) f ∙ decode-map section as_region r.count xs in
      record { low = 0; ok = ap (ok_from 0) g ∙ (listed xs r e).ok; same = ap ways g }

  module _ (all : List FreeRegion) (l : List FreeSection) (now : Ways all l) where
    pub way_none : l ≡ [] → false ≡ ways all
    way_none e = ap (λ (k : List FreeSection). ways (map as_region k)) (sym e) ∙ now.same

    module _ (x : FreeSection) (m : List FreeSection) (e : l ≡ x ∷ m) where
      abbrev rest : List FreeRegion
      rest = map as_region m

      tests : (fits_from now.low (as_region x) ≡ true) × (ok_from (suc (end (as_region x))) rest ≡ true)
      tests =
          and_true (fits_from now.low (as_region x)) (ok_from (suc (end (as_region x))) rest)
          (sym (ap (λ (k : List FreeSection). ok_from now.low (map as_region k)) e) ∙ now.ok)

      pub way_asks : Fit now.low (as_region x)
      way_asks = fit now.low (as_region x) tests.0

      module _ (t : Bool) (te : t ≡ way (as_region x)) where
        head : (way (as_region x) || ways rest) ≡ ways all
        head = sym (ap (λ (k : List FreeSection). ways (map as_region k)) e ∙ ways_more (as_region x) rest) ∙ now.same

        pub way_found : t ≡ true → true ≡ ways all
        way_found f = or_decides t (way (as_region x)) (ways rest) te f ∙ head

        pub way_step : t ≡ false → Ways all m
        way_step f = record { low = suc (end (as_region x)); ok = tests.1; same = or-leaves t (way (as_region x)) (ways rest) te f ∙ head }
