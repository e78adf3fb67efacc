-- Regions of free bytes, and what the list calls make of a list of regions. Assumes nothing.
-- In quotes: document 01's words, from "The list", from the refusal of that number or from the heading named.
--   region     the region of an address and a length ("address then length")
--   end        one past a region's last byte ("FreeRegion answers its end")
--   In, Free   a byte lies in a region; in some region of a list: the free bytes
--   sum_of_lengths   what the lengths of a list of regions add up to (document 02, P1: "what adding all lengths would give")
--   fits_from  a region that begins at a place or later, is not empty and ends within 64 bits (refusal 3: "length 0 or ends above 2^64−1")
--   ok_from    regions in order, each after the end of the one before (refusal 3: "with a gap of at least one byte")
--   meets      two regions share a byte (refusal 13: "meets the message")
--   shares     a region shares a byte with one of a list (refusal 5: "freed bytes are already free")
--   share_bytes   two lists share a byte (refusal 5: "given together share a byte")
--   piece      a number of bytes from an address on, as regions: none where it is 0
--   join       the region from the lower address to the higher end of two that touch
--   insert     a list with a region put in (`free`: "touching regions fold into one")
--   cut        what is left of a region outside a range
--   absorb     a region with those that it reaches folded into it
--   cut_all    a list without the bytes of a range (`take_range`: "removes the free bytes within the range")
--   around     what is left of a region on either side of a range within it (an allocation: "served from its front", or "its leftovers")
--   spliced    a list with the regions from a place up to another replaced ("Eight files": "`splice` a shift within them")
--   Found, best   the place of the region of which the fewest bytes suffice ("smallest region that is long enough, lowest on a tie"; "The least
--              interior that suffices serves, lowest on a tie")
--   one_at     what the region at a place finds by itself: nothing where it does not suffice
--   lower      the better of what is found at a lower place and what is found above it ("lowest on a tie")
use Rattle.std.specs.Prelude.{ℕ, suc, ◌+◌, ◌-◌, ◌≤◌, ◌<◌, min, max, Bool, true, false, cond, ◌&&◌, ◌||◌, List, [], ◌∷◌, ◌++◌, ◌⊎◌, leb, ltb, eqb, take, drop}
use Rattle.fields.specs.Ranges.{top}
use Rattle.free_regions.specs.declared.FreeRegion.{FreeRegion}

abbrev pub region : ℕ → ℕ → FreeRegion
region a l = record { addr = a; len = l }

abbrev pub end : FreeRegion → ℕ
end r = r.addr + r.len

abbrev pub In : FreeRegion → ℕ → Type 0
In r x = (r.addr ≤ x) × (x < end r)

abbrev pub Free : List FreeRegion → ℕ → Type 0
Free [] x = ⊥
Free (r ∷ rs) x = In r x ⊎ Free rs x

abbrev pub sum_of_lengths : List FreeRegion → ℕ
sum_of_lengths [] = 0
sum_of_lengths (r ∷ rs) = r.len + sum_of_lengths rs

-- ---- refusals 3 and 5

abbrev pub fits_from : ℕ → FreeRegion → Bool
fits_from low r = ltb 0 r.len && (leb (end r) top && leb low r.addr)

abbrev pub ok_from : ℕ → List FreeRegion → Bool
ok_from low [] = true
ok_from low (r ∷ rs) = fits_from low r && ok_from (suc (end r)) rs

abbrev pub meets : FreeRegion → FreeRegion → Bool
meets r s = ltb (max r.addr s.addr) (min (end r) (end s))

abbrev pub shares : FreeRegion → List FreeRegion → Bool
shares r [] = false
shares r (s ∷ ss) = meets r s || shares r ss

abbrev pub share_bytes : List FreeRegion → List FreeRegion → Bool
share_bytes [] ss = false
share_bytes (r ∷ rs) ss = shares r ss || share_bytes rs ss

-- ---- `free`

abbrev pub join : FreeRegion → FreeRegion → FreeRegion
join r s = region (min r.addr s.addr) (max (end r) (end s) - min r.addr s.addr)

-- the regions that r reaches fold into it
abbrev pub absorb : FreeRegion → List FreeRegion → List FreeRegion
absorb r [] = r ∷ []
absorb r (s ∷ ss) = cond (leb s.addr (end r)) (absorb (join r s) ss) (r ∷ s ∷ ss)

-- the regions that end below r stay before it
abbrev pub insert : FreeRegion → List FreeRegion → List FreeRegion
insert r [] = r ∷ []
insert r (s ∷ ss) = cond (ltb (end s) r.addr) (s ∷ insert r ss) (absorb r (s ∷ ss))

-- ---- `take_range` and allocations

abbrev pub piece : ℕ → ℕ → List FreeRegion
piece a len = cond (eqb len 0) [] (region a len ∷ [])

-- what is left of a region outside a up to e
abbrev pub cut : ℕ → ℕ → FreeRegion → List FreeRegion
cut a e r = piece r.addr (min (end r) a - r.addr) ++ piece (max e r.addr) (end r - max e r.addr)

abbrev pub cut_all : ℕ → ℕ → List FreeRegion → List FreeRegion
cut_all a e [] = []
cut_all a e (r ∷ rs) = cut a e r ++ cut_all a e rs

abbrev pub around : FreeRegion → ℕ → ℕ → List FreeRegion
around r start len = piece r.addr (start - r.addr) ++ piece (start + len) (end r - (start + len))

abbrev pub spliced : List FreeRegion → ℕ → ℕ → List FreeRegion → List FreeRegion
spliced rs i j new = take i rs ++ (new ++ drop j rs)

-- ---- best fit

pub data Found : Type 0 where
  none : Found
  at : ℕ → ℕ → Found

-- the region at i, of which span bytes can serve
abbrev pub one_at : ℕ → ℕ → ℕ → Found
one_at len i span = cond (leb len span) (at i span) none

abbrev pub lower : Found → Found → Found
lower none g = g
lower (at i s) none = at i s
lower (at i s) (at j t) = cond (leb s t) (at i s) (at j t)

-- span gives the bytes of a region that can serve; i is the place of the first
abbrev pub best : (FreeRegion → ℕ) → ℕ → ℕ → List FreeRegion → Found
best span len i [] = none
best span len i (r ∷ rs) = lower (one_at len i (span r)) (best span len (suc i) rs)
