-- The last bytes as one block: the missing ones are 0 and add nothing, so the block adds what lookup3.c's switch does; and the loop that makes
-- the block. Assumes nothing.
--   last_block   the claim
--   five         its premises can be met: five bytes, and words that pass 2^32 and wrap
use Rattle.std.proofs.Common.{◌≡◌, ℕ, zero, suc, ◌+◌, ◌-◌, ◌<◌, ◌≤◌, List, [], ◌∷◌, ◌++◌, length, get_or, take, drop, set, replicate, sym, refl, ap, ◌∙◌, arith, lit<, lit≤, length-append, length-take, take_all}
use lib.Bits.{bit_or}
use lib.ListN.{length-replicate}
use Rattle.error.specs.Lent.{over}
use Rattle.error.proofs.OverLaws.{over_zeros, get_or-above, front-next}
use Rattle.fields.specs.Le.{le_value}
use Rattle.checksum.specs.declared.Words.{Words}
use Rattle.checksum.specs.Lookup3.{add32, finished, block_added, gained, byte_added, tail_added, ending, seed}
use Rattle.checksum.specs.LastBlock.{padded, Low, LastBlock}
use Rattle.checksum.proofs.WordLaws.{word-is}
use Rattle.checksum.proofs.TailLaws.{tail_is}

-- ---- the block by what it adds

get_or_zeros : (n i : ℕ) → get_or {A = ℕ} (replicate n 0) i 0 ≡ 0
get_or_zeros zero i = refl
get_or_zeros (suc n) zero = refl
get_or_zeros (suc n) (suc i) = get_or_zeros n i

-- a byte that is missing counts as 0
get_or-padded : (k : List ℕ) (n i : ℕ) → get_or (k ++ replicate n 0) i 0 ≡ get_or k i 0
get_or-padded [] n i = get_or_zeros n i
get_or-padded (b ∷ k) n zero = refl
get_or-padded (b ∷ k) n (suc i) = get_or-padded k n i

word-padded : (at : ℕ) (k : List ℕ) → le_value (take 4 (drop at (padded k))) ≡ le_value (take 4 (drop at k))
unfolding padded
word-padded at k =
    let n = 12 - length k in
    omega (arith, word-is at (k ++ replicate n 0), word-is at k, get_or-padded k n at, get_or-padded k n (at + 1), get_or-padded k n (at + 2), get_or-padded k n (at + 3))

adds : (k : List ℕ) (w : Words) → length k ≤ 12 → Low w → block_added (padded k) w ≡ tail_added 0 k w
unfolding block_added
adds k w h l = rw (word-padded 0 k, word-padded 4 k, word-padded 8 k) (sym (tail_is k w h l))

ends : (k : List ℕ) (w : Words) → 0 < length k → length k ≤ 12 → Low w → (finished (block_added (padded k) w)).c ≡ ending k w
unfolding ending
ends [] w some h l = absurd (omega arith)
ends (b ∷ k) w some h l = ap (λ (v : Words). (finished v).c) (adds (b ∷ k) w h l)

twelve : (k : List ℕ) → length k ≤ 12 → length (padded k) ≡ 12
unfolding padded
twelve k h = omega (arith, length-append k (replicate (12 - length k) 0), length-replicate {A = ℕ} (12 - length k) 0)

pub last_block : LastBlock
last_block = record { twelve = twelve; adds = adds; ends = ends }

pub five : block_added (1 ∷ 2 ∷ 3 ∷ 4 ∷ 5 ∷ 0 ∷ 0 ∷ 0 ∷ 0 ∷ 0 ∷ 0 ∷ 0 ∷ []) (seed 0xffffffff) ≡ record { a = 0x04030200; b = 4; c = 0xffffffff }
unfolding padded add32 gained byte_added tail_added
five = last_block.adds (1 ∷ 2 ∷ 3 ∷ 4 ∷ 5 ∷ []) (seed 0xffffffff) (lit≤ tt) (record { low_a = lit< tt; low_b = lit< tt; low_c = lit< tt })

-- ---- the block as it is made: the first i bytes over zeros

module _ (k : List ℕ) where
  abbrev pub copied : ℕ → List ℕ
  copied i = over 0 (take i k) (replicate 12 0)

  -- where the next byte goes 0 stands, so or stores the byte itself
  zero-next : (i : ℕ) → get_or (copied i) i 0 ≡ 0
  zero-next i = get_or-above 0 i (take i k) (replicate 12 0) (omega (arith, length-take i k)) ∙ get_or_zeros 12 i

  pub copy_next : (i : ℕ) → i < length k → set (copied i) i (bit_or (get_or (copied i) i 0) (get_or k i 0)) ≡ copied (i + 1)
  copy_next i h = rw (zero-next i) (front-next i k (replicate 12 0) h)

  pub copy_end : (i : ℕ) → length k ≤ i → length k ≤ 12 → copied i ≡ padded k
  unfolding padded
  copy_end i h few = ap (λ (s : List ℕ). over 0 s (replicate 12 0)) (take_all i k h) ∙ over_zeros k 12 few
