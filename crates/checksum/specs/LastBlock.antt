-- DOCUMENT 02's P3, "Checksum tail in less read-only memory", one claim about the last bytes of a checksum. Assumes nothing.
-- In quotes: P3's words. Names with brackets are lookup3.c's.
--   padded      "one 12-byte block whose missing bytes are zero": the bytes, and after them as many zeros as make twelve
--   Low         a, b and c are below 2^32, as words of 32 bits are; so adding 0 changes none of them
--   LastBlock   "the 1 to 12 last bytes become one 12-byte block" (twelve). "one law over their number equates what it adds with lookup3.c's
--               cases" (adds): of any bytes, up to twelve, the block adds to a, b and c what the last switch of hashlittle() adds. "Every
--               checksum is what it was" (ends): of one byte or more, final() after the block gives the answer that it gives after the switch
use Rattle.std.specs.Prelude.{◌≡◌, ℕ, ◌-◌, ◌^◌, ◌<◌, ◌≤◌, List, ◌++◌, length, replicate}
use Rattle.checksum.specs.declared.Words.{Words}
use Rattle.checksum.specs.Lookup3.{finished, block_added, tail_added, ending}

unfoldable pub padded : List ℕ → List ℕ
padded k = k ++ replicate (12 - length k) 0

pub record Low (w : Words) : Type 0 where
  pub low_a : w.a < 2 ^ 32
  pub low_b : w.b < 2 ^ 32
  pub low_c : w.c < 2 ^ 32

pub record LastBlock : Type 0 where
  pub twelve : (k : List ℕ) → length k ≤ 12 → length (padded k) ≡ 12
  pub adds : (k : List ℕ) (w : Words) → length k ≤ 12 → Low w → block_added (padded k) w ≡ tail_added 0 k w
  pub ends : (k : List ℕ) (w : Words) → 0 < length k → length k ≤ 12 → Low w → (finished (block_added (padded k) w)).c ≡ ending k w
