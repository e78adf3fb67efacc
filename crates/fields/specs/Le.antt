-- Unsigned numbers as bytes at any width (document 01, "Fourteen ways to say no": "stored numbers are unsigned, least byte first").
-- Assumes nothing.
--   le_bytes   the bytes of a number at a width: its low bytes, least first
--   le_value   the number that bytes spell, least first
use Rattle.std.specs.Prelude.{ℕ, zero, suc, ◌+◌, ◌*◌, ◌/◌, ◌%◌, List, [], ◌∷◌}

unfoldable pub le_bytes : ℕ → ℕ → List ℕ
le_bytes zero v = []
le_bytes (suc w) v = v % 256 ∷ le_bytes w (v / 256)

unfoldable pub le_value : List ℕ → ℕ
le_value [] = 0
le_value (b ∷ bs) = b + 256 * le_value bs
