-- Numbers in decimal, as text (document 01, "Checked by hand": "values, single spaces, decimal"). Assumes nothing.
--   digit     the text of a digit: 48 is 0
--   digits    the digits of a number, the last of them its rest by 10; f + 1 at the most
--   decimal   the digits of a 64-bit number, with no zero in front but for 0 itself
use Rattle.std.specs.Prelude.{ℕ, zero, suc, ◌+◌, ◌/◌, ◌%◌, cond, List, [], ◌∷◌, ◌++◌, ltb}

abbrev pub digit : ℕ → ℕ
digit d = 48 + d

unfoldable pub digits : ℕ → ℕ → List ℕ
digits zero n = digit (n % 10) ∷ []
digits (suc f) n = cond (ltb n 10) (digit n ∷ []) (digits f (n / 10) ++ (digit (n % 10) ∷ []))

unfoldable pub decimal : ℕ → List ℕ
decimal n = digits 19 n
