-- Text in lent bytes. Assumes nothing.
--   written   a word written at a place of lent bytes: the place after it, at most their end, and the bytes; what would pass the end is dropped,
--             and whoever writes a whole text tests that it fits
--   word      a number in decimal, and the byte after it (document 01, "Checked by hand": "single spaces, decimal")
use Rattle.std.specs.Prelude.{ℕ, ◌+◌, min, List, [], ◌∷◌, ◌++◌, length}
use Rattle.error.specs.Lent.{With, with, over}
use Rattle.text.specs.Decimal.{decimal}

abbrev pub written : ℕ → List ℕ → List ℕ → With ℕ (List ℕ)
written at text out = with (min (at + length text) (length out)) (over at text out)

abbrev pub word : ℕ → ℕ → List ℕ
word n stop = decimal n ++ (stop ∷ [])
