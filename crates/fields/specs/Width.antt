-- Widths and lengths that follow from a number alone. Assumes nothing.
-- In quotes: document 01's words, from "Blocks on file" or from the heading named.
--   valid_width   an offset size or length size that refusal 1 lets pass ("outside 1 to 8" is refused)
--   least_from    the first of the widths w, w + 1, .. whose bytes hold a number, w + n at the most
--   enc_size      "`enc_size` is the least number of bytes, at least 1", that hold a 64-bit number
--   Least         what that means: at least 1, enough, and no more than any other width that is both ("Language forms": "tied to least byte count")
--   fshd_len      `fshd_len`: "FSHD, length 74+O"; refusal 1 outside 1 to 8
use Rattle.std.specs.Prelude.{ℕ, zero, suc, ◌+◌, ◌^◌, ◌≤◌, ◌<◌, Bool, cond, ◌&&◌, not, [], ◌∷◌, ltb, leb}
use Rattle.error.specs.declared.Refusal.TheVariants.{Width}
use Rattle.error.specs.Outcome.{Outcome, answer, when, first_of}

abbrev pub valid_width : ℕ → Bool
valid_width w = leb 1 w && leb w 8

unfoldable pub least_from : ℕ → ℕ → ℕ → ℕ
least_from zero v w = w
least_from (suc n) v w = cond (ltb v (256 ^ w)) w (least_from n v (w + 1))

unfoldable pub enc_size : ℕ → ℕ
enc_size v = least_from 7 v 1

pub record Least (v w : ℕ) : Type 0 where
  pub some : 1 ≤ w
  pub holds : v < 256 ^ w
  pub least : (k : ℕ) → 1 ≤ k → v < 256 ^ k → w ≤ k

unfoldable pub fshd_len : ℕ → Outcome ℕ
fshd_len O = first_of (when (not (valid_width O)) Width ∷ []) (answer (74 + O))
