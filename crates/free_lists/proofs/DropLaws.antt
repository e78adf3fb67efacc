-- The numbers at a place of a list, before what follows them. Assumes nothing.
use mathlib.Core.Path.{◌≡◌, ◌∙◌}
use Prim.Native.Nat.{ℕ, suc, ◌+◌, ◌≤◌}
use native.Mathlib.Omega.{arith}
use mathlib.Core.List.{List, ◌∷◌}
use lib.ListN.{length, get_or, drop}
use lib.Seq.{drop-cons}

module _ (xs : List ℕ) where
  drop-one : (i j : ℕ) → suc i ≡ j → j ≤ length xs → drop i xs ≡ get_or xs i 0 ∷ drop j xs
  drop-one i j e h = drop-cons xs i 0 (omega arith) ∙ rw e

  pub drop-four : (at : ℕ) → at + 4 ≤ length xs → drop at xs ≡ get_or xs at 0 ∷ get_or xs (at + 1) 0 ∷ get_or xs (at + 2) 0 ∷ get_or xs (at + 3) 0 ∷ drop (at + 4) xs
  drop-four at h =
      rw (
        drop-one at (at + 1) (omega arith) (omega arith),
        drop-one (at + 1) (at + 2) (omega arith) (omega arith),
        drop-one (at + 2) (at + 3) (omega arith) (omega arith),
        drop-one (at + 3) (at + 4) (omega arith) (omega arith),
      )
