-- Laws of the test that a run is of pairs and has room for a count of them. Assumes nothing.
use mathlib.Core.Path.{◌≡◌, sym}
use mathlib.Core.Bool.{true, false}
use mathlib.Core.List.{List}
use Prim.Native.Nat.{ℕ, ◌*◌, ◌/◌, ◌%◌, ◌≤◌}
use native.Mathlib.Omega.{arith}
use lib.Dec.{leb}
use lib.ListN.{length}
use borrow.Author.Tests.{leb-true, ne_eqb}
use Rattle.error.proofs.TestLaws.{and_true}
use Rattle.pairs.specs.Pairs.{capacity, is_even, is_run}

module _ (xs : List ℕ) (n : ℕ) where
  pub run_odd : (length xs % 2 ≡ 0 → ⊥) → false ≡ is_run xs n
  run_odd h = sym (rw (ne_eqb (length xs % 2) 0 h))

  pub run_room : is_run xs n ≡ true → 2 * n ≤ length xs
  run_room e = let p : n ≤ length xs / 2 = leb-true n (capacity xs) (and_true (is_even xs) (leb n (capacity xs)) e).1 in omega arith
