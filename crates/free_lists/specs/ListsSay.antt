-- What pins the two questions that are asked of three lists together, whatever lists. Assumes nothing.
--   FreeInAny    a byte is free in one of the three lists
--   TwoShare     two of the lists have a free byte in common
--   Together     the three are lists, and no two of them share a byte
--   NotTogether  why both questions refuse: 3 before 5
--   RunTo        where the run of free bytes that reaches the end of file begins: all bytes from there on are free, the one before is not
--   ListsSay     `check_lists` and `trailing_run_start`: neither answers Nothing
use Rattle.std.specs.Prelude.{◌≡◌, List, [], true, false, ℕ, ◌-◌, ◌≤◌, ◌<◌}
use Rattle.error.specs.Ends.{Ends}
use Rattle.free_regions.specs.Regions.{Free}
use Rattle.free_regions.specs.Sets.{Between, Common}
use Rattle.free_lists.specs.declared.calls.Which.{Which}
use Rattle.free_lists.specs.Lists.{regions_of, same, Lists, are_lists, together}
use Rattle.free_lists.specs.Trailing.{run_start}

abbrev pub FreeInAny : Lists → ℕ → Type 0
FreeInAny ls x = (i : Which) × Free (regions_of (ls i)) x

abbrev pub TwoShare : Lists → Type 0
TwoShare ls = (i : Which) × (j : Which) × (same i j ≡ false) × Common (Free (regions_of (ls i))) (Free (regions_of (ls j)))

pub record Together (ls : Lists) : Type 0 where
  pub lists : are_lists ls ≡ true
  pub apart : TwoShare ls → ⊥

pub data NotTogether (ls : Lists) : ℕ → List ℕ → Type 0 where
  three : are_lists ls ≡ false → NotTogether ls 3 []
  five : are_lists ls ≡ true → TwoShare ls → NotTogether ls 5 []

pub record RunTo (ls : Lists) (eof start : ℕ) : Type 0 where
  pub accepted : Together ls
  pub below : start ≤ eof
  pub free : (x : ℕ) → Between start eof x → FreeInAny ls x
  pub stops : 0 < start → FreeInAny ls (start - 1) → ⊥

pub record ListsSay (ls : Lists) : Type 0 where
  pub check_lists : Ends (λ done. Together ls) ⊥ (NotTogether ls) (together ls)
  pub trailing_run_start : (eof : ℕ) → Ends (RunTo ls eof) ⊥ (NotTogether ls) (run_start ls eof)
