-- What pins each of the five list calls, whatever list and arguments: what it answers and leaves, when it answers Nothing, and each refusal
-- with its exact condition where no lower one holds. Assumes nothing.
--   over, shared, part, full   what 4, 5, 6 and 14 say of a call; ⊥ is a refusal that the call never gives
--   Passes         none of the conditions of 3, 4, 5 and 6 holds
--   Refuses        why a call refuses, by number and values: 3 before all, 4 before 5, 5 before 6, 14 last
--   CallSays       an accepted call and Nothing pass these four; a refusal says why
--   Leaves         an accepted call was given a list, and leaves a list with this change to the free bytes
--   Allocates      an allocation: which region serves, from where, and what is left
--   TwoLeft        the one region that an allocation chooses has bytes left on both sides
--   PartUnit       the unit is not 0, and the length is no multiple of it
--   last_of        the last region of a list
--   Drops          `take_trailing`: the last region ends at the end of file, and goes
--   FreeSays       `free`: 4 where the range ends above 2^64 - 1, 5 where a byte of it is free, 14 where it is not empty and touches no region, and the run is full
--   TakeRangeSays  `take_range`: 4 alike, 14 where the range is not empty and lies strictly inside a region, and the run is full
--   ServeSays      an allocation: Nothing for length 0 and where no region suffices
--   AllocSays      `alloc`: from the front of the smallest region that is long enough; refuses by 3 alone
--   UnitsSays      `alloc_whole_units`: 6 before Nothing; from the first multiple in the least interior that suffices; 14 where bytes are left on both
--                  sides and the run is full
--   TrailingSays   `take_trailing`: Nothing without a last region that ends at the end of file; refuses by 3 alone
--   CallsSay       all five
use Rattle.std.specs.Prelude.{◌≡◌, List, [], ◌∷◌, true, false, ◌⊎◌, ℕ, suc, ◌+◌, ◌-◌, ◌*◌, ◌%◌, ◌≤◌, ◌<◌, length, get_or}
use Rattle.error.specs.Outcome.{Outcome}
use Rattle.error.specs.Ends.{Ends}
use Rattle.error.specs.Lent.{With}
use Rattle.fields.specs.Ranges.{top}
use Rattle.free_regions.specs.declared.FreeRegion.{FreeRegion}
use Rattle.free_regions.specs.Regions.{end, Free}
use Rattle.free_regions.specs.Units.{interior_start, interior_span}
use Rattle.free_regions.specs.Sets.{Between, Shared, Adds, Removes, TouchesNone, StrictlyInside, nth, NoneSuffices, Best, FirstMultiple}
use Rattle.free_space.specs.declared.list.FreeList.{FreeList}
use Rattle.pairs.specs.Pairs.{capacity}
use Rattle.free_space.specs.Runs.{regions, is_list}
use Rattle.free_space.specs.declared.list.Given.{Given}
use Rattle.free_space.specs.Calls.{freed, range_taken, allocated, allocated_units, trailing_taken}

-- ---- the order of the refusals

pub record Passes (xs : List ℕ) (l : FreeList) (over shared part : Type 0) : Type 0 where
  pub list : is_list xs l ≡ true
  pub fits : over → ⊥
  pub fresh : shared → ⊥
  pub whole : part → ⊥

pub data Refuses (xs : List ℕ) (l : FreeList) (over shared part full : Type 0) : ℕ → List ℕ → Type 0 where
  three : is_list xs l ≡ false → Refuses xs l over shared part full 3 []
  four : is_list xs l ≡ true → over → Refuses xs l over shared part full 4 []
  five : is_list xs l ≡ true → (over → ⊥) → shared → Refuses xs l over shared part full 5 []
  six : is_list xs l ≡ true → (over → ⊥) → (shared → ⊥) → part → Refuses xs l over shared part full 6 []
  fourteen : Passes xs l over shared part → l.count ≡ capacity xs → full → Refuses xs l over shared part full 14 (suc l.count ∷ capacity xs ∷ [])

-- P of an answer, N for Nothing
abbrev pub CallSays : {A : Type 0} → List ℕ → FreeList → Type 0 → Type 0 → Type 0 → Type 0 → (With A (List ℕ) → Type 0) → Type 0
    → Outcome (With A (List ℕ)) → Type 0
CallSays xs l over shared part full P N =
    Ends (λ w. Passes xs l over shared part × P w) (Passes xs l over shared part × N) (Refuses xs l over shared part full)

-- ---- what an accepted call leaves

pub record Leaves (Change : List FreeRegion → List FreeRegion → Type 0) (xs : List ℕ) (l : FreeList) (ys : List ℕ) (m : FreeList) : Type 0 where
  pub given : is_list xs l ≡ true
  pub left : is_list ys m ≡ true
  pub bytes : Change (regions xs l) (regions ys m)
  -- the places of the run after the regions that are left: 0 up to the old count, and then as they were
  pub long : length ys ≡ length xs
  pub cleared : (k : ℕ) → 2 * m.count ≤ k → k < 2 * l.count → get_or ys k 0 ≡ 0
  pub rest : (k : ℕ) → 2 * m.count ≤ k → 2 * l.count ≤ k → get_or ys k 0 ≡ get_or xs k 0

-- ---- `free` and `take_range`

abbrev pub FreeSays : List ℕ → FreeList → ℕ → ℕ → Outcome (With FreeList (List ℕ)) → Type 0
FreeSays xs l a len =
    CallSays xs l (top < a + len) (Shared a (a + len) (regions xs l)) ⊥ ((0 < len) × TouchesNone a (a + len) (regions xs l))
    (λ w. Leaves (Adds a (a + len)) xs l w.memory w.value) ⊥

abbrev pub TakeRangeSays : List ℕ → FreeList → ℕ → ℕ → Outcome (With FreeList (List ℕ)) → Type 0
TakeRangeSays xs l a len =
    CallSays xs l (top < a + len) ⊥ ⊥ ((0 < len) × StrictlyInside a (a + len) (regions xs l))
    (λ w. Leaves (Removes a (a + len)) xs l w.memory w.value) ⊥

-- ---- allocations; span gives the bytes of a region that can serve, Address says from where it serves

pub record Allocates (span : FreeRegion → ℕ) (Address : FreeRegion → ℕ → Type 0) (len : ℕ) (xs : List ℕ) (l : FreeList) (g : Given) (ys : List ℕ) : Type 0 where
  pub place : ℕ
  pub some : 0 < len
  pub best : Best span len (regions xs l) place
  pub address : Address (nth (regions xs l) place) g.addr
  pub were : (x : ℕ) → Between g.addr (g.addr + len) x → Free (regions xs l) x
  pub leaves : Leaves (Removes g.addr (g.addr + len)) xs l ys g.list

pub record TwoLeft (span start : FreeRegion → ℕ) (len : ℕ) (rs : List FreeRegion) : Type 0 where
  pub place : ℕ
  pub some : 0 < len
  pub best : Best span len rs place
  pub before : (nth rs place).addr < start (nth rs place)
  pub after : start (nth rs place) + len < end (nth rs place)

-- part and full say when it refuses with 6 and 14
abbrev pub ServeSays : List ℕ → FreeList → (FreeRegion → ℕ) → (FreeRegion → ℕ → Type 0) → ℕ → Type 0 → Type 0 → Outcome (With Given (List ℕ)) → Type 0
ServeSays xs l span Address len part full =
    CallSays xs l ⊥ ⊥ part full (λ w. Allocates span Address len xs l w.value w.memory) ((len ≡ 0) ⊎ NoneSuffices span len (regions xs l))

abbrev pub AllocSays : List ℕ → FreeList → ℕ → Outcome (With Given (List ℕ)) → Type 0
AllocSays xs l len = ServeSays xs l (λ r. r.len) (λ r p. p ≡ r.addr) len ⊥ ⊥

abbrev pub PartUnit : ℕ → ℕ → Type 0
PartUnit len unit = (unit ≡ 0 → ⊥) × (len % unit ≡ 0 → ⊥)

abbrev pub UnitsSays : List ℕ → FreeList → ℕ → ℕ → Outcome (With Given (List ℕ)) → Type 0
UnitsSays xs l len unit =
    ServeSays xs l (interior_span unit) (λ r p. FirstMultiple unit r.addr p) len (PartUnit len unit)
    (TwoLeft (interior_span unit) (interior_start unit) len (regions xs l))

-- ---- `take_trailing`

abbrev pub last_of : List FreeRegion → FreeRegion
last_of rs = nth rs (length rs - 1)

pub record Drops (eof : ℕ) (xs : List ℕ) (l : FreeList) (g : Given) (ys : List ℕ) : Type 0 where
  pub some : 0 < length (regions xs l)
  pub ends : end (last_of (regions xs l)) ≡ eof
  pub address : g.addr ≡ (last_of (regions xs l)).addr
  pub leaves : Leaves (Removes g.addr eof) xs l ys g.list

abbrev pub TrailingSays : List ℕ → FreeList → ℕ → Outcome (With Given (List ℕ)) → Type 0
TrailingSays xs l eof =
    CallSays xs l ⊥ ⊥ ⊥ ⊥ (λ w. Drops eof xs l w.value w.memory)
    ((length (regions xs l) ≡ 0) ⊎ (end (last_of (regions xs l)) ≡ eof → ⊥))

-- ---- all five, of the definitions that their contracts cite

pub record CallsSay (xs : List ℕ) (l : FreeList) : Type 0 where
  pub free : (a len : ℕ) → FreeSays xs l a len (freed xs l a len)
  pub take_range : (a len : ℕ) → TakeRangeSays xs l a len (range_taken xs l a len)
  pub alloc : (len : ℕ) → AllocSays xs l len (allocated xs l len)
  pub alloc_whole_units : (len unit : ℕ) → UnitsSays xs l len unit (allocated_units xs l len unit)
  pub take_trailing : (eof : ℕ) → TrailingSays xs l eof (trailing_taken xs l eof)
