-- Lent runs of pairs of numbers, and the records of two numbers that they hold. Assumes nothing.
--   capacity   how many pairs a run has room for (document 01, "The list": "Capacity is half the run")
--   is_even    a run of pairs has even length: document 01's refusal 3 for runs of sections, and for a lent output run
--   is_run     a run of pairs and a count: even, and no more than its capacity
--   pair_at    the i-th pair as a record, by the record's constructor; a number that the run does not have is 0
--   decode     the first n pairs as records, by the record's constructor
--   flat       records as a run, by their two fields: first, second, first, second, ..
--   pair       the code's record of a pair
use Rattle.std.specs.Prelude.{ℕ, zero, suc, ◌+◌, ◌*◌, ◌/◌, ◌%◌, Bool, ◌&&◌, List, [], ◌∷◌, leb, eqb, length, get_or}
use Rattle.pairs.specs.declared.Pair.{Pair}

abbrev pub capacity : List ℕ → ℕ
capacity xs = length xs / 2

abbrev pub is_even : List ℕ → Bool
is_even xs = eqb (length xs % 2) 0

abbrev pub is_run : List ℕ → ℕ → Bool
is_run xs n = is_even xs && leb n (capacity xs)

abbrev pub pair_at : {A : Type 0} → (ℕ → ℕ → A) → List ℕ → ℕ → A
pair_at make xs i = make (get_or xs (2 * i) 0) (get_or xs (2 * i + 1) 0)

abbrev pub decode : {A : Type 0} → (ℕ → ℕ → A) → ℕ → List ℕ → List A
decode make zero xs = []
decode make (suc n) [] = []
decode make (suc n) (a ∷ []) = []
decode make (suc n) (a ∷ b ∷ xs) = make a b ∷ decode make n xs

abbrev pub flat : {A : Type 0} → (A → ℕ) → (A → ℕ) → List A → List ℕ
flat first second [] = []
flat first second (r ∷ rs) = first r ∷ second r ∷ flat first second rs

abbrev pub pair : ℕ → ℕ → Pair
pair a l = record { addr = a; len = l }
