-- What pins `free_bytes` (specs/FreeBytesSay.antt), proved, and an instance of it. Assumes nothing.
--   AddsUp   regions in order, and their lengths' sum for a total: refusal 3's test but for the run's length
use mathlib.Core.Path.{◌≡◌, refl, sym, ◌∙◌}
use mathlib.Core.Bool.{Bool, true}
use mathlib.Core.List.{List, [], ◌∷◌}
use mathlib.Core.Logic.{◌↔◌}
use Prim.Native.Nat.{ℕ, ◌^◌}
use native.Mathlib.Omega.{arith}
use Rattle.fields.specs.Ranges.{top}
use Rattle.free_regions.specs.Regions.{Free, sum_of_lengths}
use Rattle.free_regions.specs.Sets.{how_many}
use Rattle.free_regions.proofs.OkLaws.{Within, ok_prop}
use Rattle.free_regions.proofs.LengthLaws.{how_many_lem}
use Rattle.free_space.specs.declared.list.FreeList.{FreeList}
use Rattle.free_space.specs.Runs.{regions, is_list}
use Rattle.free_space.specs.Questions.{free_bytes}
use Rattle.free_space.proofs.ListLaws.{listed}
use Rattle.free_lists.specs.FreeBytesSay.{FreeBytesSay}

module _ (xs : List ℕ) (l : FreeList) where
  pub record AddsUp : Type 0 where
    pub order : Within 0 top (regions xs l)
    pub total : free_bytes l ≡ sum_of_lengths (regions xs l)

  pub adds_up : is_list xs l ≡ true → AddsUp
  adds_up ok = let q = listed xs l ok in record { order = (ok_prop 0 (regions xs l)).0 q.ok; total = q.total }

  -- every free byte lies below 2^64 - 1
  pub counts : AddsUp → (free : ℕ → Bool) → ((b : ℕ) → Free (regions xs l) b ↔ (free b ≡ true)) → free_bytes l ≡ how_many (2 ^ 64) free
  counts q free f = q.total ∙ sym (how_many_lem free top (2 ^ 64) (regions xs l) q.order (omega arith) f)

  pub free_bytes_say : FreeBytesSay xs l
  free_bytes_say = record { sum = λ ok. (adds_up ok).total; bytes = λ ok. counts (adds_up ok) }

-- the premise can be met: the regions (5, 3) and (10, 2) with the total 5, over a run with room for more
abbrev two : List ℕ
two = 5 ∷ 3 ∷ 10 ∷ 2 ∷ 7 ∷ 7 ∷ []

passes : is_list two (record { count = 2; total = 5 }) ≡ true
unfolding is_list
passes = refl

met : free_bytes (record { count = 2; total = 5 }) ≡ sum_of_lengths (regions two (record { count = 2; total = 5 }))
met = (free_bytes_say two (record { count = 2; total = 5 })).sum passes
