-- Numbers as calls: two cases of the encoding. Assumes nothing.
use mathlib.Core.Path.{◌≡◌, refl}
use mathlib.Core.List.{[], ◌∷◌}
use Rattle.free_lists.specs.declared.calls.Which.TheVariants.{Metadata, Raw, Unclassified}
use Rattle.free_lists.specs.declared.calls.ListCall.TheVariants.{Free, AllocWholeUnits, TakeTrailing}
use Rattle.end_to_end.specs.Encoding.{which_of, call_of, calls_of}

-- two calls, and three numbers that are none
two-calls : calls_of (1 ∷ 2 ∷ 30 ∷ 10 ∷ 0 ∷ 0 ∷ 5 ∷ 6 ∷ 2 ∷ 4 ∷ 7 ∷ [])
    ≡ record { list = Raw; what = AllocWholeUnits 30 10 } ∷ record { list = Metadata; what = Free 5 6 } ∷ []
unfolding calls_of which_of call_of
two-calls = refl

-- numbers above those of the lists and the calls
above : calls_of (9 ∷ 9 ∷ 100 ∷ 1 ∷ []) ≡ record { list = Unclassified; what = TakeTrailing 100 } ∷ []
unfolding calls_of which_of call_of
above = refl
