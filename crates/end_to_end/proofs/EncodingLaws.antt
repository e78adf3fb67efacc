-- Every row of calls has an encoding. Assumes nothing.
use mathlib.Core.Path.{◌≡◌, refl, ap₂, ◌∙◌}
use Prim.Native.Nat.{ℕ, ◌^◌, ◌<◌}
use mathlib.Core.List.{List, [], ◌∷◌}
use lib.Dec.{lit<}
use Rattle.free_lists.specs.declared.calls.Which.{Which}
use Rattle.free_lists.specs.declared.calls.Which.TheVariants.{Metadata, Raw, Unclassified}
use Rattle.free_lists.specs.declared.calls.ListCall.{ListCall}
use Rattle.free_lists.specs.declared.calls.ListCall.TheVariants.{Free, Alloc, AllocWholeUnits, TakeRange, TakeTrailing}
use Rattle.free_lists.specs.History.{CallOn}
use Rattle.free_lists.specs.Lists.{index}
use Rattle.end_to_end.specs.Encoding.{which_of, call_of, calls_of, numbers_of, encoded, InWord, Fits, AllFit, Encodes}

which_again : (i : Which) → which_of (index i) ≡ i
unfolding which_of
which_again Metadata = refl
which_again Raw = refl
which_again Unclassified = refl

on-again : (w : ℕ) (c : ListCall) (rest : List ℕ) → calls_of (w ∷ numbers_of c rest) ≡ record { list = which_of w; what = c } ∷ calls_of rest
unfolding calls_of call_of
on-again w (Free a n) rest = refl
on-again w (Alloc n) rest = refl
on-again w (AllocWholeUnits n u) rest = refl
on-again w (TakeRange a n) rest = refl
on-again w (TakeTrailing e) rest = refl

decoded : (cs : List CallOn) → calls_of (encoded cs) ≡ cs
unfolding calls_of
decoded [] = refl
decoded (c ∷ cs) =
    on-again (index c.list) c.what (encoded cs)
    ∙ ap₂ (λ (i : Which) (r : List CallOn). record { list = i; what = c.what } ∷ r) (which_again c.list) (decoded cs)

which_fits : (i : Which) → index i < 2 ^ 64
which_fits Metadata = lit< tt
which_fits Raw = lit< tt
which_fits Unclassified = lit< tt

call_fits : (c : ListCall) (rest : List ℕ) → Fits c → InWord rest → InWord (numbers_of c rest)
call_fits (Free a n) rest f g = (lit< tt, (f.0, (f.1, g)))
call_fits (Alloc n) rest f g = (lit< tt, (f, (lit< tt, g)))
call_fits (AllocWholeUnits n u) rest f g = (lit< tt, (f.0, (f.1, g)))
call_fits (TakeRange a n) rest f g = (lit< tt, (f.0, (f.1, g)))
call_fits (TakeTrailing e) rest f g = (lit< tt, (f, (lit< tt, g)))

all_fit : (cs : List CallOn) → AllFit cs → InWord (encoded cs)
all_fit [] f = tt
all_fit (c ∷ cs) f = (which_fits c.list, call_fits c.what (encoded cs) f.0 (all_fit cs f.1))

pub encodes : (cs : List CallOn) → Encodes cs
encodes cs = record { again = decoded cs; lendable = all_fit cs }
