-- Every row of frees and every row of paged calls has an encoding. Assumes nothing.
use mathlib.Core.Path.{◌≡◌, refl, ap, ap₂}
use Prim.Native.Nat.{◌^◌, ◌<◌}
use mathlib.Core.List.{List, [], ◌∷◌}
use lib.Dec.{lit<}
use Rattle.free_regions.specs.declared.FreeRegion.{FreeRegion}
use Rattle.free_space.specs.Runs.{flat}
use Rattle.free_lists.specs.declared.calls.ListCall.{ListCall}
use Rattle.free_lists.specs.declared.calls.ListCall.TheVariants as list
use Rattle.paged_lists.specs.declared.PageType.{PageType}
use Rattle.paged_lists.specs.declared.PageType.TheVariants.{Meta, Raw}
use Rattle.paged_lists.specs.declared.PagedCall.{PagedCall}
use Rattle.paged_lists.specs.declared.PagedCall.TheVariants.{Alloc, Free}
use Rattle.paged_calls.specs.Encoding.{frees_of, type_of, paged_call_of, paged_calls_of, freeing, number_of, encoded, InWord, RangesFit, AllFit, Encodes}

frees_decoded : (rs : List FreeRegion) → frees_of (flat rs) ≡ freeing rs
unfolding frees_of
frees_decoded [] = refl
frees_decoded (r ∷ rs) = ap (λ (cs : List ListCall). list.Free r.addr r.len ∷ cs) (frees_decoded rs)

kind-again : (k : PageType) → type_of (number_of k) ≡ k
unfolding type_of
kind-again Meta = refl
kind-again Raw = refl

calls_decoded : (ds : List PagedCall) → paged_calls_of (encoded ds) ≡ ds
unfolding paged_calls_of paged_call_of
calls_decoded [] = refl
calls_decoded (Alloc k n ∷ ds) = ap₂ (λ (j : PageType) (r : List PagedCall). Alloc j n ∷ r) (kind-again k) (calls_decoded ds)
calls_decoded (Free k a n ∷ ds) = ap₂ (λ (j : PageType) (r : List PagedCall). Free j a n ∷ r) (kind-again k) (calls_decoded ds)

ranges_fit : (rs : List FreeRegion) → RangesFit rs → InWord (flat rs)
ranges_fit [] f = tt
ranges_fit (r ∷ rs) f = (f.0, (f.1, ranges_fit rs f.2))

kind_fits : (k : PageType) → number_of k < 2 ^ 64
kind_fits Meta = lit< tt
kind_fits Raw = lit< tt

calls-fit : (ds : List PagedCall) → AllFit ds → InWord (encoded ds)
calls-fit [] f = tt
calls-fit (Alloc k n ∷ ds) f = (lit< tt, (kind_fits k, (f.0, (lit< tt, calls-fit ds f.1))))
calls-fit (Free k a n ∷ ds) f = (lit< tt, (kind_fits k, (f.0.0, (f.0.1, calls-fit ds f.1))))

pub encodes : (rs : List FreeRegion) (ds : List PagedCall) → Encodes rs ds
encodes rs ds = record { frees_again = frees_decoded rs; calls_again = calls_decoded ds; frees_lendable = ranges_fit rs; calls_lendable = calls-fit ds }
