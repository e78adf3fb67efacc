-- Three pages of 4 bytes are freed, and 1 byte of metadata and 5 of raw data given out, by computation from the definitions. Assumes nothing.
use Prim.Native.Nat.{ℕ}
use mathlib.Core.Path.{◌≡◌, refl}
use mathlib.Core.List.{List, [], ◌∷◌}
use Rattle.error.specs.Outcome.{first_of, and_then}
use Rattle.fields.specs.Ranges.{first_multiple}
use Rattle.free_regions.specs.Regions.{region}
use Rattle.free_regions.specs.Units.{last_multiple}
use Rattle.free_space.specs.Runs.{is_list, stored}
use Rattle.free_space.specs.Calls.{freed, allocated, allocated_units}
use Rattle.free_lists.specs.declared.calls.Which.TheVariants.{Metadata, Raw, Unclassified}
use Rattle.free_lists.specs.Lists.{regions_of}
use Rattle.free_lists.specs.History.{lists_after}
use Rattle.paged_lists.specs.PagedCalls.{PagedLists, own_bytes, new_pages, paged_alloc}
use Rattle.paged_lists.specs.PagedHistory.{paged_after, begun_paged}
use Rattle.paged_calls.specs.Encoding.{frees_of, type_of, paged_call_of, paged_calls_of, runs_of}

-- in runs of two regions; the last number of the frees is none
abbrev begun : PagedLists
begun =
    let run : List ℕ = 0 ∷ 0 ∷ 0 ∷ 0 ∷ [] in
    begun_paged (runs_of run run run) 3 (frees_of (0 ∷ 4 ∷ 4 ∷ 4 ∷ 8 ∷ 4 ∷ 1 ∷ []))

abbrev given : PagedLists
given = paged_after 4 (paged_calls_of (0 ∷ 0 ∷ 1 ∷ 0 ∷ 0 ∷ 1 ∷ 5 ∷ 0 ∷ [])) begun

three-pages : regions_of (begun.lists Unclassified) ≡ region 0 12 ∷ []
unfolding frees_of lists_after first_of is_list stored freed
three-pages = refl

given_out : (given.marks ≡ 1 ∷ 2 ∷ 2 ∷ []) × (regions_of (given.lists Metadata) ≡ region 1 3 ∷ []) × (regions_of (given.lists Raw) ≡ region 9 3 ∷ [])
    × (regions_of (given.lists Unclassified) ≡ [])
unfolding frees_of type_of paged_call_of paged_calls_of lists_after first_of and_then first_multiple last_multiple is_list stored freed allocated allocated_units own_bytes new_pages paged_alloc paged_after
given_out = (refl, refl, refl, refl)
