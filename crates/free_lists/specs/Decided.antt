-- What a call on one of three lists that are given together comes to: refusals 3 and 5 are those of all three (document 01, refusal 5: "two lists
-- .. given together share a byte"; document 02, P4: "A freed byte that any of the three lists holds is 5"). Assumes nothing.
--   is_held             a byte of a range is free in one of the three lists
--   freed_together      what `decide_free` decides: `free` on one of them; refusals 3, 4, 5, 14
--   allocated_together  what `decide_alloc` decides: `alloc` on one of them; refusals 3, 5
use Rattle.std.specs.Prelude.{ℕ, Bool, not, ◌||◌, List, [], ◌∷◌}
use Rattle.error.specs.declared.Refusal.TheVariants.{NotAList, SharedAddress}
use Rattle.error.specs.Outcome.{Outcome, when, first_of}
use Rattle.error.specs.Lent.{With}
use Rattle.free_regions.specs.Regions.{region, shares}
use Rattle.free_space.specs.declared.list.FreeList.{FreeList}
use Rattle.free_space.specs.declared.list.Given.{Given}
use Rattle.free_space.specs.Calls.{overflows, freed, allocated}
use Rattle.free_lists.specs.declared.calls.Which.{Which}
use Rattle.free_lists.specs.declared.calls.Which.TheVariants.{Metadata, Raw, Unclassified}
use Rattle.free_lists.specs.Lists.{regions_of, Lists, regions_in, are_lists, shared_byte, apart}

abbrev pub is_held : ℕ → ℕ → Lists → Bool
is_held a len ls =
    shares (region a len) (regions_of (ls Metadata)) || (shares (region a len) (regions_of (ls Raw)) || shares (region a len) (regions_of (ls Unclassified)))

unfoldable pub freed_together : Lists → Which → ℕ → ℕ → Outcome (With FreeList (List ℕ))
freed_together ls i a len =
    first_of (when (not (are_lists ls)) NotAList ∷ overflows a len ∷ when (shared_byte (regions_in ls) || is_held a len ls) SharedAddress ∷ [])
    (freed (ls i).run (ls i).list a len)

unfoldable pub allocated_together : Lists → Which → ℕ → Outcome (With Given (List ℕ))
allocated_together ls i len = first_of (apart ls) (allocated (ls i).run (ls i).list len)
