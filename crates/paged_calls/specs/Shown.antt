-- P4's claim of the code: what `make_paged_calls` leaves is what the claim speaks of. Assumes nothing.
-- In quotes: document 02's words, from P4.
--   OfKind     a byte is of a kind, by lists as the code leaves them: free in the kind's list, or in use for it after the calls
--   Shown      of paged calls ds with one page size, on lists begun empty, n marks begun 0 and the frees cs on the shared list ("the caller
--              frees whole pages into the shared list"), and of lists and marks s as the code leaves them:
--     claim        P4's claim holds of these calls
--     left_is      s is what the claim speaks of
--     tells        the marks of s tell the kind of every byte: in a page marked with a kind all bytes are of this kind, in another page none is
--     apart        "no page holds bytes of both kinds"
use Rattle.std.specs.Prelude.{ℕ, ◌/◌, ◌≡◌, ◌⊎◌, ◌↔◌, List}
use Rattle.free_lists.specs.declared.calls.Which.{Which}
use Rattle.free_lists.specs.declared.calls.ListCall.{ListCall}
use Rattle.paged_lists.specs.declared.PageType.{PageType}
use Rattle.paged_lists.specs.declared.PageType.TheVariants.{Meta, Raw}
use Rattle.paged_lists.specs.declared.PagedCall.{PagedCall}
use Rattle.paged_lists.specs.Kinds.{mark_of, list_of}
use Rattle.paged_lists.specs.Pages.{mark_at}
use Rattle.paged_lists.specs.PagedCalls.{PagedLists}
use Rattle.paged_lists.specs.PagedHistory.{paged_after, last_paged, InUse, FreeIn, begun_paged, PagedBegun}

module _ (page : ℕ) (runs : Which → List ℕ) (n : ℕ) (cs : List ListCall) (ds : List PagedCall) (s : PagedLists) where
  abbrev pub OfKind : PageType → ℕ → Type 0
  OfKind k b = FreeIn s.lists (list_of k) b ⊎ InUse k (last_paged page b ds (begun_paged runs n cs))

  pub record Shown : Type 0 where
    pub claim : PagedBegun page runs n cs ds
    pub left_is : s ≡ paged_after page ds (begun_paged runs n cs)
    pub tells : (k : PageType) (b : ℕ) → OfKind k b ↔ (mark_at page s.marks b ≡ mark_of k)
    pub apart : (b c : ℕ) → b / page ≡ c / page → OfKind Meta b → OfKind Raw c → ⊥
