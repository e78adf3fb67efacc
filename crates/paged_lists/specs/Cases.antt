-- Paged calls in a row on three pages of 4 bytes, and refusals at their edges, over the definitions that the contracts cite. Assumes nothing.
--   Shown, shown   how lists and marks stand: the regions of each list, the marks
--   stands         these by each of them
--   first          the first byte that a call goes over
--   firsts         the same of calls in a row
--   pages          three shared pages
--   given          calls that give bytes of both kinds out
--   used           calls that follow: more bytes, and bytes freed by the wrong kind
--   back           calls that free, so that a page goes back to the shared list
--   after_given, after_used, after_back  lists and marks after each of these
--   tight          a metadata list and a shared list of one region, each in a run of one region
--   Cases          the tables
use Rattle.std.specs.Prelude.{ℕ, ◌≡◌, List, [], ◌∷◌}
use Rattle.error.specs.declared.Refusal.TheVariants.{Page, NotAList, Overflow, SharedAddress, OverCapacity, OtherKind}
use Rattle.error.specs.Outcome.{Outcome, answer, nothing, refused}
use Rattle.fields.specs.Ranges.{top}
use Rattle.free_regions.specs.declared.FreeRegion.{FreeRegion}
use Rattle.free_regions.specs.Regions.{region}
use Rattle.free_space.specs.Runs.{record_of}
use Rattle.free_lists.specs.declared.calls.Which.TheVariants as which
use Rattle.free_lists.specs.Lists.{LentList, list_in, regions_of, lists_of}
use Rattle.free_lists.specs.History.{mapped}
use Rattle.paged_lists.specs.declared.PageType.TheVariants.{Meta, Raw}
use Rattle.paged_lists.specs.declared.PagedCall.{PagedCall}
use Rattle.paged_lists.specs.declared.PagedCall.TheVariants.{Alloc, Free}
use Rattle.paged_lists.specs.PagedCalls.{PagedLists, Made, paged}
use Rattle.paged_lists.specs.PagedHistory.{next_paged, paged_after}

pub record Shown : Type 0 where
  pub meta : List FreeRegion
  pub raw : List FreeRegion
  pub shared : List FreeRegion
  pub marks : List ℕ

abbrev pub shown : PagedLists → Shown
shown s = record {
  meta = regions_of (s.lists which.Metadata);
  raw = regions_of (s.lists which.Raw);
  shared = regions_of (s.lists which.Unclassified);
  marks = s.marks;
}

abbrev pub stands : List FreeRegion → List FreeRegion → List FreeRegion → List ℕ → Shown
stands m r u ms = record { meta = m; raw = r; shared = u; marks = ms }

abbrev pub first : Outcome Made → Outcome ℕ
first o = mapped (λ m. m.over.start) o

abbrev pub firsts : ℕ → List PagedCall → PagedLists → List (Outcome ℕ)
firsts page [] s = []
firsts page (c ∷ cs) s = first (paged page c s) ∷ firsts page cs (next_paged page c s)

-- ---- calls in a row, with pages of 4 bytes

abbrev pub pages : PagedLists
pages =
    let empty = list_in (0 ∷ 0 ∷ 0 ∷ 0 ∷ []) (record_of []) in
    record { lists = lists_of empty empty (list_in (0 ∷ 12 ∷ 0 ∷ 0 ∷ []) (record_of (region 0 12 ∷ []))); marks = 0 ∷ 0 ∷ 0 ∷ [] }

abbrev pub given : List PagedCall
given = Alloc Meta 0 ∷ Alloc Meta 1 ∷ Alloc Raw 5 ∷ []

abbrev pub used : List PagedCall
used = Alloc Meta 3 ∷ Alloc Meta 1 ∷ Alloc Raw 3 ∷ Free Raw 0 1 ∷ Free Meta 4 1 ∷ Free Meta 12 1 ∷ Free Meta 1 3 ∷ []

abbrev pub back : List PagedCall
back = Free Meta 0 1 ∷ Free Raw 0 1 ∷ Free Raw 4 3 ∷ []

abbrev pub after_given : PagedLists
after_given = paged_after 4 given pages

abbrev pub after_used : PagedLists
after_used = paged_after 4 used after_given

abbrev pub after_back : PagedLists
after_back = paged_after 4 back after_used

-- ---- lists that are full

-- the metadata list has n bytes from a on, the shared one m bytes from b on
abbrev pub tight : ℕ → ℕ → ℕ → ℕ → List ℕ → PagedLists
tight a n b m ms =
    let one : ℕ → ℕ → LentList = λ x k. list_in (x ∷ k ∷ []) (record_of (region x k ∷ [])) in
    record { lists = lists_of (one a n) (list_in [] (record_of [])) (one b m); marks = ms }

pub record Cases : Type 0 where
  pub given_answers : firsts 4 given pages ≡ nothing ∷ answer 0 ∷ answer 4 ∷ []
  pub given_stands : shown after_given ≡ stands (region 1 3 ∷ []) (region 9 3 ∷ []) [] (1 ∷ 2 ∷ 2 ∷ [])
  pub used_answers : firsts 4 used after_given
      ≡ answer 1 ∷ nothing ∷ answer 9 ∷ refused OtherKind ∷ refused OtherKind ∷ refused OtherKind ∷ answer 1 ∷ []
  pub used_stands : shown after_used ≡ stands (region 1 3 ∷ []) [] [] (1 ∷ 2 ∷ 2 ∷ [])
  pub back_answers : firsts 4 back after_used ≡ answer 0 ∷ refused SharedAddress ∷ answer 4 ∷ []
  pub back_stands : shown after_back ≡ stands [] (region 4 3 ∷ []) (region 0 4 ∷ []) (0 ∷ 2 ∷ 2 ∷ [])
  pub all_back : shown (paged_after 4 (Free Raw 7 5 ∷ []) after_back) ≡ stands [] [] (region 0 12 ∷ []) (0 ∷ 0 ∷ 0 ∷ [])
  -- a page of a freed range that stays in part, a byte of another kind after the first, a byte after the first that the shared list holds
  pub part_stays : shown (paged_after 4 (Free Meta 2 6 ∷ []) (tight 1 1 8 4 (1 ∷ 1 ∷ 0 ∷ [])))
      ≡ stands (region 1 3 ∷ []) [] (region 4 8 ∷ []) (1 ∷ 0 ∷ 0 ∷ [])
  pub other_later : first (paged 4 (Free Meta 3 2) (tight 8 1 12 4 (1 ∷ 2 ∷ 1 ∷ 0 ∷ []))) ≡ refused OtherKind
  pub held_later : first (paged 4 (Free Meta 3 2) (tight 8 1 4 1 (1 ∷ 1 ∷ 1 ∷ []))) ≡ refused SharedAddress
  -- full lists: by the page taken out of the middle, by what is left of a page, by the whole pages of a part page
  pub full_take : first (paged 4 (Free Meta 4 5) (tight 2 2 20 4 (1 ∷ 1 ∷ 1 ∷ 0 ∷ 0 ∷ 0 ∷ []))) ≡ refused (OverCapacity 2 1)
  pub full_rest : first (paged 4 (Alloc Meta 2) (tight 1 1 8 4 (1 ∷ 1 ∷ 0 ∷ []))) ≡ refused (OverCapacity 2 1)
  pub full_shared : first (paged 4 (Alloc Meta 4) (tight 20 1 1 10 (0 ∷ 0 ∷ 0 ∷ 0 ∷ 0 ∷ 1 ∷ []))) ≡ refused (OverCapacity 2 1)
  -- the order of refusals
  pub over_four : first (paged 6 (Alloc Meta top) pages) ≡ refused Overflow
  pub mark_three : first (paged 6 (Alloc Meta top) (tight 20 1 1 10 (0 ∷ 3 ∷ 0 ∷ 0 ∷ []))) ≡ refused NotAList
  pub short_marks : first (paged 4 (Alloc Meta 0) (tight 0 1 4 4 (0 ∷ []))) ≡ refused NotAList
  pub page_zero : first (paged 0 (Alloc Meta 0) pages) ≡ refused Page
  -- length 0, after all refusals
  pub free-none : first (paged 4 (Free Meta 0 0) pages) ≡ nothing
