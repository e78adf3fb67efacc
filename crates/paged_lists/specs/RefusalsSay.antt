-- Why a paged call is refused, whatever page size, call, lists and marks: each number with its exact condition where none before it holds, in the
-- order 2, 3, 4, 5, 15, 14. No other number is given: past the first five, the list calls that a paged call is made of are refused with 14 alone
-- (document 02, P4: "if one of these is refused, the whole call is"). Assumes nothing.
-- In quotes: document 02's words, from P4.
--   Unsound       3: one of the three is no list; a mark above 2; a free byte in a page without a mark
--   TooLong       4: the length in whole pages, or the end of the freed range, exceeds 2^64 - 1
--   Held          5: two of the lists share a byte; "A freed byte that any of the three lists holds"
--   OtherPage     15: "a freed byte lies in a page not marked with the stated kind"; giving out never refuses with it
--   PassesAll     none of these holds, nor is the page size 0 (2)
--   Full          a list call is refused with 14: its list has as many regions as its run has room for, and would have one more
--   NoneOwn       the kind's list is not asked (from a page up), or has nothing
--   FullCall      14: the first list call that is refused is refused since its list is full
--   Unserved      Nothing: "Length 0 gets Nothing"; and where neither list can serve
--   RefusedBy     why a paged call is refused, by number and values
--   RefusalsSay   a refusal says why; an answer and Nothing pass all of these, 14 too
use Rattle.std.specs.Prelude.{ℕ, suc, ◌+◌, ◌-◌, ◌*◌, ◌/◌, ◌≤◌, ◌<◌, ◌≡◌, ◌⊎◌, false, List, [], ◌∷◌, length, get_or}
use Rattle.error.specs.Outcome.{answer, nothing, refuse}
use Rattle.error.specs.Ends.{Ends}
use Rattle.fields.specs.Ranges.{Range, top, first_multiple}
use Rattle.free_regions.specs.Sets.{Between, Common}
use Rattle.pairs.specs.Pairs.{capacity}
use Rattle.free_lists.specs.declared.calls.Which.TheVariants.{Unclassified}
use Rattle.free_lists.specs.declared.calls.ListCall.{ListCall}
use Rattle.free_lists.specs.declared.calls.ListCall.TheVariants as call
use Rattle.free_lists.specs.Lists.{LentList, regions_of, are_lists}
use Rattle.free_lists.specs.ListsSay.{FreeInAny, TwoShare}
use Rattle.paged_lists.specs.declared.PageType.{PageType}
use Rattle.paged_lists.specs.declared.PagedCall.{PagedCall}
use Rattle.paged_lists.specs.declared.PagedCall.TheVariants.{Alloc, Free}
use Rattle.paged_lists.specs.Kinds.{mark_of, list_of}
use Rattle.paged_lists.specs.Pages.{mark_at, whole_from, whole_up_to}
use Rattle.paged_lists.specs.PagedCalls.{PagedLists, outcome_of, left_by, paged}

-- ---- 3, 4, 5, 15

abbrev pub Unsound : ℕ → PagedLists → Type 0
Unsound page s =
    (are_lists s.lists ≡ false) ⊎ (((q : ℕ) × (2 < get_or s.marks q 0)) ⊎ ((b : ℕ) × FreeInAny s.lists b × (length s.marks ≤ b / page)))

abbrev pub TooLong : ℕ → PagedCall → Type 0
TooLong page (Alloc k len) = top < first_multiple len page
TooLong page (Free k a len) = top < a + len

abbrev pub Held : PagedCall → PagedLists → Type 0
Held (Alloc k len) s = TwoShare s.lists
Held (Free k a len) s = TwoShare s.lists ⊎ Common (Between a (a + len)) (FreeInAny s.lists)

abbrev pub OtherPage : ℕ → PagedCall → PagedLists → Type 0
OtherPage page (Alloc k len) s = ⊥
OtherPage page (Free k a len) s = (x : ℕ) × Between a (a + len) x × (mark_at page s.marks x ≡ mark_of k → ⊥)

pub record PassesAll (page : ℕ) (c : PagedCall) (s : PagedLists) : Type 0 where
  pub some : 0 < page
  pub sound : Unsound page s → ⊥
  pub fits : TooLong page c → ⊥
  pub fresh : Held c s → ⊥
  pub kind : OtherPage page c s → ⊥

-- ---- 14

pub record Full (c : ListCall) (l : LentList) (vs : List ℕ) : Type 0 where
  pub refused : outcome_of c l ≡ refuse 14 vs
  pub full : l.list.count ≡ capacity l.run
  pub values : vs ≡ suc l.list.count ∷ capacity l.run ∷ []

abbrev pub NoneOwn : ℕ → PageType → ℕ → PagedLists → Type 0
NoneOwn page k len s = len < page → outcome_of (call.Alloc len) (s.lists (list_of k)) ≡ nothing

abbrev pub FullCall : ℕ → PagedCall → PagedLists → List ℕ → Type 0
FullCall page (Alloc k len) s vs =
    let w = first_multiple len page in
    let pages = call.AllocWholeUnits w page in
    (0 < len) × NoneOwn page k len s
    × (Full pages (s.lists Unclassified) vs
    ⊎ ((r : Range) × (outcome_of pages (s.lists Unclassified) ≡ answer r) × Full (call.Free (r.start + len) (w - len)) (s.lists (list_of k)) vs))
FullCall page (Free k a len) s vs =
    let own = s.lists (list_of k) in
    let freed = left_by (call.Free a len) own in
    let p = whole_from page (regions_of freed) a in
    let e = whole_up_to page (regions_of freed) a len in
    let taken = call.TakeRange (p * page) ((e - p) * page) in
    (0 < len)
    × (Full (call.Free a len) own vs
    ⊎ (((r : Range) × (outcome_of (call.Free a len) own ≡ answer r)) × (p < e)
    × (Full taken freed vs
    ⊎ (((r : Range) × (outcome_of taken freed ≡ answer r)) × Full (call.Free (p * page) ((e - p) * page)) (s.lists Unclassified) vs))))

-- ---- all of them

abbrev pub Unserved : ℕ → PagedCall → PagedLists → Type 0
Unserved page (Alloc k len) s =
    (len ≡ 0) ⊎ (NoneOwn page k len s × (outcome_of (call.AllocWholeUnits (first_multiple len page) page) (s.lists Unclassified) ≡ nothing))
Unserved page (Free k a len) s = len ≡ 0

pub data RefusedBy (page : ℕ) (c : PagedCall) (s : PagedLists) : ℕ → List ℕ → Type 0 where
  two : page ≡ 0 → RefusedBy page c s 2 []
  three : 0 < page → Unsound page s → RefusedBy page c s 3 []
  four : 0 < page → (Unsound page s → ⊥) → TooLong page c → RefusedBy page c s 4 []
  five : 0 < page → (Unsound page s → ⊥) → (TooLong page c → ⊥) → Held c s → RefusedBy page c s 5 []
  fifteen : 0 < page → (Unsound page s → ⊥) → (TooLong page c → ⊥) → (Held c s → ⊥) → OtherPage page c s → RefusedBy page c s 15 []
  fourteen : {vs : List ℕ} → PassesAll page c s → FullCall page c s vs → RefusedBy page c s 14 vs

pub record RefusalsSay (page : ℕ) (c : PagedCall) (s : PagedLists) : Type 0 where
  pub says : Ends (λ m. PassesAll page c s × ((vs : List ℕ) → FullCall page c s vs → ⊥))
      ((PassesAll page c s × ((vs : List ℕ) → FullCall page c s vs → ⊥)) × Unserved page c s) (RefusedBy page c s) (paged page c s)
