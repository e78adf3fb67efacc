-- Paged calls in a row, and which kind each byte then is: P4's claim, `PagedByKind`, and the same of lists begun empty, `PagedBegun`. Assumes nothing.
-- In quotes: document 02's words, from P4.
--   next_paged, paged_after  lists and marks after a call; after calls in a row "with one page size"
--   LastPaged, later_of   the last accepted call over a byte, if there was one; the later of two
--   goes_over             an accepted call goes over a byte
--   last_paged            the last accepted paged call over a byte
--   InUse                 that call gave the byte out for a kind, and none has freed it since
--   FreeIn                a byte is free in a list
--   Of                    a byte is of a kind: free in the kind's list, or in use for it ("holds bytes of both kinds")
--   NoneHandedOut         what the calls may begin with: "marks are 0, the kinds' lists empty", and the shared list is any
--   calls_made            the list calls that an outcome counts as; a refusal or Nothing counts as none
--   all_calls             those of paged calls in a row
--   Drawn                 "a call draws from the shared list less than one page beyond its length"
--   Before                where the bytes that a call goes over were before it
--   ByKind                what paged calls in a row leave
--   PagedByKind           P4's claim: so it is wherever they begin with no byte of a kind and no mark but 0
--   on_shared, begun_paged  list calls on the shared list; what is begun empty and got these ("the caller frees whole pages into the shared list")
--   PagedBegun            P4's claim of lists begun empty, and that what is free in them is what is free by history
use Rattle.std.specs.Prelude.{ℕ, ◌+◌, ◌/◌, ◌≤◌, ◌<◌, ◌≡◌, ◌⊎◌, ◌↔◌, cond, List, [], ◌∷◌, ◌++◌, get_or, replicate}
use Rattle.error.specs.Outcome.{Outcome, answer, nothing, refuse}
use Rattle.free_regions.specs.Regions.{Free}
use Rattle.free_space.specs.Questions.{free_bytes}
use Rattle.free_lists.specs.declared.calls.Which.{Which}
use Rattle.free_lists.specs.declared.calls.Which.TheVariants.{Unclassified}
use Rattle.free_lists.specs.declared.calls.ListCall.{ListCall}
use Rattle.free_lists.specs.Lists.{regions_of, Lists}
use Rattle.free_lists.specs.History.{CallOn, on, lists_after, empty_lists, holds, ByHistory}
use Rattle.paged_lists.specs.declared.PageType.{PageType}
use Rattle.paged_lists.specs.declared.PageType.TheVariants.{Meta, Raw}
use Rattle.paged_lists.specs.declared.PagedCall.{PagedCall}
use Rattle.paged_lists.specs.declared.PagedCall.TheVariants as call
use Rattle.paged_lists.specs.Kinds.{mark_of, list_of}
use Rattle.paged_lists.specs.Pages.{mark_at}
use Rattle.paged_lists.specs.PagedCalls.{PagedLists, Made, paged, performed}

-- ---- calls in a row

abbrev pub next_paged : ℕ → PagedCall → PagedLists → PagedLists
next_paged page c s = (performed page c s).memory

unfoldable pub paged_after : ℕ → List PagedCall → PagedLists → PagedLists
paged_after page [] s = s
paged_after page (c ∷ cs) s = paged_after page cs (next_paged page c s)

pub data LastPaged : Type 0 where
  never : LastPaged
  was : PagedCall → LastPaged

abbrev pub later_of : LastPaged → LastPaged → LastPaged
later_of never x = x
later_of (was c) x = was c

abbrev pub goes_over : PagedCall → Outcome Made → ℕ → LastPaged
goes_over c (answer m) b = cond (holds m.over b) (was c) never
goes_over c nothing b = never
goes_over c (refuse n vs) b = never

unfoldable pub last_paged : ℕ → ℕ → List PagedCall → PagedLists → LastPaged
last_paged page b [] s = never
last_paged page b (c ∷ cs) s = later_of (last_paged page b cs (next_paged page c s)) (goes_over c (paged page c s) b)

abbrev pub InUse : PageType → LastPaged → Type 0
InUse k never = ⊥
InUse k (was (call.Alloc j n)) = mark_of j ≡ mark_of k
InUse k (was (call.Free j a n)) = ⊥

-- ---- the kind of a byte

abbrev pub FreeIn : Lists → Which → ℕ → Type 0
FreeIn ls i b = Free (regions_of (ls i)) b

pub record NoneHandedOut (s : PagedLists) : Type 0 where
  pub bytes : (k : PageType) (b : ℕ) → FreeIn s.lists (list_of k) b → ⊥
  pub marks : (q : ℕ) → get_or s.marks q 0 ≡ 0

-- after the calls ds
module _ (page : ℕ) (ds : List PagedCall) (s : PagedLists) where
  abbrev pub Of : PageType → ℕ → Type 0
  Of k b = FreeIn (paged_after page ds s).lists (list_of k) b ⊎ InUse k (last_paged page b ds s)

-- ---- list calls that paged calls count as

abbrev pub calls_made : Outcome Made → List CallOn
calls_made (answer m) = m.calls
calls_made nothing = []
calls_made (refuse n vs) = []

unfoldable pub all_calls : ℕ → List PagedCall → PagedLists → List CallOn
all_calls page [] s = []
all_calls page (c ∷ cs) s = calls_made (paged page c s) ++ all_calls page cs (next_paged page c s)

-- ---- P4's claim

-- the free bytes of the shared list before and after an accepted call; freeing takes none from it
abbrev pub Drawn : ℕ → PagedCall → ℕ → ℕ → Type 0
Drawn page (call.Alloc k len) before now = before < now + (len + page)
Drawn page (call.Free k a len) before now = before ≤ now

-- after the calls ds: bytes given out were free in the kind's list or in the shared one, and in use for no kind; bytes freed were in use for the
-- kind
abbrev pub Before : ℕ → List PagedCall → PagedLists → PagedCall → ℕ → Type 0
Before page ds s (call.Alloc k len) b =
    (FreeIn (paged_after page ds s).lists (list_of k) b ⊎ FreeIn (paged_after page ds s).lists Unclassified b)
    × ((j : PageType) → InUse j (last_paged page b ds s) → ⊥)
Before page ds s (call.Free k a len) b = InUse k (last_paged page b ds s)

-- s is what the calls ds begin with
pub record ByKind (page : ℕ) (ds : List PagedCall) (s : PagedLists) : Type 0 where
  -- the marks tell the kind of every byte: in a page marked with a kind all bytes are of this kind, in another page none is
  pub tells : (k : PageType) (b : ℕ) → Of page ds s k b ↔ (mark_at page (paged_after page ds s).marks b ≡ mark_of k)
  -- so a page is marked with a kind exactly if it holds a byte of it
  pub marked : 0 < page → (k : PageType) (q : ℕ) → (get_or (paged_after page ds s).marks q 0 ≡ mark_of k) ↔ ((b : ℕ) × (b / page ≡ q) × Of page ds s k b)
  -- "no page holds bytes of both kinds"
  pub apart : (b c : ℕ) → b / page ≡ c / page → Of page ds s Meta b → Of page ds s Raw c → ⊥
  -- no byte is free in a kind's list and in use for it
  pub once : (k : PageType) (b : ℕ) → FreeIn (paged_after page ds s).lists (list_of k) b → InUse k (last_paged page b ds s) → ⊥
  -- a byte of the shared list is of no kind
  pub shared : (k : PageType) (b : ℕ) → FreeIn (paged_after page ds s).lists Unclassified b → Of page ds s k b → ⊥
  -- of each further call that is accepted: where its bytes were, and what it takes from the shared list
  pub over : (c : PagedCall) (m : Made) → paged page c (paged_after page ds s) ≡ answer m
      → (b : ℕ) → m.over.start ≤ b → b < m.over.end → Before page ds s c b
  pub drawn : (c : PagedCall) (m : Made) → paged page c (paged_after page ds s) ≡ answer m
      → Drawn page c (free_bytes ((paged_after page ds s).lists Unclassified).list) (free_bytes ((next_paged page c (paged_after page ds s)).lists Unclassified).list)
  -- one that is not accepted leaves all as it was, so nothing but an accepted allocation lowers the shared list's free bytes
  pub unmade : (c : PagedCall) → ((m : Made) → paged page c (paged_after page ds s) ≡ answer m → ⊥) → next_paged page c (paged_after page ds s) ≡ paged_after page ds s
  -- each call counts as the list calls that it is made of
  pub calls : (paged_after page ds s).lists ≡ lists_after (all_calls page ds s) s.lists

-- any page size, also 0, which refuses every call; and any calls, also such as are refused or answer Nothing
abbrev pub PagedByKind : Type 0
PagedByKind = (page : ℕ) (ds : List PagedCall) (s : PagedLists) → NoneHandedOut s → ByKind page ds s

-- ---- lists begun empty

abbrev pub on_shared : List ListCall → List CallOn
on_shared [] = []
on_shared (c ∷ cs) = on Unclassified c ∷ on_shared cs

-- any lent runs, n marks, and any calls on the shared list alone
abbrev pub begun_paged : (Which → List ℕ) → ℕ → List ListCall → PagedLists
begun_paged runs n cs = record { lists = lists_after (on_shared cs) (empty_lists runs); marks = replicate n 0 }

pub record PagedBegun (page : ℕ) (runs : Which → List ℕ) (n : ℕ) (cs : List ListCall) (ds : List PagedCall) : Type 0 where
  pub by_kind : ByKind page ds (begun_paged runs n cs)
  -- the lists are those of list calls in a row, so all that holds of such holds of them
  pub lists : (paged_after page ds (begun_paged runs n cs)).lists ≡ lists_after (on_shared cs ++ all_calls page ds (begun_paged runs n cs)) (empty_lists runs)
  pub by_history : ByHistory runs (on_shared cs ++ all_calls page ds (begun_paged runs n cs))
