-- The two calls that hand out bytes in pages by kind, and take them back: what each answers, and the list calls and marks that it comes to. An
-- accepted call is made of list calls, each decided by the definition that its own contract cites. Assumes nothing.
-- In quotes: document 02's words, from P4.
--   PagedLists    "a list for each kind, a list of whole shared pages (the unclassified one), and a lent mark per page"
--   paged_in      these by the lent runs and the three records
--   Made          an accepted call: the bytes that it goes over, the list calls that it is made of, in their order, and the marks that it leaves
--   outcome_of, left_by  what a list call comes to; the list that it leaves
--   or_else       Nothing goes on to another outcome ("if it has nothing, one shared page")
--   unsound       refusal 3: one of the three is no list; "a greater mark, or a listed page without one, is 3"
--   own_bytes     "below a page, the kind's list serves"
--   new_pages     "one shared page, by `alloc_whole_units`, is marked, its front is given and its rest joins that list"; "whole pages got
--                 likewise are marked and the unused end joins the kind's list"
--   paged_alloc   the call that gives bytes of a kind out; refusals 2, 3, 4, 5, 14. "Length 0 gets Nothing"
--   joined        what is freed joins the kind's list
--   returned      "Pages of a freed range that are then all free leave the kind's list by one `take_range` and join the shared one, mark 0"
--   paged_free    the call that frees bytes of a kind; refusals 2, 3, 4, 5 ("A freed byte that any of the three lists holds is 5"), 15, 14.
--                 "Length 0 gets Nothing"
--   paged         one of the two
--   given_out     the address that an accepted call gives out; freeing gives none
--   left_after    lists and marks after an accepted call: "What the door does to a list counts in the history as the list call that does it"
--   performed     the answer of a call, and lists and marks after it: "if one of these is refused, the whole call is"
use Rattle.std.specs.Prelude.{ℕ, ◌+◌, ◌-◌, ◌*◌, ◌/◌, Bool, cond, ◌&&◌, ◌||◌, not, List, [], ◌∷◌, leb, ltb, eqb, length}
use Rattle.error.specs.declared.Refusal.TheVariants.{Page, NotAList, Overflow, SharedAddress, OtherKind}
use Rattle.error.specs.Outcome.{Outcome, answer, nothing, refuse, when, first_of, and_then}
use Rattle.error.specs.Lent.{Left, with, leaving}
use Rattle.fields.specs.Ranges.{Range, top, first_multiple}
use Rattle.free_space.specs.Calls.{overflows}
use Rattle.free_lists.specs.declared.FileLists.{FileLists}
use Rattle.free_lists.specs.declared.calls.Which.{Which}
use Rattle.free_lists.specs.declared.calls.Which.TheVariants.{Metadata, Raw, Unclassified}
use Rattle.free_lists.specs.declared.calls.ListCall.{ListCall}
use Rattle.free_lists.specs.declared.calls.ListCall.TheVariants as call
use Rattle.free_lists.specs.Lists.{LentList, regions_of, Lists, lists_in, regions_in, are_lists, shared_byte}
use Rattle.free_lists.specs.Decided.{is_held}
use Rattle.free_lists.specs.History.{mapped, bytes, perform, CallOn, on, lists_after}
use Rattle.paged_lists.specs.declared.PageType.{PageType}
use Rattle.paged_lists.specs.declared.PagedCall.{PagedCall}
use Rattle.paged_lists.specs.declared.PagedCall.TheVariants.{Alloc, Free}
use Rattle.paged_lists.specs.Kinds.{mark_of, list_of}
use Rattle.paged_lists.specs.Pages.{marks_fit, pages_fit, other_kind, whole_from, whole_up_to, marked}

pub record PagedLists : Type 0 where
  pub lists : Lists
  pub marks : List ℕ

abbrev pub paged_in : List ℕ → List ℕ → List ℕ → List ℕ → FileLists → PagedLists
paged_in xs ys zs ms f = record { lists = lists_in xs ys zs f; marks = ms }

pub record Made : Type 0 where
  pub over : Range
  pub calls : List CallOn
  pub marks : List ℕ

abbrev pub outcome_of : ListCall → LentList → Outcome Range
outcome_of c l = (perform c l).outcome

abbrev pub left_by : ListCall → LentList → LentList
left_by c l = (perform c l).left

abbrev pub or_else : {A : Type 0} → Outcome A → Outcome A → Outcome A
or_else (answer a) o = answer a
or_else nothing o = o
or_else (refuse n vs) o = refuse n vs

-- ---- refusals

abbrev pub unsound : ℕ → PagedLists → Bool
unsound page s =
    let fit : Which → Bool = λ i. pages_fit page (length s.marks) (regions_of (s.lists i)) in
    not (are_lists s.lists && (marks_fit s.marks && (fit Metadata && (fit Raw && fit Unclassified))))

-- ---- giving out

unfoldable pub own_bytes : PageType → ℕ → PagedLists → Outcome Made
own_bytes k len s =
    and_then (outcome_of (call.Alloc len) (s.lists (list_of k)))
    (λ r. answer (record { over = r; calls = on (list_of k) (call.Alloc len) ∷ []; marks = s.marks }))

-- w is a whole number of pages
unfoldable pub new_pages : ℕ → PageType → ℕ → ℕ → PagedLists → Outcome Made
new_pages page k len w s =
    and_then (outcome_of (call.AllocWholeUnits w page) (s.lists Unclassified))
    (λ r. and_then (outcome_of (call.Free (r.start + len) (w - len)) (s.lists (list_of k)))
    (λ rest. answer (record {
      over = bytes r.start (r.start + len);
      calls = on Unclassified (call.AllocWholeUnits w page) ∷ on (list_of k) (call.Free (r.start + len) (w - len)) ∷ [];
      marks = marked (r.start / page) (w / page) (mark_of k) s.marks;
    })))

unfoldable pub paged_alloc : ℕ → PageType → ℕ → PagedLists → Outcome Made
paged_alloc page k len s =
    let w = first_multiple len page in
    first_of (when (eqb page 0) Page ∷ when (unsound page s) NotAList ∷ when (ltb top w) Overflow ∷ when (shared_byte (regions_in s.lists)) SharedAddress ∷ [])
    (cond (eqb len 0) nothing (cond (ltb len page) (or_else (own_bytes k len s) (new_pages page k len w s)) (new_pages page k len w s)))

-- ---- freeing

abbrev pub joined : PageType → ℕ → ℕ → PagedLists → Made
joined k a len s = record { over = bytes a (a + len); calls = on (list_of k) (call.Free a len) ∷ []; marks = s.marks }

-- the pages from p up to e are then all free
unfoldable pub returned : ℕ → PageType → ℕ → ℕ → ℕ → ℕ → PagedLists → Outcome Made
returned page k a len p e s =
    let from = p * page in
    let n = (e - p) * page in
    cond (leb e p) (answer (joined k a len s))
    (and_then (outcome_of (call.TakeRange from n) (left_by (call.Free a len) (s.lists (list_of k))))
    (λ taken. and_then (outcome_of (call.Free from n) (s.lists Unclassified))
    (λ freed. answer (record {
      over = bytes a (a + len);
      calls = on (list_of k) (call.Free a len) ∷ on (list_of k) (call.TakeRange from n) ∷ on Unclassified (call.Free from n) ∷ [];
      marks = marked p (e - p) 0 s.marks;
    }))))

unfoldable pub paged_free : ℕ → PageType → ℕ → ℕ → PagedLists → Outcome Made
paged_free page k a len s =
    let rs = regions_of (left_by (call.Free a len) (s.lists (list_of k))) in
    first_of (when (eqb page 0) Page ∷ when (unsound page s) NotAList ∷ overflows a len ∷ when (shared_byte (regions_in s.lists) || is_held a len s.lists) SharedAddress
    ∷ when (other_kind page (mark_of k) a len s.marks) OtherKind ∷ [])
    (cond (eqb len 0) nothing (and_then (outcome_of (call.Free a len) (s.lists (list_of k)))
    (λ freed. returned page k a len (whole_from page rs a) (whole_up_to page rs a len) s)))

-- ---- both

abbrev pub paged : ℕ → PagedCall → PagedLists → Outcome Made
paged page (Alloc k len) s = paged_alloc page k len s
paged page (Free k a len) s = paged_free page k a len s

abbrev pub given_out : PagedCall → Made → List ℕ
given_out (Alloc k len) m = m.over.start ∷ []
given_out (Free k a len) m = []

abbrev pub left_after : PagedLists → Made → PagedLists
left_after s m = record { lists = lists_after m.calls s.lists; marks = m.marks }

abbrev pub performed : ℕ → PagedCall → PagedLists → Left (List ℕ) PagedLists
performed page c s = leaving s (mapped (λ m. with (given_out c m) (left_after s m)) (paged page c s))
