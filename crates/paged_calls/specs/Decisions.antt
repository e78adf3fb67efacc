-- What a decision of a paged call stands for. No public contract cites this file; it serves the contracts of private functions. Assumes nothing.
--   applied      what a call answers, and the records after it; a refusal leaves them as they were
--   leaves       the outcome of a call, and lists and marks after it, by what they are with these records
--   Step, left_of, step_outcome   (Step of the code) what a step answers and the two records after it; the records after one that may be refused,
--                and its outcome
--   PagedDecision   what a paged call decides before anything changes
--   carried_in   a list after a decision is carried out on it
--   own_after, shared_after, marks_after   the kind's list, the shared list and the marks after a paged decision is carried out
--   CarriedTo    these are what is left after it
--   kind_of      the kind of a call
--   first_byte   what an accepted call answers, by the first byte that it goes over: an allocation gives it out
--   answer_of    the answer of a decision
--   replaced     three lists, one of which is replaced
--   left_in      lists and marks after a decision is carried out
--   stands_for   the answer of a decision, and lists and marks after it
--   effect_of    the answer of an outcome, and lists and marks after it
--   drawn_with   a decision to draw pages, by that on what is not used of them: its refusal ends the call
--   Draws        a decision that stands for `new_pages`, whatever the kind, where the kind's list and the shared one are these
--   served       what `paged_alloc` comes to past its tests
--   ServedBy     a paged decision that stands for it
--   Serves       a decision on the kind's list, which is one: from a page up it is asked for no bytes
--   Freed        (of the code) a range to be freed, its first page and its last one
--   Ranged       these belong together, and the range has bytes and ends within 64 bits
--   folded_in    the one region that a freed range folds into
--   returned_with   a decision to give pages back, by that on the shared list: its refusal ends the call
--   TakesOwn     bytes of the kind's list are given out, with what the code answers and leaves
--   DrawsTo      pages are drawn, with what the code answers and leaves
--   GivesBack    a decision that stands for freeing the range, where the kind's list and the shared one are these
--   ReturnsTo, BacksTo   the same with what the code answers and leaves
--   state_of     the lists and marks that are lent
--   end_fits     the byte before an end lies in a page that has a mark; there is none before 0
--   Reaches, ReachesAll   an end tells so of all regions of a list, of three lists: no listed page is without a mark
--   number_at    the number of a refusal, 0 of none
--   Tells        what the number of a refusal tells: 3, or else 4, or else 5, each by its condition
--   is_shared    two lists share a byte, or one holds a byte of the range
--   SoundTested  what the tests tell that both calls begin with
--   AllocPast, AllocTested, FreePast, FreeTested   what the tests of `alloc` and `free` tell
--   Joins        a decision on the kind's list, which a freed range joins
--   rejoined     what `paged_free` comes to past its tests
use Rattle.std.specs.Prelude.{ℕ, ◌+◌, ◌-◌, ◌*◌, ◌/◌, ◌≤◌, ◌<◌, ◌≡◌, Bool, true, false, cond, ◌&&◌, ◌||◌, List, [], ◌∷◌, ltb, eqb, Option, Some, None, Result, Ok, Err}
use Rattle.free_space.specs.Splices.{Decision}
use Rattle.error.specs.declared.Refusal.{Refusal}
use Rattle.error.specs.declared.Refusal.TheVariants.{Page, NotAList}
use Rattle.error.specs.Refusals.{number_of}
use Rattle.error.specs.Outcome.{Outcome, Condition, answer, nothing, refused, when, first_of, and_then}
use Rattle.error.specs.Lent.{Left, left, with, leaving}
use Rattle.fields.specs.Ranges.{top}
use Rattle.free_regions.specs.declared.FreeRegion.{FreeRegion}
use Rattle.free_regions.specs.Regions.{region}
use Rattle.free_space.specs.declared.run.Patch.{Patch}
use Rattle.free_space.specs.declared.run.Patch.TheVariants.{Empty, One, Two}
use Rattle.free_space.specs.Runs.{is_list}
use Rattle.free_space.specs.Calls.{freed, allocated}
use Rattle.free_space.specs.Decisions.{Gives, Keeps, Folds, carried_out}
use Rattle.free_lists.specs.declared.FileLists.{FileLists}
use Rattle.free_lists.specs.declared.calls.Applied.{Applied}
use Rattle.free_lists.specs.declared.calls.Which.{Which}
use Rattle.free_lists.specs.declared.calls.Which.TheVariants.{Metadata, Raw, Unclassified}
use Rattle.free_lists.specs.declared.calls.ListCall.TheVariants.{Free, TakeRange}
use Rattle.free_lists.specs.Lists.{LentList, list_in, regions_of, same, Lists, regions_in, are_lists, shared_byte}
use Rattle.free_lists.specs.Decided.{is_held}
use Rattle.free_lists.specs.History.{mapped, answered_outcome}
use Rattle.paged_lists.specs.declared.PageType.{PageType}
use Rattle.paged_lists.specs.declared.PagedCall.{PagedCall}
use Rattle.paged_lists.specs.declared.PagedCall.TheVariants as call
use Rattle.paged_lists.specs.Kinds.{mark_of, list_of}
use Rattle.paged_lists.specs.Pages.{last_page, pages_fit, whole_from, whole_up_to, marked}
use Rattle.paged_lists.specs.PagedCalls.{PagedLists, paged_in, Made, outcome_of, left_by, or_else, own_bytes, new_pages, paged_alloc, unsound, returned, paged_free, given_out, left_after}
use Rattle.paged_calls.specs.declared.free_pages.Freed.{Freed}
use Rattle.paged_calls.specs.declared.records.Records.{Records}
use Rattle.paged_calls.specs.declared.records.Step.{Step}
use Rattle.paged_calls.specs.declared.records.Called.{Called}
use Rattle.paged_calls.specs.declared.tests.Lent.{Lent}

-- ---- what the code answers, and the records after it

abbrev pub applied : FileLists → Result Called Refusal → Applied
applied f (Ok c) = record { answer = Ok c.answer; lists = c.lists }
applied f (Err r) = record { answer = Err r; lists = f }

abbrev pub leaves : (FileLists → PagedLists) → FileLists → Result Called Refusal → Left (List ℕ) PagedLists
leaves in_runs f c = left (answered_outcome (applied f c).answer) (in_runs (applied f c).lists)

abbrev pub left_of : Records → Result Step Refusal → Records
left_of b (Ok s) = s.lists
left_of b (Err r) = b

abbrev pub step_outcome : Result Step Refusal → Outcome (List ℕ)
step_outcome (Ok s) = answered_outcome (Ok s.answer)
step_outcome (Err r) = refused r

-- ---- one list

abbrev pub carried_in : LentList → Decision → LentList
carried_in l d = list_in (carried_out l.run l.list d).memory (carried_out l.run l.list d).value

-- ---- what is decided

pub data PagedDecision : Type 0 where
  Refused : Refusal → PagedDecision
  Nothing : PagedDecision
  -- the first byte that the call goes over, and the decision on the kind's list, which alone changes
  Own : ℕ → Decision → PagedDecision
  -- the address given out, the decision on the shared list, that on the kind's, and the pages that are marked: the first, and how many
  Drawn : ℕ → Decision → Decision → ℕ → ℕ → PagedDecision
  -- the decision on the kind's list, the bytes that leave it then, the decision on the shared list, and their pages
  Returned : Decision → ℕ → ℕ → Decision → ℕ → ℕ → PagedDecision

-- ---- carrying out

abbrev pub own_after : PagedDecision → LentList → LentList
own_after (Refused r) l = l
own_after Nothing l = l
own_after (Own a own) l = carried_in l own
own_after (Drawn a pages rest first count) l = carried_in l rest
own_after (Returned own a len pages first count) l = left_by (TakeRange a len) (carried_in l own)

abbrev pub shared_after : PagedDecision → LentList → LentList
shared_after (Refused r) l = l
shared_after Nothing l = l
shared_after (Own a own) l = l
shared_after (Drawn a pages rest first count) l = carried_in l pages
shared_after (Returned own a len pages first count) l = carried_in l pages

abbrev pub marks_after : PageType → PagedDecision → List ℕ → List ℕ
marks_after k (Refused r) ms = ms
marks_after k Nothing ms = ms
marks_after k (Own a own) ms = ms
marks_after k (Drawn a pages rest first count) ms = marked first count (mark_of k) ms
marks_after k (Returned own a len pages first count) ms = marked first count 0 ms

abbrev pub replaced : Which → LentList → Lists → Lists
replaced i l ls j = cond (same j i) l (ls j)

abbrev pub left_in : PageType → PagedDecision → PagedLists → PagedLists
left_in k d s = record {
  lists = replaced (list_of k) (own_after d (s.lists (list_of k))) (replaced Unclassified (shared_after d (s.lists Unclassified)) s.lists);
  marks = marks_after k d s.marks;
}

-- o, u and m are what is left of the kind's list, the shared one and the marks
abbrev pub CarriedTo : PageType → LentList → LentList → List ℕ → PagedDecision → LentList → LentList → List ℕ → Type 0
CarriedTo k own shared ms d o u m = (o ≡ own_after d own) × ((u ≡ shared_after d shared) × (m ≡ marks_after k d ms))

-- ---- answers

abbrev pub kind_of : PagedCall → PageType
kind_of (call.Alloc k len) = k
kind_of (call.Free k a len) = k

abbrev pub first_byte : PagedCall → ℕ → List ℕ
first_byte (call.Alloc k len) a = a ∷ []
first_byte (call.Free k a len) b = []

abbrev pub answer_of : PagedCall → PagedDecision → Outcome (List ℕ)
answer_of c (Refused r) = refused r
answer_of c Nothing = nothing
answer_of c (Own a own) = answer (first_byte c a)
answer_of c (Drawn a pages rest first count) = answer (first_byte c a)
answer_of c (Returned own a len pages first count) = answer (first_byte c a)

abbrev pub stands_for : PagedCall → PagedDecision → PagedLists → Left (List ℕ) PagedLists
stands_for c d s = left (answer_of c d) (left_in (kind_of c) d s)

abbrev pub effect_of : PagedCall → Outcome Made → PagedLists → Left (List ℕ) PagedLists
effect_of c o s = leaving s (mapped (λ m. with (given_out c m) (left_after s m)) o)

-- ---- parts of the two calls

abbrev pub drawn_with : ℕ → Decision → ℕ → ℕ → Decision → PagedDecision
drawn_with a pages first count (Err r) = Refused r
drawn_with a pages first count (Ok c) = Drawn a pages (Ok c) first count

abbrev pub Draws : ℕ → ℕ → ℕ → LentList → LentList → PagedDecision → Type 0
Draws page len w own shared d =
    (k : PageType) (s : PagedLists) → s.lists (list_of k) ≡ own → s.lists Unclassified ≡ shared
    → stands_for (call.Alloc k len) d s ≡ effect_of (call.Alloc k len) (new_pages page k len w s) s

-- past the tests; w is a whole number of pages
abbrev pub served : ℕ → PageType → ℕ → ℕ → PagedLists → Outcome Made
served page k len w s = cond (ltb len page) (or_else (own_bytes k len s) (new_pages page k len w s)) (new_pages page k len w s)

-- whatever the marks
abbrev pub ServedBy : ℕ → PageType → ℕ → ℕ → Lists → PagedDecision → Type 0
ServedBy page k len w ls d =
    (ms : List ℕ) → let s : PagedLists = record { lists = ls; marks = ms } in stands_for (call.Alloc k len) d s ≡ effect_of (call.Alloc k len) (served page k len w s) s

-- below a page the decision is that of the kind's list, from a page up it is Nothing
abbrev pub Serves : ℕ → PageType → ℕ → Decision → Lists → Type 0
Serves page k len own ls =
    Gives (ls (list_of k)).run (ls (list_of k)).list (allocated (ls (list_of k)).run (ls (list_of k)).list (cond (ltb len page) len 0)) own
    × (is_list (ls (list_of k)).run (ls (list_of k)).list ≡ true)

-- r is what the code answers, ps and qs the runs of metadata and raw after it; whatever the unclassified list and the marks
abbrev pub TakesOwn : PageType → ℕ → Decision → List ℕ → List ℕ → FileLists → List ℕ → List ℕ → Called → Type 0
TakesOwn k a own xs ys f ps qs r =
    (zs ms : List ℕ) → left (answered_outcome (Ok r.answer)) (paged_in ps qs zs ms r.lists) ≡ stands_for (call.Alloc k 0) (Own a own) (paged_in xs ys zs ms f)

abbrev pub DrawsTo : ℕ → PageType → ℕ → ℕ → LentList → LentList → List ℕ → Outcome (List ℕ) → LentList → LentList → List ℕ → Type 0
DrawsTo page k len w own shared ms ans o u m =
    (d : PagedDecision) × Draws page len w own shared d × (ans ≡ answer_of (call.Alloc k len) d) × CarriedTo k own shared ms d o u m

-- ---- the tests

abbrev pub state_of : Lent → PagedLists
state_of l = paged_in l.metadata.now l.raw.now l.unclassified.now l.marks.now l.lists

-- n is the number of marks
abbrev pub end_fits : ℕ → ℕ → ℕ → Bool
end_fits page n e = cond (eqb e 0) true (ltb ((e - 1) / page) n)

abbrev pub Reaches : ℕ → List FreeRegion → Type 0
Reaches e rs = (page n : ℕ) → 0 < page → end_fits page n e ≡ pages_fit page n rs

abbrev pub ReachesAll : ℕ → Lists → Type 0
ReachesAll e ls =
    (page n : ℕ) → 0 < page
    → end_fits page n e ≡ (pages_fit page n (regions_of (ls Metadata)) && (pages_fit page n (regions_of (ls Raw)) && pages_fit page n (regions_of (ls Unclassified))))

abbrev pub number_at : Option Refusal → ℕ
number_at None = 0
number_at (Some r) = number_of r

-- they are told the refusal of the kind's list, of this number: 3, or else 4, or else 5
pub record Tells (n : ℕ) (three four five : Bool) : Type 0 where
  pub is_three : eqb n 3 ≡ three
  pub is_four : three ≡ false → eqb n 4 ≡ four
  pub is_five : three ≡ false → four ≡ false → eqb n 5 ≡ five

abbrev pub SoundTested : ℕ → PagedLists → Result (Unit {0}) Refusal → Type 0
SoundTested page s (Err r) =
    (cs : List Condition) (x : Outcome Made) → first_of (when (eqb page 0) Page ∷ when (unsound page s) NotAList ∷ cs) x ≡ refused r
SoundTested page s (Ok u) = (page ≡ 0 → ⊥) × (are_lists s.lists ≡ true) × (unsound page s ≡ false)

-- w is the length in whole pages
pub record AllocPast (page len : ℕ) (s : PagedLists) (w : ℕ) : Type 0 where
  pub wide : len ≤ w
  pub are_lists : are_lists s.lists ≡ true
  pub apart : shared_byte (regions_in s.lists) ≡ false
  pub none : (k : PageType) → len ≡ 0 → paged_alloc page k len s ≡ nothing
  pub some : (k : PageType) → (len ≡ 0 → ⊥) → paged_alloc page k len s ≡ served page k len w s

abbrev pub AllocTested : ℕ → ℕ → PagedLists → Result ℕ Refusal → Type 0
AllocTested page len s (Err r) = (k : PageType) → paged_alloc page k len s ≡ refused r
AllocTested page len s (Ok w) = AllocPast page len s w

abbrev pub is_shared : ℕ → ℕ → Lists → Bool
is_shared a len ls = shared_byte (regions_in ls) || is_held a len ls

pub record FreePast (page a len : ℕ) (s : PagedLists) : Type 0 where
  pub page_some : page ≡ 0 → ⊥
  pub are_lists : are_lists s.lists ≡ true
  pub sound : unsound page s ≡ false
  pub fits : ltb top (a + len) ≡ false
  pub apart : is_shared a len s.lists ≡ false

abbrev pub FreeTested : ℕ → ℕ → ℕ → PagedLists → Result (Unit {0}) Refusal → Type 0
FreeTested page a len s (Err r) = (k : PageType) → paged_free page k a len s ≡ refused r
FreeTested page a len s (Ok u) = FreePast page a len s

pub record Ranged (page : ℕ) (f : Freed) : Type 0 where
  pub page_some : 0 < page
  pub some : 0 < f.len
  pub within : f.addr + f.len ≤ top
  pub first-is : f.first ≡ f.addr / page
  pub last-is : f.last ≡ last_page page f.addr f.len

abbrev pub folded_in : Patch → FreeRegion
folded_in Empty = region 0 0
folded_in (One r) = r
folded_in (Two r s) = region 0 0

abbrev pub returned_with : Decision → ℕ → ℕ → ℕ → ℕ → Decision → PagedDecision
returned_with own a len first count (Err r) = Refused r
returned_with own a len first count (Ok c) = Returned own a len (Ok c) first count

-- a decision on the kind's list, which the range joins
pub record Joins (page : ℕ) (f : Freed) (own : LentList) (d : Decision) : Type 0 where
  pub keeps : Keeps own.run own.list (freed own.run own.list f.addr f.len) d
  pub folds : Folds f.addr f.len d
  pub ranged : Ranged page f

-- past the tests
abbrev pub rejoined : ℕ → PageType → ℕ → ℕ → PagedLists → Outcome Made
rejoined page k a len s =
    let rs = regions_of (left_by (Free a len) (s.lists (list_of k))) in
    and_then (outcome_of (Free a len) (s.lists (list_of k))) (λ freed. returned page k a len (whole_from page rs a) (whole_up_to page rs a len) s)

abbrev pub GivesBack : ℕ → Freed → LentList → LentList → PagedDecision → Type 0
GivesBack page f own shared d =
    (k : PageType) (s : PagedLists) → s.lists (list_of k) ≡ own → s.lists Unclassified ≡ shared
    → let rs = regions_of (left_by (Free f.addr f.len) own) in
    stands_for (call.Free k f.addr f.len) d s
    ≡ effect_of (call.Free k f.addr f.len) (and_then (outcome_of (Free f.addr f.len) own)
    (λ freed. returned page k f.addr f.len (whole_from page rs f.addr) (whole_up_to page rs f.addr f.len) s)) s

abbrev pub ReturnsTo : ℕ → Decision → ℕ → ℕ → LentList → LentList → List ℕ → Outcome (List ℕ) → LentList → LentList → List ℕ → Type 0
ReturnsTo page d p e own shared ms ans o u m =
    (pages : Decision) × Keeps shared.run shared.list (freed shared.run shared.list (p * page) ((e - p) * page)) pages
    × ((k : PageType) → let x = returned_with d (p * page) ((e - p) * page) p (e - p) pages in
    (ans ≡ answer_of (call.Free k 0 0) x) × CarriedTo k own shared ms x o u m)

abbrev pub BacksTo : ℕ → Freed → LentList → LentList → List ℕ → Outcome (List ℕ) → LentList → LentList → List ℕ → Type 0
BacksTo page f own shared ms ans o u m =
    (d : PagedDecision) × GivesBack page f own shared d × ((k : PageType) → (ans ≡ answer_of (call.Free k f.addr f.len) d) × CarriedTo k own shared ms d o u m)
