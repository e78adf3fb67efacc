-- A decision that is carried out, on the kind's list, the shared one and the marks, and put back into the three lists. Assumes nothing.
--   in-metadata, in-raw   the records of a kind's list and of the shared one
--   called-metadata, called-raw   what a call comes to, by a step on these two
use mathlib.Core.Path.{◌≡◌, refl, ap, ap₂}
use mathlib.Core.List.{List}
use Prim.Native.Nat.{ℕ}
use Rattle.std.specs.Prelude.{Result, Ok, Err}
use Rattle.error.specs.declared.Refusal.{Refusal}
use Rattle.free_space.specs.Splices.{Decision}
use Rattle.error.specs.Lent.{With, with, left}
use Rattle.free_space.specs.declared.list.FreeList.{FreeList}
use Rattle.free_space.specs.Decisions.{carried_out}
use Rattle.free_lists.specs.declared.FileLists.{FileLists}
use Rattle.free_lists.specs.declared.calls.Which.{Which}
use Rattle.free_lists.specs.declared.calls.Which.TheVariants as which
use Rattle.free_lists.specs.Lists.{LentList, list_in, Lists, lists_of, lists_in}
use Rattle.paged_lists.specs.declared.PageType.{PageType}
use Rattle.paged_lists.specs.declared.PageType.TheVariants.{Meta, Raw}
use Rattle.paged_lists.specs.declared.PagedCall.{PagedCall}
use Rattle.paged_lists.specs.Kinds.{list_of}
use Rattle.paged_lists.specs.PagedCalls.{PagedLists, paged_in}
use Rattle.paged_calls.specs.declared.records.Records.{Records}
use Rattle.paged_calls.specs.declared.records.Step.{Step}
use Rattle.paged_calls.specs.declared.records.Called.{Called}
use Rattle.paged_calls.specs.Decisions.{leaves, left_of, step_outcome, CarriedTo, PagedDecision, carried_in, own_after, shared_after, marks_after, kind_of, answer_of, replaced, left_in, stands_for}

pub in_list_lem : (xs ys : List ℕ) (l r : FreeList) (d : Decision) → with r ys ≡ carried_out xs l d → list_in ys r ≡ carried_in (list_in xs l) d
in_list_lem xs ys l r d e = ap (λ (w : With FreeList (List ℕ)). list_in w.memory w.value) e

-- ---- of three lists

abbrev pub in-metadata : FileLists → Records
in-metadata f = record { own = f.metadata; shared = f.unclassified }

abbrev pub in-raw : FileLists → Records
in-raw f = record { own = f.raw; shared = f.unclassified }

abbrev pub called-metadata : FileLists → Result Step Refusal → Result Called Refusal
called-metadata f (Ok s) = Ok (record { answer = s.answer; lists = record { metadata = s.lists.own; raw = f.raw; unclassified = s.lists.shared } })
called-metadata f (Err r) = Err r

abbrev pub called-raw : FileLists → Result Step Refusal → Result Called Refusal
called-raw f (Ok s) = Ok (record { answer = s.answer; lists = record { metadata = f.metadata; raw = s.lists.own; unclassified = s.lists.shared } })
called-raw f (Err r) = Err r

module _ (xs ys zs ms : List ℕ) (f : FileLists) where
  abbrev ls : Lists
  ls = lists_in xs ys zs f

  abbrev before : PagedLists
  before = paged_in xs ys zs ms f

  module _ (d : PagedDecision) (o s : LentList) (m : List ℕ) where
    in_metadata : (k : PageType) → k ≡ Meta → CarriedTo k (ls which.Metadata) (ls which.Unclassified) ms d o s m
        → record { lists = lists_of o (ls which.Raw) s; marks = m } ≡ left_in k d before
    in_metadata k is t = rw is (λ j. record { lists = λ i. all i j; marks = marks_are j })
      where
        marks_are : m ≡ marks_after Meta d ms
        marks_are = (rw is at t).1.1

        all : (i : Which) → lists_of o (ls which.Raw) s i ≡ replaced which.Metadata (own_after d (ls which.Metadata)) (replaced which.Unclassified (shared_after d (ls which.Unclassified)) ls) i
        all which.Metadata = t.0
        all which.Raw = refl
        all which.Unclassified = t.1.0

    in_raw : (k : PageType) → k ≡ Raw → CarriedTo k (ls which.Raw) (ls which.Unclassified) ms d o s m
        → record { lists = lists_of (ls which.Metadata) o s; marks = m } ≡ left_in k d before
    in_raw k is t = rw is (λ j. record { lists = λ i. all i j; marks = marks_are j })
      where
        marks_are : m ≡ marks_after Raw d ms
        marks_are = (rw is at t).1.1

        all : (i : Which) → lists_of (ls which.Metadata) o s i ≡ replaced which.Raw (own_after d (ls which.Raw)) (replaced which.Unclassified (shared_after d (ls which.Unclassified)) ls) i
        all which.Metadata = refl
        all which.Raw = t.0
        all which.Unclassified = t.1.0

  -- ---- what a step on the kind's list and the shared one answers and leaves. ps and rs are their runs after it, ns the marks

  pub own-metadata : (k : PageType) → k ≡ Meta → before.lists (list_of k) ≡ list_in xs f.metadata
  own-metadata k is = ap (λ (i : PageType). before.lists (list_of i)) is

  pub own-raw : (k : PageType) → k ≡ Raw → before.lists (list_of k) ≡ list_in ys f.raw
  own-raw k is = ap (λ (i : PageType). before.lists (list_of i)) is

  module _ (c : PagedCall) (d : PagedDecision) (ps rs ns : List ℕ) where
    pub put-metadata : kind_of c ≡ Meta → (t : Result Step Refusal) → step_outcome t ≡ answer_of c d
        → CarriedTo (kind_of c) (list_in xs f.metadata) (list_in zs f.unclassified) ms d (list_in ps (left_of (in-metadata f) t).own) (list_in rs (left_of (in-metadata f) t).shared) ns
        → leaves (paged_in ps ys rs ns) f (called-metadata f t) ≡ stands_for c d before
    put-metadata is (Ok s) e carried = ap₂ left e (in_metadata d _ _ _ (kind_of c) is carried)
    put-metadata is (Err r) e carried = ap₂ left e (in_metadata d _ _ _ (kind_of c) is carried)

    pub put-raw : kind_of c ≡ Raw → (t : Result Step Refusal) → step_outcome t ≡ answer_of c d
        → CarriedTo (kind_of c) (list_in ys f.raw) (list_in zs f.unclassified) ms d (list_in ps (left_of (in-raw f) t).own) (list_in rs (left_of (in-raw f) t).shared) ns
        → leaves (paged_in xs ps rs ns) f (called-raw f t) ≡ stands_for c d before
    put-raw is (Ok s) e carried = ap₂ left e (in_raw d _ _ _ (kind_of c) is carried)
    put-raw is (Err r) e carried = ap₂ left e (in_raw d _ _ _ (kind_of c) is carried)
