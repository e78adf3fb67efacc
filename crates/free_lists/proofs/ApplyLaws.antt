-- A call that is made by the code, on one list and on one of three. Assumes nothing.
use mathlib.Core.Path.{◌≡◌, refl, ap, ◌∙◌}
use mathlib.Core.List.{List, [], ◌∷◌}
use Prim.Native.Nat.{ℕ, ◌+◌}
use Rattle.std.specs.Prelude.{Result, Option}
use Rattle.error.specs.Answers.{as_outcome, as_optional_outcome}
use Rattle.error.specs.declared.Refusal.{Refusal}
use Rattle.free_space.specs.declared.list.Given.{Given}
use Rattle.error.specs.Outcome.{Outcome, answer, nothing, refuse}
use Rattle.error.specs.Lent.{Left, left, leaving}
use Rattle.fields.specs.Ranges.{Range}
use Rattle.free_space.specs.declared.list.FreeList.{FreeList}
use Rattle.free_space.specs.Calls.{record_after, keeping, freed, allocated, allocated_units, range_taken, trailing_taken}
use Rattle.free_lists.specs.declared.FileLists.{FileLists}
use Rattle.free_lists.specs.declared.calls.Which.{Which}
use Rattle.free_lists.specs.declared.calls.Which.TheVariants.{Metadata, Raw, Unclassified}
use Rattle.free_lists.specs.declared.calls.ListCall.{ListCall}
use Rattle.free_lists.specs.declared.calls.ListCall.TheVariants as call
use Rattle.free_lists.specs.declared.calls.Performed.{Performed}
use Rattle.free_lists.specs.Lists.{LentList, list_in, Lists, lists_of, lists_in}
use Rattle.free_lists.specs.History.{mapped, effect, bytes, perform, given_out, answered_outcome, on, next}

-- ---- one list

mapped_twice : {A : Type 0} (over : A → Range) (give : Range → List ℕ) (o : Outcome A) → mapped (λ a. give (over a)) o ≡ mapped give (mapped over o)
mapped_twice over give (answer a) = refl
mapped_twice over give nothing = refl
mapped_twice over give (refuse n vs) = refl

-- the record and the answer of the code are those of the call's outcome, of which the bytes it goes over and what it gives of them are told
module _ (xs ys : List ℕ) (l : FreeList) (r : Performed) where
  made : {A : Type 0} (list : A → FreeList) (over : A → Range) (give : Range → List ℕ) (o : Outcome A) (d : Left A (List ℕ)) → left o ys ≡ d
      → (r.list ≡ record_after list l o) × (answered_outcome r.answer ≡ mapped (λ a. give (over a)) o)
      → (list_in ys r.list ≡ (effect list over l d).left) × (answered_outcome r.answer ≡ mapped give (effect list over l d).outcome)
  made list over give o d e h = (
    ap (list_in ys) h.0 ∙ ap (λ q. list_in q.memory (record_after list l q.outcome)) e,
    h.1 ∙ mapped_twice over give o ∙ ap (λ q. mapped give (mapped over q.outcome)) e,
  )

  abbrev Keeps : Result FreeList Refusal → Type 0
  Keeps k = (r.list ≡ record_after keeping l (as_outcome k)) × (answered_outcome r.answer ≡ mapped (λ m. []) (as_outcome k))

  abbrev Gives : Result (Option Given) Refusal → Type 0
  Gives g = (r.list ≡ record_after (λ a. a.list) l (as_optional_outcome g)) × (answered_outcome r.answer ≡ mapped (λ a. a.addr ∷ []) (as_optional_outcome g))

  module _ (c : ListCall) where
    abbrev Makes : Type 0
    Makes = (list_in ys r.list ≡ (perform c (list_in xs l)).left) × (answered_outcome r.answer ≡ mapped (given_out c) (perform c (list_in xs l)).outcome)

    pub made-free : (a n : ℕ) → c ≡ call.Free a n → (k : (Result FreeList Refusal)) → left (as_outcome k) ys ≡ leaving xs (freed xs l a n) → Keeps k → Makes
    made-free a n is k e h = rw is (made keeping (λ m. bytes a (a + n)) (λ b. []) (as_outcome k) _ e h)

    pub made_range : (a n : ℕ) → c ≡ call.TakeRange a n → (k : (Result FreeList Refusal)) → left (as_outcome k) ys ≡ leaving xs (range_taken xs l a n) → Keeps k → Makes
    made_range a n is k e h = rw is (made keeping (λ m. bytes a (a + n)) (λ b. []) (as_outcome k) _ e h)

    pub made-alloc : (n : ℕ) → c ≡ call.Alloc n → (g : (Result (Option Given) Refusal)) → left (as_optional_outcome g) ys ≡ leaving xs (allocated xs l n) → Gives g → Makes
    made-alloc n is g e h = rw is (made (λ a. a.list) (λ (a : Given). bytes a.addr (a.addr + n)) (λ b. b.start ∷ []) (as_optional_outcome g) _ e h)

    pub made_units : (n u : ℕ) → c ≡ call.AllocWholeUnits n u → (g : (Result (Option Given) Refusal)) → left (as_optional_outcome g) ys ≡ leaving xs (allocated_units xs l n u) → Gives g → Makes
    made_units n u is g e h = rw is (made (λ a. a.list) (λ (a : Given). bytes a.addr (a.addr + n)) (λ b. b.start ∷ []) (as_optional_outcome g) _ e h)

    pub made-trailing : (eof : ℕ) → c ≡ call.TakeTrailing eof → (g : (Result (Option Given) Refusal)) → left (as_optional_outcome g) ys ≡ leaving xs (trailing_taken xs l eof) → Gives g → Makes
    made-trailing eof is g e h = rw is (made (λ a. a.list) (λ (a : Given). bytes a.addr eof) (λ b. b.start ∷ []) (as_optional_outcome g) _ e h)

-- ---- one of three lists

module _ (xs ys zs : List ℕ) (f : FileLists) (c : ListCall) (i : Which) (l : LentList) (o : Outcome (List ℕ)) where
  abbrev ls : Lists
  ls = lists_in xs ys zs f

  abbrev Applies : Lists → Type 0
  Applies after = (after ≡ next (on i c) ls) × (o ≡ mapped (given_out c) (perform c (ls i)).outcome)

  abbrev MadeOn : LentList → Type 0
  MadeOn x = (l ≡ (perform c x).left) × (o ≡ mapped (given_out c) (perform c x).outcome)

  pub on-metadata : i ≡ Metadata → MadeOn (ls Metadata) → Applies (lists_of l (ls Raw) (ls Unclassified))
  on-metadata is e = rw is (λ j i. all i j, e.1)
    where
      all : (j : Which) → lists_of l (ls Raw) (ls Unclassified) j ≡ next (on Metadata c) ls j
      all Metadata = e.0
      all Raw = refl
      all Unclassified = refl

  pub on-raw : i ≡ Raw → MadeOn (ls Raw) → Applies (lists_of (ls Metadata) l (ls Unclassified))
  on-raw is e = rw is (λ j i. all i j, e.1)
    where
      all : (j : Which) → lists_of (ls Metadata) l (ls Unclassified) j ≡ next (on Raw c) ls j
      all Metadata = refl
      all Raw = e.0
      all Unclassified = refl

  pub on-unclassified : i ≡ Unclassified → MadeOn (ls Unclassified) → Applies (lists_of (ls Metadata) (ls Raw) l)
  on-unclassified is e = rw is (λ j i. all i j, e.1)
    where
      all : (j : Which) → lists_of (ls Metadata) (ls Raw) l j ≡ next (on Unclassified c) ls j
      all Metadata = refl
      all Raw = refl
      all Unclassified = e.0
