-- What a decision leaves is what the call leaves: lists of which one or two are replaced, and the list calls that replace them. Assumes nothing.
use mathlib.Core.Path.{◌≡◌, refl, sym, ap, ap₂, ◌∙◌}
use mathlib.Core.List.{[], ◌∷◌}
use Rattle.error.specs.declared.Refusal.{Refusal}
use Rattle.error.specs.Outcome.{Outcome, answer, nothing, refused}
use Rattle.error.specs.Lent.{left}
use Rattle.free_lists.specs.declared.calls.Which.{Which}
use Rattle.free_lists.specs.declared.calls.Which.TheVariants as which
use Rattle.free_lists.specs.declared.calls.ListCall.{ListCall}
use Rattle.free_lists.specs.Lists.{LentList, Lists}
use Rattle.free_lists.specs.History.{on, lists_after}
use Rattle.paged_lists.specs.declared.PageType.{PageType}
use Rattle.paged_lists.specs.declared.PageType.TheVariants.{Meta, Raw}
use Rattle.paged_lists.specs.declared.PagedCall.{PagedCall}
use Rattle.paged_lists.specs.Kinds.{list_of}
use Rattle.paged_lists.specs.PagedCalls.{PagedLists, Made, left_by, given_out, left_after}
use Rattle.paged_calls.specs.Decisions.{PagedDecision, Refused, Nothing, kind_of, answer_of, replaced, left_in, stands_for, effect_of}

-- ---- by the outcome

module _ (c : PagedCall) (s : PagedLists) where
  -- where nothing changes
  unchanged : (k : PageType) → record { lists = replaced (list_of k) (s.lists (list_of k)) (replaced which.Unclassified (s.lists which.Unclassified) s.lists); marks = s.marks } ≡ s
  unchanged Meta = λ j. record { lists = λ i. all i j; marks = s.marks }
    where
      all : (i : Which) → replaced which.Metadata (s.lists which.Metadata) (replaced which.Unclassified (s.lists which.Unclassified) s.lists) i ≡ s.lists i
      all which.Metadata = refl
      all which.Raw = refl
      all which.Unclassified = refl
  unchanged Raw = λ j. record { lists = λ i. all i j; marks = s.marks }
    where
      all : (i : Which) → replaced which.Raw (s.lists which.Raw) (replaced which.Unclassified (s.lists which.Unclassified) s.lists) i ≡ s.lists i
      all which.Metadata = refl
      all which.Raw = refl
      all which.Unclassified = refl

  pub stands-refused : (r : Refusal) {o : Outcome Made} → o ≡ refused r → stands_for c (Refused r) s ≡ effect_of c o s
  stands-refused r e = ap (left (refused r)) (unchanged (kind_of c)) ∙ sym (ap (λ (o : Outcome Made). effect_of c o s) e)

  pub stands-nothing : {o : Outcome Made} → o ≡ nothing → stands_for c Nothing s ≡ effect_of c o s
  stands-nothing e = ap (left nothing) (unchanged (kind_of c)) ∙ sym (ap (λ (o : Outcome Made). effect_of c o s) e)

  pub stands-made : (d : PagedDecision) (m : Made) {o : Outcome Made} → o ≡ answer m → answer_of c d ≡ answer (given_out c m) → left_in (kind_of c) d s ≡ left_after s m
      → stands_for c d s ≡ effect_of c o s
  stands-made d m e f g = ap₂ left f g ∙ sym (ap (λ (o : Outcome Made). effect_of c o s) e)

-- ---- list calls on the kind's list and on the shared one, each by the list that it leaves

module _ (ls : Lists) {own shared : LentList} where
  pub own_call : (k : PageType) (c : ListCall) → own ≡ left_by c (ls (list_of k)) → shared ≡ ls which.Unclassified
      → replaced (list_of k) own (replaced which.Unclassified shared ls) ≡ lists_after (on (list_of k) c ∷ []) ls
  unfolding lists_after
  own_call Meta c e f = λ j i. all i j
    where
      all : (i : Which) → replaced which.Metadata own (replaced which.Unclassified shared ls) i ≡ lists_after (on which.Metadata c ∷ []) ls i
      all which.Metadata = e
      all which.Raw = refl
      all which.Unclassified = f
  own_call Raw c e f = λ j i. all i j
    where
      all : (i : Which) → replaced which.Raw own (replaced which.Unclassified shared ls) i ≡ lists_after (on which.Raw c ∷ []) ls i
      all which.Metadata = refl
      all which.Raw = e
      all which.Unclassified = f

  pub shared_then_own : (k : PageType) (c d : ListCall) → own ≡ left_by d (ls (list_of k)) → shared ≡ left_by c (ls which.Unclassified)
      → replaced (list_of k) own (replaced which.Unclassified shared ls) ≡ lists_after (on which.Unclassified c ∷ on (list_of k) d ∷ []) ls
  unfolding lists_after
  shared_then_own Meta c d e f = λ j i. all i j
    where
      all : (i : Which) → replaced which.Metadata own (replaced which.Unclassified shared ls) i ≡ lists_after (on which.Unclassified c ∷ on which.Metadata d ∷ []) ls i
      all which.Metadata = e
      all which.Raw = refl
      all which.Unclassified = f
  shared_then_own Raw c d e f = λ j i. all i j
    where
      all : (i : Which) → replaced which.Raw own (replaced which.Unclassified shared ls) i ≡ lists_after (on which.Unclassified c ∷ on which.Raw d ∷ []) ls i
      all which.Metadata = refl
      all which.Raw = e
      all which.Unclassified = f

  pub own_twice_then_shared : (k : PageType) (b c d : ListCall) → own ≡ left_by c (left_by b (ls (list_of k))) → shared ≡ left_by d (ls which.Unclassified)
      → replaced (list_of k) own (replaced which.Unclassified shared ls) ≡ lists_after (on (list_of k) b ∷ on (list_of k) c ∷ on which.Unclassified d ∷ []) ls
  unfolding lists_after
  own_twice_then_shared Meta b c d e f = λ j i. all i j
    where
      all : (i : Which) → replaced which.Metadata own (replaced which.Unclassified shared ls) i
          ≡ lists_after (on which.Metadata b ∷ on which.Metadata c ∷ on which.Unclassified d ∷ []) ls i
      all which.Metadata = e
      all which.Raw = refl
      all which.Unclassified = f
  own_twice_then_shared Raw b c d e f = λ j i. all i j
    where
      all : (i : Which) → replaced which.Raw own (replaced which.Unclassified shared ls) i
          ≡ lists_after (on which.Raw b ∷ on which.Raw c ∷ on which.Unclassified d ∷ []) ls i
      all which.Metadata = refl
      all which.Raw = e
      all which.Unclassified = f
