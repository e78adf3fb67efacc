-- What the number of a decision's refusal tells of the conditions: a call on one of three lists refuses with 3, 4 and 5 in this order, and past them with
-- 14 alone. Assumes nothing.
--   number_out   the number of an outcome that is a refusal, 0 of any other
--   same        whether a refusal, if there is one, is this one, as the code compares
--   Late        an outcome that refuses with 14 alone
use mathlib.Core.Path.{◌≡◌, refl, ap, ◌∙◌}
use mathlib.Core.Bool.{Bool, true, false, ◌||◌, not}
use mathlib.Core.List.{List, [], ◌∷◌}
use mathlib.Core.Logic.{◌⊎◌, inl, inr, ⊎_elim}
use Prim.Native.Nat.{ℕ, ◌+◌}
use native.Mathlib.Omega.{arith}
use borrow.Author.Tests.{ltb-false, not-false, eq-eqb, ne_eqb}
use lib.Dec.{ltb}
use Rattle.std.specs.Prelude.{eqb, Option, Some, None, Ok, Err}
use Rattle.std.specs.Option.{option_eq}
use Rattle.std.specs.Result.{result_err}
use Rattle.free_space.specs.Splices.{Decision}
use Rattle.error.specs.declared.Refusal.{Refusal}
use Rattle.error.specs.declared.Refusal.TheVariants.{Width, Page, NotAList, Overflow, SharedAddress, PartUnit, OtherKind, Short, MessageVersion, Strategy, InvalidManager, Checksum, WideAddress, Place, OverCapacity, VersionOrClient, BackAddress}
use Rattle.error.specs.Refusals.{number_of}
use Rattle.error.specs.contracts.RefusalPartialEq.TheImpl.{eq-value}
use Rattle.error.specs.Outcome.{Outcome, answer, nothing, refuse, when, first_of}
use Rattle.error.specs.Ends.{Ends}
use Rattle.error.proofs.TestLaws.{true_not_false, and_true, or_false}
use Rattle.fields.specs.Ranges.{top}
use Rattle.free_regions.specs.Regions.{region, shares}
use Rattle.free_regions.proofs.ShareLaws.{shares_byte}
use Rattle.free_space.specs.declared.list.FreeList.{FreeList}
use Rattle.free_space.specs.Runs.{is_list}
use Rattle.free_space.specs.Calls.{allocated}
use Rattle.free_space.specs.Decisions.{given_by, kept_by}
use Rattle.free_lists.specs.declared.calls.Which.{Which}
use Rattle.free_lists.specs.declared.calls.Which.TheVariants.{Metadata, Raw, Unclassified}
use Rattle.free_lists.specs.Lists.{regions_of, Lists, regions_in, are_lists, shared_byte}
use Rattle.free_lists.specs.Decided.{is_held, freed_together, allocated_together}
use Rattle.free_lists.specs.CallsSay.{Refuses, three, four, five, six, fourteen}
use Rattle.free_lists.proofs.CallLaws.{free_law, alloc_law}
use Rattle.paged_calls.specs.Decisions.{number_at, Tells, is_shared}

abbrev pub number_out : {A : Type 0} → Outcome A → ℕ
number_out (answer a) = 0
number_out nothing = 0
number_out (refuse n vs) = n

abbrev pub Late : {A : Type 0} → Outcome A → Type 0
Late o = (number_out o ≡ 0) ⊎ (number_out o ≡ 14)

number_kept : (xs : List ℕ) (l : FreeList) (d : Decision) → number_at (result_err d) ≡ number_out (kept_by xs l d)
number_kept xs l (Err r) = refl
number_kept xs l (Ok None) = refl
number_kept xs l (Ok (Some c)) = refl

number_given : (xs : List ℕ) (l : FreeList) (d : Decision) → number_at (result_err d) ≡ number_out (given_by xs l d)
number_given xs l (Err r) = refl
number_given xs l (Ok None) = refl
number_given xs l (Ok (Some c)) = refl

-- ---- the code compares with the refusals of numbers 3, 4 and 5

abbrev pub same : Option Refusal → Refusal → Bool
same r s = option_eq eq-value.it r (Some s)

by_number : (r : Refusal) → (same (Some r) NotAList ≡ eqb (number_of r) 3) × (same (Some r) Overflow ≡ eqb (number_of r) 4) × (same (Some r) SharedAddress ≡ eqb (number_of r) 5)
by_number Width = (refl, refl, refl)
by_number Page = (refl, refl, refl)
by_number NotAList = (refl, refl, refl)
by_number Overflow = (refl, refl, refl)
by_number SharedAddress = (refl, refl, refl)
by_number PartUnit = (refl, refl, refl)
by_number OtherKind = (refl, refl, refl)
by_number (Short e v) = (refl, refl, refl)
by_number (MessageVersion v) = (refl, refl, refl)
by_number (Strategy v) = (refl, refl, refl)
by_number InvalidManager = (refl, refl, refl)
by_number (Checksum s c) = (refl, refl, refl)
by_number WideAddress = (refl, refl, refl)
by_number Place = (refl, refl, refl)
by_number (OverCapacity n g) = (refl, refl, refl)
by_number (VersionOrClient v) = (refl, refl, refl)
by_number BackAddress = (refl, refl, refl)

pub compared : (r : Option Refusal) → (same r NotAList ≡ eqb (number_at r) 3) × (same r Overflow ≡ eqb (number_at r) 4) × (same r SharedAddress ≡ eqb (number_at r) 5)
compared None = (refl, refl, refl)
compared (Some r) = by_number r

-- ---- three conditions

tells : {A : Type 0} (a b c : Bool) (x : Outcome A) (n : ℕ) → n ≡ number_out (first_of (when a NotAList ∷ when b Overflow ∷ when c SharedAddress ∷ []) x)
    → (a ≡ false → b ≡ false → c ≡ false → Late x) → Tells n a b c
unfolding first_of
tells true b c x n e late = record {
  is_three = eq-eqb n 3 e;
  is_four = λ t. absurd (true_not_false true refl t);
  is_five = λ t u. absurd (true_not_false true refl t);
}
tells false true c x n e late = record {
  is_three = ne_eqb n 3 (λ h. omega arith);
  is_four = λ t. eq-eqb n 4 e;
  is_five = λ t u. absurd (true_not_false true refl u);
}
tells false false true x n e late = record {
  is_three = ne_eqb n 3 (λ h. omega arith);
  is_four = λ t. ne_eqb n 4 (λ h. omega arith);
  is_five = λ t u. eq-eqb n 5 e;
}
tells false false false x n e late =
    let none : (n ≡ 0) ⊎ (n ≡ 14) = ⊎_elim (λ p. inl (e ∙ p)) (λ p. inr (e ∙ p)) (late refl refl refl) in
    record {
      is_three = ne_eqb n 3 (λ h. ⊎_elim (λ p. omega arith) (λ p. omega arith) none);
      is_four = λ t. ne_eqb n 4 (λ h. ⊎_elim (λ p. omega arith) (λ p. omega arith) none);
      is_five = λ t u. ne_eqb n 5 (λ h. ⊎_elim (λ p. omega arith) (λ p. omega arith) none);
    }

-- ---- past them the calls refuse with 14 alone

late : {A : Type 0} {P : A → Type 0} {N : Type 0} {R : ℕ → List ℕ → Type 0} (o : Outcome A) → Ends P N R o → ((n : ℕ) (vs : List ℕ) → R n vs → n ≡ 14) → Late o
late (answer a) e f = inl refl
late nothing e f = inl refl
late (refuse n vs) e f = inr (f n vs e.says)

only_full : (xs : List ℕ) (l : FreeList) {over shared part full : Type 0} → is_list xs l ≡ true → (over → ⊥) → (shared → ⊥) → (part → ⊥)
    → (n : ℕ) (vs : List ℕ) → Refuses xs l over shared part full n vs → n ≡ 14
only_full xs l ok o s p n vs (three e) = true_not_false (is_list xs l) ok e
only_full xs l ok o s p n vs (four k t) = absurd (o t)
only_full xs l ok o s p n vs (five k u t) = absurd (s t)
only_full xs l ok o s p n vs (six k u w t) = absurd (p t)
only_full xs l ok o s p n vs (fourteen q e t) = refl

module _ (ls : Lists) (i : Which) where
  pub each-list : are_lists ls ≡ true → is_list (ls i).run (ls i).list ≡ true
  each-list ok = go i
    where
      go : (i : Which) → is_list (ls i).run (ls i).list ≡ true
      go Metadata = (and_true (is_list (ls Metadata).run (ls Metadata).list) _ ok).0
      go Raw = (and_true (is_list (ls Raw).run (ls Raw).list) _ (and_true (is_list (ls Metadata).run (ls Metadata).list) _ ok).1).0
      go Unclassified = (and_true (is_list (ls Raw).run (ls Raw).list) _ (and_true (is_list (ls Metadata).run (ls Metadata).list) _ ok).1).1

  pub none_held : (a n : ℕ) → is_held a n ls ≡ false → shares (region a n) (regions_of (ls i)) ≡ false
  none_held a n e = go i
    where
      rest : (shares (region a n) (regions_of (ls Metadata)) ≡ false) × ((shares (region a n) (regions_of (ls Raw)) || shares (region a n) (regions_of (ls Unclassified))) ≡ false)
      rest = or_false (shares (region a n) (regions_of (ls Metadata))) _ e

      go : (i : Which) → shares (region a n) (regions_of (ls i)) ≡ false
      go Metadata = rest.0
      go Raw = (or_false (shares (region a n) (regions_of (ls Raw))) _ rest.1).0
      go Unclassified = (or_false (shares (region a n) (regions_of (ls Raw))) _ rest.1).1

  pub free-tells : (a n : ℕ) (d : Decision) → kept_by (ls i).run (ls i).list d ≡ freed_together ls i a n
      → Tells (number_at (result_err d)) (not (are_lists ls)) (ltb top (a + n)) (is_shared a n ls)
  unfolding freed_together
  free-tells a n d e =
      tells _ _ _ _ _ (number_kept (ls i).run (ls i).list d ∙ ap number_out e)
      (λ t u v. late _ (free_law (ls i).run (ls i).list a n)
      (only_full (ls i).run (ls i).list (each-list (not-false (are_lists ls) t)) (λ h. let k = ltb-false top (a + n) u in omega arith)
      (λ h. true_not_false (shares (region a n) (regions_of (ls i))) ((shares_byte (region a n) (regions_of (ls i))).1 h) (none_held a n (or_false (shared_byte (regions_in ls)) _ v).1))
      (λ h. h)))

  pub alloc-tells : (n : ℕ) (d : Decision) → given_by (ls i).run (ls i).list d ≡ allocated_together ls i n
      → Tells (number_at (result_err d)) (not (are_lists ls)) false (shared_byte (regions_in ls))
  unfolding allocated_together first_of
  alloc-tells n d e =
      tells _ false _ (allocated (ls i).run (ls i).list n) _ (number_given (ls i).run (ls i).list d ∙ ap number_out e)
      (λ t u v. late _ (alloc_law (ls i).run (ls i).list n) (only_full (ls i).run (ls i).list (each-list (not-false (are_lists ls) t)) (λ h. h) (λ h. h) (λ h. h)))
