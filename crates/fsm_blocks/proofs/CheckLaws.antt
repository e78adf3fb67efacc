-- Conditions that are tested as a `Checked` before what comes after them, and the ends of a block's checks. Assumes nothing.
use mathlib.Core.Path.{◌≡◌, sym, ap, ◌∙◌}
use mathlib.Core.Bool.{false, not}
use mathlib.Core.List.{List, [], ◌∷◌, ◌++◌}
use Prim.Native.Nat.{ℕ, ◌+◌, ◌≤◌, min}
use native.Mathlib.Omega.{arith}
use borrow.Author.Tests.{le-ltb, ltb-false, eq-eqb, ne_eqb}
use lib.Dec.{eqb}
use lib.ListN.{length, take, drop, get_or}
use lib.Seq.{length-take-le}
use Rattle.std.specs.Prelude.{Result, Ok, Err}
use Rattle.error.specs.Answers.{as_outcome}
use Rattle.error.specs.declared.Refusal.{Refusal}
use Rattle.error.specs.declared.Refusal.TheVariants.{VersionOrClient, BackAddress}
use Rattle.error.specs.Outcome.{Outcome, answer, refused, Condition, when, first_of}
use Rattle.error.proofs.OutcomeLaws.{NoneHolds, first_holds, first_passes, first_pass, first_shows, first-append, first_refuses}
use Rattle.fields.specs.Le.{le_value}
use Rattle.fields.specs.Layout.{le_at}
use Rattle.fields.proofs.LayoutLaws.{le_at-one}
use Rattle.checksum.specs.Trailing.{wrong_sum, trailing}
use Rattle.fsm_blocks.specs.declared.checks.Reading.TheVariants.{Strict}
use Rattle.fsm_blocks.specs.Fshd.{fshd_size, signed}
use Rattle.fsm_blocks.specs.Checks.{wrong_byte, block_checks, fshd_checks, fsse_checks}
use Rattle.fsm_blocks.proofs.BytesLaws.{as_read}

-- the test is passed
abbrev ok : Outcome (Unit {0})
ok = answer tt

-- ---- conditions that were tested

module _ (cs : List Condition) (c : (Result (Unit {0}) Refusal)) (k : as_outcome c ≡ first_of cs ok) where
  pub checked_refused : {A : Type 0} (x : Outcome A) (r : Refusal) → c ≡ Err r → refused r ≡ first_of cs x
  checked_refused x r e = first_refuses cs tt r x (sym (ap as_outcome e) ∙ k)

  pub none-holds : c ≡ (Ok tt) → NoneHolds cs
  none-holds e = (first_shows cs ok tt (sym k ∙ ap as_outcome e)).0

  pub checked_passed : {A : Type 0} (x : Outcome A) → c ≡ (Ok tt) → x ≡ first_of cs x
  checked_passed x e = sym (first_pass cs x (none-holds e))

  -- with more of them after these
  module _ (ds : List Condition) where
    pub part_refused : (r : Refusal) → c ≡ Err r → refused r ≡ first_of (cs ++ ds) ok
    part_refused r e = checked_refused (first_of ds ok) r e ∙ sym (first-append cs ds ok)

    pub part_passed : c ≡ (Ok tt) → first_of ds ok ≡ first_of (cs ++ ds) ok
    part_passed e = checked_passed (first_of ds ok) e ∙ sym (first-append cs ds ok)

-- ---- `verify_block`

module _ (size c d : ℕ) (bs : List ℕ) where
  abbrev block : Outcome (Unit {0})
  block = first_of (block_checks size c d bs) ok

  module _ (long : size ≤ length bs) where
    module _ (sign : not (signed 70 83 c d bs) ≡ false) where
      pub block_version : (get_or bs 4 0 ≡ 0 → ⊥) → refused (VersionOrClient (get_or bs 4 0)) ≡ block
      unfolding first_of
      block_version h = rw (le-ltb (length bs) size long, sign, le_at-one 4 bs, ne_eqb (get_or bs 4 0) 0 h)

      pub block_passed : get_or bs 4 0 ≡ 0 → ok ≡ block
      unfolding first_of
      block_passed h = rw (le-ltb (length bs) size long, sign, le_at-one 4 bs, eq-eqb (get_or bs 4 0) 0 h)

  pub block_long : (v : (Result (Unit {0}) Refusal)) → as_outcome v ≡ block → v ≡ (Ok tt) → size ≤ length bs
  block_long v k e = ltb-false (length bs) size (none-holds (block_checks size c d bs) v k e).0

-- behind a test of the length, a block's checksum is the only condition of `verify_trailing`
sum_alone : (bs : List ℕ) → 4 ≤ length bs → trailing bs ≡ first_of (wrong_sum bs ∷ []) ok
unfolding trailing
sum_alone bs long = first_passes _ _ _ _ (le-ltb (length bs) 4 long)

-- ---- `verify_fshd`

module _ (O : ℕ) (bs : List ℕ) (v : (Result (Unit {0}) Refusal)) (k : as_outcome v ≡ block (fshd_size O) 72 68 bs) (e : v ≡ (Ok tt)) where
  abbrev after-version : List Condition
  after-version = wrong_byte 1 (le_at 5 1 bs) ∷ wrong_sum (take (fshd_size O) bs) ∷ []

  pub fshd_client : (get_or bs 5 0 ≡ 1 → ⊥) → refused (VersionOrClient (get_or bs 5 0)) ≡ first_of (fshd_checks Strict O bs) ok
  fshd_client h =
      sym (ap (λ (n : ℕ). refused (VersionOrClient n)) (le_at-one 5 bs))
      ∙ sym (first_holds _ _ _ _ (ap not (ne_eqb (le_at 5 1 bs) 1 (λ q. h (sym (le_at-one 5 bs) ∙ q)))))
      ∙ part_passed (block_checks (fshd_size O) 72 68 bs) v k after-version e

  pub fshd_sum : get_or bs 5 0 ≡ 1 → {x : Outcome (Unit {0})} → x ≡ trailing (take (fshd_size O) bs) → x ≡ first_of (fshd_checks Strict O bs) ok
  fshd_sum h t =
      let n : length (take (fshd_size O) bs) ≡ fshd_size O = length-take-le (fshd_size O) bs (block_long (fshd_size O) 72 68 bs v k e) in
      t
      ∙ sum_alone (take (fshd_size O) bs) (omega arith)
      ∙ sym (first_passes _ _ _ _ (ap not (eq-eqb (le_at 5 1 bs) 1 (le_at-one 5 bs ∙ h))))
      ∙ part_passed (block_checks (fshd_size O) 72 68 bs) v k after-version e

-- ---- `verify_fsse`

module _ (O slot : ℕ) (bs : List ℕ) (v s : (Result (Unit {0}) Refusal)) (k : as_outcome v ≡ block (9 + O) 83 69 bs) (e : v ≡ (Ok tt)) (t : as_outcome s ≡ trailing bs) where
  abbrev back : List Condition
  back = when (not (eqb (le_at 5 O bs) slot)) BackAddress ∷ []

  long : 9 + O ≤ length bs
  long = block_long (9 + O) 83 69 bs v k e

  sum_is : as_outcome s ≡ first_of (wrong_sum bs ∷ []) ok
  sum_is = t ∙ sum_alone bs (omega (arith, long))

  pub fsse-sum : (r : Refusal) → s ≡ Err r → refused r ≡ first_of (fsse_checks Strict O slot bs) ok
  fsse-sum r q = part_refused (wrong_sum bs ∷ []) s sum_is back r q ∙ part_passed (block_checks (9 + O) 83 69 bs) v k (wrong_sum bs ∷ back) e

  module _ (q : s ≡ (Ok tt)) (few : O ≤ 8) {a : ℕ} (read : a ≡ le_value (take (min O 8) (drop 5 bs))) where
    behind_sum : first_of back ok ≡ first_of (fsse_checks Strict O slot bs) ok
    behind_sum = part_passed (wrong_sum bs ∷ []) s sum_is back q ∙ part_passed (block_checks (9 + O) 83 69 bs) v k (wrong_sum bs ∷ back) e

    stored : a ≡ le_at 5 O bs
    stored = read ∙ as_read 5 O bs few

    pub fsse-back : (a ≡ slot → ⊥) → refused BackAddress ≡ first_of (fsse_checks Strict O slot bs) ok
    fsse-back d = sym (first_holds _ _ _ _ (ap not (ne_eqb (le_at 5 O bs) slot (λ p. d (stored ∙ p))))) ∙ behind_sum

    pub fsse_passed : a ≡ slot → ok ≡ first_of (fsse_checks Strict O slot bs) ok
    fsse_passed p = sym (first_pass back ok (ap not (eq-eqb (le_at 5 O bs) slot (sym stored ∙ p)), tt)) ∙ behind_sum
