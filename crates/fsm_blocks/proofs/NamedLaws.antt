-- Where a manager's section list is found: the cases of `list_of` and `locate`. Assumes nothing.
use mathlib.Core.Path.{◌≡◌, refl, sym, ap, ◌∙◌}
use mathlib.Core.Bool.{Bool, true, false, not}
use mathlib.Core.List.{List, [], ◌∷◌}
use Prim.Native.Nat.{ℕ, ◌+◌, ◌-◌, ◌≤◌, ◌<◌}
use native.Mathlib.Omega.{arith}
use borrow.Author.Tests.{lt-ltb, le-ltb, eq-eqb, ne_eqb, ltb-true, ltb-false}
use lib.Dec.{ltb}
use lib.ListN.{length, drop, length-drop}
use lib.Seq.{take_all}
use Rattle.std.specs.Prelude.{Result, Ok, Err}
use Rattle.error.specs.Answers.{as_outcome}
use Rattle.error.specs.declared.Refusal.{Refusal}
use Rattle.error.specs.declared.Refusal.TheVariants.{Overflow, InvalidManager}
use Rattle.error.specs.Outcome.{Outcome, answer, nothing, refuse, refused, Condition, when, first_of, and_then}
use Rattle.error.proofs.OutcomeLaws.{first_pass, first_shows, then_first}
use Rattle.fields.specs.Layout.{window}
use Rattle.fields.specs.Ranges.{top, sum, undefined_addr}
use Rattle.fields.specs.Width.{valid_width}
use Rattle.fsm_sections.specs.declared.FreeSection.{FreeSection}
use Rattle.fsm_blocks.specs.declared.header.FsmHeader.{FsmHeader}
use Rattle.fsm_blocks.specs.Fshd.{Header, taken, kept, parse_fshd, parsed_fshd}
use Rattle.fsm_blocks.specs.declared.checks.Reading.{Reading}
use Rattle.fsm_blocks.specs.Checks.{fshd_checks, fsse_checks}
use Rattle.fsm_blocks.specs.Reading.{read_named, read_manager}
use Rattle.fsm_blocks.specs.Parts.{sections_by}
use Rattle.fsm_blocks.specs.Named.{full}
use Rattle.fsm_blocks.proofs.FshdLaws.{parse_sized}
use Rattle.fsm_blocks.proofs.ThenLaws.{then_refused}
use Rattle.fsm_blocks.proofs.CheckLaws.{checked_refused, checked_passed}

-- ---- an address and the base

module _ (a b : ℕ) {r : (Result ℕ Refusal)} (s : as_outcome r ≡ sum a b) where
  pub sum_over : (x : Refusal) → r ≡ Err x → top < a + b
  unfolding sum first_of
  sum_over x e = go (ltb top (a + b)) refl (sym (ap as_outcome e) ∙ s)
    where
      go : (t : Bool) → ltb top (a + b) ≡ t → refused x ≡ first_of (when t Overflow ∷ []) (answer (a + b)) → top < a + b
      go true q p = ltb-true top (a + b) q
      go false q p = let z : ◌≡◌ {A = ℕ} 0 1 = cc in absurd (omega arith)

  pub sum_is : (n : ℕ) → r ≡ Ok n → (n ≡ a + b) × (a + b ≤ top)
  unfolding sum first_of
  sum_is n e = go (ltb top (a + b)) refl (sym (ap as_outcome e) ∙ s)
    where
      go : (t : Bool) → ltb top (a + b) ≡ t → answer n ≡ first_of (when t Overflow ∷ []) (answer (a + b)) → (n ≡ a + b) × (a + b ≤ top)
      go true q p = let z : ◌≡◌ {A = ℕ} 0 1 = cc in absurd (omega arith)
      go false q p = (cc, ltb-false top (a + b) q)

-- ---- `list_of`

module _ (how : Reading) (O base slot : ℕ) (h : FsmHeader) (bytes : List ℕ) where
  pub named_none : h.fsse_addr ≡ undefined_addr O → answer [] ≡ read_named how O base slot (full h) bytes
  unfolding read_named
  named_none e = rw (eq-eqb h.fsse_addr (undefined_addr O) e)

  module _ (some : h.fsse_addr ≡ undefined_addr O → ⊥) where
    pub named_wraps : top < h.fsse_addr + base → refused InvalidManager ≡ read_named how O base slot (full h) bytes
    unfolding read_named first_of
    named_wraps l = rw (ne_eqb h.fsse_addr (undefined_addr O) some, lt-ltb top (h.fsse_addr + base) l)

    module _ (start : ℕ) (at : (start ≡ h.fsse_addr + base) × (h.fsse_addr + base ≤ top)) where
      pub named_past : length bytes < start + h.fsse_used → refused InvalidManager ≡ read_named how O base slot (full h) bytes
      unfolding read_named first_of
      named_past l =
          let m : length bytes < h.fsse_addr + base + h.fsse_used = omega arith in
          rw (ne_eqb h.fsse_addr (undefined_addr O) some, le-ltb top (h.fsse_addr + base) at.1, lt-ltb (length bytes) (h.fsse_addr + base + h.fsse_used) m)

      -- a list within the bytes, by its used bytes
      module _ (l : start + h.fsse_used ≤ length bytes) where
        abbrev list : List ℕ
        list = window start h.fsse_used bytes

        by_list : read_named how O base slot (full h) bytes ≡ first_of (fsse_checks how O slot list) (sections_by h O list)
        unfolding read_named first_of
        by_list =
            let m : h.fsse_addr + base + h.fsse_used ≤ length bytes = omega arith in
            rw (at.0, ne_eqb h.fsse_addr (undefined_addr O) some, le-ltb top (h.fsse_addr + base) at.1, le-ltb (length bytes) (h.fsse_addr + base + h.fsse_used) m)

        abbrev checks : Outcome (Unit {0})
        checks = first_of (fsse_checks how O slot list) (answer tt)

        pub named_refused : (c : (Result (Unit {0}) Refusal)) → as_outcome c ≡ checks → (r : Refusal) → c ≡ Err r → refused r ≡ read_named how O base slot (full h) bytes
        named_refused c k r q = checked_refused (fsse_checks how O slot list) c k (sections_by h O list) r q ∙ sym by_list

        pub named_is : (c : (Result (Unit {0}) Refusal)) → as_outcome c ≡ checks → c ≡ (Ok tt) → sections_by h O list ≡ read_named how O base slot (full h) bytes
        named_is c k q = checked_passed (fsse_checks how O slot list) c k (sections_by h O list) q ∙ sym by_list

-- ---- `locate`

-- the bytes from a place on, as the code takes them
pub from_place : (a : ℕ) (l : List ℕ) → window a (length l - a) l ≡ drop a l
from_place a l = take_all (length l - a) (drop a l) (rw length-drop (omega arith))

-- what follows on a header asks for no more than its six fields
then_kept : (how : Reading) (O base slot : ℕ) (bytes : List ℕ) (o : Outcome Header) (x : FsmHeader) → kept o ≡ answer x
    → and_then o (λ h. read_named how O base slot h bytes) ≡ read_named how O base slot (full x) bytes
unfolding and_then read_named
then_kept how O base slot bytes (answer h) x e = let k : taken h ≡ x = cc in ap (λ (y : FsmHeader). read_named how O base slot (full y) bytes) k
then_kept how O base slot bytes nothing x e = let z : ◌≡◌ {A = ℕ} 0 1 = cc in absurd (omega arith)
then_kept how O base slot bytes (refuse n vs) x e = let z : ◌≡◌ {A = ℕ} 0 1 = cc in absurd (omega arith)

module _ (how : Reading) (O base slot : ℕ) (bytes : List ℕ) where
  pub manager-none : slot ≡ undefined_addr O → answer [] ≡ read_manager how O base slot bytes
  unfolding read_manager
  manager-none e = rw (eq-eqb slot (undefined_addr O) e)

  module _ (some : slot ≡ undefined_addr O → ⊥) where
    pub manager_wraps : top < slot + base → refused InvalidManager ≡ read_manager how O base slot bytes
    unfolding read_manager first_of
    manager_wraps l = rw (ne_eqb slot (undefined_addr O) some, lt-ltb top (slot + base) l)

    module _ (start : ℕ) (at : (start ≡ slot + base) × (slot + base ≤ top)) where
      pub manager-past : length bytes < start → refused InvalidManager ≡ read_manager how O base slot bytes
      unfolding read_manager first_of
      manager-past l =
          let m : length bytes < slot + base = omega arith in
          rw (ne_eqb slot (undefined_addr O) some, le-ltb top (slot + base) at.1, lt-ltb (length bytes) (slot + base) m)

      module _ (in_bytes : start ≤ length bytes) where
        abbrev header-bytes : List ℕ
        header-bytes = drop start bytes

        abbrev tests : List Condition
        tests = fshd_checks how O header-bytes

        abbrev named : Outcome (List FreeSection)
        named = and_then (parse_fshd O header-bytes) (λ h. read_named how O base slot h bytes)

        by_header : read_manager how O base slot bytes ≡ first_of tests named
        unfolding read_manager first_of
        by_header =
            let m : slot + base ≤ length bytes = omega arith in
            rw (at.0, ne_eqb slot (undefined_addr O) some, le-ltb top (slot + base) at.1, le-ltb (length bytes) (slot + base) m)

        module _ (v : not (valid_width O) ≡ false) where
          abbrev header_in : List ℕ → Outcome FsmHeader
          header_in l = first_of (fshd_checks how O l) (kept (parsed_fshd O l))

          checked_header : (a : (Result FsmHeader Refusal)) → as_outcome a ≡ header_in (window start (length bytes - start) bytes) → as_outcome a ≡ first_of tests (kept (parse_fshd O header-bytes))
          checked_header a p = p ∙ ap header_in (from_place start bytes) ∙ ap (λ (o : Outcome Header). first_of tests (kept o)) (parse_sized O header-bytes v)

          pub manager-refused : {a : (Result FsmHeader Refusal)} → as_outcome a ≡ header_in (window start (length bytes - start) bytes)
              → (r : Refusal) → a ≡ Err r → refused r ≡ read_manager how O base slot bytes
          manager-refused {a} p r e =
              sym
              (by_header
              ∙ sym (then_first tests (parse_fshd O header-bytes) (λ h. read_named how O base slot h bytes))
              ∙ then_refused (first_of tests (parse_fshd O header-bytes)) taken (λ h. read_named how O base slot h bytes) _ _
              (then_first tests (parse_fshd O header-bytes) (λ h. answer (taken h)) ∙ sym (checked_header a p) ∙ ap as_outcome e))

          pub manager-is : {a : (Result FsmHeader Refusal)} → as_outcome a ≡ header_in (window start (length bytes - start) bytes)
              → (h : FsmHeader) → a ≡ Ok h → read_named how O base slot (full h) bytes ≡ read_manager how O base slot bytes
          manager-is {a} p h e =
              let q = first_shows tests (kept (parse_fshd O header-bytes)) h (sym (checked_header a p) ∙ ap as_outcome e) in
              sym (by_header ∙ first_pass tests named q.0 ∙ then_kept how O base slot bytes (parse_fshd O header-bytes) h q.1)
