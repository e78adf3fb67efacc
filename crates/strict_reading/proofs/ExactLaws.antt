-- A strict reading of a manager answers exactly where the loose one does and the caller's tests are passed. Assumes nothing.
use mathlib.Core.Path.{◌≡◌, refl, sym, ap, ◌∙◌}
use mathlib.Core.Bool.{Bool, true, false, cond, not}
use mathlib.Core.List.{List, []}
use Prim.Native.Nat.{ℕ, ◌+◌, ◌≤◌}
use native.Mathlib.Omega.{arith}
use borrow.Author.Tests.{eq-eqb, ne_eqb, eqb-true, eqb-false, not-false, le-ltb, ltb-false}
use lib.Dec.{eqb}
use lib.ListN.{length, drop}
use lib.Seq.{length-take-le}
use Rattle.error.specs.Outcome.{Outcome, answer, and_then}
use Rattle.error.proofs.OutcomeLaws.{first_pass, first_shows, first_answers, then_answers}
use Rattle.fields.specs.Layout.{window}
use Rattle.fields.specs.Ranges.{undefined_addr}
use Rattle.checksum.specs.Trailing.{wrong_sum, trailing}
use Rattle.fsm_sections.specs.declared.FreeSection.{FreeSection}
use Rattle.fsm_blocks.specs.declared.checks.Reading.{Reading}
use Rattle.fsm_blocks.specs.declared.checks.Reading.TheVariants.{Loose, Strict}
use Rattle.fsm_blocks.specs.Fshd.{Header, fshd_size, parse_fshd}
use Rattle.fsm_blocks.specs.Fsse.{parse_fsse}
use Rattle.fsm_blocks.specs.Reading.{list_at, read_named, manager_at, read_manager}
use Rattle.fsm_blocks.proofs.AlikeLaws.{manager-alike}
use Rattle.strict_reading.specs.StrictReading.{WholeList, header, WholeManager}

-- ---- a number, and a checksum

is_number : (a b : ℕ) → not (eqb a b) ≡ false → a ≡ b
is_number a b e = eqb-true a b (not-false (eqb a b) e)

no_number : (a b : ℕ) → a ≡ b → not (eqb a b) ≡ false
no_number a b e = ap not (eq-eqb a b e)

sum_right : (bs : List ℕ) → trailing bs ≡ answer tt → (wrong_sum bs).holds ≡ false
unfolding trailing
sum_right bs e = (first_shows _ (answer tt) tt e).0.1.0

sum-tested : (bs : List ℕ) → 4 ≤ length bs → (wrong_sum bs).holds ≡ false → trailing bs ≡ answer tt
unfolding trailing
sum-tested bs long e = first_pass _ (answer tt) (le-ltb (length bs) 4 long, (e, tt))

module _ (O base slot : ℕ) (bytes : List ℕ) where
  -- ---- the section list

  module _ (h : Header) (l : List FreeSection) where
    abbrev list : List ℕ
    list = window (h.fsse + base) h.used bytes

    -- the loose reading has tested length and signature
    list_strict : WholeList O slot list → list_at Loose O base slot h bytes ≡ answer l → list_at Strict O base slot h bytes ≡ answer l
    unfolding parse_fsse
    list_strict w e =
        let q = first_shows _ _ l e in
        let b = (first_shows _ _ l q.1).0 in
        first_pass _ _
        (q.0.0, (q.0.1.0, (b.0, (b.1.0, (no_number _ 0 w.version, (sum_right list w.sum, (no_number _ slot w.back, tt)))))))
        ∙ q.1

    list-whole : list_at Strict O base slot h bytes ≡ answer l → WholeList O slot list
    list-whole e =
        let q = (first_shows _ _ l e).0.1.1 in
        let long : 9 + O ≤ length list = ltb-false (length list) (9 + O) q.0 in
        record {
          version = is_number _ 0 q.1.1.0;
          sum = sum-tested list (omega arith) q.1.1.1.0;
          back = is_number _ slot q.1.1.1.1.0;
        }

    -- a list, unless its address is undefined
    named_strict : ((h.fsse ≡ undefined_addr O → ⊥) → WholeList O slot list) → read_named Loose O base slot h bytes ≡ answer l → read_named Strict O base slot h bytes ≡ answer l
    unfolding read_named
    named_strict w = pick (eqb h.fsse (undefined_addr O)) (eqb-false h.fsse (undefined_addr O))
      where
        pick : (t : Bool) → (t ≡ false → h.fsse ≡ undefined_addr O → ⊥) → cond t (answer []) (list_at Loose O base slot h bytes) ≡ answer l
            → cond t (answer []) (list_at Strict O base slot h bytes) ≡ answer l
        pick true d e = e
        pick false d e = list_strict (w (d refl)) e

    named_whole : read_named Strict O base slot h bytes ≡ answer l → (h.fsse ≡ undefined_addr O → ⊥) → WholeList O slot list
    unfolding read_named
    named_whole e d = list-whole (ap (λ (t : Bool). cond t (answer []) (list_at Strict O base slot h bytes)) (sym (ne_eqb h.fsse (undefined_addr O) d)) ∙ e)

  -- ---- the header

  abbrev bs : List ℕ
  bs = drop (slot + base) bytes

  module _ (l : List FreeSection) where
    -- what is parsed is the header that stands there, and its list gives the sections
    parsed : (how : Reading) → and_then (parse_fshd O bs) (λ h. read_named how O base slot h bytes) ≡ answer l
        → (parse_fshd O bs ≡ answer (header O base slot bytes)) × (read_named how O base slot (header O base slot bytes) bytes ≡ answer l)
    parsed how e =
        let r = then_answers (parse_fshd O bs) (λ h. read_named how O base slot h bytes) l e in
        let f : header O base slot bytes ≡ r.0 = (first_answers _ (header O base slot bytes) r.0 r.1).1 in
        (r.1 ∙ ap answer (sym f), ap (λ (h : Header). read_named how O base slot h bytes) f ∙ r.2)

    at_strict : WholeManager O base slot bytes → manager_at Loose O base slot bytes ≡ answer l → manager_at Strict O base slot bytes ≡ answer l
    unfolding and_then
    at_strict w e =
        let q = first_shows _ _ l e in
        let r = parsed Loose q.1 in
        let b = (first_answers _ (header O base slot bytes) (header O base slot bytes) r.0).0 in
        first_pass _ _
        (q.0.0, (q.0.1.0, (b.0, (b.1.0, (no_number _ 0 w.version, (no_number _ 1 w.client, (sum_right (window (slot + base) (fshd_size O) bytes) w.sum, tt)))))))
        ∙ ap (λ (x : Outcome Header). and_then x (λ h. read_named Strict O base slot h bytes)) r.0
        ∙ named_strict (header O base slot bytes) l w.list r.1

    at_whole : manager_at Strict O base slot bytes ≡ answer l → WholeManager O base slot bytes
    at_whole e =
        let s = first_shows _ _ l e in
        let q = s.0.1.1 in
        let long : fshd_size O ≤ length bs = ltb-false (length bs) (fshd_size O) q.0 in
        let n : length (window (slot + base) (fshd_size O) bytes) ≡ fshd_size O = length-take-le (fshd_size O) bs long in
        record {
          version = is_number _ 0 q.1.1.0;
          client = is_number _ 1 q.1.1.1.0;
          sum = sum-tested (window (slot + base) (fshd_size O) bytes) (omega arith) q.1.1.1.1.0;
          list = named_whole (header O base slot bytes) l (parsed Strict s.1).1;
        }

    -- ---- a manager that a slot names

    module _ (some : slot ≡ undefined_addr O → ⊥) where
      by_slot : (how : Reading) → read_manager how O base slot bytes ≡ manager_at how O base slot bytes
      unfolding read_manager
      by_slot how = rw (ne_eqb slot (undefined_addr O) some)

      pub whole : read_manager Strict O base slot bytes ≡ answer l → (read_manager Loose O base slot bytes ≡ answer l) × WholeManager O base slot bytes
      whole e = (manager-alike Strict O base bytes slot l e, at_whole (sym (by_slot Strict) ∙ e))

      pub strictly : (read_manager Loose O base slot bytes ≡ answer l) × WholeManager O base slot bytes → read_manager Strict O base slot bytes ≡ answer l
      strictly e = by_slot Strict ∙ at_strict e.1 (sym (by_slot Loose) ∙ e.0)
