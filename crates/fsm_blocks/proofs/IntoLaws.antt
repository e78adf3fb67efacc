-- Sections that are read into a lent run, refusals first: the cases that `parse_fsse` and `read_persisted_sections` share. Assumes nothing.
use mathlib.Core.Path.{◌≡◌, sym, ap, ◌∙◌}
use mathlib.Core.Bool.{false, not}
use mathlib.Core.List.{List, [], ◌∷◌}
use Prim.Native.Nat.{ℕ, ◌-◌, ◌/◌, ◌%◌, ◌^◌, ◌≤◌, ◌<◌}
use native.Mathlib.Omega.{arith}
use borrow.Author.Tests.{lt-ltb, le-ltb, eq-eqb}
use lib.Dec.{eqb}
use lib.ListN.{length}
use Rattle.error.specs.declared.Refusal.TheVariants.{Width, NotAList, OverCapacity}
use Rattle.error.specs.Outcome.{Outcome, answer, refuse, refused, when, first_of, and_then, sat}
use Rattle.error.specs.Lent.{With, left, leaving, over}
use Rattle.fields.specs.Width.{valid_width}
use Rattle.fsm_sections.specs.declared.FreeSection.{FreeSection}
use Rattle.fsm_sections.specs.Sections.{flat}
use Rattle.fsm_blocks.specs.Reading.{into_run}
use Rattle.fsm_blocks.specs.Parts.{got}
use Rattle.fsm_blocks.proofs.ThenLaws.{then_refused, sized_is}

module _ (O : ℕ) (out : List ℕ) (o : Outcome (List FreeSection)) where
  -- the outcome of an entry that reads `o` into the run
  abbrev pub into : Outcome (With ℕ (List ℕ))
  into = first_of (when (not (valid_width O)) Width ∷ when (not (eqb (length out % 2) 0)) NotAList ∷ []) (and_then o (into_run out))

  module _ (v : not (valid_width O) ≡ false) where
    module _ (even : length out % 2 ≡ 0) where
      into-run : into ≡ and_then o (into_run out)
      unfolding first_of
      into-run = rw (v, eq-eqb (length out % 2) 0 even)

      -- what is not read is refused
      pub into-refused : (n : ℕ) (vs : List ℕ) → and_then o (λ l. answer (sat (length l))) ≡ refuse n vs → left (refuse n vs) out ≡ leaving out into
      into-refused n vs e = sym (ap (leaving out) (into-run ∙ then_refused o (λ l. sat (length l)) (into_run out) n vs e))

      module _ (n : ℕ) (e : and_then o (λ l. answer (sat (length l))) ≡ answer n) where
        is-run : into ≡ into_run out (got o)
        unfolding and_then
        is-run = into-run ∙ ap (λ (x : Outcome (List FreeSection)). and_then x (into_run out)) (sized_is o (λ l. sat (length l)) n e).0

        pub into-over : length out / 2 < n → left (refused (OverCapacity n (length out / 2))) out ≡ leaving out into
        unfolding first_of sat
        into-over h =
            let k : sat (length (got o)) ≡ n = (sized_is o (λ l. sat (length l)) n e).1 in
            let m : length out / 2 < length (got o) = omega arith in
            sym (ap (leaving out) is-run ∙ rw (lt-ltb (length out / 2) (length (got o)) m, k))

        pub into-is : n ≤ length out / 2 → length out / 2 < 2 ^ 64 - 1 → (out' : List ℕ) → out' ≡ over 0 (flat (got o)) out → left (answer n) out' ≡ leaving out into
        unfolding first_of sat
        into-is h b out' w =
            let k : sat (length (got o)) ≡ n = (sized_is o (λ l. sat (length l)) n e).1 in
            let m : length (got o) ≡ n = omega arith in
            let r : length (got o) ≤ length out / 2 = omega arith in
            sym (ap (leaving out) is-run ∙ rw (le-ltb (length out / 2) (length (got o)) r, m, w))
