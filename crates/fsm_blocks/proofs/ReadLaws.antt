-- The returns of `read_by`. Assumes nothing.
use mathlib.Core.Path.{◌≡◌, sym, ap, ◌∙◌, subst}
use mathlib.Core.Bool.{false, not}
use mathlib.Core.List.{List, [], ◌∷◌}
use Prim.Native.Nat.{ℕ, ◌-◌, ◌*◌, ◌/◌, ◌%◌, ◌^◌, ◌≤◌, ◌<◌}
use native.Mathlib.Omega.{arith}
use lib.Dec.{eqb}
use lib.ListN.{length}
use Rattle.std.specs.Prelude.{Result, Ok, Err}
use Rattle.error.specs.Answers.{as_outcome}
use Rattle.error.specs.declared.Refusal.{Refusal}
use Rattle.error.specs.declared.Refusal.TheVariants.{Width, NotAList, OverCapacity}
use Rattle.error.proofs.OutcomeLaws.{then_then}
use Rattle.error.specs.Outcome.{Outcome, answer, refused, when, first_of, and_then, sat}
use Rattle.error.specs.Lent.{With, left, leaving, over}
use Rattle.fields.specs.Width.{valid_width}
use Rattle.fsm_sections.specs.declared.FreeSection.{FreeSection}
use Rattle.fsm_sections.specs.Sections.{flat}
use Rattle.fsm_blocks.specs.declared.checks.Reading.{Reading}
use Rattle.fsm_blocks.specs.declared.checks.Reading.TheVariants.{Loose}
use Rattle.fsm_blocks.specs.Reading.{read_slots, joined, into_run, persisted}
use Rattle.fsm_blocks.specs.Parts.{got, Accepted}
use Rattle.fsm_blocks.specs.Named.{slots_count}
use Rattle.fsm_blocks.proofs.AlikeLaws.{accepted-alike}
use Rattle.fsm_blocks.proofs.ThenLaws.{sized_is}
use Rattle.fsm_blocks.proofs.IntoLaws.{into, into-refused, into-over, into-is}

module _ (how : Reading) (slots : List ℕ) (base O : ℕ) (bytes out : List ℕ) where
  -- all slots' sections as one list
  whole : Outcome (List FreeSection)
  whole = and_then (read_slots how O base slots bytes) (λ ls. answer (joined ls))

  as_into : leaving out (into O out whole) ≡ leaving out (persisted how slots base O bytes out)
  unfolding persisted and_then whole
  as_into =
      ap (λ (x : Outcome (With ℕ (List ℕ))). leaving out (first_of (when (not (valid_width O)) Width ∷ when (not (eqb (length out % 2) 0)) NotAList ∷ []) x))
      (then_then (read_slots how O base slots bytes) (λ ls. answer (joined ls)) (into_run out))

  module _ (v : not (valid_width O) ≡ false) where
    whole-count : and_then whole (λ l. answer (sat (length l))) ≡ slots_count how O base slots bytes
    unfolding slots_count and_then whole
    whole-count = then_then (read_slots how O base slots bytes) (λ ls. answer (joined ls)) (λ l. answer (sat (length l)))

    module _ (even : length out % 2 ≡ 0) where
      pub read-refused : {c : (Result ℕ Refusal)} (r : Refusal) → c ≡ Err r → as_outcome c ≡ slots_count how O base slots bytes
          → left (refused r) out ≡ leaving out (persisted how slots base O bytes out)
      read-refused r e k =
          into-refused O out whole v even _ _ (whole-count ∙ sym k ∙ ap as_outcome e)
          ∙ as_into

      module _ {c : (Result ℕ Refusal)} (n : ℕ) (is : c ≡ Ok n) (k : as_outcome c ≡ slots_count how O base slots bytes) where
        count-is : slots_count how O base slots bytes ≡ answer n
        count-is = sym k ∙ ap as_outcome is

        read_parts : Accepted (read_slots how O base slots bytes) × (sat (length (joined (got (read_slots how O base slots bytes)))) ≡ n)
        unfolding slots_count
        read_parts = sized_is (read_slots how O base slots bytes) (λ ls. sat (length (joined ls))) n count-is

        -- what was accepted is put by the loose reading
        loosely : read_slots Loose O base slots bytes ≡ read_slots how O base slots bytes
        loosely = accepted-alike how O base bytes slots read_parts.0

        abbrev put : List FreeSection
        put = joined (got (read_slots Loose O base slots bytes))

        put_is : put ≡ joined (got (read_slots how O base slots bytes))
        put_is = ap (λ (o : Outcome (List (List FreeSection))). joined (got o)) loosely

        pub read_ok : Accepted (read_slots Loose O base slots bytes)
        read_ok = subst Accepted (sym loosely) read_parts.0

        pub read-room : n ≤ length out / 2 → length out / 2 < 2 ^ 64 - 1 → 2 * length put ≤ length out
        unfolding sat
        read-room l b =
            let e : sat (length (joined (got (read_slots how O base slots bytes)))) ≡ n = read_parts.1 in
            let k : length put ≡ length (joined (got (read_slots how O base slots bytes))) = ap length put_is in
            omega arith

        pub read-over : length out / 2 < n → left (refused (OverCapacity n (length out / 2))) out ≡ leaving out (persisted how slots base O bytes out)
        read-over l = into-over O out whole v even n (whole-count ∙ count-is) l ∙ as_into

        got-whole : got whole ≡ joined (got (read_slots how O base slots bytes))
        unfolding whole and_then
        got-whole = ap (λ (o : Outcome (List (List FreeSection))). got (and_then o (λ ls. answer (joined ls)))) read_parts.0

        pub read_is : n ≤ length out / 2 → length out / 2 < 2 ^ 64 - 1 → (out' : List ℕ) → out' ≡ over 0 (flat put) out
            → left (answer n) out' ≡ leaving out (persisted how slots base O bytes out)
        read_is l b out' w =
            into-is O out whole v even n (whole-count ∙ count-is) l b out' (w ∙ ap (λ (x : List FreeSection). over 0 (flat x) out) (put_is ∙ sym got-whole)) ∙ as_into
