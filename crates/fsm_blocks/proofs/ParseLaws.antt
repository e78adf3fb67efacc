-- The returns of `parse_fsse`. Assumes nothing.
use mathlib.Core.Path.{◌≡◌, sym, ap, ◌∙◌}
use mathlib.Core.Bool.{false, not}
use mathlib.Core.List.{List}
use Prim.Native.Nat.{ℕ, ◌-◌, ◌/◌, ◌%◌, ◌^◌, ◌≤◌, ◌<◌}
use native.Mathlib.Omega.{arith}
use lib.ListN.{length}
use Rattle.std.specs.Prelude.{Result, Ok, Err}
use Rattle.error.specs.Answers.{as_outcome}
use Rattle.error.specs.declared.Refusal.{Refusal}
use Rattle.error.specs.declared.Refusal.TheVariants.{OverCapacity}
use Rattle.error.specs.Outcome.{answer, refused, and_then, sat}
use Rattle.error.specs.Lent.{left, leaving, over}
use Rattle.fields.specs.Width.{valid_width}
use Rattle.fsm_sections.specs.Sections.{flat}
use Rattle.fsm_blocks.specs.declared.header.FsmHeader.{FsmHeader}
use Rattle.fsm_blocks.specs.Reading.{parsed_fsse}
use Rattle.fsm_blocks.specs.Parts.{got, Accepted, counted, sections_by}
use Rattle.fsm_blocks.proofs.ThenLaws.{sized_is, then_refused, then_sized}
use Rattle.fsm_blocks.proofs.FsseLaws.{read-total}
use Rattle.fsm_blocks.proofs.IntoLaws.{into-refused, into-over, into-is}

module _ (h : FsmHeader) (O : ℕ) (bs out : List ℕ) where
  module _ (v : not (valid_width O) ≡ false) where
    module _ (even : length out % 2 ≡ 0) where
      pub parsed-refused : {c : (Result ℕ Refusal)} (r : Refusal) → c ≡ Err r → as_outcome c ≡ counted (sections_by h O bs)
          → left (refused r) out ≡ leaving out (parsed_fsse h O bs out)
      unfolding parsed_fsse
      parsed-refused r e k =
          into-refused O out (sections_by h O bs) v even _ _
          (then_refused (sections_by h O bs) length _ _ _ (sym k ∙ ap as_outcome e))

      module _ {c : (Result ℕ Refusal)} (n : ℕ) (is : c ≡ Ok n) (k : as_outcome c ≡ counted (sections_by h O bs)) (small : n < 2 ^ 64) where
        count-is : counted (sections_by h O bs) ≡ answer n
        count-is = sym k ∙ ap as_outcome is

        sat-is : and_then (sections_by h O bs) (λ l. answer (sat (length l))) ≡ answer n
        unfolding sat
        sat-is = let e : sat n ≡ n = omega arith in then_sized (sections_by h O bs) length sat n count-is ∙ ap answer e

        pub read_ok : Accepted (sections_by h O bs)
        read_ok = (sized_is (sections_by h O bs) length n count-is).0

        pub total-is : h.total_sections ≡ n
        total-is = sym (read-total O _ _ _ bs read_ok) ∙ (sized_is (sections_by h O bs) length n count-is).1

        pub parsed-over : length out / 2 < n → left (refused (OverCapacity n (length out / 2))) out ≡ leaving out (parsed_fsse h O bs out)
        unfolding parsed_fsse
        parsed-over l = into-over O out (sections_by h O bs) v even n sat-is l

        pub parsed-is : n ≤ length out / 2 → length out / 2 < 2 ^ 64 - 1 → (out' : List ℕ) → out' ≡ over 0 (flat (got (sections_by h O bs))) out
            → left (answer n) out' ≡ leaving out (parsed_fsse h O bs out)
        unfolding parsed_fsse
        parsed-is l b out' w = into-is O out (sections_by h O bs) v even n sat-is l b out' w
