-- The cases of the reading of FSSE, and what acceptance says. Assumes nothing.
use mathlib.Core.Path.{◌≡◌, refl, sym, ap, ◌∙◌, subst}
use mathlib.Core.Bool.{Bool, true, false, ◌||◌, not}
use mathlib.Core.List.{List}
use mathlib.Core.Logic.{⊎_elim}
use Prim.Native.Nat.{ℕ, ◌+◌, ◌-◌, ◌≤◌, ◌<◌}
use native.Mathlib.Omega.{arith}
use borrow.Author.Tests.{lt-ltb, le-ltb, ltb-false}
use lib.Dec.{ltb, eqb}
use lib.ListN.{length}
use Rattle.error.specs.declared.Refusal.{Refusal}
use Rattle.error.specs.declared.Refusal.TheVariants.{Short, InvalidManager}
use Rattle.error.specs.Outcome.{Outcome, refused, first_of, and_then}
use Rattle.error.proofs.TestLaws.{le-or-lt, or_false}
use Rattle.fields.specs.Layout.{window}
use Rattle.fsm_sections.specs.declared.FreeSection.{FreeSection}
use Rattle.fsm_blocks.specs.Groups.{Widths, parse_groups}
use Rattle.fsm_blocks.specs.Fshd.{signed}
use Rattle.fsm_blocks.specs.Fsse.{widths_of, parse_fsse}
use Rattle.fsm_blocks.specs.declared.header.FsmHeader.{FsmHeader}
use Rattle.fsm_blocks.specs.Parts.{got, Accepted, counted, sections_by}
use Rattle.fsm_blocks.proofs.ThenLaws.{not-refused, holds-got}
use Rattle.fsm_blocks.proofs.ScanLaws.{groups_many}

-- a refusal is one of the count too
pub refused-count : {o : Outcome (List FreeSection)} (r : Refusal) → o ≡ refused r → refused r ≡ counted o
unfolding and_then
refused-count r e = sym (ap counted e)

-- ---- the cases of the reading

pub few_bits : (bits : ℕ) → (eqb bits 0 || ltb 64 bits) ≡ false → bits ≤ 64
few_bits bits h = ltb-false 64 bits (or_false (eqb bits 0) (ltb 64 bits) h).1

module _ (O bits greatest n : ℕ) (bs : List ℕ) where
  pub fsse-short : length bs < 9 + O → parse_fsse O bits greatest n bs ≡ refused (Short (9 + O) (length bs))
  unfolding parse_fsse first_of
  fsse-short h = rw (lt-ltb (length bs) (9 + O) h)

  module _ (long : 9 + O ≤ length bs) where
    pub fsse_unsigned : not (signed 70 83 83 69 bs) ≡ true → parse_fsse O bits greatest n bs ≡ refused InvalidManager
    unfolding parse_fsse first_of
    fsse_unsigned h = rw (le-ltb (length bs) (9 + O) long, h)

    module _ (sign : not (signed 70 83 83 69 bs) ≡ false) where
      pub fsse-bits : (eqb bits 0 || ltb 64 bits) ≡ true → parse_fsse O bits greatest n bs ≡ refused InvalidManager
      unfolding parse_fsse first_of
      fsse-bits h = rw (le-ltb (length bs) (9 + O) long, sign, h)

      pub fsse_groups : (eqb bits 0 || ltb 64 bits) ≡ false
          → parse_fsse O bits greatest n bs ≡ parse_groups (widths_of n greatest bits) n (window (5 + O) (length bs - (9 + O)) bs)
      unfolding parse_fsse first_of
      fsse_groups h = rw (le-ltb (length bs) (9 + O) long, sign, h)

  -- ---- what acceptance says
  module _ (ok : Accepted (parse_fsse O bits greatest n bs)) where
    pub long_of : 9 + O ≤ length bs
    long_of = ⊎_elim (λ h. h) (λ h. not-refused (parse_fsse O bits greatest n bs) _ _ ok (fsse-short h)) (le-or-lt (9 + O) (length bs))

    signed_of : not (signed 70 83 83 69 bs) ≡ false
    signed_of = go (not (signed 70 83 83 69 bs)) refl
      where
        go : (t : Bool) → not (signed 70 83 83 69 bs) ≡ t → t ≡ false
        go true e = not-refused (parse_fsse O bits greatest n bs) _ _ ok (fsse_unsigned long_of e)
        go false e = refl

    some_bits : (eqb bits 0 || ltb 64 bits) ≡ false
    some_bits = go (eqb bits 0 || ltb 64 bits) refl
      where
        go : (t : Bool) → (eqb bits 0 || ltb 64 bits) ≡ t → t ≡ false
        go true e = not-refused (parse_fsse O bits greatest n bs) _ _ ok (fsse-bits long_of signed_of e)
        go false e = refl

    pub bits-few : bits ≤ 64
    bits-few = few_bits bits some_bits

    pub groups_of : parse_fsse O bits greatest n bs ≡ parse_groups (widths_of n greatest bits) n (window (5 + O) (length bs - (9 + O)) bs)
    groups_of = fsse_groups long_of signed_of some_bits

    -- it has as many sections as were asked for
    pub read-total : length (got (parse_fsse O bits greatest n bs)) ≡ n
    read-total =
        ap (λ (o : Outcome (List FreeSection)). length (got o)) groups_of
        ∙ holds-got (λ (l : List FreeSection). length l ≡ n) _ (subst Accepted groups_of ok)
        (groups_many (widths_of n greatest bits) (length (window (5 + O) (length bs - (9 + O)) bs)) n (window (5 + O) (length bs - (9 + O)) bs))

-- ---- `fsse_count` and `put_fsse`: the groups as the code takes them

module _ (h : FsmHeader) (O : ℕ) (bs : List ℕ) (w : Widths) (e : w ≡ widths_of h.total_sections h.max_section_size h.addr_space_bits) where
  taken_groups : parse_groups w h.total_sections (window (5 + O) (length bs - 4 - (5 + O)) bs)
      ≡ parse_groups (widths_of h.total_sections h.max_section_size h.addr_space_bits) h.total_sections (window (5 + O) (length bs - (9 + O)) bs)
  taken_groups =
      let n : length bs - 4 - (5 + O) ≡ length bs - (9 + O) = omega arith in
      rw (e, n)

  pub groups_counted : 9 + O ≤ length bs → not (signed 70 83 83 69 bs) ≡ false → (eqb h.addr_space_bits 0 || ltb 64 h.addr_space_bits) ≡ false
      → (r : Outcome ℕ) → r ≡ counted (parse_groups w h.total_sections (window (5 + O) (length bs - 4 - (5 + O)) bs)) → r ≡ counted (sections_by h O bs)
  groups_counted long sign some r k = k ∙ ap counted (taken_groups ∙ sym (fsse_groups O _ _ _ bs long sign some))

  pub groups_put : Accepted (sections_by h O bs) → parse_groups w h.total_sections (window (5 + O) (length bs - 4 - (5 + O)) bs) ≡ sections_by h O bs
  groups_put ok = taken_groups ∙ sym (groups_of O _ _ _ bs ok)
