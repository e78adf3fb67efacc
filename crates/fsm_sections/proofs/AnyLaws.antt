-- Tests of the sections of a run, one by one. Assumes nothing.
use Rattle.std.proofs.Common.{◌≡◌, ℕ, ◌+◌, ◌-◌, ◌^◌, ◌<◌, ◌≤◌, Bool, true, false, ◌||◌, ltb, List, [], ◌∷◌, sym, refl, ap, ◌∙◌, ⊎_elim, arith, ltb-false, le-ltb, lt-ltb, le-leb}
use native.Mathlib.Nat.{pow-le-pow_right}
use borrow.Author.Tests.{lt-leb}
use Rattle.error.proofs.TestLaws.{le-or-lt, or_false}
use Rattle.fields.specs.Ranges.{top}
use Rattle.fields.specs.Width.{enc_size}
use Rattle.fields.proofs.WidthLaws.{enc_size-least}
use Rattle.fsm_sections.specs.declared.FreeSection.{FreeSection}
use Rattle.fsm_sections.specs.Sections.{section, by_size_then_addr, All}
use Rattle.fsm_sections.specs.Pages.{end}
use Rattle.fsm_sections.specs.Runs.{ends_above, wide, any_of}
use Rattle.fsm_sections.proofs.PassLaws.{by_order}

-- ---- a test of each section, one by one

module _ (test : FreeSection → Bool) (l : List FreeSection) (v : Bool) (p : any_of test l ≡ v) where
  pub any_none : l ≡ [] → false ≡ v
  any_none e = ap (any_of test) (sym e) ∙ p

  module _ (x : FreeSection) (m : List FreeSection) (e : l ≡ x ∷ m) (t : Bool) (f : t ≡ test x) where
    pub any_found : t ≡ true → true ≡ v
    any_found h = sym (ap (any_of test) e ∙ rw (← f, h)) ∙ p

    pub any_step : t ≡ false → any_of test m ≡ v
    any_step h = sym (ap (any_of test) e ∙ rw (← f, h)) ∙ p

-- ---- a test of some section, in whatever order

pub any_sorted : (test : FreeSection → Bool) (l : List FreeSection) → any_of test (by_size_then_addr l) ≡ any_of test l
any_sorted test = by_order (any_of test) (λ s l m e. ap (λ (t : Bool). test s || t) e) (λ s t l. swap (test s) (test t) (any_of test l))
  where
    swap : (x y z : Bool) → (x || (y || z)) ≡ (y || (x || z))
    swap true true z = refl
    swap true false z = refl
    swap false y z = refl

-- ---- ends

pub late_is : (a z : ℕ) → z ≤ top → ltb (18446744073709551615 - z) a ≡ ltb top (end (section a z))
late_is a z h =
    ⊎_elim
    (λ (p : a ≤ 18446744073709551615 - z). le-ltb (18446744073709551615 - z) a p ∙ sym (le-ltb top (a + z) (omega arith)))
    (λ (p : 18446744073709551615 - z < a). lt-ltb (18446744073709551615 - z) a p ∙ sym (lt-ltb top (a + z) (omega arith)))
    (le-or-lt a (18446744073709551615 - z))

pub ends_any : (rs : List FreeSection) → ends_above rs ≡ any_of (λ r. ltb top (end r)) rs
ends_any [] = refl
ends_any (r ∷ rs) = ap (λ (t : Bool). ltb top (end r) || t) (ends_any rs)

pub none_above : (rs : List FreeSection) → ends_above rs ≡ false → All (λ r. end r ≤ top) rs
none_above [] e = tt
none_above (r ∷ rs) e = let p = or_false (ltb top (end r)) (ends_above rs) e in (ltb-false top (end r) p.0, none_above rs p.1)

-- ---- addresses that do not fit

pub wide_is : (o a : ℕ) → a < 2 ^ 64 → 1 ≤ o → ltb o (enc_size a) ≡ wide o a
wide_is o a h k = ⊎_elim big small (le-or-lt (256 ^ o) a)
  where
    big : 256 ^ o ≤ a → ltb o (enc_size a) ≡ wide o a
    big q =
        let z : 0 < 256 = omega arith in
        rw (le-leb (256 ^ o) a q)
        (⊎_elim (λ (p : enc_size a ≤ o). absurd (omega (arith, (enc_size-least a h).holds, pow-le-pow_right z p)))
        (λ (p : o < enc_size a). lt-ltb o (enc_size a) p) (le-or-lt (enc_size a) o))

    small : a < 256 ^ o → ltb o (enc_size a) ≡ wide o a
    small q = rw (lt-leb (256 ^ o) a q) (le-ltb o (enc_size a) ((enc_size-least a h).least o k q))
