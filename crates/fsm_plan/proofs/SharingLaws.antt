-- Refusal 5: the passes over the chains of slot 6. Assumes nothing.
use mathlib.Core.Path.{◌≡◌, refl, sym, ap, ◌∙◌, subst}
use mathlib.Core.Logic.{inl, inr, ⊎_elim}
use Prim.Native.Nat.{ℕ, ◌+◌, ◌-◌, ◌*◌, ◌≤◌, ◌<◌}
use native.Mathlib.Nat.{mul-le-mul_right}
use native.Mathlib.Omega.{arith}
use mathlib.Core.Bool.{Bool, true, false}
use mathlib.Core.List.{List, []}
use Rattle.std.proofs.Common.{rules}
use Rattle.std.specs.Prelude.{Option, Some, None, SomeIff, ◌^◌}
use Rattle.error.proofs.TestLaws.{le-or-lt}
use Rattle.fsm_sections.specs.declared.FreeSection.{FreeSection}
use Rattle.fsm_sections.specs.declared.Chain.{Chain}
use Rattle.fsm_sections.specs.declared.next.Chains.{Chains}
use Rattle.fsm_sections.specs.Chains.{sections_in}
use Rattle.fsm_sections.specs.Steps.{rest, CanGo, Taking}
use Rattle.fsm_sections.proofs.StepLaws.{take_by}
use Rattle.fsm_plan.specs.Order.{at_addr, repeats, Common, Meet, Paging, Alike, Raised}
use Rattle.fsm_plan.proofs.AddrLaws.{at-append, at-sorted, at-index, at_none, at_once, repeats-not, repeats_yes}

-- ---- two chains

pub alike : (page : ℕ) (t u : Chain) → Paging page t → Paging page u → Alike t u
alike page t u p q =
    ⊎_elim inl (λ (k : 1 < t.count). inr (⊎_elim inl (λ (l : 1 < u.count). inr (p k ∙ sym (q l))) (le-or-lt u.count 1))) (le-or-lt t.count 1)

once : (page : ℕ) (t : Chain) → 0 < page → Paging page t → (x : ℕ) → at_addr x (sections_in t) ≤ 1
once page t p h x =
    at_once x t.addr t.size t.count (⊎_elim inl (λ (k : 1 < t.count). let e : t.size ≡ page = h k in inr (omega arith)) (le-or-lt t.count 1))

at-nil : (x : ℕ) → at_addr x [] ≡ 0
unfolding at_addr
at-nil x = refl

module _ (l m : List FreeSection) (r : Bool) (h : Meet r l m) where
  meet_yes : r ≡ true → Common l m
  meet_yes e = subst (λ (x : Bool). Meet x l m) e h

  meet_no : r ≡ false → (x : ℕ) → 0 < at_addr x l → at_addr x m ≡ 0
  meet_no e = subst (λ (x : Bool). Meet x l m) e h

-- ---- the floor after a chain

module _ (floor : ℕ) (t : Chain) where
  pub raised_none : t.count ≡ 0 → Raised floor t (Some floor)
  raised_none e = (omega arith, λ x h. absurd (omega (arith, at_none x t.addr t.size t.count (λ i l q. absurd (omega arith)))))

  raised_to : floor ≤ t.addr → Raised floor t (Some (t.addr + (t.count - 1) * t.size + 1))
  raised_to l = (omega arith, within)
    where
      within : (x : ℕ) → 0 < at_addr x (sections_in t) → (floor ≤ x) × (x < t.addr + (t.count - 1) * t.size + 1)
      within x h =
          let p = at-index x t.addr t.size t.count h in
          let b : p.index ≤ t.count - 1 = omega (arith, p.below) in
          (omega (arith, p.is), omega (arith, p.is, mul-le-mul_right t.size b))

-- a sum that may not fit
pub raised_by : (floor : ℕ) (t : Chain) → floor ≤ t.addr → (r : Option ℕ)
    → SomeIff r (t.addr + (t.count - 1) * t.size + 1 < 2 ^ 64) (t.addr + (t.count - 1) * t.size + 1) → Raised floor t r
raised_by floor t h None e = tt
raised_by floor t h (Some f) e = let q : f ≡ t.addr + (t.count - 1) * t.size + 1 = search rules in rw q (raised_to floor t h)

-- ---- the passes

-- no chain that was passed has an address of t
abbrev pub Unmet : Chain → Chains → Chains → Type 0
Unmet t first x = (z : ℕ) → 0 < at_addr z (sections_in t) → at_addr z (rest x) ≡ at_addr z (rest first)

module _ (all : List FreeSection) where
  -- the chains that were passed share no address with another
  pub record Apart (x : Chains) : Type 0 where
    pub go : CanGo x
    pub few : (z : ℕ) → at_addr z all ≤ at_addr z (rest x) + 1
    pub same : (z : ℕ) → 0 < at_addr z (rest x) → at_addr z all ≡ at_addr z (rest x)

  -- the same where they stand below the floor
  pub record Below (floor : ℕ) (x : Chains) : Type 0 where
    pub go : CanGo x
    pub few : (z : ℕ) → at_addr z all ≤ at_addr z (rest x) + 1
    pub same : (z : ℕ) → floor ≤ z → at_addr z all ≡ at_addr z (rest x)

  pub apart_start : (x : Chains) → CanGo x → rest x ≡ all → Apart x
  apart_start x g e = record { go = g; few = λ z. omega (arith, ap (at_addr z) e); same = λ z h. sym (ap (at_addr z) e) }

  pub below_start : (x : Chains) → CanGo x → rest x ≡ all → Below 0 x
  below_start x g e = record { go = g; few = λ z. omega (arith, ap (at_addr z) e); same = λ z h. sym (ap (at_addr z) e) }

module _ (x : Chains) (e : rest x ≡ []) where
  done : (z : ℕ) → at_addr z (rest x) ≡ 0
  done z = ap (at_addr z) e ∙ at-nil z

  pub unmet_end : (t : Chain) (first : Chains) → Unmet t first x → Meet false (sections_in t) (rest first)
  unmet_end t first h = λ z l. sym (h z l) ∙ done z

  pub apart_end : (all : List FreeSection) → Apart all x → false ≡ repeats all
  apart_end all p = repeats-not all (λ z. omega (arith, p.few z, done z))

  pub below_end : (all : List FreeSection) (floor : ℕ) → Below all floor x → repeats all ≡ false
  below_end all floor p = sym (repeats-not all (λ z. omega (arith, p.few z, done z)))

module _ (x : Chains) (u : Chain) (y : Chains) (w : Taking x u y) (g : CanGo x) where
  parts : (z : ℕ) → at_addr z (rest x) ≡ at_addr z (sections_in u) + at_addr z (rest y)
  parts z = take_by x u y w g (at_addr z) (at-sorted z) ∙ at-append z (sections_in u) (rest y)

  module _ (t : Chain) (first : Chains) (h : Unmet t first x) (r : Bool) (m : Meet r (sections_in t) (sections_in u)) where
    pub unmet_found : r ≡ true → Meet true (sections_in t) (rest first)
    unmet_found e =
        let q = meet_yes (sections_in t) (sections_in u) r m e in
        record { addr = q.addr; first = q.first; second = omega (arith, h q.addr q.first, parts q.addr, q.second) }

    pub unmet_step : r ≡ false → Unmet t first y
    unmet_step e = λ z l. omega (arith, meet_no (sections_in t) (sections_in u) r m e z l, parts z, h z l)

module _ (all : List FreeSection) (x : Chains) (u : Chain) (y : Chains) (w : Taking x u y) where
  module _ (p : Apart all x) (r : Bool) (m : Meet r (sections_in u) (rest y)) where
    pub apart_found : r ≡ true → true ≡ repeats all
    apart_found e =
        let q = meet_yes (sections_in u) (rest y) r m e in
        let parts-q = parts x u y w p.go q.addr in
        let l : 0 < at_addr q.addr (rest x) = omega (arith, parts-q, q.first) in
        repeats_yes all q.addr (omega (arith, parts-q, q.first, q.second, p.same q.addr l))

    pub apart_step : r ≡ false → Apart all y
    apart_step e = record { go = w.goes p.go; few = few_then; same = same_then }
      where
        apart : (z : ℕ) → 0 < at_addr z (sections_in u) → at_addr z (rest y) ≡ 0
        apart = meet_no (sections_in u) (rest y) r m e

        few_then : (z : ℕ) → at_addr z all ≤ at_addr z (rest y) + 1
        few_then z =
            let parts-z = parts x u y w p.go z in
            ⊎_elim
            (λ (k : at_addr z (sections_in u) ≤ 0). omega (arith, parts-z, p.few z))
            (λ (k : 0 < at_addr z (sections_in u)). let l : 0 < at_addr z (rest x) = omega (arith, parts-z) in omega (arith, parts-z, apart z k, p.same z l, once x.source.page u p.go.some w.pages z))
            (le-or-lt (at_addr z (sections_in u)) 0)

        same_then : (z : ℕ) → 0 < at_addr z (rest y) → at_addr z all ≡ at_addr z (rest y)
        same_then z l =
            let parts-z = parts x u y w p.go z in
            ⊎_elim
            (λ (k : at_addr z (sections_in u) ≤ 0). let v : 0 < at_addr z (rest x) = omega (arith, parts-z) in omega (arith, parts-z, p.same z v))
            (λ (k : 0 < at_addr z (sections_in u)). absurd (omega (arith, apart z k)))
            (le-or-lt (at_addr z (sections_in u)) 0)

  module _ (floor : ℕ) (p : Below all floor x) where
    rise : (f : ℕ) → Raised floor u (Some f) → Below all f y
    rise f q = record { go = w.goes p.go; few = few_then; same = same_then }
      where
        few_then : (z : ℕ) → at_addr z all ≤ at_addr z (rest y) + 1
        few_then z =
            let parts-z = parts x u y w p.go z in
            ⊎_elim
            (λ (k : at_addr z (sections_in u) ≤ 0). omega (arith, parts-z, p.few z))
            (λ (k : 0 < at_addr z (sections_in u)). omega (arith, parts-z, p.same z (q.1 z k).0, once x.source.page u p.go.some w.pages z))
            (le-or-lt (at_addr z (sections_in u)) 0)

        same_then : (z : ℕ) → f ≤ z → at_addr z all ≡ at_addr z (rest y)
        same_then z l =
            let parts-z = parts x u y w p.go z in
            ⊎_elim
            (λ (k : at_addr z (sections_in u) ≤ 0). omega (arith, parts-z, p.same z (omega (arith, q.0))))
            (λ (k : 0 < at_addr z (sections_in u)). absurd (omega (arith, (q.1 z k).1)))
            (le-or-lt (at_addr z (sections_in u)) 0)

    pub below_step : (f : ℕ) → (r : (Option ℕ)) → Raised floor u r → r ≡ Some f → Below all f y
    below_step f r h e = rise f (subst (λ (v : (Option ℕ)). Raised floor u v) e h)
