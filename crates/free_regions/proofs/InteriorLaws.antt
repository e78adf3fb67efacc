-- Laws of a region's end and of its aligned interior: the cases of the definitions, in the code's terms. Assumes nothing.
--   start_of, span_of   where an interior begins, and its bytes; 0 where there is none
use mathlib.Core.Path.{◌≡◌, refl, sym, ap, ap₂, ◌∙◌, subst}
use mathlib.Core.Bool.{Bool, true, false, cond}
use mathlib.Core.Logic.{◌⊎◌, inl, inr, ⊎_elim}
use Prim.Native.Nat.{ℕ, zero, suc, ◌+◌, ◌-◌, ◌*◌, ◌/◌, ◌%◌, ◌≤◌, ◌<◌}
use native.Mathlib.Nat.{div-add-mod', mul-mod_left, mul-le-mul_right, div-lt_iff_lt-mul, mod-lt, add-mod_right, le_of_suc-le-suc, not-suc-le-zero, suc-mul}
use native.Mathlib.Omega.{arith}
use borrow.Author.Tests.{eq-eqb, ne_eqb, eqb-true, eqb-false, le-ltb, ltb-true, ltb-false}
use lib.Dec.{eqb}
use Rattle.std.specs.Prelude.{Result, Option, Ok}
use Rattle.error.specs.Answers.{as_outcome, as_optional_outcome}
use Rattle.free_regions.specs.declared.Whole.{Whole}
use Rattle.error.specs.declared.Refusal.{Refusal}
use Rattle.error.specs.Outcome.{Outcome, answer, nothing, refuse, refused}
use Rattle.error.proofs.OutcomeLaws.{first_refuses, passes, first_answers}
use Rattle.error.proofs.EndsLaws.{answers, says_nothing, chosen, untested, tested}
use Rattle.error.proofs.TestLaws.{le-or-lt}
use Rattle.fields.specs.Ranges.{top, sum, first_multiple}
use Rattle.std.specs.Int.{next_multiple_of}
use Rattle.fields.proofs.RangeLaws.{next_first, first_ge}
use Rattle.free_regions.specs.declared.FreeRegion.{FreeRegion}
use Rattle.free_regions.specs.Regions.{end}
use Rattle.free_regions.specs.Units.{last_multiple, interior_start, interior_span, interior}
use Rattle.free_regions.specs.Sets.{FirstMultiple, LastMultiple, Inside, NoneInside, four, InteriorSays}

-- ---- what the answer for the end tells

module _ (r : FreeRegion) {o : (Result ℕ Refusal)} (a : as_outcome o ≡ sum r.addr r.len) where
  pub end_is : (e : ℕ) → o ≡ Ok e → (e ≡ end r) × (end r ≤ top)
  unfolding sum
  end_is e h =
      let s : sum r.addr r.len ≡ answer e = sym a ∙ ap as_outcome h in
      let p = first_answers _ (end r) e s in
      (sym p.1, ltb-false top (end r) p.0.0)

-- ---- multiples

-- the last multiple, by the remainder
last-is : (e u : ℕ) → last_multiple e u ≡ e - e % u
unfolding last_multiple
last-is e u = omega (arith, div-add-mod' e u)

-- the first multiple from a on is at most every multiple from a on
first-le : (a u e : ℕ) → 0 < u → a ≤ last_multiple e u → first_multiple a u ≤ last_multiple e u
unfolding first_multiple last_multiple
first-le a u e p h =
    let t : suc (e / u) * u ≡ e / u * u + u = suc-mul (e / u) u in
    mul-le-mul_right u (le_of_suc-le-suc ((div-lt_iff_lt-mul p).1 (omega arith)))

-- ---- the cases of the interior

whole : ℕ → ℕ → Outcome Whole
whole s n = cond (eqb n 0) nothing (answer (record { start = s; span = n }))

module _ (u : ℕ) (r : FreeRegion) where
  pub interior-over : (x : Refusal) → refused x ≡ sum r.addr r.len → refused x ≡ interior u r
  unfolding sum interior
  interior-over x h = first_refuses _ (end r) x _ h

  module _ (fits : end r ≤ top) where
    interior-whole : whole (interior_start u r) (interior_span u r) ≡ interior u r
    unfolding interior whole
    interior-whole = passes _ _ _ (le-ltb top (end r) fits)

    none : interior_span u r ≡ 0 → nothing ≡ interior u r
    unfolding whole
    none z = sym (ap (whole (interior_start u r)) z) ∙ interior-whole

    some : (s n : ℕ) → interior_start u r ≡ s → interior_span u r ≡ n → 0 < n → answer (record { start = s; span = n }) ≡ interior u r
    unfolding whole
    some s n p q l =
        let b : eqb n 0 ≡ false = ne_eqb n 0 (λ z. omega arith) in
        sym (ap (λ (t : Bool). cond t nothing (answer (record { start = s; span = n }))) b) ∙ sym (ap₂ whole p q) ∙ interior-whole

    pub interior-zero : u ≡ 0 → nothing ≡ interior u r
    interior-zero z = none (rw (eq-eqb u 0 z))

    -- e is the code's end, and e - e % u its last multiple
    module _ (e : ℕ) (is : e ≡ end r) (n : u ≡ 0 → ⊥) where
      pos : 0 < u
      pos = omega arith

      last : last_multiple (end r) u ≡ e - e % u
      last = last-is (end r) u ∙ ap (λ (x : ℕ). x - x % u) (sym is)

      span : (s : ℕ) → interior_start u r ≡ s → interior_span u r ≡ e - e % u - s
      span s f = rw (ne_eqb u 0 n) (ap₂ (λ (x y : ℕ). x - y) last f)

      pub interior-low : e - e % u ≤ r.addr → nothing ≡ interior u r
      interior-low h = none (span (interior_start u r) refl ∙ omega (arith, first_ge r.addr u pos))

      -- s is the first multiple, as std gives it
      module _ (s : ℕ) (first : s ≡ next_multiple_of r.addr u) where
        start : interior_start u r ≡ s
        start = sym (first ∙ next_first r.addr u n)

        pub interior-high : e - e % u ≤ s → nothing ≡ interior u r
        interior-high h = none (span s start ∙ omega arith)

        pub interior-is : s < e - e % u → answer (record { start = s; span = e - e % u - s }) ≡ interior u r
        interior-is h = some s (e - e % u - s) start (span s start) (omega arith)

      pub start-le : r.addr < e - e % u → next_multiple_of r.addr u ≤ e
      start-le h = omega (arith, last, next_first r.addr u n, first-le r.addr u (end r) pos (omega (arith, last)))

-- ---- what an answer tells of a region that ends within 64 bits

abbrev pub start_of : Outcome Whole → ℕ
start_of (answer w) = w.start
start_of nothing = 0
start_of (refuse n vs) = 0

abbrev pub span_of : Outcome Whole → ℕ
span_of (answer w) = w.span
span_of nothing = 0
span_of (refuse n vs) = 0

abbrev Tells : ℕ → FreeRegion → Outcome Whole → Type 0
Tells u r o = (span_of o ≡ interior_span u r) × (0 < span_of o → start_of o ≡ interior_start u r)

whole_tells : (s n : ℕ) → (span_of (whole s n) ≡ n) × (0 < span_of (whole s n) → start_of (whole s n) ≡ s)
unfolding whole
whole_tells s zero = (refl, λ h. absurd (not-suc-le-zero h))
whole_tells s (suc n) = rw (ne_eqb (suc n) 0 (λ z. omega arith)) (refl, λ h. refl)

-- x is the answer of the code
pub interior-tells : (u : ℕ) (r : FreeRegion) (o x : (Result (Option Whole) Refusal)) → end r ≤ top → as_optional_outcome o ≡ interior u r → o ≡ x → Tells u r (as_optional_outcome x)
interior-tells u r o x fits a h =
    let e : whole (interior_start u r) (interior_span u r) ≡ as_optional_outcome x = interior-whole u r fits ∙ sym a ∙ ap as_optional_outcome h in
    subst (Tells u r) e (whole_tells (interior_start u r) (interior_span u r))

-- ---- where an interior lies

-- the greater of two multiples is at least a unit above the other
unit-apart : (u m n : ℕ) → m % u ≡ 0 → n % u ≡ 0 → m < n → m + u ≤ n
unit-apart u m n e f h =
    let p = div-add-mod' m u in
    let q = div-add-mod' n u in
    ⊎_elim
    (λ (k : n / u ≤ m / u). let t : n / u * u ≤ m / u * u = mul-le-mul_right u k in absurd (omega arith))
    (λ (k : m / u < n / u). let t : suc (m / u) * u ≤ n / u * u = mul-le-mul_right u k in omega (arith, suc-mul (m / u) u))
    (le-or-lt (n / u) (m / u))

module _ (u : ℕ) (some : 0 < u) where
  pub first-multiple : (a : ℕ) → FirstMultiple u a (first_multiple a u)
  unfolding first_multiple
  first-multiple a = record { multiple = is; above = first_ge a u some; first = λ m z h. ⊎_elim (λ k. k) (λ k. absurd (omega (arith, near, unit-apart u m s z is k))) (le-or-lt s m) }
    where
      s : ℕ
      s = (a + (u - 1)) / u * u

      is : s % u ≡ 0
      is = mul-mod_left ((a + (u - 1)) / u) u

      near : s < a + u
      near = omega (arith, div-add-mod' (a + (u - 1)) u)

  pub last-multiple : (e : ℕ) → LastMultiple u e (last_multiple e u)
  unfolding last_multiple
  last-multiple e = record { multiple = is; below = omega (arith, all); last = λ m z h. ⊎_elim (λ k. k) (λ k. absurd (omega (arith, all, mod-lt e some, unit-apart u s m is z k))) (le-or-lt m s) }
    where
      s : ℕ
      s = e / u * u

      is : s % u ≡ 0
      is = mul-mod_left (e / u) u

      all : s + e % u ≡ e
      all = div-add-mod' e u

-- an interior that suffices lies within its region; unit 0 has none
pub interior-inside : (u len : ℕ) (r : FreeRegion) → 0 < len → len ≤ interior_span u r → (0 < u) × (interior_start u r + len ≤ end r)
interior-inside u len r some h = go (eqb u 0) refl h
  where
    go : (b : Bool) → eqb u 0 ≡ b → len ≤ cond b 0 (last_multiple (end r) u - interior_start u r) → (0 < u) × (interior_start u r + len ≤ end r)
    go true t k = absurd (omega arith)
    go false t k = let n : u ≡ 0 → ⊥ = eqb-false u 0 t in (omega arith, omega (arith, last-is (end r) u))

-- the units that the code finds in a region that suffices: they begin where the definition says, and the bytes lie within the region
pub units_serve : (u : ℕ) (r : FreeRegion) (len start span : ℕ) → 0 < len → len ≤ interior_span u r → span ≡ interior_span u r
    → (0 < span → start ≡ interior_start u r) → (start ≡ interior_start u r) × (start + len ≤ end r)
units_serve u r len start span some h is from =
    let at : start ≡ interior_start u r = from (omega (arith, h, is)) in
    (at, omega (arith, at, (interior-inside u len r some h).1))

-- ---- what pins `aligned_interior`

module _ (u : ℕ) (r : FreeRegion) where
  abbrev from : ℕ
  from = interior_start u r

  span-unit : (u ≡ 0 → ⊥) → interior_span u r ≡ last_multiple (end r) u - from
  span-unit n = rw (ne_eqb u 0 n)

  none_inside : end r ≤ top → interior_span u r ≡ 0 → NoneInside u r
  none_inside fits z = record { within = fits; none = go (eqb u 0) refl }
    where
      go : (b : Bool) → eqb u 0 ≡ b → (u ≡ 0) ⊎ ((m : ℕ) → m % u ≡ 0 → r.addr ≤ m → end r < m + u)
      go true t = inl (eqb-true u 0 t)
      go false t =
          let n : u ≡ 0 → ⊥ = eqb-false u 0 t in
          let some : 0 < u = omega arith in
          inr (λ m w h.
          let p : from ≤ m = (first-multiple u some r.addr).first m w h in
          ⊎_elim
          (λ (k : m + u ≤ end r). let q : m + u ≤ last_multiple (end r) u = (last-multiple u some (end r)).last (m + u) (add-mod_right m u ∙ w) k in
          absurd (omega (arith, z, span-unit n)))
          (λ k. k)
          (le-or-lt (m + u) (end r)))

  inside : end r ≤ top → (interior_span u r ≡ 0 → ⊥) → Inside u r (record { start = from; span = interior_span u r })
  inside fits n =
      let k : 0 < interior_span u r = omega arith in
      let p = interior-inside u (interior_span u r) r k (omega arith) in
      let some : 0 < u = p.0 in
      let e : from + interior_span u r ≡ last_multiple (end r) u = omega (arith, span-unit (λ z. omega arith)) in
      record {
        within = fits;
        unit = some;
        some = k;
        start = first-multiple u some r.addr;
        stop = subst (LastMultiple u (end r)) (sym e) (last-multiple u some (end r));
      }

  pub interior_law : InteriorSays u r
  unfolding interior
  interior_law = record {
    says = tested _ _ _ (λ t. four (ltb-true top (end r) t)) (λ o. let fits : end r ≤ top = ltb-false top (end r) o in
        untested _ (chosen (eqb (interior_span u r) 0) (λ z. says_nothing (none_inside fits (eqb-true (interior_span u r) 0 z)))
        (λ z. answers (inside fits (eqb-false (interior_span u r) 0 z)))));
  }
