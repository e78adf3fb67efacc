-- Addresses of sections: how many sections have one, whether two sections do, and the addresses of a chain. Assumes nothing.
use mathlib.Core.Path.{◌≡◌, refl, sym, ap, ◌∙◌, subst}
use mathlib.Core.Logic.{◌⊎◌, inl, inr, ⊎_elim}
use Prim.Native.Nat.{ℕ, zero, suc, ◌+◌, ◌-◌, ◌*◌, ◌/◌, ◌%◌, ◌≤◌, ◌<◌}
use native.Mathlib.Nat.{add-mul, div-add-mod', mul-mod_left, mul-div_cancel}
use native.Mathlib.Omega.{arith}
use mathlib.Core.Bool.{Bool, true, false, cond}
use mathlib.Core.List.{List, [], ◌∷◌, ◌++◌}
use lib.Dec.{ltb, eqb}
use borrow.Author.Tests.{ltb-true, ltb-false, eqb-true, lt-ltb, le-ltb, eq-eqb, ne_eqb}
use Rattle.error.proofs.TestLaws.{le-or-lt, or_false}
use Rattle.fsm_sections.specs.declared.FreeSection.{FreeSection}
use Rattle.fsm_sections.specs.declared.Chain.{Chain}
use Rattle.fsm_sections.specs.Sections.{by_size_then_addr}
use Rattle.fsm_sections.specs.Chains.{sections_in, chain}
use Rattle.fsm_sections.proofs.PassLaws.{by_order}
use Rattle.fsm_plan.specs.Order.{at_addr, repeats, Meet, Alike}

-- ---- how many sections have an address

pub at-append : (a : ℕ) (l m : List FreeSection) → at_addr a (l ++ m) ≡ at_addr a l + at_addr a m
unfolding at_addr
at-append a [] m = omega arith
at-append a (s ∷ l) m = omega (arith, at-append a l m)

pub at-sorted : (a : ℕ) (l : List FreeSection) → at_addr a (by_size_then_addr l) ≡ at_addr a l
unfolding at_addr
at-sorted a = by_order (at_addr a) (λ s l m e. ap (λ (n : ℕ). cond (eqb a s.addr) 1 0 + n) e) (λ s t l. omega arith)

at_self : (s : FreeSection) (l : List FreeSection) → at_addr s.addr (s ∷ l) ≡ 1 + at_addr s.addr l
unfolding at_addr
at_self s l = rw (eq-eqb s.addr s.addr refl)

at-fewer : (a : ℕ) (s : FreeSection) (l : List FreeSection) → at_addr a (s ∷ l) ≤ 1 → at_addr a l ≤ 1
unfolding at_addr
at-fewer a s l h = omega arith

-- ---- two sections with one address

pub repeats_no : (l : List FreeSection) → repeats l ≡ false → (a : ℕ) → at_addr a l ≤ 1
unfolding repeats at_addr
repeats_no [] e a = omega arith
repeats_no (s ∷ l) e a = let p = or_false (ltb 0 (at_addr s.addr l)) (repeats l) e in pick (eqb a s.addr) (eqb-true a s.addr) (ltb-false 0 (at_addr s.addr l) p.0) (repeats_no l p.1 a)
  where
    pick : (t : Bool) → (t ≡ true → a ≡ s.addr) → at_addr s.addr l ≤ 0 → at_addr a l ≤ 1 → cond t 1 0 + at_addr a l ≤ 1
    pick true f q r = let z : at_addr a l ≡ at_addr s.addr l = ap (λ (x : ℕ). at_addr x l) (f refl) in omega arith
    pick false f q r = omega arith

pub repeats-not : (l : List FreeSection) → ((a : ℕ) → at_addr a l ≤ 1) → false ≡ repeats l
unfolding repeats
repeats-not [] h = refl
repeats-not (s ∷ l) h =
    let q : at_addr s.addr l ≤ 0 = omega (arith, at_self s l, h s.addr) in
    sym (rw (le-ltb 0 (at_addr s.addr l) q) (sym (repeats-not l (λ a. at-fewer a s l (h a)))))

pub repeats_yes : (l : List FreeSection) (a : ℕ) → 2 ≤ at_addr a l → true ≡ repeats l
repeats_yes l a h = go (repeats l) refl
  where
    go : (t : Bool) → repeats l ≡ t → true ≡ t
    go true e = refl
    go false e = absurd (omega (arith, repeats_no l e a))

-- ---- the addresses of a chain

pub at_none : (x a z c : ℕ) → ((i : ℕ) → i < c → x ≡ a + i * z → ⊥) → at_addr x (chain a z c) ≡ 0
unfolding at_addr chain
at_none x a z zero f = refl
at_none x a z (suc c) f =
    rw (ne_eqb x a (λ e. f 0 (omega arith) (omega arith)))
    (omega (arith, at_none x (a + z) z c (λ i h e. f (suc i) (omega arith) (omega arith))))

pub at_some : (a z c i : ℕ) → i < c → 0 < at_addr (a + i * z) (chain a z c)
unfolding at_addr chain
at_some a z zero i h = absurd (omega arith)
at_some a z (suc c) zero h = let e : a + 0 * z ≡ a = omega arith in rw (e, eq-eqb a a refl) (omega arith)
at_some a z (suc c) (suc i) h =
    let e : a + z + i * z ≡ a + suc i * z = omega arith in
    subst (λ (x : ℕ). 0 < at_addr x (chain a z (suc c))) e (omega (arith, at_some (a + z) z c i (omega arith)))

-- the place of an address
pub record Index (x a z c : ℕ) : Type 0 where
  pub index : ℕ
  pub below : index < c
  pub is : x ≡ a + index * z

pub at-index : (x a z c : ℕ) → 0 < at_addr x (chain a z c) → Index x a z c
unfolding at_addr chain
at-index x a z zero h = absurd (omega arith)
at-index x a z (suc c) h = pick (eqb x a) (eqb-true x a) (at-index x (a + z) z c) h
  where
    pick : (t : Bool) → (t ≡ true → x ≡ a) → (0 < at_addr x (chain (a + z) z c) → Index x (a + z) z c) → 0 < cond t 1 0 + at_addr x (chain (a + z) z c) → Index x a z (suc c)
    pick true f ih k = let e : x ≡ a = f refl in record { index = 0; below = omega arith; is = omega arith }
    pick false f ih k = let r = ih (omega arith) in record { index = suc r.index; below = omega (arith, r.below); is = omega (arith, r.is) }

pub at_once : (x a z c : ℕ) → (c ≤ 1) ⊎ (0 < z) → at_addr x (chain a z c) ≤ 1
unfolding at_addr chain
at_once x a z zero h = omega arith
at_once x a z (suc c) h =
    pick (eqb x a) (eqb-true x a) (at_once x (a + z) z c (⊎_elim (λ (k : suc c ≤ 1). inl (omega arith)) (λ (k : 0 < z). inr k) h)) h
  where
    pick : (t : Bool) → (t ≡ true → x ≡ a) → at_addr x (chain (a + z) z c) ≤ 1 → (suc c ≤ 1) ⊎ (0 < z) → cond t 1 0 + at_addr x (chain (a + z) z c) ≤ 1
    pick true f ih (inl k) = omega (arith, at_none x (a + z) z c (λ i l e. absurd (omega arith)))
    pick true f ih (inr k) = let e : x ≡ a = f refl in omega (arith, at_none x (a + z) z c (λ i l q. absurd (omega arith)))
    pick false f ih k = omega arith

-- ---- whether a chain has an address, by the branches of the code

module _ (first step count addr : ℕ) where
  abbrev has : Bool
  has = ltb 0 (at_addr addr (chain first step count))

  no : ((i : ℕ) → i < count → addr ≡ first + i * step → ⊥) → false ≡ has
  no f = sym (le-ltb 0 (at_addr addr (chain first step count)) (omega (arith, at_none addr first step count f)))

  yes : (i : ℕ) → i < count → addr ≡ first + i * step → true ≡ has
  yes i h e = let p : 0 < at_addr addr (chain first step count) = rw e (at_some first step count i h) in sym (lt-ltb 0 (at_addr addr (chain first step count)) p)

  pub holds-none : count ≡ 0 → false ≡ has
  holds-none e = no (λ i h q. omega arith)

  pub holds-below : addr < first → false ≡ has
  holds-below l = no (λ i h q. omega arith)

  module _ (some : count ≡ 0 → ⊥) (low : first ≤ addr) where
    pub holds-first : addr - first ≡ 0 → true ≡ has
    holds-first e = yes 0 (omega arith) (omega arith)

    module _ (far : addr - first ≡ 0 → ⊥) where
      pub holds_still : step ≡ 0 → false ≡ has
      holds_still z = no (λ i h q. let w : i * step ≡ i * 0 = ap (λ (n : ℕ). i * n) z in omega arith)

      module _ (steps : step ≡ 0 → ⊥) where
        pub holds-between : ((addr - first) % step ≡ 0 → ⊥) → false ≡ has
        holds-between n = no (λ i h q. let v : addr - first ≡ i * step = omega arith in n (ap (λ (m : ℕ). m % step) v ∙ mul-mod_left i step))

        pub holds-last : (addr - first) % step ≡ 0 → ltb ((addr - first) / step) count ≡ has
        holds-last m = ⊎_elim out within (le-or-lt count ((addr - first) / step))
          where
            out : count ≤ (addr - first) / step → ltb ((addr - first) / step) count ≡ has
            out k =
                le-ltb _ _ k
                ∙ no (λ i h q. let v : addr - first ≡ i * step = omega arith in
                let y : (addr - first) / step ≡ i = ap (λ (n : ℕ). n / step) v ∙ mul-div_cancel i (omega arith) in omega arith)

            within : (addr - first) / step < count → ltb ((addr - first) / step) count ≡ has
            within k = lt-ltb _ _ k ∙ yes ((addr - first) / step) k (omega (arith, div-add-mod' (addr - first) step))

-- ---- whether two chains share an address

module _ (t u : Chain) where
  pub apart-left : t.count ≡ 0 → Meet false (sections_in t) (sections_in u)
  apart-left e = λ a h. absurd (omega (arith, at_none a t.addr t.size t.count (λ i l q. absurd (omega arith))))

  pub apart_right : u.count ≡ 0 → Meet false (sections_in t) (sections_in u)
  apart_right e = λ a h. at_none a u.addr u.size u.count (λ i l q. absurd (omega arith))

  own : (v : Chain) → (v.count ≡ 0 → ⊥) → 0 < at_addr v.addr (sections_in v)
  own v n = let e : v.addr + 0 * v.size ≡ v.addr = omega arith in subst (λ (x : ℕ). 0 < at_addr x (sections_in v)) e (at_some v.addr v.size v.count 0 (omega arith))

  module _ (nt : t.count ≡ 0 → ⊥) (nu : u.count ≡ 0 → ⊥) (r : Bool) (re : r ≡ ltb 0 (at_addr u.addr (sections_in t))) where
    pub meet_first : r ≡ true → Meet true (sections_in t) (sections_in u)
    meet_first h = record { addr = u.addr; first = ltb-true 0 _ (sym re ∙ h); second = own u nu }

    pub meet_second : r ≡ false → Alike t u → (q : Bool) → q ≡ ltb 0 (at_addr t.addr (sections_in u)) → Meet q (sections_in t) (sections_in u)
    meet_second h k true e = record { addr = t.addr; first = own t nt; second = ltb-true 0 _ (sym e) }
    meet_second h k false e = λ a l.
        ⊎_elim (λ (x : at_addr a (sections_in u) ≤ 0). omega arith)
        (λ (x : 0 < at_addr a (sections_in u)). absurd (both a (at-index a t.addr t.size t.count l) (at-index a u.addr u.size u.count x) k))
        (le-or-lt (at_addr a (sections_in u)) 0)
      where
        not_t : at_addr u.addr (sections_in t) ≤ 0
        not_t = ltb-false 0 _ (sym re ∙ h)

        not_u : at_addr t.addr (sections_in u) ≤ 0
        not_u = ltb-false 0 _ (sym e)

        in_t : (i : ℕ) → i < t.count → u.addr ≡ t.addr + i * t.size → ⊥
        in_t i b q =
            let z : at_addr u.addr (sections_in t) ≡ at_addr (t.addr + i * t.size) (sections_in t) = ap (λ (x : ℕ). at_addr x (sections_in t)) q in
            omega (arith, not_t, at_some t.addr t.size t.count i b)

        in_u : (i : ℕ) → i < u.count → t.addr ≡ u.addr + i * u.size → ⊥
        in_u i b q =
            let z : at_addr t.addr (sections_in u) ≡ at_addr (u.addr + i * u.size) (sections_in u) = ap (λ (x : ℕ). at_addr x (sections_in u)) q in
            omega (arith, not_u, at_some u.addr u.size u.count i b)

        split : (i j z : ℕ) → j ≤ i → i * z ≡ (i - j) * z + j * z
        split i j z h = let w : i ≡ (i - j) + j = omega arith in ap (λ (n : ℕ). n * z) w ∙ add-mul (i - j) j z

        both : (a : ℕ) → Index a t.addr t.size t.count → Index a u.addr u.size u.count → Alike t u → ⊥
        both a p q (inl one) =
            let z : p.index ≡ 0 = omega (arith, p.below) in
            let w : p.index * t.size ≡ 0 * t.size = ap (λ (n : ℕ). n * t.size) z in
            in_u q.index q.below (omega (arith, p.is, q.is))
        both a p q (inr (inl one)) =
            let z : q.index ≡ 0 = omega (arith, q.below) in
            let w : q.index * u.size ≡ 0 * u.size = ap (λ (n : ℕ). n * u.size) z in
            in_t p.index p.below (omega (arith, p.is, q.is))
        both a p q (inr (inr same)) = ⊎_elim low high (le-or-lt q.index p.index)
          where
            low : q.index ≤ p.index → ⊥
            low l =
                let w : q.index * u.size ≡ q.index * t.size = ap (λ (n : ℕ). q.index * n) (sym same) in
                in_t (p.index - q.index) (omega (arith, p.below)) (omega (arith, p.is, q.is, split p.index q.index t.size l))

            high : p.index < q.index → ⊥
            high l =
                let w : p.index * t.size ≡ p.index * u.size = ap (λ (n : ℕ). p.index * n) same in
                in_u (q.index - p.index) (omega (arith, q.below)) (omega (arith, p.is, q.is, split q.index p.index u.size (omega arith)))
