-- What `take_range` does to the set of free bytes, and when a change leaves a region more than there was. Assumes nothing.
--   Grows   a list has a region more than another, exactly where something holds
use mathlib.Core.Path.{◌≡◌, refl, sym, ap, ap₂, ◌∙◌, subst}
use mathlib.Core.List.{List, [], ◌∷◌, ◌++◌}
use mathlib.Core.Bool.{Bool, true, false, cond}
use mathlib.Core.Logic.{◌⊎◌, inl, inr, ⊎_elim, ◌↔◌}
use Prim.Native.Nat.{ℕ, zero, suc, ◌+◌, ◌-◌, ◌≤◌, ◌<◌, min, max}
use native.Mathlib.Nat.{not-suc-le-zero, le_of_suc-le-suc}
use native.Mathlib.Omega.{arith}
use borrow.Author.Tests.{eq-eqb, ne_eqb, eqb-true, eqb-false, leb-true, leb-false, ltb-true, ltb-false}
use lib.Dec.{eqb, leb, ltb}
use lib.ListN.{length, get_or, length-append}
use Rattle.error.proofs.TestLaws.{le-or-lt}
use Rattle.free_regions.specs.declared.FreeRegion.{FreeRegion}
use Rattle.free_regions.specs.Regions.{region, end, In, Free, join, absorb, insert, piece, cut, cut_all, around, spliced}
use Rattle.free_regions.specs.Sets.{Between, Removes, TouchesNone, StrictlyInside}
use Rattle.free_regions.proofs.OkLaws.{Within}
use Rattle.free_regions.proofs.SetLaws.{piece-within, piece-free, append-within, free-append, within_low}

-- ---- the set

pub piece-none : (a len : ℕ) → len ≡ 0 → piece a len ≡ []
piece-none a len e = rw (eq-eqb len 0 e)

pub piece-some : (a len : ℕ) → (len ≡ 0 → ⊥) → piece a len ≡ region a len ∷ []
piece-some a len h = rw (ne_eqb len 0 h)

-- a region that lies above the range, or below it, stays
cut-above : (a e : ℕ) (r : FreeRegion) → a ≤ e → 0 < r.len → e ≤ r.addr → cut a e r ≡ r ∷ []
cut-above a e r h s k =
    let f : min (end r) a - r.addr ≡ 0 = omega arith in
    let m : max e r.addr ≡ r.addr = omega arith in
    let b : end r - r.addr ≡ r.len = omega arith in
    ap₂ (λ (p q : List FreeRegion). p ++ q) (piece-none r.addr (min (end r) a - r.addr) f)
    (ap (λ (x : ℕ). piece x (end r - x)) m ∙ ap (piece r.addr) b ∙ piece-some r.addr r.len (λ z. absurd (omega arith)))

cut_below : (a e : ℕ) (r : FreeRegion) → a ≤ e → 0 < r.len → end r ≤ a → cut a e r ≡ r ∷ []
cut_below a e r h s k =
    let f : min (end r) a - r.addr ≡ r.len = omega arith in
    let b : end r - max e r.addr ≡ 0 = omega arith in
    ap₂ (λ (p q : List FreeRegion). p ++ q) (ap (piece r.addr) f ∙ piece-some r.addr r.len (λ z. absurd (omega arith))) (piece-none (max e r.addr) (end r - max e r.addr) b)

module _ (a e : ℕ) (h : a < e) where
  cut-within : (r : FreeRegion) → 0 < r.len → Within r.addr (end r) (cut a e r)
  cut-within r s = ⊎_elim
      (λ k. subst (Within r.addr (end r)) (sym (cut-above a e r (omega arith) s k)) (s, omega arith, omega arith, tt))
      (λ k. append-within r.addr (r.addr + (min (end r) a - r.addr)) (end r) (piece r.addr (min (end r) a - r.addr)) (piece (max e r.addr) (end r - max e r.addr))
      (piece-within r.addr (r.addr + (min (end r) a - r.addr)) r.addr (min (end r) a - r.addr) (omega arith) (omega arith))
      (back k) (omega arith) (omega arith))
      (le-or-lt e r.addr)
    where
      -- which may be empty, and then lies anywhere
      back : r.addr < e → Within (suc (r.addr + (min (end r) a - r.addr))) (end r) (piece (max e r.addr) (end r - max e r.addr))
      back k = ⊎_elim
          (λ q. piece-within (suc (r.addr + (min (end r) a - r.addr))) (end r) (max e r.addr) (end r - max e r.addr) (omega arith) (omega arith))
          (λ q. subst (Within (suc (r.addr + (min (end r) a - r.addr))) (end r)) (sym (piece-none (max e r.addr) (end r - max e r.addr) (omega arith))) tt)
          (le-or-lt (max e r.addr) (end r))

  cut-free : (x : ℕ) (r : FreeRegion) → Free (cut a e r) x ↔ (In r x × (Between a e x → ⊥))
  cut-free x r =
      let f = piece-free r.addr (min (end r) a - r.addr) x in
      let b = piece-free (max e r.addr) (end r - max e r.addr) x in
      let j = free-append x (piece r.addr (min (end r) a - r.addr)) (piece (max e r.addr) (end r - max e r.addr)) in (
        λ g. ⊎_elim (λ u. let p = f.0 u in ((omega arith, omega arith), λ v. omega arith)) (λ u. let p = b.0 u in ((omega arith, omega arith), λ v. omega arith)) (j.0 g),
        λ p. ⊎_elim (λ q. ⊎_elim (λ t. j.1 (inr (b.1 (omega arith)))) (λ t. absurd (p.1 (q, t))) (le-or-lt e x)) (λ q. j.1 (inl (f.1 (omega arith)))) (le-or-lt a x),
      )

  pub cut-all-within : (low high : ℕ) (rs : List FreeRegion) → Within low high rs → Within low high (cut_all a e rs)
  cut-all-within low high [] w = tt
  cut-all-within low high (r ∷ rs) w =
      within_low r.addr low high (cut a e r ++ cut_all a e rs)
      (append-within r.addr (end r) high (cut a e r) (cut_all a e rs) (cut-within r w.0) (cut-all-within (suc (end r)) high rs w.3) (omega arith) w.1)
      w.2

  pub cut-all-free : (rs : List FreeRegion) → Removes a e rs (cut_all a e rs)
  cut-all-free [] x = (λ f. absurd f, λ p. p.0)
  cut-all-free (r ∷ rs) x =
      let c = cut-free x r in
      let ih = cut-all-free rs x in
      let j = free-append x (cut a e r) (cut_all a e rs) in (
        λ f. ⊎_elim (λ g. let p = c.0 g in (inl p.0, p.1)) (λ g. let p = ih.0 g in (inr p.0, p.1)) (j.0 f),
        λ p. ⊎_elim (λ t. j.1 (inl (c.1 (t, p.1)))) (λ t. j.1 (inr (ih.1 (t, p.1)))) p.0,
      )

-- ---- how many regions are left

-- P where there is one region more, and not P where there is none more
abbrev pub Grows : List FreeRegion → List FreeRegion → Type 0 → Type 0
Grows rs ss P = ((length ss ≤ length rs) × (P → ⊥)) ⊎ ((length ss ≡ suc (length rs)) × P)

piece-long : (a len : ℕ) → ((length (piece a len) ≡ 0) × (len ≡ 0)) ⊎ ((length (piece a len) ≡ 1) × (0 < len))
piece-long a len = go (eqb len 0) refl
  where
    go : (b : Bool) → eqb len 0 ≡ b → ((length (cond b [] (region a len ∷ [])) ≡ 0) × (len ≡ 0)) ⊎ ((length (cond b [] (region a len ∷ [])) ≡ 1) × (0 < len))
    go true t = inl (refl, eqb-true len 0 t)
    go false t = let n : len ≡ 0 → ⊥ = eqb-false len 0 t in inr (refl, omega arith)

-- two pieces side by side: two regions where neither is empty
pieces-long : (a m b n : ℕ) → ((length (piece a m ++ piece b n) ≤ 1) × ((0 < m) × (0 < n) → ⊥)) ⊎ ((length (piece a m ++ piece b n) ≡ 2) × (0 < m) × (0 < n))
pieces-long a m b n =
    let s : length (piece a m ++ piece b n) ≡ length (piece a m) + length (piece b n) = length-append (piece a m) (piece b n) in
    ⊎_elim
    (λ p. ⊎_elim (λ q. inl (omega arith, λ t. omega arith)) (λ q. inl (omega arith, λ t. omega arith)) (piece-long b n))
    (λ p. ⊎_elim (λ q. inl (omega arith, λ t. omega arith)) (λ q. inr (omega arith, p.1, q.1)) (piece-long b n))
    (piece-long a m)

-- one region replaced
spliced_long : (i : ℕ) (rs new : List FreeRegion) → i < length rs → suc (length (spliced rs i (suc i) new)) ≡ length new + length rs
spliced_long i [] new l = absurd (not-suc-le-zero l)
spliced_long zero (r ∷ rs) new l = omega (arith, length-append new rs)
spliced_long (suc i) (r ∷ rs) new l = omega (arith, spliced_long i rs new (le_of_suc-le-suc l))

pub dropped_long : (i : ℕ) (rs : List FreeRegion) → i < length rs → length (spliced rs i (suc i) []) ≤ length rs
dropped_long i rs l = omega (arith, spliced_long i rs [] l)

-- an allocation: bytes are left on both sides of it
pub taken-long : (i start len : ℕ) (rs : List FreeRegion) (d : FreeRegion) → i < length rs
    → Grows rs (spliced rs i (suc i) (around (get_or rs i d) start len)) (((get_or rs i d).addr < start) × (start + len < end (get_or rs i d)))
taken-long i start len rs d l =
    let r = get_or rs i d in
    let n = spliced_long i rs (around r start len) l in
    ⊎_elim (λ p. inl (omega arith, λ t. p.1 (omega arith, omega arith))) (λ p. inr (omega arith, (omega arith, omega arith)))
    (pieces-long r.addr (start - r.addr) (start + len) (end r - (start + len)))

strict_low : (a e low high : ℕ) (rs : List FreeRegion) → Within low high rs → StrictlyInside a e rs → low < a
strict_low a e low high [] w t = absurd t
strict_low a e low high (r ∷ rs) w (inl t) = omega arith
strict_low a e low high (r ∷ rs) w (inr t) = let q = strict_low a e (suc (end r)) high rs w.3 t in omega arith

module _ (a e : ℕ) (h : a < e) where
  cut-long : (r : FreeRegion) → 0 < r.len
      → ((length (cut a e r) ≤ 1) × ((r.addr < a) × (e < end r) → ⊥)) ⊎ ((length (cut a e r) ≡ 2) × (r.addr < a) × (e < end r))
  cut-long r s = ⊎_elim
      (λ p. inl (p.0, λ t. p.1 (omega arith, omega arith)))
      (λ p. inr (p.0, omega arith, omega arith))
      (pieces-long r.addr (min (end r) a - r.addr) (max e r.addr) (end r - max e r.addr))

  pub cut-all-long : (low high : ℕ) (rs : List FreeRegion) → Within low high rs → Grows rs (cut_all a e rs) (StrictlyInside a e rs)
  cut-all-long low high [] w = inl (omega arith, λ t. t)
  cut-all-long low high (r ∷ rs) w =
      let s : length (cut a e r ++ cut_all a e rs) ≡ length (cut a e r) + length (cut_all a e rs) = length-append (cut a e r) (cut_all a e rs) in
      ⊎_elim
      (λ p. ⊎_elim
      (λ q. inl (omega arith, ⊎_elim p.1 q.1))
      (λ q.
      let k = strict_low a e (suc (end r)) high rs w.3 q.1 in
      inr (omega (arith, s, q.0, ap length (cut_below a e r (omega arith) w.0 (omega arith))), inr q.1))
      (cut-all-long (suc (end r)) high rs w.3))
      (λ p. inr (omega (arith, s, p.0, ap length (all_above (suc (end r)) rs w.3 (omega arith))), inl (p.1, p.2)))
      (cut-long r w.0)
    where
      all_above : (low : ℕ) (rs : List FreeRegion) → Within low high rs → e ≤ low → cut_all a e rs ≡ rs
      all_above low [] w k = refl
      all_above low (r ∷ rs) w k =
          ap₂ (λ (p q : List FreeRegion). p ++ q) (cut-above a e r (omega arith) w.0 (omega arith)) (all_above (suc (end r)) rs w.3 (omega arith))

apart_above : (a e low high : ℕ) (rs : List FreeRegion) → Within low high rs → e < low → TouchesNone a e rs
apart_above a e low high [] w h = tt
apart_above a e low high (r ∷ rs) w h = (inr (omega arith), apart_above a e (suc (end r)) high rs w.3 (omega arith))

absorb-long : (m : FreeRegion) (rs : List FreeRegion) → length (absorb m rs) ≤ suc (length rs)
absorb-long m [] = omega arith
absorb-long m (r ∷ rs) = go (leb r.addr (end m)) (absorb-long (join m r) rs)
  where
    go : (b : Bool) → length (absorb (join m r) rs) ≤ suc (length rs) → length (cond b (absorb (join m r) rs) (m ∷ r ∷ rs)) ≤ suc (suc (length rs))
    go true ih = omega arith
    go false ih = omega arith

pub insert-long : (low high : ℕ) (new : FreeRegion) (rs : List FreeRegion) → Within low high rs → Grows rs (insert new rs) (TouchesNone new.addr (end new) rs)
insert-long low high new [] w = inr (refl, tt)
insert-long low high new (r ∷ rs) w = below (ltb (end r) new.addr) refl (insert-long (suc (end r)) high new rs w.3)
  where
    P : Type 0
    P = TouchesNone new.addr (end new) rs

    Q : Type 0
    Q = ((end r < new.addr) ⊎ (end new < r.addr)) × P

    touches : (b : Bool) → leb r.addr (end new) ≡ b → new.addr ≤ end r → Grows (r ∷ rs) (cond b (absorb (join new r) rs) (new ∷ r ∷ rs)) Q
    touches true t h =
        let k : r.addr ≤ end new = leb-true r.addr (end new) t in
        inl (absorb-long (join new r) rs, λ q. ⊎_elim (λ u. omega arith) (λ u. omega arith) q.0)
    touches false t h =
        let k : end new < r.addr = leb-false r.addr (end new) t in
        inr (refl, (inr k, apart_above new.addr (end new) (suc (end r)) high rs w.3 (omega arith)))

    below : (b : Bool) → ltb (end r) new.addr ≡ b → Grows rs (insert new rs) P → Grows (r ∷ rs) (cond b (r ∷ insert new rs) (absorb new (r ∷ rs))) Q
    below true t ih =
        let k : end r < new.addr = ltb-true (end r) new.addr t in
        ⊎_elim (λ p. inl (omega arith, λ q. p.1 q.1)) (λ p. inr (omega arith, (inl k, p.1))) ih
    below false t ih = touches (leb r.addr (end new)) refl (ltb-false (end r) new.addr t)
