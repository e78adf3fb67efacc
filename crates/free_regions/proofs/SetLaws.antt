-- What the list calls do to the set of free bytes: of `insert`, and of a region that gives way to regions within it. Assumes nothing.
use mathlib.Core.Path.{◌≡◌, refl}
use mathlib.Core.List.{List, [], ◌∷◌, ◌++◌}
use mathlib.Core.Bool.{Bool, true, false, cond}
use mathlib.Core.Logic.{◌⊎◌, inl, inr, ⊎_elim, ◌↔◌}
use Prim.Native.Nat.{ℕ, zero, suc, ◌+◌, ◌-◌, ◌≤◌, ◌<◌}
use native.Mathlib.Omega.{arith}
use native.Mathlib.Nat.{not-suc-le-zero, le_of_suc-le-suc}
use borrow.Author.Tests.{leb-true, leb-false, ltb-true, ltb-false, eqb-true, eqb-false}
use lib.ListN.{length, get_or}
use lib.Dec.{leb, ltb, eqb}
use Rattle.error.proofs.TestLaws.{le-or-lt}
use Rattle.free_regions.specs.declared.FreeRegion.{FreeRegion}
use Rattle.free_regions.specs.Regions.{region, end, In, Free, join, absorb, insert, spliced, piece, around}
use Rattle.free_regions.specs.Sets.{Between, Adds, Removes}
use Rattle.free_regions.proofs.OkLaws.{Within}

pub in_or-out : (r : FreeRegion) (x : ℕ) → In r x ⊎ (In r x → ⊥)
in_or-out r x =
    ⊎_elim (λ p. ⊎_elim (λ q. inr (λ t. omega arith)) (λ q. inl (p, q)) (le-or-lt (end r) x)) (λ p. inr (λ t. omega arith)) (le-or-lt r.addr x)

pub free-between : (low high x : ℕ) (rs : List FreeRegion) → Within low high rs → Free rs x → Between low high x
free-between low high x [] w f = absurd f
free-between low high x (r ∷ rs) w (inl t) = (omega arith, omega arith)
free-between low high x (r ∷ rs) w (inr t) = let q = free-between (suc (end r)) high x rs w.3 t in (omega arith, q.1)

-- ---- `free`

-- m does not begin past the end of the first region
abbrev Reaches : FreeRegion → List FreeRegion → Type 0
Reaches m [] = Unit {0}
Reaches m (r ∷ rs) = m.addr ≤ end r

next_reaches : (m r : FreeRegion) (high : ℕ) (rs : List FreeRegion) → Within (suc (end r)) high rs → Reaches (join m r) rs
next_reaches m r high [] w = tt
next_reaches m r high (s ∷ rs) w = omega arith

in_join : (m r : FreeRegion) (x : ℕ) → m.addr ≤ end r → r.addr ≤ end m → In (join m r) x ↔ (In m x ⊎ In r x)
in_join m r x h k = (
  λ t. ⊎_elim (λ p. ⊎_elim (λ q. inr (omega arith)) (λ q. inl (p, q)) (le-or-lt (end m) x)) (λ p. inr (omega arith)) (le-or-lt m.addr x),
  ⊎_elim (λ t. omega arith) (λ t. omega arith),
)

absorb-within : (low low' high : ℕ) (m : FreeRegion) (rs : List FreeRegion) → Within low' high rs → low ≤ low' → low ≤ m.addr → 0 < m.len → end m ≤ high
    → Within low high (absorb m rs)
absorb-within low low' high m [] w p q l e = (l, e, q, tt)
absorb-within low low' high m (r ∷ rs) w p q l e =
    go (leb r.addr (end m)) refl (absorb-within low (suc (end r)) high (join m r) rs w.3 (omega arith) (omega arith) (omega arith) (omega arith))
  where
    go : (b : Bool) → leb r.addr (end m) ≡ b → Within low high (absorb (join m r) rs) → Within low high (cond b (absorb (join m r) rs) (m ∷ r ∷ rs))
    go true t ih = ih
    go false t ih = (l, e, q, (w.0, w.1, leb-false r.addr (end m) t, w.3))

pub insert-within : (low high : ℕ) (new : FreeRegion) (rs : List FreeRegion) → Within low high rs → low ≤ new.addr → 0 < new.len → end new ≤ high
    → Within low high (insert new rs)
insert-within low high new [] w q l e = (l, e, q, tt)
insert-within low high new (r ∷ rs) w q l e =
    go (ltb (end r) new.addr) refl (λ h. insert-within (suc (end r)) high new rs w.3 h l e)
  where
    go : (b : Bool) → ltb (end r) new.addr ≡ b → (suc (end r) ≤ new.addr → Within (suc (end r)) high (insert new rs))
        → Within low high (cond b (r ∷ insert new rs) (absorb new (r ∷ rs)))
    go true t ih = (w.0, w.1, w.2, ih (ltb-true (end r) new.addr t))
    go false t ih = absorb-within low low high new (r ∷ rs) w (omega arith) q l e

absorb-free : (low high x : ℕ) (m : FreeRegion) (rs : List FreeRegion) → Within low high rs → Reaches m rs → Free (absorb m rs) x ↔ (In m x ⊎ Free rs x)
absorb-free low high x m [] w h = (λ t. t, λ t. t)
absorb-free low high x m (r ∷ rs) w h =
    go (leb r.addr (end m)) refl (absorb-free (suc (end r)) high x (join m r) rs w.3 (next_reaches m r high rs w.3))
  where
    go : (b : Bool) → leb r.addr (end m) ≡ b → (Free (absorb (join m r) rs) x ↔ (In (join m r) x ⊎ Free rs x))
        → Free (cond b (absorb (join m r) rs) (m ∷ r ∷ rs)) x ↔ (In m x ⊎ (In r x ⊎ Free rs x))
    go true t ih =
        let j = in_join m r x h (leb-true r.addr (end m) t) in (
          λ f. ⊎_elim (λ p. ⊎_elim (λ a. inl a) (λ a. inr (inl a)) (j.0 p)) (λ p. inr (inr p)) (ih.0 f),
          ⊎_elim (λ a. ih.1 (inl (j.1 (inl a)))) (⊎_elim (λ a. ih.1 (inl (j.1 (inr a)))) (λ p. ih.1 (inr p))),
        )
    go false t ih = (λ f. f, λ f. f)

pub insert-free : (low high : ℕ) (new : FreeRegion) (rs : List FreeRegion) → Within low high rs → Adds new.addr (end new) rs (insert new rs)
insert-free low high new [] w x = (λ t. t, λ t. t)
insert-free low high new (r ∷ rs) w x =
    go (ltb (end r) new.addr) refl (insert-free (suc (end r)) high new rs w.3 x)
  where
    go : (b : Bool) → ltb (end r) new.addr ≡ b → (Free (insert new rs) x ↔ (In new x ⊎ Free rs x))
        → Free (cond b (r ∷ insert new rs) (absorb new (r ∷ rs))) x ↔ (In new x ⊎ (In r x ⊎ Free rs x))
    go true t ih = (
      ⊎_elim (λ a. inr (inl a)) (λ f. ⊎_elim (λ a. inl a) (λ p. inr (inr p)) (ih.0 f)),
      ⊎_elim (λ a. inr (ih.1 (inl a))) (⊎_elim (λ a. inl a) (λ p. inr (ih.1 (inr p)))),
    )
    go false t ih = absorb-free low high x new (r ∷ rs) w (ltb-false (end r) new.addr t)

-- ---- a region gives way to regions within it: what an allocation or a removal does

pub within_low : (low low' high : ℕ) (rs : List FreeRegion) → Within low high rs → low' ≤ low → Within low' high rs
within_low low low' high [] w h = tt
within_low low low' high (r ∷ rs) w h = (w.0, w.1, omega arith, w.3)

pub append-within : (low mid high : ℕ) (ps rs : List FreeRegion) → Within low mid ps → Within (suc mid) high rs → low ≤ suc mid → mid ≤ high → Within low high (ps ++ rs)
append-within low mid high [] rs p w h k = within_low (suc mid) low high rs w h
append-within low mid high (q ∷ ps) rs p w h k = (p.0, omega arith, p.2, append-within (suc (end q)) mid high ps rs p.3 w (omega arith) k)

pub free-append : (x : ℕ) (ps rs : List FreeRegion) → Free (ps ++ rs) x ↔ (Free ps x ⊎ Free rs x)
free-append x [] rs = (λ f. inr f, ⊎_elim (λ f. absurd f) (λ f. f))
free-append x (p ∷ ps) rs =
    let ih = free-append x ps rs in (
      ⊎_elim (λ t. inl (inl t)) (λ f. ⊎_elim (λ t. inl (inr t)) (λ t. inr t) (ih.0 f)),
      ⊎_elim (⊎_elim (λ t. inl t) (λ t. inr (ih.1 (inl t)))) (λ t. inr (ih.1 (inr t))),
    )

pub at-within : (low high i : ℕ) (rs : List FreeRegion) (d : FreeRegion) → Within low high rs → i < length rs → (low ≤ (get_or rs i d).addr) × (end (get_or rs i d) ≤ high)
at-within low high i [] d w l = absurd (not-suc-le-zero l)
at-within low high zero (r ∷ rs) d w l = (w.2, w.1)
at-within low high (suc i) (r ∷ rs) d w l = let q = at-within (suc (end r)) high i rs d w.3 (le_of_suc-le-suc l) in (omega arith, q.1)

pub at-free : (x i : ℕ) (rs : List FreeRegion) (d : FreeRegion) → i < length rs → In (get_or rs i d) x → Free rs x
at-free x i [] d l t = absurd (not-suc-le-zero l)
at-free x zero (r ∷ rs) d l t = inl t
at-free x (suc i) (r ∷ rs) d l t = inr (at-free x i rs d (le_of_suc-le-suc l) t)

module _ (low high i : ℕ) (rs : List FreeRegion) (d : FreeRegion) (new : List FreeRegion) (w : Within low high rs) (l : i < length rs) where
  pub carve_within : Within (get_or rs i d).addr (end (get_or rs i d)) new → Within low high (spliced rs i (suc i) new)
  carve_within = go low i rs w l
    where
      go : (low i : ℕ) (rs : List FreeRegion) → Within low high rs → i < length rs → Within (get_or rs i d).addr (end (get_or rs i d)) new
          → Within low high (spliced rs i (suc i) new)
      go low i [] w l v = absurd (not-suc-le-zero l)
      go low zero (r ∷ rs) w l v =
          within_low r.addr low high (new ++ rs) (append-within r.addr (end r) high new rs v w.3 (omega arith) w.1) w.2
      go low (suc i) (r ∷ rs) w l v = (w.0, w.1, w.2, go (suc (end r)) i rs w.3 (le_of_suc-le-suc l) v)

  pub carve_free : (x : ℕ) → Free (spliced rs i (suc i) new) x ↔ ((Free rs x × (In (get_or rs i d) x → ⊥)) ⊎ Free new x)
  carve_free x = go low i rs w l
    where
      go : (low i : ℕ) (rs : List FreeRegion) → Within low high rs → i < length rs
          → Free (spliced rs i (suc i) new) x ↔ ((Free rs x × (In (get_or rs i d) x → ⊥)) ⊎ Free new x)
      go low i [] w l = absurd (not-suc-le-zero l)
      go low zero (r ∷ rs) w l =
          let j = free-append x new rs in (
            λ f. ⊎_elim (λ g. inr g) (λ g. inl (inr g, λ t. let q = free-between (suc (end r)) high x rs w.3 g in omega arith)) (j.0 f),
            ⊎_elim (λ g. ⊎_elim (λ t. absurd (g.1 t)) (λ t. j.1 (inr t)) g.0) (λ g. j.1 (inl g)),
          )
      go low (suc i) (r ∷ rs) w l =
          let k = le_of_suc-le-suc l in
          let ih = go (suc (end r)) i rs w.3 k in
          let q = at-within (suc (end r)) high i rs d w.3 k in (
            ⊎_elim (λ t. inl (inl t, λ u. omega arith)) (λ f. ⊎_elim (λ g. inl (inr g.0, g.1)) (λ g. inr g) (ih.0 f)),
            ⊎_elim (λ g. ⊎_elim (λ t. inl t) (λ t. inr (ih.1 (inl (t, g.1)))) g.0) (λ g. inr (ih.1 (inr g))),
          )

-- a region dropped whole: `take_trailing`
module _ (low high i : ℕ) (rs : List FreeRegion) (d : FreeRegion) (w : Within low high rs) (l : i < length rs) where
  pub dropped_within : Within low high (spliced rs i (suc i) [])
  dropped_within = carve_within low high i rs d [] w l tt

  pub dropped_free : Removes (get_or rs i d).addr (end (get_or rs i d)) rs (spliced rs i (suc i) [])
  dropped_free x = let k = carve_free low high i rs d [] w l x in (λ f. ⊎_elim (λ g. g) (λ g. absurd g) (k.0 f), λ g. k.1 (inl g))

-- ---- the len bytes from start on are taken out of a region

pub piece-within : (low high a len : ℕ) → low ≤ a → a + len ≤ high → Within low high (piece a len)
piece-within low high a len h k = go (eqb len 0) refl
  where
    go : (b : Bool) → eqb len 0 ≡ b → Within low high (cond b [] (region a len ∷ []))
    go true t = tt
    go false t = let n : len ≡ 0 → ⊥ = eqb-false len 0 t in (omega arith, k, h, tt)

pub piece-free : (a len x : ℕ) → Free (piece a len) x ↔ In (region a len) x
piece-free a len x = go (eqb len 0) refl
  where
    go : (b : Bool) → eqb len 0 ≡ b → Free (cond b [] (region a len ∷ [])) x ↔ In (region a len) x
    go true t = let e : len ≡ 0 = eqb-true len 0 t in (λ f. absurd f, λ p. omega arith)
    go false t = (⊎_elim (λ p. p) (λ f. absurd f), λ p. inl p)

module _ (r : FreeRegion) (start len : ℕ) (some : 0 < len) (from : r.addr ≤ start) (to : start + len ≤ end r) where
  around-within : Within r.addr (end r) (around r start len)
  around-within =
      append-within r.addr start (end r) (piece r.addr (start - r.addr)) (piece (start + len) (end r - (start + len)))
      (piece-within r.addr start r.addr (start - r.addr) (omega arith) (omega arith))
      (piece-within (suc start) (end r) (start + len) (end r - (start + len)) (omega arith) (omega arith))
      (omega arith) (omega arith)

  around-free : (x : ℕ) → Free (around r start len) x ↔ (In r x × (Between start (start + len) x → ⊥))
  around-free x =
      let f = piece-free r.addr (start - r.addr) x in
      let b = piece-free (start + len) (end r - (start + len)) x in
      let j = free-append x (piece r.addr (start - r.addr)) (piece (start + len) (end r - (start + len))) in (
        λ g. ⊎_elim (λ u. let p = f.0 u in ((omega arith, omega arith), λ v. omega arith)) (λ u. let p = b.0 u in ((omega arith, omega arith), λ v. omega arith)) (j.0 g),
        λ p. ⊎_elim (λ h. j.1 (inr (b.1 (omega arith)))) (λ h. ⊎_elim (λ q. absurd (p.1 (q, h))) (λ q. j.1 (inl (f.1 (omega arith)))) (le-or-lt start x))
            (le-or-lt (start + len) x),
      )

-- in a list
module _ (low high i start len : ℕ) (rs : List FreeRegion) (d : FreeRegion) (w : Within low high rs) (l : i < length rs) (some : 0 < len)
    (from : (get_or rs i d).addr ≤ start) (to : start + len ≤ end (get_or rs i d)) where
  pub taken-within : Within low high (spliced rs i (suc i) (around (get_or rs i d) start len))
  taken-within = carve_within low high i rs d (around (get_or rs i d) start len) w l (around-within (get_or rs i d) start len some from to)

  pub taken_free : Removes start (start + len) rs (spliced rs i (suc i) (around (get_or rs i d) start len))
  taken_free x =
      let r = get_or rs i d in
      let m = around-free r start len some from to x in
      let k = carve_free low high i rs d (around r start len) w l x in (
        λ g. ⊎_elim (λ p. (p.0, λ t. p.1 (omega arith))) (λ p. let q = m.0 p in (at-free x i rs d l q.0, q.1)) (k.0 g),
        λ p. ⊎_elim (λ t. k.1 (inr (m.1 (t, p.1)))) (λ t. k.1 (inl (p.0, t))) (in_or-out r x),
      )

  pub were-free : (x : ℕ) → Between start (start + len) x → Free rs x
  were-free x t = at-free x i rs d l (omega arith)
