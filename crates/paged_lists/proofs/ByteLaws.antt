-- One byte, the mark of its page, and the four ways in which a call can leave it. Assumes nothing.
--   other       the other kind
--   ByteKept    the invariant at one byte: K k says that the byte is free in the list of k, U k that it is in use for k, S that it is free in
--               the shared list, m is its page's mark
use mathlib.Core.Path.{◌≡◌, sym, ◌∙◌}
use mathlib.Core.Logic.{◌⊎◌, inl, inr, ⊎_elim, ◌↔◌}
use Prim.Native.Nat.{ℕ}
use native.Mathlib.Omega.{arith}
use Rattle.paged_lists.specs.declared.PageType.{PageType}
use Rattle.paged_lists.specs.declared.PageType.TheVariants.{Meta, Raw}
use Rattle.paged_lists.specs.Kinds.{mark_of}

abbrev pub other : PageType → PageType
other Meta = Raw
other Raw = Meta

pub mark_some : (k : PageType) {A : Type 0} → mark_of k ≡ 0 → A
mark_some Meta e = absurd (omega arith)
mark_some Raw e = absurd (omega arith)

mark_other : (k : PageType) {A : Type 0} → mark_of k ≡ mark_of (other k) → A
mark_other Meta e = absurd (omega arith)
mark_other Raw e = absurd (omega arith)

-- of the two kinds, one and the other
pub by_kind_lem : (k : PageType) (P : PageType → Type 0) → P k → P (other k) → (j : PageType) → P j
by_kind_lem Meta P p q Meta = p
by_kind_lem Meta P p q Raw = q
by_kind_lem Raw P p q Meta = q
by_kind_lem Raw P p q Raw = p

pub record ByteKept (K U : PageType → Type 0) (S : Type 0) (m : ℕ) : Type 0 where
  pub listed : (k : PageType) → K k → m ≡ mark_of k
  pub used : (k : PageType) → U k → m ≡ mark_of k
  pub shared : S → m ≡ 0
  pub held : (k : PageType) → m ≡ mark_of k → K k ⊎ U k
  pub once : (k : PageType) → K k → U k → ⊥

-- ---- what a call makes of a byte

module _ {K' U' : PageType → Type 0} {S' : Type 0} {m' : ℕ} where
  -- it is given out for k
  pub now_used : (k : PageType) → m' ≡ mark_of k → ((j : PageType) → K' j → ⊥) → ((j : PageType) → U' j ↔ (mark_of k ≡ mark_of j)) → (S' → ⊥) → ByteKept K' U' S' m'
  now_used k e f u s = record {
    listed = λ j t. absurd (f j t);
    used = λ j t. e ∙ (u j).0 t;
    shared = λ t. absurd (s t);
    held = λ j t. inr ((u j).1 (sym e ∙ t));
    once = λ j t w. f j t;
  }

  -- it joins the list of k
  pub now_listed : (k : PageType) → m' ≡ mark_of k → K' k → (K' (other k) → ⊥) → ((j : PageType) → U' j → ⊥) → (S' → ⊥) → ByteKept K' U' S' m'
  now_listed k e f g u s = record {
    listed = by_kind_lem k (λ j. K' j → m' ≡ mark_of j) (λ t. e) (λ t. absurd (g t));
    used = λ j t. absurd (u j t);
    shared = λ t. absurd (s t);
    held = by_kind_lem k (λ j. m' ≡ mark_of j → K' j ⊎ U' j) (λ t. inl f) (λ t. mark_other k (sym e ∙ t));
    once = λ j t w. u j w;
  }

  -- it joins the shared list
  pub now_shared : m' ≡ 0 → ((j : PageType) → K' j → ⊥) → ((j : PageType) → U' j → ⊥) → ByteKept K' U' S' m'
  now_shared e f u = record {
    listed = λ j t. absurd (f j t);
    used = λ j t. absurd (u j t);
    shared = λ t. e;
    held = λ j t. mark_some j (sym t ∙ e);
    once = λ j t w. f j t;
  }

  -- it stays as it was
  pub as_before : {K U : PageType → Type 0} {S : Type 0} {m : ℕ} → ByteKept K U S m → m' ≡ m → ((j : PageType) → K' j ↔ K j) → ((j : PageType) → U' j ↔ U j) → (S' → S) → ByteKept K' U' S' m'
  as_before b e f u s = record {
    listed = λ j t. e ∙ b.listed j ((f j).0 t);
    used = λ j t. e ∙ b.used j ((u j).0 t);
    shared = λ t. e ∙ b.shared (s t);
    held = λ j t. ⊎_elim (λ q. inl ((f j).1 q)) (λ q. inr ((u j).1 q)) (b.held j (sym e ∙ t));
    once = λ j t w. b.once j ((f j).0 t) ((u j).0 w);
  }

-- ---- what the invariant tells

module _ {K U : PageType → Type 0} {S : Type 0} {m : ℕ} (b : ByteKept K U S m) where
  pub kind-tells : (k : PageType) → (K k ⊎ U k) ↔ (m ≡ mark_of k)
  kind-tells k = (⊎_elim (λ t. b.listed k t) (λ t. b.used k t), λ t. b.held k t)

  pub not-other : (k : PageType) → m ≡ mark_of k → K (other k) → ⊥
  not-other k e t = mark_other k (sym e ∙ b.listed (other k) t)

  pub not-shared : (k : PageType) → m ≡ mark_of k → S → ⊥
  not-shared k e t = mark_some k (sym e ∙ b.shared t)

  pub shared-free : S → (j : PageType) → K j → ⊥
  shared-free s j t = mark_some j (sym (b.listed j t) ∙ b.shared s)

  pub shared-unused : S → (j : PageType) → U j → ⊥
  shared-unused s j t = mark_some j (sym (b.used j t) ∙ b.shared s)

  -- what is free in the list of k is in use for no kind
  pub listed-unused : (k : PageType) → K k → (j : PageType) → U j → ⊥
  listed-unused k t = by_kind_lem k (λ j. U j → ⊥) (λ u. b.once k t u) (λ u. mark_other k (sym (b.listed k t) ∙ b.used (other k) u))
