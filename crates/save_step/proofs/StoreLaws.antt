-- Laws of any stores into an image: what a cut leaves of a byte, and stores that are made again. Assumes nothing.
use mathlib.Core.Path.{◌≡◌, refl, sym, ap, ◌∙◌}
use mathlib.Core.Logic.{◌≢◌, ⊎_elim}
use mathlib.Core.List.{List, [], ◌∷◌, ◌++◌}
use Prim.Native.Nat.{ℕ, zero, suc, ◌≤◌, ◌<◌}
use native.Mathlib.Nat.{le_of_suc-le-suc, not-suc-le-zero}
use native.Mathlib.Decide.{ℕ_discrete}
use native.Mathlib.Omega.{arith}
use lib.ListN.{length, take, get_or, set, length-set}
use lib.Seq.{get_or-set_same, get_or-set_other, set-set, set_comm, take-suc, take_all}
use Rattle.error.proofs.TestLaws.{le-or-lt}
use Rattle.save_step.specs.declared.Store.{Store}
use Rattle.save_step.specs.Stores.{no_store, store, make, make_all, after}

pub length-all : (image : List ℕ) (ss : List Store) → length (make_all image ss) ≡ length image
unfolding make_all
length-all image [] = refl
length-all image (s ∷ ss) = length-all (make s image) ss ∙ length-set image s.place s.byte

-- ---- one store more

all_append : (image : List ℕ) (a b : List Store) → make_all image (a ++ b) ≡ make_all (make_all image a) b
unfolding make_all
all_append image [] b = refl
all_append image (s ∷ a) b = all_append (make s image) a b

pub after-suc : (k : ℕ) (image : List ℕ) (ss : List Store) → k < length ss → after (suc k) image ss ≡ make (get_or ss k no_store) (after k image ss)
unfolding make_all
after-suc k image ss h = ap (make_all image) (take-suc ss k no_store h) ∙ all_append image (take k ss) (get_or ss k no_store ∷ [])

pub after-all : (k : ℕ) (image : List ℕ) (ss : List Store) → length ss ≤ k → after k image ss ≡ make_all image ss
after-all k image ss h = ap (make_all image) (take_all k ss h)

-- from k stores to k + 1, at every k: past the last store nothing more is made
after_step : (P : List ℕ → Type 0) (k : ℕ) (image : List ℕ) (ss : List Store) → P (after k image ss) → (k < length ss → P (make (get_or ss k no_store) (after k image ss)))
    → P (after (suc k) image ss)
after_step P k image ss old new =
    ⊎_elim
    (λ (h : length ss ≤ k). let h' : length ss ≤ suc k = omega arith in rw (take_all (suc k) ss h') (rw (take_all k ss h) at old))
    (λ (h : k < length ss). rw (after-suc k image ss h) (new h))
    (le-or-lt (length ss) k)

-- ---- the byte at a place q

make_same : (s : Store) (image : List ℕ) (q : ℕ) → s.place ≡ q → q < length image → get_or (make s image) q 0 ≡ s.byte
make_same s image q e h = rw e (get_or-set_same image q s.byte 0 h)

make-other : (s : Store) (image : List ℕ) (q : ℕ) → s.place ≢ q → get_or (make s image) q 0 ≡ get_or image q 0
make-other s image q n = get_or-set_other image s.place q s.byte 0 (λ e. n (sym e))

module _ (image : List ℕ) (ss : List Store) (q : ℕ) where
  -- no store before the cut names q
  pub cut-other : (k : ℕ) → ((j : ℕ) → j < k → j < length ss → (get_or ss j no_store).place ≢ q) → get_or (after k image ss) q 0 ≡ get_or image q 0
  unfolding make_all
  cut-other zero f = refl
  cut-other (suc k) f =
      let ih : get_or (after k image ss) q 0 ≡ get_or image q 0 = cut-other k (λ j h. f j (omega arith)) in
      after_step (λ i. get_or i q 0 ≡ get_or image q 0) k image ss ih (λ h. make-other (get_or ss k no_store) (after k image ss) q (f k (omega arith) h) ∙ ih)

  -- store number n before the cut names q, and no later one before the cut does
  pub cut-last : (n : ℕ) → (get_or ss n no_store).place ≡ q → n < length ss → q < length image → (k : ℕ) → n < k
      → ((j : ℕ) → n < j → j < k → j < length ss → (get_or ss j no_store).place ≢ q) → get_or (after k image ss) q 0 ≡ (get_or ss n no_store).byte
  cut-last n e l i zero h f = absurd (not-suc-le-zero h)
  cut-last n e l i (suc k) h f = pick (ℕ_discrete n k) (λ m. cut-last n e l i k m (λ j a b. f j a (omega arith)))
    where
      pick : Dec (n ≡ k) → (n < k → get_or (after k image ss) q 0 ≡ (get_or ss n no_store).byte) → get_or (after (suc k) image ss) q 0 ≡ (get_or ss n no_store).byte
      pick (yes z) ih =
          let m : k < length ss = omega arith in
          let e' : (get_or ss k no_store).place ≡ q = rw z at e in
          rw (after-suc k image ss m, z) (make_same (get_or ss k no_store) (after k image ss) q e' (rw length-all i))
      pick (no z) ih =
          let m : n < k = omega arith in
          after_step (λ x. get_or x q 0 ≡ (get_or ss n no_store).byte) k image ss (ih m) (λ h. make-other (get_or ss k no_store) (after k image ss) q (f k m (omega arith) h) ∙ ih m)

  -- store number n is the only one that names q
  abbrev pub Sole : ℕ → Type 0
  Sole n = (j : ℕ) → j < length ss → (get_or ss j no_store).place ≡ q → j ≡ n

  pub sole_old : (n : ℕ) → Sole n → (k : ℕ) → k ≤ n → get_or (after k image ss) q 0 ≡ get_or image q 0
  sole_old n o k h = cut-other k (λ j l m e. let z : j ≡ n = o j m e in omega arith)

  pub sole_new : (n : ℕ) → Sole n → (b : ℕ) → get_or ss n no_store ≡ store q b → n < length ss → q < length image → (k : ℕ) → n < k → get_or (after k image ss) q 0 ≡ b
  sole_new n o b e l i k h =
      cut-last n (ap (λ (s : Store). s.place) e) l i k h (λ j a c m p. let z : j ≡ n = o j m p in omega arith)
      ∙ ap (λ (s : Store). s.byte) e

-- ---- stores made again

-- a byte stored before stores does not show where one of them names its place
all-over : (image : List ℕ) (p b : ℕ) (ss : List Store) (j : ℕ) → j < length ss → (get_or ss j no_store).place ≡ p → make_all (set image p b) ss ≡ make_all image ss
unfolding make_all
all-over image p b [] j h e = absurd (not-suc-le-zero h)
all-over image p b (s ∷ ss) j h e = pick (ℕ_discrete s.place p) j h e (λ i. all-over i p b ss)
  where
    pick : Dec (s.place ≡ p) → (j : ℕ) → j < length (s ∷ ss) → (get_or (s ∷ ss) j no_store).place ≡ p
        → ((i : List ℕ) (j : ℕ) → j < length ss → (get_or ss j no_store).place ≡ p → make_all (set i p b) ss ≡ make_all i ss) → make_all (make s (set image p b)) ss ≡ make_all (make s image) ss
    pick (yes z) j h e ih = ap (λ (i : List ℕ). make_all i ss) (rw z (set-set image p b s.byte))
    pick (no z) zero h e ih = absurd (z e)
    pick (no z) (suc j) h e ih =
        ap (λ (i : List ℕ). make_all i ss) (set_comm image p s.place b s.byte (λ e. z (sym e)))
        ∙ ih (make s image) j (le_of_suc-le-suc h) e

-- all stores made over what any cut of them left
pub all_twice : (k : ℕ) (image : List ℕ) (ss : List Store) → make_all (after k image ss) ss ≡ make_all image ss
unfolding make_all
all_twice zero image ss = refl
all_twice (suc k) image ss =
    let ih : make_all (after k image ss) ss ≡ make_all image ss = all_twice k image ss in
    after_step (λ i. make_all i ss ≡ make_all image ss) k image ss ih (λ h. all-over (after k image ss) (get_or ss k no_store).place (get_or ss k no_store).byte ss k h refl ∙ ih)
