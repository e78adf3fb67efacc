-- A property of each element of a list. Assumes nothing.
use Rattle.std.proofs.Common.{ℕ, zero, suc, ◌<◌, List, [], ◌∷◌, ◌++◌, length, get_or, drop, le_of_suc-le-suc, not-suc-le-zero}
use Rattle.fsm_sections.specs.Sections.{All}

module _ {A : Type 0} where
  pub all_append : (P : A → Type 0) (l m : List A) → All P l → All P m → All P (l ++ m)
  all_append P [] m h k = k
  all_append P (x ∷ l) m h k = (h.0, all_append P l m h.1 k)

  pub all_map : {P Q : A → Type 0} → ((x : A) → P x → Q x) → (l : List A) → All P l → All Q l
  all_map f [] h = tt
  all_map f (x ∷ l) h = (f x h.0, all_map f l h.1)

  pub all_drop : (P : A → Type 0) (i : ℕ) (l : List A) → All P l → All P (drop i l)
  all_drop P zero l h = h
  all_drop P (suc i) [] h = tt
  all_drop P (suc i) (x ∷ l) h = all_drop P i l h.1

  pub all_get_d : (P : A → Type 0) (l : List A) (i : ℕ) (d : A) → i < length l → All P l → P (get_or l i d)
  all_get_d P [] i d h a = absurd (not-suc-le-zero h)
  all_get_d P (x ∷ l) zero d h a = a.0
  all_get_d P (x ∷ l) (suc i) d h a = all_get_d P l i d (le_of_suc-le-suc h) a.1
