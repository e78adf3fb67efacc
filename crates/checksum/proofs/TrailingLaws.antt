-- Laws of the checksum at the end of a block: each end of `verify_trailing`, and that a block closed by its checksum is accepted. Assumes nothing.
use Rattle.std.proofs.Common.{◌≡◌, ℕ, ◌+◌, ◌-◌, ◌<◌, ◌≤◌, not, List, ◌++◌, length, take, drop, sym, ap, ◌∙◌, ap₂, arith, length-append, length-drop, take_all, take_at, drop_at, le-ltb, lt-ltb, eq-eqb, ne_eqb}
use Rattle.error.specs.declared.Refusal.TheVariants.{Short, Checksum}
use Rattle.error.specs.Outcome.{answer, refused}
use Rattle.error.proofs.OutcomeLaws.{first_holds, first_passes, first_pass}
use Rattle.fields.specs.Le.{le_bytes, le_value}
use Rattle.fields.proofs.LeLaws.{length-le, read_back}
use Rattle.checksum.specs.Lookup3.{lookup3}
use Rattle.checksum.specs.Trailing.{body, stored, trailing}
use Rattle.checksum.proofs.HashLaws.{lookup3-lt}

module _ (k : List ℕ) where
  pub short : length k < 4 → refused (Short 4 (length k)) ≡ trailing k
  unfolding trailing
  short h = sym (first_holds _ _ _ _ (lt-ltb (length k) 4 h))

  wrong : 4 ≤ length k → (stored k ≡ lookup3 (body k) → ⊥) → trailing k ≡ refused (Checksum (stored k) (lookup3 (body k)))
  unfolding trailing
  wrong h d = first_passes _ _ _ _ (le-ltb (length k) 4 h) ∙ first_holds _ _ _ _ (ap not (ne_eqb (stored k) (lookup3 (body k)) d))

  right : 4 ≤ length k → stored k ≡ lookup3 (body k) → trailing k ≡ answer tt
  unfolding trailing
  right h e = first_pass _ _ (le-ltb (length k) 4 h, (ap not (eq-eqb (stored k) (lookup3 (body k)) e), tt))

  -- s and v are the two checksums as the code has them
  module _ (s v : ℕ) (long : 4 ≤ length k) (read : s ≡ le_value (take 4 (drop (length k - 4) k))) (computed : v ≡ lookup3 (body k)) where
    stored_is : s ≡ stored k
    stored_is = read ∙ ap le_value (take_all 4 (drop (length k - 4) k) (omega (arith, length-drop (length k - 4) k)))

    pub differs : (v ≡ s → ⊥) → refused (Checksum s v) ≡ trailing k
    differs d = sym (wrong long (λ e. d (computed ∙ sym e ∙ sym stored_is)) ∙ ap₂ (λ (x y : ℕ). refused (Checksum x y)) (sym stored_is) (sym computed))

    pub agrees : v ≡ s → answer tt ≡ trailing k
    agrees e = sym (right long (sym stored_is ∙ sym e ∙ computed))

-- a block that ends in the checksum of what stands before it is accepted
pub closed : (b : List ℕ) → trailing (b ++ le_bytes 4 (lookup3 b)) ≡ answer tt
closed b =
    let s = le_bytes 4 (lookup3 b) in
    let n : length (b ++ s) ≡ length b + 4 = length-append b s ∙ ap (λ (m : ℕ). length b + m) (length-le 4 (lookup3 b)) in
    let f : length b ≡ length (b ++ s) - 4 = omega arith in
    right (b ++ s) (omega arith)
    (ap le_value (drop_at b s (length (b ++ s) - 4) f)
    ∙ read_back 4 (lookup3 b) (lookup3-lt b)
    ∙ ap lookup3 (sym (take_at b s (length (b ++ s) - 4) f)))
