-- Laws of a call's name: the line up to a space, or the whole line; a line that begins with a name. Assumes nothing.
use Rattle.std.proofs.Common.{◌≡◌, ℕ, zero, suc, ◌<◌, Bool, true, false, ◌&&◌, eqb, List, [], ◌∷◌, length, take, drop, get_or, sym, refl, ap, ap₂, ◌∙◌, arith, eq-eqb}
use Rattle.std.proofs.lemmas.Bool.{eqb-true}
use Rattle.replay_lines.specs.Words.{is_call}

pub up_to_space : (line : List ℕ) (i : ℕ) → i < length line → get_or line i 0 ≡ 32 → is_call (take i line) line ≡ true
unfolding is_call
up_to_space [] i h e = absurd (omega (arith, h))
up_to_space (c ∷ line) zero h e = eq-eqb c 32 e
up_to_space (c ∷ line) (suc i) h e = grind (arith, eq-eqb c c refl, up_to_space line i (omega (arith, h)) e)

pub whole_line : (line : List ℕ) → is_call line line ≡ true
unfolding is_call
whole_line [] = refl
whole_line (c ∷ line) = grind (arith, eq-eqb c c refl, whole_line line)

-- ---- a line and a name

pub name_there : (name line : List ℕ) → take (length name) line ≡ name → is_call name line ≡ is_call [] (drop (length name) line)
unfolding is_call
name_there [] line e = refl
name_there (n ∷ name) [] e = let z : ◌≡◌ {A = ℕ} 0 1 = cc in absurd (omega arith)
name_there (n ∷ name) (c ∷ line) e =
    let same : c ≡ n = cc in
    let rest : take (length name) line ≡ name = cc in
    ap (λ (b : Bool). b && is_call name line) (eq-eqb c n same) ∙ name_there name line rest

pub name_not : (name line : List ℕ) → (take (length name) line ≡ name → ⊥) → false ≡ is_call name line
unfolding is_call
name_not [] line h = absurd (h refl)
name_not (n ∷ name) [] h = refl
name_not (n ∷ name) (c ∷ line) h = by (eqb c n) refl (name_not name line)
  where
    by : (b : Bool) → eqb c n ≡ b → ((take (length name) line ≡ name → ⊥) → false ≡ is_call name line) → false ≡ (b && is_call name line)
    by true e rest = rest (λ f. h (ap₂ (λ (x : ℕ) (l : List ℕ). x ∷ l) (eqb-true c n e) f))
    by false e rest = refl

module _ (name line rest : List ℕ) (e : take (length name) line ≡ name) (d : rest ≡ drop (length name) line) where
  left : is_call name line ≡ is_call [] rest
  left = name_there name line e ∙ ap (is_call []) (sym d)

  pub name_ends : length rest ≡ 0 → true ≡ is_call name line
  unfolding is_call
  name_ends h = no rest h ∙ sym left
    where
      no : (l : List ℕ) → length l ≡ 0 → true ≡ is_call [] l
      no [] h = refl
      no (c ∷ l) h = absurd (omega arith)

  pub name-goes : 0 < length rest → eqb (get_or rest 0 0) 32 ≡ is_call name line
  unfolding is_call
  name-goes h = some rest h ∙ sym left
    where
      some : (l : List ℕ) → 0 < length l → eqb (get_or l 0 0) 32 ≡ is_call [] l
      some [] h = absurd (omega arith)
      some (c ∷ l) h = refl
