-- Laws of outcomes in a row: what holds of an answer, and what a number made of it tells. Assumes nothing.
use mathlib.Core.Path.{◌≡◌, refl, ap}
use mathlib.Core.Bool.{Bool, true, false}
use mathlib.Core.List.{List, [], ◌∷◌}
use Prim.Native.Nat.{ℕ}
use native.Mathlib.Omega.{arith}
use Rattle.error.specs.declared.Refusal.{Refusal}
use Rattle.error.specs.Outcome.{Outcome, answer, nothing, refuse, when, first_of, and_then}
use Rattle.fsm_blocks.specs.Parts.{got, Accepted}

-- P of what is answered, if that is an answer
abbrev pub Holds : {A : Type 0} → (A → Type 0) → Outcome A → Type 0
Holds P (answer a) = P a
Holds P nothing = Unit {0}
Holds P (refuse n vs) = Unit {0}

pub holds-when : {A : Type 0} (P : A → Type 0) (t : Bool) (r : Refusal) (x : Outcome A) → Holds P x → Holds P (first_of (when t r ∷ []) x)
unfolding first_of
holds-when P true r x h = tt
holds-when P false r x h = h

pub holds_then : {A B : Type 0} {P : A → Type 0} (Q : B → Type 0) (x : Outcome A) (f : A → Outcome B) → Holds P x → ((a : A) → P a → Holds Q (f a)) → Holds Q (and_then x f)
unfolding and_then
holds_then Q (answer a) f h g = g a h
holds_then Q nothing f h g = tt
holds_then Q (refuse n vs) f h g = tt

-- two continuations that agree on what can be answered
pub then_cong : {A B : Type 0} {P : A → Type 0} (x : Outcome A) (f g : A → Outcome B) → Holds P x → ((a : A) → P a → f a ≡ g a) → and_then x f ≡ and_then x g
unfolding and_then
then_cong (answer a) f g h e = e a h
then_cong nothing f g h e = refl
then_cong (refuse n vs) f g h e = refl

pub when_cong : {A : Type 0} (t : Bool) (r : Refusal) (x y : Outcome A) → (t ≡ false → x ≡ y) → first_of (when t r ∷ []) x ≡ first_of (when t r ∷ []) y
unfolding first_of
when_cong true r x y e = refl
when_cong false r x y e = e refl

-- ---- what is answered

-- a number made of what is answered shows that the outcome is an answer
pub sized_is : {A : Type 0} (o : Outcome (List A)) (f : List A → ℕ) (n : ℕ) → and_then o (λ l. answer (f l)) ≡ answer n → Accepted o × (f (got o) ≡ n)
unfolding and_then
sized_is (answer l) f n e = (refl, cc)
sized_is nothing f n e = let z : ◌≡◌ {A = ℕ} 0 1 = cc in absurd (omega arith)
sized_is (refuse m vs) f n e = let z : ◌≡◌ {A = ℕ} 0 1 = cc in absurd (omega arith)

-- another number made of that one
pub then_sized : {A : Type 0} (o : Outcome (List A)) (f : List A → ℕ) (g : ℕ → ℕ) (n : ℕ) → and_then o (λ l. answer (f l)) ≡ answer n → and_then o (λ l. answer (g (f l))) ≡ answer (g n)
unfolding and_then
then_sized (answer l) f g n e = let k : f l ≡ n = cc in ap (λ (m : ℕ). answer (g m)) k
then_sized nothing f g n e = let z : ◌≡◌ {A = ℕ} 0 1 = cc in absurd (omega arith)
then_sized (refuse m vs) f g n e = let z : ◌≡◌ {A = ℕ} 0 1 = cc in absurd (omega arith)

-- and a refusal in its place is the outcome's own
pub then_refused : {A B C : Type 0} (o : Outcome A) (f : A → C) (g : A → Outcome B) (n : ℕ) (vs : List ℕ) → and_then o (λ a. answer (f a)) ≡ refuse n vs → and_then o g ≡ refuse n vs
unfolding and_then
then_refused (answer a) f g n vs e = let z : ◌≡◌ {A = ℕ} 0 1 = cc in absurd (omega arith)
then_refused nothing f g n vs e = let z : ◌≡◌ {A = ℕ} 0 1 = cc in absurd (omega arith)
then_refused (refuse m ws) f g n vs e = cc

-- an accepted outcome is no refusal
pub not-refused : {A B : Type 0} (o : Outcome (List A)) (n : ℕ) (vs : List ℕ) → Accepted o → o ≡ refuse n vs → B
not-refused o n vs a e = let z : ◌≡◌ {A = ℕ} 0 1 = cc in absurd (omega arith)

-- the outcome before the last of two in a row is an answer, where the last is
pub first-accepted : {A B : Type 0} (o : Outcome (List A)) (f : List A → Outcome (List B)) → Accepted (and_then o f) → Accepted o
unfolding and_then
first-accepted (answer l) f h = refl
first-accepted nothing f h = let z : ◌≡◌ {A = ℕ} 0 1 = cc in absurd (omega arith)
first-accepted (refuse n vs) f h = let z : ◌≡◌ {A = ℕ} 0 1 = cc in absurd (omega arith)

-- what holds of each answer holds of this one
pub holds-got : {A : Type 0} (P : List A → Type 0) (o : Outcome (List A)) → Accepted o → Holds P o → P (got o)
holds-got P (answer l) a h = h
holds-got P nothing a h = let z : ◌≡◌ {A = ℕ} 0 1 = cc in absurd (omega arith)
holds-got P (refuse n vs) a h = let z : ◌≡◌ {A = ℕ} 0 1 = cc in absurd (omega arith)

-- an answer made of two shows that both are answers
pub both_accepted : {A : Type 0} (x : Outcome (List A)) (y : Outcome (List (List A)))
    → Accepted (and_then x (λ a. and_then y (λ b. answer (a ∷ b)))) → (Accepted x × Accepted y) × (got (and_then x (λ a. and_then y (λ b. answer (a ∷ b)))) ≡ got x ∷ got y)
unfolding and_then
both_accepted (answer a) (answer b) h = ((refl, refl), refl)
both_accepted (answer a) nothing h = let z : ◌≡◌ {A = ℕ} 0 1 = cc in absurd (omega arith)
both_accepted (answer a) (refuse n vs) h = let z : ◌≡◌ {A = ℕ} 0 1 = cc in absurd (omega arith)
both_accepted nothing y h = let z : ◌≡◌ {A = ℕ} 0 1 = cc in absurd (omega arith)
both_accepted (refuse n vs) y h = let z : ◌≡◌ {A = ℕ} 0 1 = cc in absurd (omega arith)
