-- Laws of outcomes: which condition's refusal is given, what acceptance says of all of them, and outcomes in a row. Assumes nothing.
use mathlib.Core.Path.{◌≡◌, refl, ap, ap₂}
use Prim.Native.Nat.{ℕ}
use native.Mathlib.Omega.{arith}
use mathlib.Core.Bool.{Bool, true, false, cond}
use mathlib.Core.List.{List, [], ◌∷◌, ◌++◌}
use Rattle.error.specs.declared.Refusal.{Refusal}
use Rattle.error.specs.Refusals.{number_of, values_of}
use Rattle.error.specs.Outcome.{Outcome, answer, nothing, refuse, refused, Condition, when, first_of, and_then}

-- ---- the first condition

pub first-none : {A : Type 0} (x : Outcome A) → first_of [] x ≡ x
unfolding first_of
first-none x = refl

pub first_holds : {A : Type 0} (t : Bool) (r : Refusal) (cs : List Condition) (x : Outcome A) → t ≡ true → first_of (when t r ∷ cs) x ≡ refused r
unfolding first_of
first_holds t r cs x h = rw h

pub first_passes : {A : Type 0} (t : Bool) (r : Refusal) (cs : List Condition) (x : Outcome A) → t ≡ false → first_of (when t r ∷ cs) x ≡ first_of cs x
unfolding first_of
first_passes t r cs x h = rw h

-- the same where it is the only condition, as a contract's answer has it
pub refuses : {A : Type 0} (t : Bool) (r : Refusal) (x : Outcome A) → t ≡ true → refused r ≡ first_of (when t r ∷ []) x
unfolding first_of
refuses t r x h = rw h

pub passes : {A : Type 0} (t : Bool) (r : Refusal) (x : Outcome A) → t ≡ false → x ≡ first_of (when t r ∷ []) x
unfolding first_of
passes t r x h = rw h

-- ---- all conditions

abbrev pub NoneHolds : List Condition → Type 0
NoneHolds [] = Unit {0}
NoneHolds (c ∷ cs) = (c.holds ≡ false) × NoneHolds cs

pub first_pass : {A : Type 0} (cs : List Condition) (x : Outcome A) → NoneHolds cs → first_of cs x ≡ x
unfolding first_of
first_pass [] x h = refl
first_pass (c ∷ cs) x h = rw h.0 (first_pass cs x h.1)

-- an answer shows that no condition holds, and comes from what stands after them
pub first_shows : {A : Type 0} (cs : List Condition) (x : Outcome A) (y : A) → first_of cs x ≡ answer y → NoneHolds cs × (x ≡ answer y)
unfolding first_of
first_shows [] x y e = (tt, e)
first_shows (c ∷ cs) x y e = pick c.holds refl e (first_shows cs x y)
  where
    pick : (t : Bool) → c.holds ≡ t → cond t (refused c.refusal) (first_of cs x) ≡ answer y → (first_of cs x ≡ answer y → NoneHolds cs × (x ≡ answer y))
        → ((c.holds ≡ false) × NoneHolds cs) × (x ≡ answer y)
    pick true t e ih = let z : ◌≡◌ {A = ℕ} 0 1 = cc in absurd (omega arith)
    pick false t e ih = let q = ih e in ((t, q.0), q.1)

pub first_answers : {A : Type 0} (cs : List Condition) (x y : A) → first_of cs (answer x) ≡ answer y → NoneHolds cs × (x ≡ y)
first_answers cs x y e = let q = first_shows cs (answer x) y e in let z : answer x ≡ answer y = q.1 in (q.0, cc)

-- ---- conditions in two parts

pub first-append : {A : Type 0} (cs ds : List Condition) (x : Outcome A) → first_of (cs ++ ds) x ≡ first_of cs (first_of ds x)
unfolding first_of
first-append [] ds x = refl
first-append (c ∷ cs) ds x = ap (cond c.holds (refused c.refusal)) (first-append cs ds x)

-- a refusal does not depend on what comes after the conditions
pub first_refuses : {A B : Type 0} (cs : List Condition) (x : A) (r : Refusal) (y : Outcome B) → refused r ≡ first_of cs (answer x) → refused r ≡ first_of cs y
unfolding first_of
first_refuses [] x r y e = let z : ◌≡◌ {A = ℕ} 0 1 = cc in absurd (omega arith)
first_refuses {A} {B} (c ∷ cs) x r y e = pick c.holds e (first_refuses cs x r y)
  where
    pick : (t : Bool) → refused r ≡ cond t (refused c.refusal) (first_of cs (answer x)) → (refused r ≡ first_of cs (answer x) → refused r ≡ first_of cs y)
        → refused r ≡ cond t (refused c.refusal) (first_of cs y)
    pick true e ih =
        let n : number_of r ≡ number_of c.refusal = cc in
        let v : values_of r ≡ values_of c.refusal = cc in
        ap₂ refuse n v
    pick false e ih = ih e

-- ---- one outcome after another

-- after conditions
pub then_first : {A B : Type 0} (cs : List Condition) (x : Outcome A) (f : A → Outcome B) → and_then (first_of cs x) f ≡ first_of cs (and_then x f)
unfolding first_of and_then
then_first [] x f = refl
then_first {A} {B} (c ∷ cs) x f = pick c.holds (then_first cs x f)
  where
    pick : (t : Bool) → and_then (first_of cs x) f ≡ first_of cs (and_then x f)
        → and_then (cond t (refused c.refusal) (first_of cs x)) f ≡ cond t (refused c.refusal) (first_of cs (and_then x f))
    pick true e = refl
    pick false e = e

pub then_then : {A B C : Type 0} (x : Outcome A) (f : A → Outcome B) (g : B → Outcome C) → and_then (and_then x f) g ≡ and_then x (λ a. and_then (f a) g)
unfolding and_then
then_then (answer a) f g = refl
then_then nothing f g = refl
then_then (refuse n vs) f g = refl

-- an answer shows that both are answers
pub then_answers : {A B : Type 0} (x : Outcome A) (f : A → Outcome B) (y : B) → and_then x f ≡ answer y → (v : A) × (x ≡ answer v) × (f v ≡ answer y)
unfolding and_then
then_answers (answer a) f y e = (a, refl, e)
then_answers nothing f y e = let z : ◌≡◌ {A = ℕ} 0 1 = cc in absurd (omega arith)
then_answers (refuse n vs) f y e = let z : ◌≡◌ {A = ℕ} 0 1 = cc in absurd (omega arith)

-- two continuations that agree on what is answered
pub then_alike : {A B : Type 0} (x : Outcome A) (f g : A → Outcome B) → ((v : A) → x ≡ answer v → f v ≡ g v) → and_then x f ≡ and_then x g
unfolding and_then
then_alike (answer v) f g h = h v refl
then_alike nothing f g h = refl
then_alike (refuse n vs) f g h = refl

pub then_same : {A B : Type 0} (x : Outcome A) (f g : A → Outcome B) → ((a : A) → f a ≡ g a) → and_then x f ≡ and_then x g
then_same x f g e = then_alike x f g (λ a q. e a)
