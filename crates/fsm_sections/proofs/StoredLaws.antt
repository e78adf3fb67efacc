-- Numbers up to 2^64 - 1, and refusal 4 for those above. Assumes nothing.
use Rattle.std.proofs.Common.{◌≡◌, ℕ, ◌<◌, ◌≤◌, ltb, [], ◌∷◌, sym, refl, ap, ◌∙◌, ap₂, ⊎_elim, arith, ltb-false, le-ltb, lt-ltb}
use Rattle.std.specs.Prelude.{Result, Ok, Err}
use Rattle.error.specs.Answers.{as_outcome}
use Rattle.error.specs.declared.Refusal.{Refusal}
use Rattle.error.specs.Refusals.{number_of, values_of}
use Rattle.error.specs.declared.Refusal.TheVariants.{Overflow}
use Rattle.error.specs.Outcome.{Outcome, answer, refuse, refused, when}
use Rattle.error.proofs.TestLaws.{le-or-lt}
use Rattle.error.proofs.OutcomeLaws.{refuses, passes, first_answers}
use Rattle.fields.specs.Ranges.{top}
use Rattle.fsm_sections.specs.Passes.{storable}

-- refusals that are one outcome for some answers are one for all
pub refused_alike : {A B : Type 0} (r q : Refusal) → ◌≡◌ {A = Outcome A} (refused r) (refused q) → ◌≡◌ {A = Outcome B} (refused r) (refused q)
refused_alike r q e =
    let n : number_of r ≡ number_of q = cc in
    let v : values_of r ≡ values_of q = cc in
    ap₂ refuse n v

pub too_great : (n : ℕ) → top < n → refused Overflow ≡ storable n
unfolding storable
too_great n h = refuses _ _ _ (lt-ltb top n h)

pub great_enough : (m n : ℕ) → m ≡ n → m ≤ top → answer m ≡ storable n
unfolding storable
great_enough m n e h = ap (λ (k : ℕ). answer k) e ∙ passes _ _ _ (le-ltb top n (omega arith))

module _ (c : (Result ℕ Refusal)) (n : ℕ) (e : as_outcome c ≡ storable n) where
  pub stored_is : (m : ℕ) → c ≡ Ok m → (m ≡ n) × (n ≤ top)
  unfolding storable
  stored_is m h =
      let q = first_answers (when (ltb top n) Overflow ∷ []) n m (sym e ∙ ap as_outcome h) in
      (sym q.1, ltb-false top n q.0.0)

  pub stored-not : (r : Refusal) → c ≡ Err r → top < n
  stored-not r h = ⊎_elim small (λ (p : top < n). p) (le-or-lt n top)
    where
      small : n ≤ top → top < n
      small p =
          let q : refused r ≡ answer n = ap as_outcome (sym h) ∙ e ∙ sym (great_enough n n refl p) in
          let z : ◌≡◌ {A = ℕ} 0 1 = cc in
          absurd (omega arith)

  -- the refusal is refusal 4, whatever the answer would have been
  pub stored_refusal : (r : Refusal) → c ≡ Err r → {A : Type 0} → ◌≡◌ {A = Outcome A} (refused r) (refused Overflow)
  stored_refusal r h = refused_alike r Overflow (ap as_outcome (sym h) ∙ e ∙ sym (too_great n (stored-not r h)))
