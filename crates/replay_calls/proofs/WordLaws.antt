-- Laws of a number's digits: one digit more. Assumes nothing.
use Rattle.std.proofs.Common.{◌≡◌, ℕ, ◌+◌, ◌-◌, ◌*◌, ◌<◌, List, [], ◌∷◌, ◌++◌, length, get_or, take, refl, sym, ap, ap₂, ◌∙◌, add-one}
use lib.Seq.{take-suc}
use Rattle.replay_lines.specs.Words.{spelled_by}

pub spell_start : 0 ≡ spelled_by 0 []
unfolding spelled_by
spell_start = refl

spell_append : (v : ℕ) (ds : List ℕ) (d : ℕ) → spelled_by v (ds ++ d ∷ []) ≡ spelled_by v ds * 10 + (d - 48)
unfolding spelled_by
spell_append v [] d = refl
spell_append v (c ∷ ds) d = spell_append (v * 10 + (c - 48)) ds d

pub spell_step : (word : List ℕ) (i value tens digit : ℕ) → i < length word → value ≡ spelled_by 0 (take i word) → tens ≡ value * 10 → digit ≡ get_or word i 0 - 48
    → tens + digit ≡ spelled_by 0 (take (i + 1) word)
spell_step word i value tens digit h e t d =
    ap₂ (λ (a b : ℕ). a + b) (t ∙ ap (λ (v : ℕ). v * 10) e) d
    ∙ sym (spell_append 0 (take i word) (get_or word i 0))
    ∙ ap (λ (l : List ℕ). spelled_by 0 l) (sym (take-suc word i 0 h))
    ∙ ap (λ (k : ℕ). spelled_by 0 (take k word)) (sym (add-one i))
