-- Laws of numbers that end a line, put one by one. Assumes nothing.
use Rattle.std.proofs.Common.{◌≡◌, ℕ, ◌+◌, ◌<◌, List, length, get_or, drop, suc, refl, sym, ap, ◌∙◌, add-one, drop-cons}
use Rattle.error.specs.Lent.{With, with}
use Rattle.text.specs.Text.{written, word}
use Rattle.text.proofs.TextLaws.{then}
use Rattle.replay_lines.specs.Words.{numbers_line}

-- one more number is put: `whole` stays what is there with the rest of the line
pub line_next : {whole : With ℕ (List ℕ)} (rest out : List ℕ) (i to last : ℕ) {r : ℕ} {m : List ℕ} → i < length rest
    → written to (numbers_line last (drop i rest)) out ≡ whole → with r m ≡ written to (word last 32) out
    → written r (numbers_line (get_or rest i 0) (drop (i + 1) rest)) m ≡ whole
line_next rest out i to last {r} {m} h e w =
    ap (λ (k : ℕ). written r (numbers_line (get_or rest i 0) (drop k rest)) m) (add-one i)
    ∙ then to (word last 32) (numbers_line (get_or rest i 0) (drop (suc i) rest)) out w refl
    ∙ ap (λ (l : List ℕ). written to (numbers_line last l) out) (sym (drop-cons rest i 0 h))
    ∙ e
