-- The words of calls and answers, for the replay of recorded calls (recorded/README.md). Assumes nothing.
--   is_call        whether the first word of a line is a name: 32 is the space after it
--   spelled_by     the number that decimal digits spell after digits that spell v: 48 is the digit 0
--   half_digit     the hexadecimal digit of a half byte: 48 is 0, 97 is a
--   hex_byte       the two digits of a byte
--   numbers_line   numbers with single spaces between them, and a newline
--   err_word       "err" and a space
--   refusal_text   the line of a refusal (document 01, "Fourteen ways to say no": "its number and the values named")
--   bad_line       "bad", "ok" and "none", each with a newline: bad_line, ok_line, none_line
--   outcome_text   the line of an outcome, by the line of its answer
--   checked_text   the line of a test
use Rattle.std.specs.Prelude.{ℕ, ◌+◌, ◌-◌, ◌*◌, ◌/◌, ◌%◌, Bool, true, false, cond, ◌&&◌, List, [], ◌∷◌, ◌++◌, ltb, eqb}
use Rattle.error.specs.declared.Refusal.{Refusal}
use Rattle.error.specs.Outcome.{Outcome, answer, nothing, refuse}
use Rattle.error.specs.Refusals.{number_of, values_of}
use Rattle.text.specs.Text.{word}

unfoldable pub is_call : List ℕ → List ℕ → Bool
is_call [] [] = true
is_call [] (c ∷ line) = eqb c 32
is_call (n ∷ name) [] = false
is_call (n ∷ name) (c ∷ line) = eqb c n && is_call name line

unfoldable pub spelled_by : ℕ → List ℕ → ℕ
spelled_by v [] = v
spelled_by v (d ∷ ds) = spelled_by (v * 10 + (d - 48)) ds

unfoldable pub half_digit : ℕ → ℕ
half_digit n = cond (ltb n 10) (48 + n) (97 + (n - 10))

abbrev pub hex_byte : ℕ → List ℕ
hex_byte b = half_digit (b / 16) ∷ half_digit (b % 16) ∷ []

abbrev pub numbers_line : ℕ → List ℕ → List ℕ
numbers_line n [] = word n 10
numbers_line n (m ∷ ns) = word n 32 ++ numbers_line m ns

abbrev pub err_word : List ℕ
err_word = 101 ∷ 114 ∷ 114 ∷ 32 ∷ []

abbrev pub refusal_text : Refusal → List ℕ
refusal_text r = err_word ++ numbers_line (number_of r) (values_of r)

abbrev pub bad_line : List ℕ
bad_line = 98 ∷ 97 ∷ 100 ∷ 10 ∷ []

abbrev pub ok_line : List ℕ
ok_line = 111 ∷ 107 ∷ 10 ∷ []

abbrev pub none_line : List ℕ
none_line = 110 ∷ 111 ∷ 110 ∷ 101 ∷ 10 ∷ []

abbrev pub outcome_text : {A : Type 0} → (A → List ℕ) → Outcome A → List ℕ
outcome_text line (answer a) = line a
outcome_text line nothing = none_line
outcome_text line (refuse n vs) = err_word ++ numbers_line n vs

abbrev pub checked_text : Outcome (Unit {0}) → List ℕ
checked_text = outcome_text (λ _. ok_line)
