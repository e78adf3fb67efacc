-- What a public entry ends in, and the order of its refusals. Every contract goes through these. Assumes nothing.
-- In quotes: document 01's words, from "Fourteen ways to say no" or from the heading named.
--   Outcome     an entry's end: its answer, Nothing, or a refusal with its number and values ("Every public entry says what it yields")
--   refused     the outcome that a refusal of the code stands for ("Language forms in the code": "for every case of the enum")
--   Condition   a test, and the refusal that is due where it holds ("each condition is exact")
--   when        the condition of a test and a refusal
--   first_of    the refusal of the first condition that holds, or else what comes after all of them: refusals are given in the order of the
--               conditions ("Where several apply, the lowest number is given, unless a sequence of tests is stated")
--   and_then    what follows on an answer; a refusal or Nothing ends it ("Blocks on file": "the first refusal ends the read")
--   sat         a count or a sum as a refusal carries it: what exceeds 2^64 - 1 stands as 2^64 - 1 ("Eight files": "on overflow, expected
--               saturates"; a needed count of refusal 14 is cut alike, docs/DECISIONS.md)
use Rattle.std.specs.Prelude.{ℕ, ◌-◌, ◌^◌, min, Bool, cond, List, [], ◌∷◌}
use Rattle.error.specs.declared.Refusal.{Refusal}
use Rattle.error.specs.Refusals.{number_of, values_of}

pub data Outcome (A : Type 0) : Type 0 where
  answer : A → Outcome A
  nothing : Outcome A
  refuse : ℕ → List ℕ → Outcome A

abbrev pub refused : {A : Type 0} → Refusal → Outcome A
refused r = refuse (number_of r) (values_of r)

pub record Condition : Type 0 where
  pub holds : Bool
  pub refusal : Refusal

abbrev pub when : Bool → Refusal → Condition
when t r = record { holds = t; refusal = r }

unfoldable pub first_of : {A : Type 0} → List Condition → Outcome A → Outcome A
first_of [] x = x
first_of (c ∷ cs) x = cond c.holds (refused c.refusal) (first_of cs x)

unfoldable pub and_then : {A B : Type 0} → Outcome A → (A → Outcome B) → Outcome B
and_then (answer a) f = f a
and_then nothing f = nothing
and_then (refuse n vs) f = refuse n vs

unfoldable pub sat : ℕ → ℕ
sat n = min n (2 ^ 64 - 1)
