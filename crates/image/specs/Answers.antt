-- The outcome that the answer of `read_image` or `read_image_strict` stands for (document 01, "Language forms": "for every case of the enum"). Assumes nothing.
--   outcome_with    of an answer and the counts beside it
--   image_outcome   of both together: the twelve counts of slots, or the refusal
--   counts_in       the counts that stand beside it: all 0 where it is a refusal ("Fourteen ways to say no": "Each promise covers answer and lent
--                   memory, refusals too")
--   refused_read    a refused reading with its counts
use Rattle.std.specs.Prelude.{ℕ, List, replicate, Result, Ok, Err}
use Rattle.error.specs.declared.Refusal.{Refusal}
use Rattle.error.specs.Outcome.{Outcome, answer, nothing, refuse, refused}
use Rattle.image.specs.declared.ImageRead.{ImageRead}

abbrev pub outcome_with : List ℕ → Result (Unit {0}) Refusal → Outcome (List ℕ)
outcome_with counts (Ok u) = answer counts
outcome_with counts (Err r) = refused r

abbrev pub image_outcome : ImageRead → Outcome (List ℕ)
image_outcome r = outcome_with r.counts r.answer

abbrev pub counts_in : Outcome (List ℕ) → List ℕ
counts_in (answer counts) = counts
counts_in nothing = replicate 12 0
counts_in (refuse n vs) = replicate 12 0

abbrev pub refused_read : Refusal → ImageRead
refused_read r = record { answer = Err r; counts = replicate 12 0 }
