-- The memory that is lent to an entry: what an outcome leaves of it, and what a write makes of it. Assumes nothing.
-- In quotes: document 01's words, from "Fourteen ways to say no".
--   With      an answer, together with what the lent memory holds when it is given ("Each promise covers answer and lent memory")
--   with      the answer and the memory put together
--   Left      an outcome, and what the lent memory holds after it ("refusals too")
--   left      the outcome and the memory put together
--   leaving   an outcome and the lent memory after it: a refusal or Nothing leaves the memory as it was ("Nothing changes no lent memory")
--   over      a run with numbers written over it from a place on; what would pass its end is dropped: how contracts say what is written
use Rattle.std.specs.Prelude.{ℕ, zero, suc, List, [], ◌∷◌}
use Rattle.error.specs.Outcome.{Outcome, answer, nothing, refuse}

pub record With (A M : Type 0) : Type 0 where
  pub value : A
  pub memory : M

abbrev pub with : {A M : Type 0} → A → M → With A M
with a m = record { value = a; memory = m }

pub record Left (A M : Type 0) : Type 0 where
  pub outcome : Outcome A
  pub memory : M

abbrev pub left : {A M : Type 0} → Outcome A → M → Left A M
left o m = record { outcome = o; memory = m }

abbrev pub leaving : {A M : Type 0} → M → Outcome (With A M) → Left A M
leaving m (answer a) = left (answer a.value) a.memory
leaving m nothing = left nothing m
leaving m (refuse n vs) = left (refuse n vs) m

abbrev pub over : ℕ → List ℕ → List ℕ → List ℕ
over i vs [] = []
over zero [] (x ∷ xs) = x ∷ xs
over zero (v ∷ vs) (x ∷ xs) = v ∷ over zero vs xs
over (suc i) vs (x ∷ xs) = x ∷ over i vs xs
