-- Sizes in a window: those from a bound up to another, each once, and how many sizes there are from a bound on. The number of sizes is the
-- "distinct sizes" of document 01, Blocks: "Length: 9+O + distinct sizes × (count width+8) + sections × (O+1)". Assumes nothing.
--   inside      a number is in a window
--   at_least    the sections whose size is at or above a bound
--   sizes_from  how many sizes these have
--   Gathers     what a list of sizes becomes: each size in the window that has sections (seen z of them) stands in it once, the others as before
--   Counted     as many sizes as lie in a window, and those above it, are those from where it begins
--   between     the groups whose size lies in a window
--   groups_in   those of sections in the order on file
use Rattle.std.specs.Prelude.{◌≡◌, ℕ, ◌+◌, ◌≤◌, Bool, cond, ◌&&◌, List, [], ◌∷◌, nat_le, nat_lt}
use Rattle.fsm_sections.specs.declared.FreeSection.{FreeSection}
use Rattle.fsm_sections.specs.Sections.{Group, by_size_then_addr, groups_of, distinct}
use Rattle.fsm_sections.specs.Passes.{occurs}

abbrev pub inside : ℕ → ℕ → ℕ → Bool
inside from reach z = nat_le from z && nat_le z reach

unfoldable pub at_least : ℕ → List FreeSection → List FreeSection
at_least from [] = []
at_least from (y ∷ l) = cond (nat_le from y.size) (y ∷ at_least from l) (at_least from l)

abbrev pub sizes_from : ℕ → List FreeSection → ℕ
sizes_from from l = distinct (at_least from l)

abbrev pub Gathers : ℕ → ℕ → (ℕ → ℕ) → List ℕ → List ℕ → Type 0
Gathers from reach seen old new = (z : ℕ) → occurs z new ≡ cond (inside from reach z && nat_lt 0 (seen z)) 1 (occurs z old)

pub record Counted (from : ℕ) (l : List FreeSection) (found reach : ℕ) : Type 0 where
  pub up : from ≤ reach
  pub same : found + sizes_from (reach + 1) l ≡ sizes_from from l

unfoldable pub between : ℕ → ℕ → List Group → List Group
between from reach [] = []
between from reach (g ∷ gs) = cond (inside from reach g.size) (g ∷ between from reach gs) (between from reach gs)

abbrev pub groups_in : ℕ → ℕ → List FreeSection → List Group
groups_in from reach l = between from reach (groups_of (by_size_then_addr l))
