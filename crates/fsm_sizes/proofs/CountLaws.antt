-- Sizes counted window by window. Assumes nothing.
use Rattle.std.proofs.Common.{◌≡◌, ℕ, ◌+◌, ◌≤◌, List, ap, ◌∙◌, arith}
use Rattle.fields.specs.Ranges.{top}
use Rattle.fsm_sections.specs.declared.FreeSection.{FreeSection}
use Rattle.fsm_sections.specs.Sections.{All}
use Rattle.fsm_sizes.specs.Windows.{sizes_from, Counted}
use Rattle.fsm_sizes.proofs.WindowLaws.{from-none}
use Rattle.error.specs.Outcome.{sat}

pub last-window : (l : List FreeSection) → All (λ y. y.size ≤ top) l → (from found reach : ℕ) → Counted from l found reach → reach ≡ top → found ≡ sizes_from from l
last-window l h from found reach c e = let z : sizes_from (reach + 1) l ≡ 0 = ap (λ (m : ℕ). sizes_from (m + 1) l) e ∙ from-none top l h in omega (arith, c.same)

-- one window more is counted
pub counted-on : (n m found rest left d : ℕ) → m ≡ sat (n + found) → found + rest ≡ left → sat (n + left) ≡ d → sat (m + rest) ≡ d
unfolding sat
counted-on n m found rest left d e f g = omega arith
