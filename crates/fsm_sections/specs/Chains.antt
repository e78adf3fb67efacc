-- Chains: equal sections side by side, which whole pages of a region are; so they are counted without a loop over pages. Assumes nothing.
--   link         the chain of an address, a size and a count
--   chain        its sections: c of size z from address a on, each where the one before ends
--   starts       their addresses
--   sections_in  the sections of a chain
--   sections_of  the sections of chains, in order
--   ChainFits    a chain of more than one section ends within 64 bits
use Rattle.std.specs.Prelude.{ℕ, zero, suc, ◌+◌, ◌*◌, ◌^◌, ◌<◌, List, [], ◌∷◌, ◌++◌}
use Rattle.fsm_sections.specs.declared.FreeSection.{FreeSection}
use Rattle.fsm_sections.specs.declared.Chain.{Chain}
use Rattle.fsm_sections.specs.Sections.{section}

abbrev pub link : ℕ → ℕ → ℕ → Chain
link a z c = record { addr = a; size = z; count = c }

unfoldable pub chain : ℕ → ℕ → ℕ → List FreeSection
chain a z zero = []
chain a z (suc c) = section a z ∷ chain (a + z) z c

unfoldable pub starts : ℕ → ℕ → ℕ → List ℕ
starts a z zero = []
starts a z (suc c) = a ∷ starts (a + z) z c

abbrev pub sections_in : Chain → List FreeSection
sections_in r = chain r.addr r.size r.count

unfoldable pub sections_of : List Chain → List FreeSection
sections_of [] = []
sections_of (r ∷ rs) = sections_in r ++ sections_of rs

abbrev pub ChainFits : Chain → Type 0
ChainFits r = 1 < r.count → r.addr + r.count * r.size < 2 ^ 64
