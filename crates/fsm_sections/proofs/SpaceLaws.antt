-- The sum of the sizes of sections. Assumes nothing.
use Rattle.std.proofs.Common.{◌≡◌, ℕ, zero, suc, ◌+◌, ◌*◌, List, [], ◌∷◌, ◌++◌, ap, arith}
use Rattle.fsm_sections.specs.declared.FreeSection.{FreeSection}
use Rattle.fsm_sections.specs.Sections.{by_size_then_addr, space}
use Rattle.fsm_sections.specs.Chains.{chain}
use Rattle.fsm_sections.proofs.PassLaws.{by_order}

pub space-append : (l m : List FreeSection) → space (l ++ m) ≡ space l + space m
unfolding space
space-append [] m = omega arith
space-append (x ∷ l) m = omega (arith, space-append l m)

pub space-chain : (a z c : ℕ) → space (chain a z c) ≡ c * z
unfolding space chain
space-chain a z zero = omega arith
space-chain a z (suc c) = omega (arith, space-chain (a + z) z c)

pub space-sorted : (l : List FreeSection) → space (by_size_then_addr l) ≡ space l
unfolding space
space-sorted = by_order space (λ s l m e. ap (λ (n : ℕ). s.size + n) e) (λ s t l. omega arith)
