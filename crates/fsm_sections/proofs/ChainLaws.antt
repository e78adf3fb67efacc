-- The addresses of a chain fit 64 bits. Assumes nothing.
use Rattle.std.proofs.Common.{◌≡◌, ℕ, zero, suc, ◌+◌, ◌-◌, ◌*◌, ◌^◌, ◌<◌, ◌≤◌, mul-le-mul_right, arith}
use Rattle.fsm_sections.specs.Chains.{link, ChainFits}

pub start_fits : (a z c i : ℕ) → ChainFits (link a z c) → a < 2 ^ 64 → i < c → a + i * z < 2 ^ 64
start_fits a z zero i f h k = absurd (omega arith)
start_fits a z (suc zero) i f h k = let e : i ≡ 0 = omega arith in rw e (omega arith)
start_fits a z (suc (suc c)) i f h k =
    let p : i ≤ suc (suc c) = omega arith in
    omega (arith, f (omega arith), mul-le-mul_right z p)

pub last_fits : (a z c : ℕ) → ChainFits (link a z c) → a < 2 ^ 64 → (c ≡ 0 → ⊥) → a + (c - 1) * z < 2 ^ 64
last_fits a z c f h n = start_fits a z c (c - 1) f h (omega arith)
