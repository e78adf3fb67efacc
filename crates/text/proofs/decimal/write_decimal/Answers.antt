use mathlib.Core.Path.{◌≡◌, sym, ap, ◌∙◌}
use Prim.Native.Nat.{ℕ, suc, ◌+◌, ◌-◌, ◌/◌, ◌^◌, ◌<◌}
use native.Mathlib.Nat.{div-one, add-zero}
use native.Mathlib.Omega.{arith}
use lib.ListN.{length, drop}
use Rattle.error.specs.Lent.{over}
use Rattle.text.specs.Decimal.{decimal}
use Rattle.text.proofs.DecimalLaws.{put_iteration, rest-next, none_written}
use Rattle.text.proofs.decimal.write_decimal.Goals as goal

pub loop-i-init : goal.loop-i-init
loop-i-init c =
    let a = c.args in
    let k = length (decimal a.n) in
    let e = c.digit_count-count.ensures in
    let z : k - c.digit_count-count.result ≡ 0 = omega arith in (
      sym (ap (λ (j : ℕ). a.n / 10 ^ j) z ∙ div-one a.n),
      none_written a.n a.at a.out.now ∙ ap (λ (j : ℕ). over (a.at + j) (drop j (decimal a.n)) a.out.now) (sym e),
    )

pub loop-i-preserved : goal.loop-i-preserved
loop-i-preserved c =
    let l = c.loop-i in
    let a = c.args in
    let j = l.i - 1 in
    let s : l.i ≡ suc j = omega arith in
    let h : j < length (decimal a.n) = omega arith in
    let r : l.rest ≡ a.n / 10 ^ (length (decimal a.n) - suc j) = l.invariant.0 ∙ ap (λ (k : ℕ). a.n / 10 ^ (length (decimal a.n) - k)) s in
    let o : l.out ≡ over (a.at + suc j) (drop (suc j) (decimal a.n)) a.out.now =
    l.invariant.1 ∙ ap (λ (k : ℕ). over (a.at + k) (drop k (decimal a.n)) a.out.now) s in
    (rest-next a.n a.at j a.out.now h r o, c.put.ensures ∙ put_iteration a.n a.at j a.out.now h r o)

pub returns : goal.returns
returns c =
    let l = c.loop-i in
    let a = c.args in
    let z : l.i ≡ 0 = omega arith in (
      c.digit_count-count.ensures,
      l.invariant.1
          ∙ ap (λ (k : ℕ). over (a.at + k) (drop k (decimal a.n)) a.out.now) z
          ∙ ap (λ (k : ℕ). over k (decimal a.n) a.out.now) (add-zero a.at),
    )
