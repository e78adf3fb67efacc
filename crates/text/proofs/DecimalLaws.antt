-- Laws of decimal digits: how many there are, and which stands where. Assumes nothing.
use mathlib.Core.Path.{◌≡◌, refl, sym, ap, ap₂, ◌∙◌, subst}
use mathlib.Core.Bool.{Bool, true, false, cond}
use mathlib.Core.List.{List, [], ◌∷◌, ◌++◌}
use mathlib.Core.Logic.{⊎_elim}
use Prim.Native.Nat.{ℕ, zero, suc, ◌+◌, ◌-◌, ◌*◌, ◌/◌, ◌%◌, ◌^◌, ◌≤◌, ◌<◌}
use native.Mathlib.Nat.{div-one, div-div-eq-div-mul, pow-suc, pow-succ'}
use native.Mathlib.Omega.{arith}
use borrow.Author.Tests.{ltb-true, lt-ltb, le-ltb}
use lib.Dec.{ltb}
use lib.ListN.{length, get_or, drop, set, length-append, get_or-append}
use lib.Seq.{get_or-append_seam, drop-length}
use Rattle.error.specs.Lent.{over}
use Rattle.error.proofs.TestLaws.{le-or-lt}
use Rattle.error.proofs.OverLaws.{over-nil, up_next}
use Rattle.text.specs.Decimal.{digit, digits, decimal}

-- ---- how many

pub length-one : (f n : ℕ) → n ≤ 9 → length (digits f n) ≡ 1
unfolding digits
length-one zero n h = refl
length-one (suc f) n h = rw (lt-ltb n 10 (omega arith))

pub length_more : (f n : ℕ) → 9 < n → length (digits (suc f) n) ≡ length (digits f (n / 10)) + 1
unfolding digits
length_more f n h = rw (le-ltb n 10 h) (length-append (digits f (n / 10)) (digit (n % 10) ∷ []))

pub count-start : (n : ℕ) → length (decimal n) + 1 ≡ 1 + length (digits 19 n)
unfolding decimal
count-start n = omega arith

-- an iteration that counts a digit: `count` digits are counted, and those of rest are to come
module _ (n count rest : ℕ) where
  pub count_next : 9 < rest → count ≤ 19 → length (decimal n) + 1 ≡ count + length (digits (20 - count) rest)
      → length (decimal n) + 1 ≡ count + 1 + length (digits (20 - (count + 1)) (rest / 10))
  count_next h l e =
      let s : 20 - count ≡ suc (20 - (count + 1)) = omega arith in
      let m = length_more (20 - (count + 1)) rest h in
      let q : length (digits (20 - count) rest) ≡ length (digits (suc (20 - (count + 1))) rest) = ap (λ (f : ℕ). length (digits f rest)) s in
      omega arith

  pub count-end : rest ≤ 9 → length (decimal n) + 1 ≡ count + length (digits (20 - count) rest) → count ≡ length (decimal n)
  count-end h e = let o = length-one (20 - count) rest h in omega arith

  pub fewer : rest < 10 ^ (21 - count) → count ≤ 20 → 9 < rest → (count ≤ 19) × (rest / 10 < 10 ^ (21 - (count + 1)))
  fewer h l m =
      let p = some_left h l m in
      let s : 21 - count ≡ suc (21 - (count + 1)) = omega arith in
      let b : rest < 10 * 10 ^ (21 - (count + 1)) = subst (λ (k : ℕ). rest < k) (ap (λ (k : ℕ). 10 ^ k) s ∙ pow-succ' 10 (21 - (count + 1))) h in
      (p, omega arith)
    where
      some_left : rest < 10 ^ (21 - count) → count ≤ 20 → 9 < rest → count ≤ 19
      some_left h l m =
          ⊎_elim
          (λ (q : count ≤ 19). q)
          (λ (q : 19 < count).
          let e : 21 - count ≡ 1 = omega arith in
          let b : rest < 10 = subst (λ (k : ℕ). rest < 10 ^ k) e h in
          absurd (omega arith))
          (le-or-lt count 19)

-- ---- which

pub digit_at : (f n j : ℕ) → j < length (digits f n) → get_or (digits f n) j 0 ≡ digit (n / 10 ^ (length (digits f n) - 1 - j) % 10)
unfolding digits
digit_at zero n zero h = ap (λ (k : ℕ). digit (k % 10)) (sym (div-one n))
digit_at zero n (suc j) h = absurd (omega arith)
digit_at (suc f) n j h = pick (ltb n 10) (ltb-true n 10) (digit_at f (n / 10)) h
  where
    k : ℕ
    k = length (digits f (n / 10))

    last : ℕ
    last = digit (n % 10)

    later : (j : ℕ) → ((j : ℕ) → j < k → get_or (digits f (n / 10)) j 0 ≡ digit (n / 10 / 10 ^ (k - 1 - j) % 10)) → j < k + 1
        → get_or (digits f (n / 10) ++ (last ∷ [])) j 0 ≡ digit (n / 10 ^ (k - j) % 10)
    later j ih l =
        ⊎_elim
        (λ (q : k ≤ j).
        let e : j ≡ k = omega arith in
        let z : k - j ≡ 0 = omega arith in
        ap (λ (i : ℕ). get_or (digits f (n / 10) ++ (last ∷ [])) i 0) e
        ∙ get_or-append_seam (digits f (n / 10)) last [] 0
        ∙ ap (λ (i : ℕ). digit (i % 10)) (sym (div-one n))
        ∙ ap (λ (i : ℕ). digit (n / 10 ^ i % 10)) (sym z))
        (λ (q : j < k).
        let e : k - j ≡ suc (k - 1 - j) = omega arith in
        get_or-append (digits f (n / 10)) (last ∷ []) 0 j q
        ∙ ih j q
        ∙ ap (λ (i : ℕ). digit (i % 10)) (div-div-eq-div-mul n 10 (10 ^ (k - 1 - j)) ∙ ap (λ (i : ℕ). n / i) (sym (pow-succ' 10 (k - 1 - j))) ∙ ap (λ (i : ℕ). n / 10 ^ i) (sym e)))
        (le-or-lt k j)

    pick : (b : Bool) → (b ≡ true → n < 10) → ((j : ℕ) → j < k → get_or (digits f (n / 10)) j 0 ≡ digit (n / 10 / 10 ^ (k - 1 - j) % 10))
        → j < length (cond b (digit n ∷ []) (digits f (n / 10) ++ (last ∷ [])))
        → get_or (cond b (digit n ∷ []) (digits f (n / 10) ++ (last ∷ []))) j 0
        ≡ digit (n / 10 ^ (length (cond b (digit n ∷ []) (digits f (n / 10) ++ (last ∷ []))) - 1 - j) % 10)
    pick true s ih l =
        let z : j ≡ 0 = omega arith in
        let t : n < 10 = s refl in
        let e : n ≡ n % 10 = omega arith in
        rw z (ap digit (e ∙ ap (λ (i : ℕ). i % 10) (sym (div-one n))))
    pick false s ih l =
        let m : length (digits f (n / 10) ++ (last ∷ [])) ≡ k + 1 = length-append (digits f (n / 10)) (last ∷ []) in
        let e : length (digits f (n / 10) ++ (last ∷ [])) - 1 - j ≡ k - j = omega arith in
        later j ih (omega arith) ∙ ap (λ (i : ℕ). digit (n / 10 ^ i % 10)) (sym e)

pub decimal-at : (n j : ℕ) → j < length (decimal n) → get_or (decimal n) j 0 ≡ digit (n / 10 ^ (length (decimal n) - 1 - j) % 10)
unfolding decimal
decimal-at n j h = digit_at 19 n j h

pub rest_iteration : (n i : ℕ) {rest : ℕ} → rest ≡ n / 10 ^ i → rest / 10 ≡ n / 10 ^ suc i
rest_iteration n i r =
    ap (λ (k : ℕ). k / 10) r ∙ div-div-eq-div-mul n (10 ^ i) 10 ∙ ap (λ (k : ℕ). n / k) (sym (pow-suc 10 i))

-- an iteration that writes digit j, from the last one down
module _ (n at j : ℕ) (d : List ℕ) {out : List ℕ} {rest : ℕ} (h : j < length (decimal n)) (r : rest ≡ n / 10 ^ (length (decimal n) - suc j))
    (e : out ≡ over (at + suc j) (drop (suc j) (decimal n)) d) where
  pub put_iteration : set out (at + j) (48 + rest % 10) ≡ over (at + j) (drop j (decimal n)) d
  put_iteration =
      let s : length (decimal n) - 1 - j ≡ length (decimal n) - suc j = omega arith in
      let v : 48 + rest % 10 ≡ get_or (decimal n) j 0 =
      ap (λ (k : ℕ). digit (k % 10)) r ∙ ap (λ (k : ℕ). digit (n / 10 ^ k % 10)) (sym s) ∙ sym (decimal-at n j h) in
      ap₂ (λ (l : List ℕ) (x : ℕ). set l (at + j) x) e v ∙ up_next at j (decimal n) d h

  pub rest-next : rest / 10 ≡ n / 10 ^ (length (decimal n) - j)
  rest-next =
      let s : suc (length (decimal n) - suc j) ≡ length (decimal n) - j = omega arith in
      rest_iteration n (length (decimal n) - suc j) r ∙ ap (λ (k : ℕ). n / 10 ^ k) s

-- before the first digit is written
pub none_written : (n at : ℕ) (d : List ℕ) → d ≡ over (at + length (decimal n)) (drop (length (decimal n)) (decimal n)) d
none_written n at d =
    let k = length (decimal n) in
    sym (ap (λ (l : List ℕ). over (at + k) l d) (drop-length (decimal n)) ∙ over-nil (at + k) d)
