-- The last switch, by what it adds: at most twelve bytes add what they spell, word by word. Assumes nothing.
use Rattle.std.proofs.Common.{◌≡◌, ℕ, zero, suc, ◌+◌, ◌*◌, ◌/◌, ◌%◌, ◌^◌, ◌≤◌, List, [], ◌∷◌, length, take, drop, sym, refl, ap, ◌∙◌, add-zero, add-suc, mod-lt, mul_assoc, add-mul, suc-add, zero-mul, mul-one, arith, lit<, drop_of_length-le, length-take, drop-drop, pow-add}
use Rattle.fields.specs.Le.{le_value}
use Rattle.checksum.specs.declared.Words.{Words}
use Rattle.checksum.specs.Lookup3.{add32, block_added, gained, byte_added, tail_added}
use Rattle.checksum.specs.LastBlock.{Low}

add-add : (x y z : ℕ) → add32 (add32 x y) z ≡ add32 x (z + y)
unfolding add32
add-add x y z = omega arith

-- ---- one word gains what its bytes spell

gained-gained : (i u v : ℕ) (w : Words) → gained i u (gained i v w) ≡ gained i (u + v) w
unfolding gained
gained-gained zero u v w = rw add-add
gained-gained (suc zero) u v w = rw add-add
gained-gained (suc (suc i)) u v w = rw add-add

gained-none : (i : ℕ) (w : Words) → Low w → gained i 0 w ≡ w
unfolding gained add32
gained-none zero w l = let e : (w.a + 0) % 2 ^ 32 ≡ w.a = omega arith in rw e
gained-none (suc zero) w l = let e : (w.b + 0) % 2 ^ 32 ≡ w.b = omega arith in rw e
gained-none (suc (suc i)) w l = let e : (w.c + 0) % 2 ^ 32 ≡ w.c = omega arith in rw e

gained-low : (i v : ℕ) (w : Words) → Low w → Low (gained i v w)
unfolding gained add32
gained-low zero v w l = record { low_a = mod-lt (w.a + v) (lit< tt); low_b = l.low_b; low_c = l.low_c }
gained-low (suc zero) v w l = record { low_a = l.low_a; low_b = mod-lt (w.b + v) (lit< tt); low_c = l.low_c }
gained-low (suc (suc i)) v w l = record { low_a = l.low_a; low_b = l.low_b; low_c = mod-lt (w.c + v) (lit< tt) }

-- a byte's weight in its word
weight : (r : ℕ) → 2 ^ (8 * suc r) ≡ 2 ^ (8 * r) * 256
weight r = let e : 8 * suc r ≡ 8 * r + 8 = omega arith in rw e (pow-add 2 (8 * r) 8)

weighed : (b v p : ℕ) → b * p + v * (p * 256) ≡ (b + 256 * v) * p
weighed b v p =
    let e : v * (p * 256) ≡ v * p * 256 = sym (mul_assoc v p 256) in
    let f : 256 * v * p ≡ 256 * (v * p) = mul_assoc 256 v p in
    omega (arith, add-mul b (256 * v) p)

-- the bytes from r on of word i
word-gained : (i r : ℕ) (k : List ℕ) (w : Words) → Low w → r + length k ≤ 4 → tail_added (4 * i + r) k w ≡ gained i (le_value k * 2 ^ (8 * r)) w
unfolding tail_added byte_added le_value
word-gained i r [] w l h = sym (rw (zero-mul (2 ^ (8 * r))) (gained-none i w l))
word-gained i r (b ∷ k) w l h =
    let q : (4 * i + r) / 4 ≡ i = omega arith in
    let m : (4 * i + r) % 4 ≡ r = omega arith in
    rw (q, m, ← add-suc (4 * i) r, word-gained i (suc r) k w l (omega arith), weight r, gained-gained)
    (ap (λ (v : ℕ). gained i v w) (weighed b (le_value k) (2 ^ (8 * r))))

-- ---- the words one after the other

-- the first n bytes are added after the others
split : (j n : ℕ) (k : List ℕ) (w : Words) → tail_added j k w ≡ tail_added j (take n k) (tail_added (j + n) (drop n k) w)
unfolding tail_added
split j zero k w = rw add-zero
split j (suc n) [] w = refl
split j (suc n) (b ∷ k) w = rw (add-suc, ← suc-add, ← split (suc j) n k w)

-- word i gains the next four bytes, or as many as there are, once the later ones are added
next : (i : ℕ) (k : List ℕ) (w v : Words) → Low v → tail_added (4 * i + 4) (drop 4 k) w ≡ v → tail_added (4 * i) k w ≡ gained i (le_value (take 4 k)) v
next i k w v l e =
    let n : 0 + length (take 4 k) ≤ 4 = omega (arith, length-take 4 k) in
    let f : tail_added (4 * i + 0) (take 4 k) v ≡ gained i (le_value (take 4 k) * 1) v = word-gained i 0 (take 4 k) v l n in
    split (4 * i) 4 k w ∙ ap (tail_added (4 * i) (take 4 k)) e ∙ (rw (add-zero, mul-one) at f)

pub tail_is : (k : List ℕ) (w : Words) → length k ≤ 12 → Low w → tail_added 0 k w ≡ block_added k w
unfolding block_added gained tail_added
tail_is k w h l =
    let none : drop 4 (drop 8 k) ≡ [] = drop-drop 4 8 k ∙ drop_of_length-le k h in
    let e8 : tail_added 8 (drop 8 k) w ≡ gained 2 (le_value (take 4 (drop 8 k))) w = next 2 (drop 8 k) w w l (ap (λ (q : List ℕ). tail_added 12 q w) none) in
    let v = gained 2 (le_value (take 4 (drop 8 k))) w in
    let l8 : Low v = gained-low 2 (le_value (take 4 (drop 8 k))) w l in
    let e4 : tail_added 4 (drop 4 k) w ≡ gained 1 (le_value (take 4 (drop 4 k))) v = next 1 (drop 4 k) w v l8 (ap (λ (q : List ℕ). tail_added 8 q w) (drop-drop 4 4 k) ∙ e8) in
    next 0 k w (gained 1 (le_value (take 4 (drop 4 k))) v) (gained-low 1 (le_value (take 4 (drop 4 k))) v l8) e4
