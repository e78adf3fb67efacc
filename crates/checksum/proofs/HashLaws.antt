-- Laws of the hash: an iteration of its loop, its end, and its bound. Assumes nothing.
use Rattle.std.proofs.Common.{◌≡◌, ℕ, zero, suc, ◌+◌, ◌-◌, ◌%◌, ◌^◌, ◌<◌, ◌≤◌, List, [], ◌∷◌, length, take, drop, sym, refl, ap, ◌∙◌, ⊎_elim, mod-lt, arith, lit<, length-drop, take_all, le-ltb, lt-ltb}
use Rattle.error.proofs.TestLaws.{le-or-lt}
use Rattle.checksum.specs.declared.Words.{Words}
use Rattle.checksum.specs.Lookup3.{sub32, mixed, finished, block_added, tail_added, ending, hash_from, seed, hash_of, lookup3}

iteration : (n : ℕ) (k : List ℕ) (w : Words) → 12 < length k → hash_from (suc n) k w ≡ hash_from n (drop 12 k) (mixed (block_added k w))
unfolding hash_from
iteration n k w h = rw (lt-ltb 12 (length k) h)

stop : (n : ℕ) (k : List ℕ) (w : Words) → length k ≤ 12 → hash_from n k w ≡ ending k w
unfolding hash_from
stop zero k w h = refl
stop (suc n) k w h = rw (le-ltb 12 (length k) h)

-- as many blocks as there are bytes is enough, and so is more
enough : (m n : ℕ) (k : List ℕ) (w : Words) → length k ≤ m → length k ≤ n → hash_from m k w ≡ hash_from n k w
enough zero n k w hm hn = stop zero k w (omega arith) ∙ sym (stop n k w (omega arith))
enough (suc m) zero k w hm hn = stop (suc m) k w (omega arith) ∙ sym (stop zero k w (omega arith))
enough (suc m) (suc n) k w hm hn =
    ⊎_elim (λ (h : length k ≤ 12). stop (suc m) k w h ∙ sym (stop (suc n) k w h))
    (λ (h : 12 < length k).
    let l : length (drop 12 k) ≡ length k - 12 = length-drop 12 k in
    iteration m k w h ∙ enough m n (drop 12 k) (mixed (block_added k w)) (omega arith) (omega arith) ∙ sym (iteration n k w h))
    (le-or-lt (length k) 12)

-- ---- the hash of the bytes that are left, from the words reached

unfoldable pub hash : List ℕ → Words → ℕ
hash k w = hash_from (length k) k w

pub hash_start : (k : List ℕ) (initval : ℕ) → hash k (seed (((0xdeadbeef + length k % 2 ^ 32) % 2 ^ 32 + initval) % 2 ^ 32)) ≡ hash_of k initval
unfolding hash hash_of
hash_start k initval =
    let q : ((0xdeadbeef + length k % 2 ^ 32) % 2 ^ 32 + initval) % 2 ^ 32 ≡ (0xdeadbeef + length k + initval) % 2 ^ 32 = omega arith in
    ap (λ (n : ℕ). hash_from (length k) k (seed n)) q

-- the bytes after the first twelve as the code lends them, with an end
pub hash_step : (k : List ℕ) (w : Words) → 12 < length k → hash k w ≡ hash (take (length k - 12) (drop 12 k)) (mixed (block_added k w))
unfolding hash
hash_step k w h =
    let v = mixed (block_added k w) in
    enough (length k) (suc (length k)) k w (omega arith) (omega arith)
    ∙ iteration (length k) k w h
    ∙ enough (length k) (length (drop 12 k)) (drop 12 k) v (omega (arith, length-drop 12 k)) (omega arith)
    ∙ ap (λ (l : List ℕ). hash_from (length l) l v) (sym (take_all (length k - 12) (drop 12 k) (omega (arith, length-drop 12 k))))

pub hash_none : (k : List ℕ) (w : Words) → length k ≡ 0 → hash k w ≡ w.c
unfolding hash ending hash_from
hash_none [] w h = refl
hash_none (x ∷ k) w h = absurd (omega arith)

pub hash_some : (k : List ℕ) (w : Words) → 0 < length k → length k ≤ 12 → hash k w ≡ (finished (tail_added 0 k w)).c
unfolding hash ending
hash_some [] w h l = absurd (omega arith)
hash_some (x ∷ k) w h l = stop (length (x ∷ k)) (x ∷ k) w l

-- ---- the checksum

pub lookup3-none : lookup3 [] ≡ 0xdeadbeef
unfolding lookup3 hash_of hash_from ending
lookup3-none = refl

sub-lt : (x y : ℕ) → sub32 x y < 2 ^ 32
unfolding sub32
sub-lt x y = mod-lt (x + (2 ^ 32 - y)) (lit< tt)

finished-lt : (w : Words) → (finished w).c < 2 ^ 32
unfolding finished
finished-lt w = sub-lt _ _

ending-lt : (k : List ℕ) (w : Words) → 0 < length k → ending k w < 2 ^ 32
unfolding ending
ending-lt [] w h = absurd (omega arith)
ending-lt (k ∷ ks) w h = finished-lt (tail_added 0 (k ∷ ks) w)

some-lt : (n : ℕ) (k : List ℕ) (w : Words) → 0 < length k → hash_from n k w < 2 ^ 32
unfolding hash_from
some-lt zero k w h = ending-lt k w h
some-lt (suc n) k w h =
    ⊎_elim (λ (l : length k ≤ 12). rw (stop (suc n) k w l) (ending-lt k w h))
    (λ (l : 12 < length k). rw (iteration n k w l) (some-lt n (drop 12 k) (mixed (block_added k w)) (omega (arith, length-drop 12 k))))
    (le-or-lt (length k) 12)

pub lookup3-lt : (k : List ℕ) → lookup3 k < 2 ^ 32
unfolding lookup3 hash_of
lookup3-lt [] = rw lookup3-none (lit< tt)
lookup3-lt (k ∷ ks) = some-lt (length (k ∷ ks)) (k ∷ ks) (seed ((0xdeadbeef + length (k ∷ ks) + 0) % 2 ^ 32)) (omega arith)
