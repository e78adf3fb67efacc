-- `hashlittle` of lookup3.c, over a list of bytes. Assumes nothing.
-- In quotes: document 01's words, from "Blocks on file". Names with brackets are lookup3.c's.
--   add32, sub32   "every add and subtract of the mixing wraps at 32 bits"
--   xor32          the exclusive or of two words, as in mix() and final()
--   rotl32         rot(x, k): "a left rotation of 32 bits"
--   mixed          mix(a, b, c), a line for each statement
--   finished       final(a, b, c), a line for each statement
--   block_added    a block of hashlittle(): a, b and c each gain the next four bytes, a word with its least byte first
--   gained         one word gains a number: a (word 0), b (word 1) or c
--   byte_added     one case of the last switch of hashlittle(): byte j, shifted left by 8 * (j mod 4), is added to a (j < 4), b (j < 8) or c
--   tail_added     the last switch: entered at the last byte, it falls through to byte j, the first of those given
--   ending         the answer for the last bytes: with none, c as it is ("Empty input gives 0xdeadbeef"); else c after the switch and final()
--   hash_from      the answer for the bytes and words at hand: blocks while more than 12 bytes are left, then the ending; n bounds the number
--                  of blocks
--   seed           a, b and c as they start, all equal
--   hash_of        hashlittle(key, length, initval): "starts from 0xdeadbeef plus the length, modulo 2^32"
--   lookup3        the checksum of bytes: hashlittle() with initval 0 (HDF5 File Format Specification, III.H, the checksum fields)
use Rattle.std.specs.Prelude.{ℕ, zero, suc, ◌+◌, ◌-◌, ◌*◌, ◌/◌, ◌%◌, ◌^◌, cond, List, [], ◌∷◌, length, take, drop, bit_xor, nat_lt}
use Rattle.fields.specs.Le.{le_value}
use Rattle.checksum.specs.declared.Words.{Words}

unfoldable pub add32 : ℕ → ℕ → ℕ
add32 x y = (x + y) % 2 ^ 32

unfoldable pub sub32 : ℕ → ℕ → ℕ
sub32 x y = (x + (2 ^ 32 - y)) % 2 ^ 32

unfoldable pub xor32 : ℕ → ℕ → ℕ
xor32 x y = bit_xor x y

unfoldable pub rotl32 : ℕ → ℕ → ℕ
rotl32 x k = x * 2 ^ k % 2 ^ 32 + x / 2 ^ (32 - k)

unfoldable pub mixed : Words → Words
mixed w =
    let a = w.a in
    let b = w.b in
    let c = w.c in
    let a = sub32 a c in
    let a = xor32 a (rotl32 c 4) in
    let c = add32 c b in
    let b = sub32 b a in
    let b = xor32 b (rotl32 a 6) in
    let a = add32 a c in
    let c = sub32 c b in
    let c = xor32 c (rotl32 b 8) in
    let b = add32 b a in
    let a = sub32 a c in
    let a = xor32 a (rotl32 c 16) in
    let c = add32 c b in
    let b = sub32 b a in
    let b = xor32 b (rotl32 a 19) in
    let a = add32 a c in
    let c = sub32 c b in
    let c = xor32 c (rotl32 b 4) in
    let b = add32 b a in
    record { a = a; b = b; c = c }

unfoldable pub finished : Words → Words
finished w =
    let a = w.a in
    let b = w.b in
    let c = w.c in
    let c = xor32 c b in
    let c = sub32 c (rotl32 b 14) in
    let a = xor32 a c in
    let a = sub32 a (rotl32 c 11) in
    let b = xor32 b a in
    let b = sub32 b (rotl32 a 25) in
    let c = xor32 c b in
    let c = sub32 c (rotl32 b 16) in
    let a = xor32 a c in
    let a = sub32 a (rotl32 c 4) in
    let b = xor32 b a in
    let b = sub32 b (rotl32 a 14) in
    let c = xor32 c b in
    let c = sub32 c (rotl32 b 24) in
    record { a = a; b = b; c = c }

unfoldable pub block_added : List ℕ → Words → Words
block_added k w =
    record {
      a = add32 w.a (le_value (take 4 k));
      b = add32 w.b (le_value (take 4 (drop 4 k)));
      c = add32 w.c (le_value (take 4 (drop 8 k)));
    }

unfoldable pub gained : ℕ → ℕ → Words → Words
gained zero v w = record { a = add32 w.a v; b = w.b; c = w.c }
gained (suc zero) v w = record { a = w.a; b = add32 w.b v; c = w.c }
gained (suc (suc i)) v w = record { a = w.a; b = w.b; c = add32 w.c v }

unfoldable pub byte_added : ℕ → ℕ → Words → Words
byte_added j byte w = gained (j / 4) (byte * 2 ^ (8 * (j % 4))) w

unfoldable pub tail_added : ℕ → List ℕ → Words → Words
tail_added j [] w = w
tail_added j (k ∷ ks) w = byte_added j k (tail_added (suc j) ks w)

unfoldable pub ending : List ℕ → Words → ℕ
ending [] w = w.c
ending (k ∷ ks) w = (finished (tail_added 0 (k ∷ ks) w)).c

unfoldable pub hash_from : ℕ → List ℕ → Words → ℕ
hash_from zero k w = ending k w
hash_from (suc n) k w = cond (nat_lt 12 (length k)) (hash_from n (drop 12 k) (mixed (block_added k w))) (ending k w)

abbrev pub seed : ℕ → Words
seed s = record { a = s; b = s; c = s }

unfoldable pub hash_of : List ℕ → ℕ → ℕ
hash_of k initval = hash_from (length k) k (seed ((0xdeadbeef + length k + initval) % 2 ^ 32))

unfoldable pub lookup3 : List ℕ → ℕ
lookup3 k = hash_of k 0
