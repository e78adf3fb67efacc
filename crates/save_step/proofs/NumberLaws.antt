-- Laws of the stores of a save by their numbers. Assumes nothing.
use mathlib.Core.Path.{◌≡◌, refl, sym, ap, ◌∙◌}
use mathlib.Core.Logic.{◌≢◌, ◌⊎◌, inl, inr, ⊎_elim}
use mathlib.Core.Bool.{cond}
use mathlib.Core.List.{List, [], ◌∷◌, ◌++◌}
use Prim.Native.Nat.{ℕ, zero, suc, ◌+◌, ◌-◌, ◌≤◌, ◌<◌}
use native.Mathlib.Nat.{le_of_suc-le-suc, not-suc-le-zero, suc-add, add-suc, add-zero}
use native.Mathlib.Omega.{arith}
use lib.Dec.{ltb}
use lib.ListN.{length, take, drop, get_or, length-append, length-drop, get_or-append}
use lib.Seq.{length-take-le, get_or-take, get_or-drop, get_or-append-add}
use borrow.Author.Tests.{lt-ltb, le-ltb}
use Rattle.error.proofs.TestLaws.{le-or-lt}
use Rattle.save_step.specs.declared.Store.{Store}
use Rattle.file_space_info.specs.Message.{message_len}
use Rattle.save_step.specs.Stores.{no_store, store, ascending, but, persist, save_stores}
use Rattle.save_step.specs.Steps.{stores}

length-ascending : (p : ℕ) (b : List ℕ) → length (ascending p b) ≡ length b
unfolding ascending
length-ascending p [] = refl
length-ascending p (x ∷ b) = ap suc (length-ascending (suc p) b)

get_or-ascending : (p : ℕ) (b : List ℕ) (k : ℕ) → k < length b → get_or (ascending p b) k no_store ≡ store (p + k) (get_or b k 0)
unfolding ascending
get_or-ascending p [] k h = absurd (not-suc-le-zero h)
get_or-ascending p (x ∷ b) zero h = rw add-zero
get_or-ascending p (x ∷ b) (suc k) h = get_or-ascending (suc p) b k (le_of_suc-le-suc h) ∙ ap (λ (n : ℕ). store n (get_or b k 0)) (suc-add p k ∙ sym (add-suc p k))

-- the number of the store of message byte j, with L block bytes: persist is left out, so the bytes after it come one store earlier
unfoldable pub byte_number : ℕ → ℕ → ℕ
byte_number L j = cond (ltb j persist) (suc (L + j)) (L + j)

pub number_before : (L j : ℕ) → j < persist → byte_number L j ≡ suc (L + j)
unfolding byte_number
number_before L j h = rw (lt-ltb j persist h)

pub number_after : (L j : ℕ) → persist < j → byte_number L j ≡ L + j
unfolding byte_number
number_after L j h = let h' : persist ≤ j = omega arith in rw (le-ltb j persist h')

pub number_in : (L j : ℕ) → j < message_len → j ≢ persist → byte_number L j < stores L
number_in L j h n =
    ⊎_elim
    (λ (l : persist ≤ j). omega (arith, number_after L j (omega arith)))
    (λ (l : j < persist). omega (arith, number_before L j l))
    (le-or-lt persist j)

module _ (place start : ℕ) (blocks message : List ℕ) (len : length message ≡ message_len) where
  abbrev L : ℕ
  L = length blocks

  abbrev ss : List Store
  ss = save_stores place start blocks message

  -- the stores of the message's bytes, and the rest of the stores
  abbrev whole : List Store
  whole = ascending place message

  abbrev rest : List Store
  rest = but persist whole ++ (store (place + persist) 1 ∷ [])

  length_whole : length whole ≡ message_len
  length_whole = length-ascending place message ∙ len

  length_front : length (take persist whole) ≡ persist
  length_front = length-take-le persist whole (omega (arith, length_whole))

  length-but : length (but persist whole) ≡ 124
  length-but = length-append (take persist whole) (drop (suc persist) whole) ∙ omega (arith, length_front, length-drop (suc persist) whole, length_whole)

  pub count : length ss ≡ stores L
  unfolding save_stores
  count =
      let e : length (ascending start blocks ++ rest) ≡ L + length rest = length-append (ascending start blocks) rest ∙ ap (λ (n : ℕ). n + length rest) (length-ascending start blocks) in
      let f : length rest ≡ 125 = length-append (but persist whole) (store (place + persist) 1 ∷ []) ∙ omega (arith, length-but) in
      omega arith

  pub store-first : get_or ss 0 no_store ≡ store (place + persist) 0
  unfolding save_stores
  store-first = refl

  pub store_block : (i : ℕ) → i < L → get_or ss (suc i) no_store ≡ store (start + i) (get_or blocks i 0)
  unfolding save_stores
  store_block i h = get_or-append (ascending start blocks) rest no_store i (rw length-ascending h) ∙ get_or-ascending start blocks i h

  after_blocks : (n : ℕ) → get_or ss (suc (L + n)) no_store ≡ get_or rest n no_store
  unfolding save_stores
  after_blocks n =
      ap (λ (l : ℕ). get_or (ascending start blocks ++ rest) (l + n) no_store) (sym (length-ascending start blocks)) ∙ get_or-append-add (ascending start blocks) rest n no_store

  in_message : (n : ℕ) → n < 124 → get_or ss (suc (L + n)) no_store ≡ get_or (but persist whole) n no_store
  in_message n h = after_blocks n ∙ get_or-append (but persist whole) (store (place + persist) 1 ∷ []) no_store n (omega (arith, length-but))

  in_whole : (j : ℕ) → j < message_len → get_or whole j no_store ≡ store (place + j) (get_or message j 0)
  in_whole j h = get_or-ascending place message j (omega arith)

  pub store-before : (j : ℕ) → j < persist → get_or ss (suc (L + j)) no_store ≡ store (place + j) (get_or message j 0)
  store-before j h =
      in_message j (omega arith)
      ∙ get_or-append (take persist whole) (drop (suc persist) whole) no_store j (omega (arith, length_front))
      ∙ get_or-take persist whole j no_store h
      ∙ in_whole j (omega arith)

  pub stored-after : (j : ℕ) → persist < j → j < message_len → get_or ss (L + j) no_store ≡ store (place + j) (get_or message j 0)
  stored-after j h l =
      let e : L + j ≡ suc (L + (j - 1)) = omega arith in
      let f : j - 1 ≡ length (take persist whole) + (j - 3) = omega (arith, length_front) in
      let g : suc persist + (j - 3) ≡ j = omega arith in
      ap (λ (n : ℕ). get_or ss n no_store) e
      ∙ in_message (j - 1) (omega arith)
      ∙ ap (λ (n : ℕ). get_or (but persist whole) n no_store) f
      ∙ get_or-append-add (take persist whole) (drop (suc persist) whole) (j - 3) no_store
      ∙ get_or-drop (suc persist) whole (j - 3) no_store
      ∙ ap (λ (n : ℕ). get_or whole n no_store) g
      ∙ in_whole j l

  pub store-last : get_or ss (L + 125) no_store ≡ store (place + persist) 1
  store-last =
      let e : L + 125 ≡ suc (L + 124) = omega arith in
      let f : 124 ≡ length (but persist whole) + 0 = omega (arith, length-but) in
      ap (λ (n : ℕ). get_or ss n no_store) e
      ∙ after_blocks 124
      ∙ ap (λ (n : ℕ). get_or rest n no_store) f
      ∙ get_or-append-add (but persist whole) (store (place + persist) 1 ∷ []) 0 no_store

  pub store_message : (j : ℕ) → j < message_len → j ≢ persist → get_or ss (byte_number L j) no_store ≡ store (place + j) (get_or message j 0)
  store_message j h n =
      ⊎_elim
      (λ (l : persist ≤ j). let m : persist < j = omega arith in rw (number_after L j m) (stored-after j m h))
      (λ (l : j < persist). rw (number_before L j l) (store-before j l))
      (le-or-lt persist j)

  -- a property of every store, by what the store is
  pub each : (Q : ℕ → Store → Type 0) → Q 0 (store (place + persist) 0) → ((i : ℕ) → i < L → Q (suc i) (store (start + i) (get_or blocks i 0)))
      → ((j : ℕ) → j < message_len → j ≢ persist → Q (byte_number L j) (store (place + j) (get_or message j 0))) → Q (L + 125) (store (place + persist) 1)
      → (k : ℕ) → k < stores L → Q k (get_or ss k no_store)
  each Q first block byte last zero h = rw store-first first
  each Q first block byte last (suc i) h = pick (le-or-lt L i) (le-or-lt (L + 2) i) (le-or-lt (L + 124) i)
    where
      at : (k : ℕ) (s : Store) → suc i ≡ k → get_or ss k no_store ≡ s → Q k s → Q (suc i) (get_or ss (suc i) no_store)
      at k s e f q = rw (e, f) q

      pick : (L ≤ i) ⊎ (i < L) → (L + 2 ≤ i) ⊎ (i < L + 2) → (L + 124 ≤ i) ⊎ (i < L + 124) → Q (suc i) (get_or ss (suc i) no_store)
      pick (inr a) b c = at (suc i) _ refl (store_block i a) (block i a)
      pick (inl a) (inr b) c =
          let j : ℕ = i - L in
          at (byte_number L j) _ (omega (arith, number_before L j (omega arith))) (store_message j (omega arith) (λ e. omega arith)) (byte j (omega arith) (λ e. omega arith))
      pick (inl a) (inl b) (inr c) =
          let j : ℕ = suc i - L in
          at (byte_number L j) _ (omega (arith, number_after L j (omega arith))) (store_message j (omega arith) (λ e. omega arith)) (byte j (omega arith) (λ e. omega arith))
      pick (inl a) (inl b) (inl c) = at (L + 125) _ (omega arith) store-last last
