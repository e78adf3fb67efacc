-- Laws of a save that is cut after any number of stores, for any blocks and message. Assumes nothing.
use mathlib.Core.Path.{◌≡◌, refl, sym, ap, ◌∙◌}
use mathlib.Core.Logic.{◌≢◌, ◌⊎◌, inl, inr, ⊎_elim}
use mathlib.Core.List.{List, [], ◌∷◌}
use Prim.Native.Nat.{ℕ, suc, ◌+◌, ◌≤◌, ◌<◌}
use native.Mathlib.Nat.{add-zero, le_of_eq, zero-lt-suc}
use native.Mathlib.Decide.{ℕ_discrete}
use native.Mathlib.Omega.{arith}
use lib.Dec.{lit<}
use lib.ListN.{length, take, drop, get_or, length-drop}
use lib.Seq.{length-take-le, get_or-take, get_or-drop, ext_get_or}
use Rattle.error.proofs.TestLaws.{le-or-lt}
use Rattle.fields.specs.Layout.{window}
use Rattle.save_step.specs.declared.Store.{Store}
use Rattle.file_space_info.specs.Message.{message_len}
use Rattle.save_step.specs.Stores.{no_store, make_all, after, persist, save_stores}
use Rattle.save_step.specs.Steps.{stores}
use Rattle.save_step.proofs.StoreLaws.{length-all, after-all, cut-other, cut-last, Sole, sole_old, sole_new, all_twice}
use Rattle.save_step.proofs.NumberLaws.{byte_number, number_in, count, store-first, store_block, store_message, store-last, each}

-- what a begun save has: a message whose persist byte is 1, and message and blocks in the image and apart; where there is no block, `start` may be anything
pub record Savable (place start : ℕ) (blocks message image : List ℕ) : Type 0 where
  pub message_long : length message ≡ message_len
  pub new_persist : get_or message persist 0 ≡ 1
  pub message_in : place + message_len ≤ length image
  pub blocks_in : 0 < length blocks → start + length blocks ≤ length image
  pub apart : 0 < length blocks → (place + message_len ≤ start) ⊎ (start + length blocks ≤ place)

-- bytes stand at a place where each of them does
holds : (p : ℕ) (b image : List ℕ) → (0 < length b → p + length b ≤ length image) → ((n : ℕ) → n < length b → get_or image (p + n) 0 ≡ get_or b n 0)
    → window p (length b) image ≡ b
holds p [] image h f = refl
holds p (x ∷ b) image h f =
    let l : p + length (x ∷ b) ≤ length image = h (zero-lt-suc (length b)) in
    let e : length (window p (length (x ∷ b)) image) ≡ length (x ∷ b) = length-take-le (length (x ∷ b)) (drop p image) (omega (arith, length-drop p image)) in
    ext_get_or 0 (window p (length (x ∷ b)) image) (x ∷ b) e
    (λ n l. let m : n < length (x ∷ b) = omega arith in get_or-take (length (x ∷ b)) (drop p image) n 0 m ∙ get_or-drop p image n 0 ∙ f n m)

module _ (place start : ℕ) (blocks message image : List ℕ) (s : Savable place start blocks message image) where
  abbrev L : ℕ
  L = length blocks

  abbrev ss : List Store
  ss = save_stores place start blocks message

  abbrev cut : ℕ → List ℕ
  cut k = after k image ss

  pub number_of-stores : length ss ≡ stores L
  number_of-stores = count place start blocks message s.message_long

  pub cut-none : cut 0 ≡ image
  unfolding make_all
  cut-none = refl

  pub cut_all : cut (stores L) ≡ make_all image ss
  cut_all = after-all (stores L) image ss (le_of_eq number_of-stores)

  pub cut-length : (k : ℕ) → length (cut k) ≡ length image
  cut-length k = length-all image (take k ss)

  -- a property of every store, by what the store is
  every : (Q : ℕ → ℕ → Type 0) → Q 0 (place + persist) → ((i : ℕ) → i < L → Q (suc i) (start + i))
      → ((j : ℕ) → j < message_len → j ≢ persist → Q (byte_number L j) (place + j)) → Q (L + 125) (place + persist)
      → (n : ℕ) → n < length ss → Q n (get_or ss n no_store).place
  every Q first block byte last n h =
      each place start blocks message s.message_long (λ n t. Q n t.place) first block byte last n (omega (arith, number_of-stores))

  -- ---- bytes that belong to neither

  pub frame : (k q : ℕ) → (q < start) ⊎ (start + L ≤ q) → (q < place) ⊎ (place + message_len ≤ q) → get_or (cut k) q 0 ≡ get_or image q 0
  frame k q b m = cut-other image ss q k (λ n h. every (λ n p. p ≢ q) (in_message persist (lit< tt)) in_blocks (λ j l d. in_message j l) (in_message persist (lit< tt)) n)
    where
      in_blocks : (i : ℕ) → i < L → start + i ≢ q
      in_blocks i h e = ⊎_elim (λ (c : q < start). omega arith) (λ (c : start + L ≤ q). omega arith) b

      in_message : (j : ℕ) → j < message_len → place + j ≢ q
      in_message j h e = ⊎_elim (λ (c : q < place). omega arith) (λ (c : place + message_len ≤ q). omega arith) m

  -- ---- a byte of the blocks or of the message is old until its store, and new from then on

  no_meeting : (i j : ℕ) → i < L → j < message_len → start + i ≢ place + j
  no_meeting i j h l e =
      ⊎_elim (λ (c : place + message_len ≤ start). omega arith) (λ (c : start + L ≤ place). omega arith) (s.apart (omega arith))

  sole_block : (i : ℕ) → i < L → Sole image ss (start + i) (suc i)
  sole_block i h =
      every (λ n p. p ≡ start + i → n ≡ suc i)
      (λ e. absurd (no_meeting i persist h (lit< tt) (sym e)))
      (λ n l e. omega arith)
      (λ j l d e. absurd (no_meeting i j h l (sym e)))
      (λ e. absurd (no_meeting i persist h (lit< tt) (sym e)))

  sole_message : (j : ℕ) → j < message_len → j ≢ persist → Sole image ss (place + j) (byte_number L j)
  sole_message j h d =
      every (λ n p. p ≡ place + j → n ≡ byte_number L j)
      (λ e. absurd (d (omega arith)))
      (λ i l e. absurd (no_meeting i j l h e))
      (λ n l c e. let z : n ≡ j = omega arith in ap (byte_number L) z)
      (λ e. absurd (d (omega arith)))

  pub block_new : (i : ℕ) → i < L → (k : ℕ) → suc i < k → get_or (cut k) (start + i) 0 ≡ get_or blocks i 0
  block_new i h k l =
      let b : start + L ≤ length image = s.blocks_in (omega arith) in
      sole_new image ss (start + i) (suc i) (sole_block i h) (get_or blocks i 0) (store_block place start blocks message s.message_long i h) (omega (arith, number_of-stores)) (omega arith) k l

  module _ (j : ℕ) (h : j < message_len) (d : j ≢ persist) where
    pub message_old : (k : ℕ) → k ≤ byte_number L j → get_or (cut k) (place + j) 0 ≡ get_or image (place + j) 0
    message_old k l = sole_old image ss (place + j) (byte_number L j) (sole_message j h d) k l

    pub message_new : (k : ℕ) → byte_number L j < k → get_or (cut k) (place + j) 0 ≡ get_or message j 0
    message_new k l =
        sole_new image ss (place + j) (byte_number L j) (sole_message j h d) (get_or message j 0) (store_message place start blocks message s.message_long j h d) (omega (arith, number_of-stores, number_in L j h d)) (omega (arith, s.message_in)) k l

    pub old_or_new : (k : ℕ) → (get_or (cut k) (place + j) 0 ≡ get_or image (place + j) 0) ⊎ (get_or (cut k) (place + j) 0 ≡ get_or message j 0)
    old_or_new k = ⊎_elim (λ l. inl (message_old k l)) (λ l. inr (message_new k l)) (le-or-lt k (byte_number L j))

  pub version_byte : (k : ℕ) → (get_or (cut k) place 0 ≡ get_or image place 0) ⊎ (get_or (cut k) place 0 ≡ get_or message 0 0)
  version_byte k = rw add-zero at (old_or_new 0 (lit< tt) (λ e. omega arith) k)

  pub strategy_byte : (k : ℕ) → (get_or (cut k) (place + 1) 0 ≡ get_or image (place + 1) 0) ⊎ (get_or (cut k) (place + 1) 0 ≡ get_or message 1 0)
  strategy_byte k = old_or_new 1 (lit< tt) (λ e. omega arith) k

  -- ---- the persist byte: old before the first store, 0 from it until the last, then 1

  names_persist : (n : ℕ) → n < length ss → (get_or ss n no_store).place ≡ place + persist → (n ≡ 0) ⊎ (n ≡ L + 125)
  names_persist =
      every (λ n p. p ≡ place + persist → (n ≡ 0) ⊎ (n ≡ L + 125))
      (λ e. inl refl)
      (λ i l e. absurd (no_meeting i persist l (lit< tt) e))
      (λ j l d e. absurd (d (omega arith)))
      (λ e. inr refl)

  persist_in : place + persist < length image
  persist_in = omega (arith, s.message_in)

  pub persist_off : (k : ℕ) → 1 ≤ k → k ≤ L + 125 → get_or (cut k) (place + persist) 0 ≡ 0
  persist_off k h l =
      let first = store-first place start blocks message s.message_long in
      cut-last image ss (place + persist) 0 (ap (λ (t : Store). t.place) first) (omega (arith, number_of-stores)) persist_in k h
      (λ n a b c e. ⊎_elim (λ (z : n ≡ 0). omega arith) (λ (z : n ≡ L + 125). omega arith) (names_persist n c e))
      ∙ ap (λ (t : Store). t.byte) first

  pub persist-on : get_or (cut (stores L)) (place + persist) 0 ≡ 1
  persist-on =
      let last = store-last place start blocks message s.message_long in
      cut-last image ss (place + persist) (L + 125) (ap (λ (t : Store). t.place) last) (omega (arith, number_of-stores)) persist_in (stores L) (omega arith)
      (λ n a b c e. omega arith)
      ∙ ap (λ (t : Store). t.byte) last

  -- ---- all stores made: blocks and message stand in the image

  pub blocks_stand : window start L (cut (stores L)) ≡ blocks
  blocks_stand =
      holds start blocks (cut (stores L)) (λ h. let b = s.blocks_in h in omega (arith, cut-length (stores L)))
      (λ i h. block_new i h (stores L) (omega arith))

  pub message_stands : window place message_len (cut (stores L)) ≡ message
  message_stands =
      rw s.message_long at
      (holds place message (cut (stores L)) (λ h. omega (arith, cut-length (stores L), s.message_in, s.message_long)) (λ j h. byte j (omega (arith, s.message_long)) (ℕ_discrete j persist)))
    where
      byte : (j : ℕ) → j < message_len → Dec (j ≡ persist) → get_or (cut (stores L)) (place + j) 0 ≡ get_or message j 0
      byte j h (yes e) = rw e (persist-on ∙ sym s.new_persist)
      byte j h (no d) = message_new j h d (stores L) (number_in L j h d)

  -- ---- a save begun anew over what a cut left

  pub savable_again : (k : ℕ) → Savable place start blocks message (cut k)
  savable_again k = record {
    message_long = s.message_long;
    new_persist = s.new_persist;
    message_in = rw (cut-length k) s.message_in;
    blocks_in = rw (cut-length k) s.blocks_in;
    apart = s.apart;
  }

  pub saved-again : (k : ℕ) → after (stores L) (cut k) ss ≡ cut (stores L)
  saved-again k = after-all (stores L) (cut k) ss (le_of_eq number_of-stores) ∙ all_twice k image ss ∙ sym cut_all
