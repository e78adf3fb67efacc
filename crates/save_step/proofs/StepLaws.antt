-- Laws of one step: the tests of the code, the store by its number, and the three ways that a step ends. Assumes nothing.
use mathlib.Core.Path.{◌≡◌, refl, sym, ap, ◌∙◌}
use mathlib.Core.Bool.{Bool, true, false, cond}
use mathlib.Core.List.{List}
use Prim.Native.Nat.{ℕ, suc, ◌+◌, ◌≤◌, ◌<◌}
use native.Mathlib.Omega.{arith}
use lib.Dec.{ltb}
use lib.ListN.{length, take, drop, get_or, length-drop}
use lib.Seq.{length-take-le, get_or-take, get_or-drop}
use borrow.Author.Tests.{lt-ltb, ltb-false, leb-false}
use Rattle.error.specs.declared.Refusal.TheVariants.{Place}
use Rattle.error.specs.Outcome.{Outcome, answer, refused, first_of}
use Rattle.error.specs.Lent.{left, leaving, With, with}
use Rattle.error.proofs.TestLaws.{or_false, and_false}
use Rattle.fields.specs.Layout.{window}
use Rattle.save_step.specs.declared.Save.{Save}
use Rattle.save_step.specs.declared.Store.{Store}
use Rattle.file_space_info.specs.Message.{message_len}
use Rattle.save_step.specs.Stores.{no_store, store, make, persist, save_stores}
use Rattle.save_step.specs.Steps.{stores, all_made, leaves, Inside, next_store, one_more, stepped}
use Rattle.save_step.specs.declared.Progress.{Progress}
use Rattle.save_step.specs.declared.Progress.TheVariants.{Stored, Finished}
use Rattle.save_step.proofs.NumberLaws.{store-first, store_block, store-before, stored-after, store-last, each}

-- ---- what the tests say

pub inside : (s : Save) (image scratch : ℕ) → leaves s image scratch ≡ false → Inside s image scratch
inside s image scratch e =
    let p = or_false (ltb image (s.place + message_len)) _ e in
    let q = or_false (ltb scratch (s.len + message_len)) _ p.1 in
    record {
      message_in = ltb-false image (s.place + message_len) p.0;
      blocks_in = λ h. ltb-false image (s.start + s.len) (and_false (ltb 0 s.len) _ q.1 (lt-ltb 0 s.len h));
      both_lent = ltb-false scratch (s.len + message_len) q.0;
    }

pub inside-more : {s : Save} {image more scratch : ℕ} → image ≤ more → Inside s image scratch → Inside s more scratch
inside-more h i = record {
  message_in = omega (arith, i.message_in);
  blocks_in = λ n. omega (arith, i.blocks_in n);
  both_lent = i.both_lent;
}

-- ---- the store that a step makes

module _ (s : Save) (scratch : List ℕ) (room : s.len + message_len ≤ length scratch) where
  abbrev blocks : List ℕ
  blocks = take s.len scratch

  abbrev message : List ℕ
  message = window s.len message_len scratch

  blocks_len : length blocks ≡ s.len
  blocks_len = length-take-le s.len scratch (omega arith)

  message_long : length message ≡ message_len
  message_long = length-take-le message_len (drop s.len scratch) (omega (arith, length-drop s.len scratch))

  -- the store of a number is the one that the code found
  is-next : (n p b : ℕ) → get_or (save_stores s.place s.start blocks message) n no_store ≡ store p b → s.done ≡ n → (p' b' : ℕ) → p' ≡ p → b' ≡ b → store p' b' ≡ next_store s scratch
  unfolding next_store
  is-next n p b f e p' b' c d = cc

  message_byte : (j n : ℕ) → j < message_len → n ≡ s.len + j → get_or scratch n 0 ≡ get_or message j 0
  message_byte j n h e = sym (get_or-take message_len (drop s.len scratch) j 0 h ∙ get_or-drop s.len scratch j 0 ∙ ap (λ (m : ℕ). get_or scratch m 0) (sym e))

  pub next-first : s.done ≡ 0 → store (s.place + 2) 0 ≡ next_store s scratch
  next-first e = is-next 0 _ _ (store-first s.place s.start blocks message message_long) e _ _ refl refl

  pub next_block : (i : ℕ) → s.done ≡ suc i → i < s.len → store (s.start + i) (get_or scratch i 0) ≡ next_store s scratch
  next_block i e h =
      is-next (suc i) _ _ (store_block s.place s.start blocks message message_long i (omega (arith, blocks_len))) e _ _ refl (sym (get_or-take s.len scratch i 0 h))

  pub next-before : (j : ℕ) → s.done ≡ suc (s.len + j) → j < persist → store (s.place + j) (get_or scratch (s.len + j) 0) ≡ next_store s scratch
  next-before j e h =
      is-next (suc (length blocks + j)) _ _ (store-before s.place s.start blocks message message_long j h) (omega (arith, blocks_len)) _ _ refl (message_byte j (s.len + j) (omega arith) refl)

  pub next-after : (i j : ℕ) → s.done ≡ s.len + j → j ≡ suc i → persist ≤ i → i < 124 → store (s.place + 1 + i) (get_or scratch (s.len + 1 + i) 0) ≡ next_store s scratch
  next-after i j e f h l =
      is-next (length blocks + j) _ _ (stored-after s.place s.start blocks message message_long j (omega arith) (omega arith)) (omega (arith, blocks_len)) _ _ (omega arith) (message_byte j (s.len + 1 + i) (omega arith) (omega arith))

  pub next_last : s.done ≡ s.len + 125 → store (s.place + 2) 1 ≡ next_store s scratch
  next_last e = is-next (length blocks + 125) _ _ (store-last s.place s.start blocks message message_long) (omega (arith, blocks_len)) _ _ refl refl

-- its place lies in the image
pub next_in : (s : Save) (scratch : List ℕ) (image : ℕ) → Inside s image (length scratch) → s.done < stores s.len → (next_store s scratch).place < image
unfolding next_store
next_in s scratch image i h =
    let r : s.len + message_len ≤ length scratch = i.both_lent in
    let m : s.place + message_len ≤ image = i.message_in in
    let e = blocks_len s scratch r in
    each s.place s.start (blocks s scratch r) (message s scratch r) (message_long s scratch r) (λ n t. t.place < image)
    (omega arith)
    (λ n l. let b : s.start + s.len ≤ image = i.blocks_in (omega arith) in omega arith)
    (λ j l d. omega arith)
    (omega arith)
    s.done (omega arith)

-- ---- the ends of a step

module _ (s : Save) (image scratch : List ℕ) where
  pub step_finished : all_made s ≡ true → left (answer Finished) image ≡ leaving image (stepped s image scratch)
  unfolding stepped
  step_finished e = rw e

  -- in one of three ways
  pub step_ends : (P : Outcome (With Progress (List ℕ)) → Type 0) → P (answer (with Finished image)) → P (refused Place)
      → P (answer (with (Stored (one_more s)) (make (next_store s scratch) image))) → P (stepped s image scratch)
  unfolding stepped first_of
  step_ends P last outside next = pick (all_made s) (leaves s (length image) (length scratch))
    where
      pick : (a b : Bool) → P (cond a (answer (with Finished image)) (cond b (refused Place) (answer (with (Stored (one_more s)) (make (next_store s scratch) image)))))
      pick true b = last
      pick false true = outside
      pick false false = next

  module _ (f : all_made s ≡ false) where
    pub not_yet : s.done < stores s.len
    not_yet = leb-false (stores s.len) s.done f

    pub step_refused : leaves s (length image) (length scratch) ≡ true → left (refused Place) image ≡ leaving image (stepped s image scratch)
    unfolding stepped first_of
    step_refused e = rw (f, e)

    pub step_made : leaves s (length image) (length scratch) ≡ false → stepped s image scratch ≡ answer (with (Stored (one_more s)) (make (next_store s scratch) image))
    unfolding stepped first_of
    step_made e = rw (f, e)

    pub step_stored : leaves s (length image) (length scratch) ≡ false → {next : Store} → next ≡ next_store s scratch
        → left (answer (Stored (one_more s))) (make next image) ≡ leaving image (stepped s image scratch)
    step_stored e h = rw (step_made e, h)
