-- `store_managers`: what is written into the part of the bytes that is lent stands in the bytes at its place, and is read there. Assumes nothing.
use mathlib.Core.Path.{◌≡◌, refl, sym, ap, ◌∙◌}
use mathlib.Core.Logic.{⊎_elim}
use Prim.Native.Nat.{ℕ, ◌+◌, ◌-◌, ◌^◌, ◌≤◌, ◌<◌, min}
use native.Mathlib.Omega.{arith}
use mathlib.Core.List.{List, [], ◌++◌}
use lib.ListN.{length, take, drop, length-drop, drop_of_length-le}
use lib.Seq.{take_all}
use borrow.Author.Tests.{ltb-false}
use Rattle.error.specs.Outcome.{Outcome, answer, nothing, refuse, and_then}
use Rattle.error.specs.Lent.{With, with, Left, left, leaving, over}
use Rattle.error.proofs.TestLaws.{le-or-lt}
use Rattle.error.proofs.OutcomeLaws.{first_answers, then_answers}
use Rattle.error.proofs.OverLaws.{length_over, over-nil, over-end, drop-over, take-over}
use Rattle.fields.specs.Layout.{window}
use Rattle.checksum.specs.Lookup3.{lookup3}
use Rattle.fsm_blocks.specs.Settings.{starting_set}
use Rattle.fsm_blocks.specs.declared.checks.Reading.{Reading}
use Rattle.fsm_blocks.specs.Reading.{read_slots}
use Rattle.fsm_blocks.proofs.LengthLaws.{part_back}
use Rattle.fsm_plan.specs.declared.Counts.{Counts}
use Rattle.fsm_plan.specs.declared.blocks.BlocksPlan.{BlocksPlan}
use Rattle.fsm_plan.specs.Managers.{size_of}
use Rattle.fsm_plan.specs.Blocks.{planned_blocks}
use Rattle.fsm_plan.proofs.PlannedLaws.{length_blocks}
use Rattle.fsm_writer.specs.Paged.{managers_in, managers_bytes, written_managers}
use Rattle.stored_managers.specs.Storing.{stored_slots, sections_by_slot, stored_managers}
use Rattle.stored_managers.proofs.StoredLaws.{stored_plan}

-- ---- a run that is written over bytes

there : (i : ℕ) (vs xs : List ℕ) → length vs ≤ length (drop i xs) → window i (length vs) (over i vs xs) ≡ vs
there i vs xs h = ap (take (length vs)) (drop-over i vs xs) ∙ take-over vs (drop i xs) h

-- the place is cut at the end of the bytes
module _ (i k : ℕ) (xs : List ℕ) (ke : k ≡ min i (length xs)) where
  cut-drop : drop k xs ≡ drop i xs
  cut-drop =
      ⊎_elim (λ (l : i ≤ length xs). let e : k ≡ i = omega arith in ap (λ (n : ℕ). drop n xs) e)
      (λ (l : length xs < i). drop_of_length-le xs {i = k} (omega arith) ∙ sym (drop_of_length-le xs {i = i} (omega arith))) (le-or-lt i (length xs))

  cut-over : (vs : List ℕ) → over k vs xs ≡ over i vs xs
  cut-over vs =
      ⊎_elim (λ (l : i ≤ length xs). let e : k ≡ i = omega arith in ap (λ (n : ℕ). over n vs xs) e)
      (λ (l : length xs < i). over-end k vs xs (omega arith) ∙ sym (over-end i vs xs (omega arith))) (le-or-lt i (length xs))

pub cut-place : (i r k n : ℕ) → n ≤ 2 ^ 64 - 1 → r ≡ min i (2 ^ 64 - 1) → k ≡ min r n → k ≡ min i n
cut-place i r k n h e f = omega arith

-- ---- the blocks

module _ (a b c : List ℕ) (n : Counts) (page start base O : ℕ) (bytes : List ℕ) (k : ℕ) (ke : k ≡ min (start + base) (length bytes)) where
  abbrev blocks : List ℕ
  blocks = managers_bytes a b c n page start O

  abbrev rest : List ℕ
  rest = drop (start + base) bytes

  abbrev written : List ℕ → Outcome (With BlocksPlan (List ℕ))
  written = written_managers a b c n page start O

  record Wrote (w : With BlocksPlan (List ℕ)) : Type 0 where
    plan : planned_blocks a b c n page start O ≡ answer w.value
    room : length blocks ≤ length rest
    memory : w.memory ≡ over 0 blocks rest

  wrote : (w : With BlocksPlan (List ℕ)) → written rest ≡ answer w → Wrote w
  unfolding written_managers
  wrote w e =
      let q = then_answers (planned_blocks a b c n page start O) _ w e in
      let r = first_answers _ _ w q.2 in
      let v : q.0 ≡ w.value = ap (λ (x : With BlocksPlan (List ℕ)). x.value) r.1 in
      record {
        plan = q.1 ∙ ap answer v;
        room = let l = ltb-false (length rest) (size_of O (starting_set O) (managers_in a b c n page)) r.0.0 in
            omega (arith, length_blocks O (starting_set O) lookup3 (managers_in a b c n page) start);
        memory = sym (ap (λ (x : With BlocksPlan (List ℕ)). x.memory) r.1);
      }

  -- the part that is lent
  abbrev part : List ℕ
  part = take (length bytes - k) (drop k bytes)

  part_is : part ≡ rest
  part_is = take_all (length bytes - k) (drop k bytes) (omega (arith, length-drop k bytes)) ∙ cut-drop (start + base) k bytes ke

  module _ (o : Outcome BlocksPlan) (ys : List ℕ) (h : left o ys ≡ leaving part (written part)) where
    abbrev after : List ℕ
    after = take k bytes ++ (ys ++ drop (length bytes - k) (drop k bytes))

    shown : left o ys ≡ leaving rest (written rest)
    shown = h ∙ ap (λ (d : List ℕ). leaving d (written d)) part_is

    outcome-is : {x : Left BlocksPlan (List ℕ)} → left o ys ≡ x → o ≡ x.outcome
    outcome-is e = ap (λ (x : Left BlocksPlan (List ℕ)). x.outcome) e

    memory-is : {x : Left BlocksPlan (List ℕ)} → left o ys ≡ x → ys ≡ x.memory
    memory-is e = ap (λ (x : Left BlocksPlan (List ℕ)). x.memory) e

    after_over : (vs : List ℕ) → ys ≡ over 0 vs rest → after ≡ over (start + base) vs bytes
    after_over vs e = part_back bytes ys vs k (e ∙ ap (over 0 vs) (sym part_is)) ∙ cut-over (start + base) k bytes ke vs

    unchanged : ys ≡ rest → after ≡ bytes
    unchanged e = after_over [] (e ∙ sym (over-nil 0 rest)) ∙ over-nil (start + base) bytes

    pub stored_is : left o after ≡ leaving bytes (stored_managers a b c n page start base O bytes)
    unfolding stored_managers and_then
    stored_is = go (written rest) refl shown
      where
        go : (x : Outcome (With BlocksPlan (List ℕ))) → written rest ≡ x → left o ys ≡ leaving rest x
            → left o after ≡ leaving bytes (and_then x (λ w. answer (with w.value (over (start + base) blocks bytes))))
        go (answer w) e s = λ i. left (outcome-is s i) (after_over blocks (memory-is s ∙ (wrote w e).memory) i)
        go nothing e s = λ i. left (outcome-is s i) (unchanged (memory-is s) i)
        go (refuse m vs) e s = λ i. left (outcome-is s i) (unchanged (memory-is s) i)

    pub stored_reads : length bytes < 2 ^ 64 → (how : Reading) (p : BlocksPlan) → o ≡ answer p
        → read_slots how O base (stored_slots O p.managers) after ≡ answer (sections_by_slot a b c n page)
    stored_reads short how p oe = go (written rest) refl shown
      where
        go : (x : Outcome (With BlocksPlan (List ℕ))) → written rest ≡ x → left o ys ≡ leaving rest x
            → read_slots how O base (stored_slots O p.managers) after ≡ answer (sections_by_slot a b c n page)
        go (answer w) e s =
            let q = wrote w e in
            let v : answer w.value ≡ answer p = sym (outcome-is s) ∙ oe in
            let u : w.value ≡ p = cc in
            let g : after ≡ over (start + base) blocks bytes = after_over blocks (memory-is s ∙ q.memory) in
            let z : length after ≡ length bytes = ap length g ∙ length_over (start + base) blocks bytes in
            let f = stored_plan a b c n page start O p (q.plan ∙ ap answer u) in
            f.read how base after (omega arith) (ap (window (start + base) (length blocks)) g ∙ there (start + base) blocks bytes q.room)
        go nothing e s = let v : nothing ≡ answer p = sym (outcome-is s) ∙ oe in let z : ◌≡◌ {A = ℕ} 0 1 = cc in absurd (omega arith)
        go (refuse m vs) e s = let v : refuse m vs ≡ answer p = sym (outcome-is s) ∙ oe in let z : ◌≡◌ {A = ℕ} 0 1 = cc in absurd (omega arith)
