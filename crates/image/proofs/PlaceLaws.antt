-- The message at a place: the bytes that the code takes for it, and what their reading leaves. Assumes nothing.
use mathlib.Core.Path.{◌≡◌, refl, sym, ap, ap₂, ◌∙◌}
use mathlib.Core.Bool.{Bool, true, false}
use mathlib.Core.Logic.{⊎_elim}
use mathlib.Core.List.{List}
use Prim.Native.Nat.{ℕ, ◌+◌, ◌-◌, ◌≤◌, ◌<◌, min}
use native.Mathlib.Nat.{le_of_lt}
use native.Mathlib.Omega.{arith}
use borrow.Author.Tests.{le-ltb}
use lib.ListN.{length, take, drop, replicate, length-take, length-drop, drop_of_length-le}
use lib.Seq.{take_all, take_at, length-take-le}
use Rattle.std.specs.Prelude.{Result, Ok, Err}
use Rattle.error.specs.Answers.{as_outcome}
use Rattle.file_space_info.specs.declared.Parsed.{Parsed}
use Rattle.error.specs.declared.Refusal.{Refusal}
use Rattle.error.specs.Refusals.{number_of, values_of}
use Rattle.error.specs.Outcome.{Outcome, answer, nothing, refuse, refused, first_of, and_then}
use Rattle.error.specs.Lent.{With, with, Left, left, leaving, over}
use Rattle.error.proofs.TestLaws.{le-or-lt}
use Rattle.error.proofs.OverLaws.{length_over, over_zeros}
use Rattle.error.proofs.OutcomeLaws.{first-append, passes, then_first}
use Rattle.fields.specs.Layout.{window}
use Rattle.file_space_info.specs.declared.FileSpaceInfo.{FileSpaceInfo}
use Rattle.file_space_info.specs.Message.{fixed_len, info_of, fixed_tests, fixed_read, present, parsed}
use Rattle.file_space_info.proofs.ReadLaws.{length-numbers}
use Rattle.image.specs.Reading.{message_at, addresses_in}

-- ---- the bytes

-- a number of bytes, or a place, cut at the end
take-least : (n : ℕ) (l : List ℕ) → take (min n (length l)) l ≡ take n l
take-least n l =
    ⊎_elim
    (λ (h : n ≤ length l). let m : min n (length l) ≡ n = omega arith in ap (λ (k : ℕ). take k l) m)
    (λ (h : length l < n). take_all (min n (length l)) l (omega arith) ∙ sym (take_all n l (omega arith)))
    (le-or-lt n (length l))

drop-least : (n : ℕ) (l : List ℕ) → drop (min n (length l)) l ≡ drop n l
drop-least n l =
    ⊎_elim
    (λ (h : n ≤ length l). let m : min n (length l) ≡ n = omega arith in ap (λ (k : ℕ). drop k l) m)
    (λ (h : length l < n). let m : length l ≤ min n (length l) = omega arith in drop_of_length-le l m ∙ sym (drop_of_length-le l (le_of_lt h)))
    (le-or-lt n (length l))

pub message_part : (place : ℕ) (image : List ℕ) {s n : ℕ} → s ≡ min place (length image) → n ≡ min 125 (length image - s) → window s (s + n - s) image ≡ message_at place image
message_part place image {s} {n} e f =
    let k : s + n - s ≡ min 125 (length (drop s image)) = rw (length-drop s image) (omega arith) in
    ap (λ (m : ℕ). take m (drop s image)) k
    ∙ take-least 125 (drop s image)
    ∙ ap (λ (p : ℕ). window p 125 image) e
    ∙ ap (take 125) (drop-least place image)

pub message_few : (place : ℕ) (image : List ℕ) → length (message_at place image) ≤ 125
message_few place image = rw length-take (omega arith)

-- ---- their reading into twelve places

abbrev pub zeros : List ℕ
zeros = replicate 12 0

-- a message that was read: its fixed part, and its addresses in the front of the places
pub record MessageIs (bs : List ℕ) (m : FileSpaceInfo) (n : ℕ) (ys : List ℕ) : Type 0 where
  pub accepted : answer m ≡ fixed_read 8 8 bs
  pub within : n ≤ length ys
  pub few : length (take n ys) ≤ 12
  pub slots : take n ys ≡ addresses_in bs m

module _ (bs : List ℕ) where
  abbrev count : FileSpaceInfo → ℕ
  count m = present 8 8 (length bs) m.persist

  -- what is read where the fixed part is
  abbrev whole : FileSpaceInfo → With Parsed (List ℕ)
  whole m = with (record { info = m; count = count m }) (over 0 (addresses_in bs m) zeros)

  refused_by : (o : Outcome FileSpaceInfo) (r : Refusal) → refused r ≡ (leaving zeros (and_then o (λ m. answer (whole m)))).outcome → refused r ≡ o
  unfolding and_then
  refused_by (answer m) r e = let z : ◌≡◌ {A = ℕ} 0 1 = cc in absurd (omega arith)
  refused_by nothing r e = let z : ◌≡◌ {A = ℕ} 0 1 = cc in absurd (omega arith)
  refused_by (refuse n vs) r e =
      let p : number_of r ≡ n = cc in
      let q : values_of r ≡ vs = cc in
      ap₂ refuse p q

  record Whole (m : FileSpaceInfo) (n : ℕ) (ys : List ℕ) : Type 0 where
    accepted : answer m ≡ fixed_read 8 8 bs
    counted : n ≡ count m
    stored : ys ≡ over 0 (addresses_in bs m) zeros

  answer_by : (o : Outcome FileSpaceInfo) (m : FileSpaceInfo) (n : ℕ) (ys : List ℕ) → answer (record { info = m; count = n }) ≡ (leaving zeros (and_then o (λ m. answer (whole m)))).outcome
      → ys ≡ (leaving zeros (and_then o (λ m. answer (whole m)))).memory → o ≡ fixed_read 8 8 bs → Whole m n ys
  unfolding and_then
  answer_by (answer k) m n ys e s f =
      let r : ◌≡◌ {A = Parsed} (record { info = m; count = n }) (record { info = k; count = count k }) = cc in
      let i : m ≡ k = ap (λ (x : Parsed). x.info) r in
      record {
        accepted = ap answer i ∙ f;
        counted = ap (λ (x : Parsed). x.count) r ∙ ap count (sym i);
        stored = s ∙ ap (λ (x : FileSpaceInfo). over 0 (addresses_in bs x) zeros) (sym i);
      }
  answer_by nothing m n ys e s f = let z : ◌≡◌ {A = ℕ} 0 1 = cc in absurd (omega arith)
  answer_by (refuse k vs) m n ys e s f = let z : ◌≡◌ {A = ℕ} 0 1 = cc in absurd (omega arith)

  module _ (few : length bs ≤ 125) where
    count-few : (m : FileSpaceInfo) → count m ≤ 12
    unfolding present
    count-few m = pick m.persist
      where
        pick : (t : Bool) → present 8 8 (length bs) t ≤ 12
        pick true = omega arith
        pick false = omega arith

    -- 14 is never met
    parsed_then : parsed bs 8 8 zeros ≡ and_then (fixed_read 8 8 bs) (λ m. answer (whole m))
    unfolding parsed fixed_read and_then
    parsed_then =
        let m = info_of 8 8 bs in
        first-append (fixed_tests 8 8 bs) _ _
        ∙ ap (first_of (fixed_tests 8 8 bs)) (sym (passes _ _ _ (le-ltb 12 (count m) (count-few m))))
        ∙ sym (then_first (fixed_tests 8 8 bs) (answer m) (λ m. answer (whole m)))

    module _ (p : (Result Parsed Refusal)) (ys : List ℕ) (e : left (as_outcome p) ys ≡ leaving zeros (parsed bs 8 8 zeros)) where
      read : left (as_outcome p) ys ≡ leaving zeros (and_then (fixed_read 8 8 bs) (λ m. answer (whole m)))
      read = e ∙ ap (leaving zeros) parsed_then

      outcome-is : as_outcome p ≡ (leaving zeros (and_then (fixed_read 8 8 bs) (λ m. answer (whole m)))).outcome
      outcome-is = ap (λ (x : Left Parsed (List ℕ)). x.outcome) read

      pub message_refused : (r : Refusal) → p ≡ Err r → refused r ≡ fixed_read 8 8 bs
      message_refused r q = refused_by (fixed_read 8 8 bs) r (sym (ap as_outcome q) ∙ outcome-is)

      module _ (m : FileSpaceInfo) (n : ℕ) (q : p ≡ Ok (record { info = m; count = n })) where
        told : Whole m n ys
        told = answer_by (fixed_read 8 8 bs) m n ys (sym (ap as_outcome q) ∙ outcome-is) (ap (λ (x : Left Parsed (List ℕ)). x.memory) read) refl

        pub message_is : MessageIs bs m n ys
        message_is =
            let a = addresses_in bs m in
            let w = told in
            let k : length a ≡ n = length-numbers 8 (count m) (drop (fixed_len 8 8) bs) ∙ sym w.counted in
            let l : n ≤ 12 = rw w.counted (count-few m) in
            let f : length ys ≡ 12 = ap length w.stored ∙ length_over 0 a zeros in
            record {
              accepted = w.accepted;
              within = omega arith;
              few = rw (length-take-le n ys (omega arith)) l;
              slots = ap (take n) (w.stored ∙ over_zeros a 12 (omega arith)) ∙ take_at a (replicate (12 - length a) 0) n k;
            }
