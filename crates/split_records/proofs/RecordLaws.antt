-- The refusals of `split_at_pages` over records, and the records at the end. Assumes nothing.
use mathlib.Core.Path.{◌≡◌, sym, ap, ◌∙◌}
use Prim.Native.Nat.{ℕ, suc, ◌-◌, ◌*◌, ◌^◌, ◌≤◌, ◌<◌}
use native.Mathlib.Omega.{arith}
use mathlib.Core.Bool.{false}
use mathlib.Core.List.{List, [], ◌∷◌, ◌++◌, append-nil}
use lib.Dec.{ltb}
use lib.ListN.{length, take, drop, set, get_or, length-drop, drop_of_length-le}
use lib.Seq.{take-length, take_all, drop-cons, take-suc, set_at, append_snoc, length-take-le}
use borrow.Author.Tests.{lt-ltb, le-ltb, ltb-false, eqb-false, not-false}
use Rattle.error.specs.declared.Refusal.{Refusal}
use Rattle.error.specs.declared.Refusal.TheVariants.{OverCapacity}
use Rattle.error.specs.Outcome.{answer, refused, Condition, when, first_of, sat}
use Rattle.error.specs.Lent.{with, left, leaving}
use Rattle.error.proofs.OutcomeLaws.{first_pass, first_answers, first-append, first_refuses, refuses, passes}
use Rattle.pairs.proofs.RunLaws.{run_room}
use Rattle.pairs.specs.Pairs.{is_run}
use Rattle.fsm_sections.specs.declared.FreeSection.{FreeSection}
use Rattle.fsm_sections.specs.Sections.{section, decode}
use Rattle.fsm_sections.specs.Pages.{split}
use Rattle.fsm_sections.specs.Runs.{ends_above}
use Rattle.fsm_pages.specs.Split.{split_tests, split_count}
use Rattle.fsm_pages.proofs.SplitLaws.{Splits}
use Rattle.split_records.specs.Records.{at_front, refusals, split_records, split_answer, pieces_left}

module _ (xs : List ℕ) (n page : ℕ) where
  abbrev pub all : List FreeSection
  all = split page (decode n xs)

  -- ---- the answer of `planned`

  module _ (room : ℕ) where
    abbrev last : List Condition
    last = when (ltb room (length all)) (OverCapacity (sat (length all)) room) ∷ []

    in_order : split_answer xs n page room ≡ first_of (split_tests xs n page) (first_of last (answer (length all)))
    unfolding split_answer
    in_order = first-append (split_tests xs n page) last (answer (length all))

    pub planned-refused : (r : Refusal) → refused r ≡ split_count xs n page → refused r ≡ split_answer xs n page room
    unfolding split_count
    planned-refused r e = first_refuses (split_tests xs n page) (sat (length all)) r (first_of last (answer (length all))) e ∙ sym in_order

    module _ (m : ℕ) (s : Splits xs n page m) where
      after_tests : split_answer xs n page room ≡ first_of last (answer (length all))
      after_tests = in_order ∙ first_pass (split_tests xs n page) (first_of last (answer (length all))) s.passed

      pub planned-over : room < m → refused (OverCapacity m room) ≡ split_answer xs n page room
      unfolding sat
      planned-over h =
          let k : room < length all = omega (arith, s.number) in
          ap (λ (x : ℕ). refused (OverCapacity x room)) s.number ∙ refuses (ltb room (length all)) (OverCapacity (sat (length all)) room) (answer (length all)) (lt-ltb room (length all) k) ∙ sym after_tests

      pub planned-some : m ≤ room → room < 2 ^ 64 - 1 → answer m ≡ split_answer xs n page room
      unfolding sat
      planned-some h b =
          let k : m ≡ length all = omega (arith, s.number) in
          ap answer k ∙ passes (ltb room (length all)) (OverCapacity (sat (length all)) room) (answer (length all)) (le-ltb room (length all) (omega arith)) ∙ sym after_tests

  -- ---- from the answer to the records

  -- what a piece that is to be stored shows
  pub record Ready (room m : ℕ) : Type 0 where
    pub some : 0 < page
    pub run : 2 * n ≤ length xs
    pub fits : ends_above (decode n xs) ≡ false
    pub whole : m ≡ length all
    pub space : m ≤ room

  pub ready : (room m : ℕ) → answer m ≡ split_answer xs n page room → Ready room m
  unfolding split_answer
  ready room m e =
      let q = first_answers (refusals xs n page room) (length all) m (sym e) in
      let z = eqb-false page 0 q.0.0 in
      record {
        some = omega (arith, z);
        run = run_room xs n (not-false (is_run xs n) q.0.1.0);
        fits = q.0.1.1.0;
        whole = omega (arith, q.1);
        space = omega (arith, q.1, ltb-false room (length all) q.0.1.1.1.0);
      }

  -- the same of as many records as there are pieces
  pub ready_front : (ys : List FreeSection) (m : ℕ) → Ready (length ys) m → Ready (length (take m ys)) m
  ready_front ys m now = record { some = now.some; run = now.run; fits = now.fits; whole = now.whole; space = omega (arith, length-take-le m ys now.space) }

  -- the lent run after k pieces
  abbrev pub shown : List FreeSection → ℕ → List FreeSection
  shown ys k = take k all ++ drop k ys

  -- after the last piece, the records behind it are as they were
  pub front_shown : (ys : List FreeSection) (m k : ℕ) → Ready (length ys) m → length (take m ys) ≤ k → shown (take m ys) k ++ drop m ys ≡ shown ys m
  front_shown ys m k now h =
      let f : length (take m ys) ≡ m = length-take-le m ys now.space in
      let w : m ≡ length all = now.whole in
      ap (λ (l : List FreeSection). (take k all ++ l) ++ drop m ys) (drop_of_length-le (take m ys) h)
      ∙ ap (λ (l : List FreeSection). l ++ drop m ys) (append-nil (take k all) ∙ take_all k all (omega arith) ∙ sym (take_all m all (omega arith)))

  pub records_are : (ys : List FreeSection) (m : ℕ) → answer m ≡ split_answer xs n page (length ys) → left (answer m) (shown ys m) ≡ leaving ys (split_records xs n page ys)
  unfolding split_answer split_records
  records_are ys m e =
      let q = first_answers (refusals xs n page (length ys)) (length all) m (sym e) in
      ap (λ (x : ℕ). left (answer x) (shown ys x)) (sym q.1)
      ∙ ap (λ (l : List FreeSection). left (answer (length all)) (l ++ drop (length all) ys)) (take-length all)
      ∙ sym (ap (leaving ys) (first_pass (refusals xs n page (length ys)) (answer (with (length all) (at_front all ys))) q.0))

  pub records_refused : (ys : List FreeSection) (r : Refusal) → refused r ≡ split_answer xs n page (length ys) → left (refused r) ys ≡ leaving ys (split_records xs n page ys)
  unfolding split_answer split_records
  records_refused ys r e =
      ap (leaving ys) (first_refuses (refusals xs n page (length ys)) (length all) r (answer (with (length all) (at_front all ys))) e)

  module _ (ys : List FreeSection) (m : ℕ) (now : Ready (length ys) m) where
    module _ (k i d : ℕ) (here : drop k all ≡ pieces_left page n xs i d) (h : k < m) where
      pub left_some : 0 < length (pieces_left page n xs i d)
      left_some = let e : length (drop k all) ≡ length (pieces_left page n xs i d) = ap length here in omega (arith, length-drop k all, now.whole)

      module _ (p : FreeSection) (j c : ℕ) (cut : pieces_left page n xs i d ≡ p ∷ pieces_left page n xs j c) where
        heads : get_or all k (section 0 0) ∷ drop (suc k) all ≡ p ∷ pieces_left page n xs j c
        heads = sym (drop-cons all k (section 0 0) (omega (arith, now.whole))) ∙ here ∙ cut

        pub next_here : drop (suc k) all ≡ pieces_left page n xs j c
        next_here = let e = heads in cc

        piece_is : get_or all k (section 0 0) ≡ p
        piece_is = let e = heads in cc

        pub store_piece : set (shown ys k) k p ≡ shown ys (suc k)
        store_piece =
            ap (λ (l : List FreeSection). set (take k all ++ l) k p) (drop-cons ys k (section 0 0) (omega (arith, now.space)))
            ∙ set_at (take k all) (get_or ys k (section 0 0)) (drop (suc k) ys) p k (length-take-le k all (omega (arith, now.whole)))
            ∙ sym (append_snoc (take k all) p (drop (suc k) ys))
            ∙ sym (ap (λ (x : FreeSection). (take k all ++ (x ∷ [])) ++ drop (suc k) ys) piece_is)
            ∙ sym (ap (λ (l : List FreeSection). l ++ drop (suc k) ys) (take-suc all k (section 0 0) (omega (arith, now.whole))))
