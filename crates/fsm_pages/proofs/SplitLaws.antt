-- `split_at_pages`: the passes over all sections, and the refusals. Assumes nothing.
use mathlib.Core.Path.{◌≡◌, refl, sym, ap, ◌∙◌}
use Prim.Native.Nat.{ℕ, zero, suc, ◌+◌, ◌-◌, ◌*◌, ◌/◌, ◌%◌, ◌^◌, min, ◌≤◌, ◌<◌}
use native.Mathlib.Omega.{arith}
use mathlib.Core.Bool.{Bool, true, false, cond, not}
use mathlib.Core.List.{List, [], ◌∷◌, ◌++◌}
use lib.ListN.{length, length-append}
use borrow.Author.Tests.{lt-ltb, le-ltb, eq-eqb, ne_eqb}
use Rattle.error.specs.declared.Refusal.{Refusal}
use Rattle.error.specs.declared.Refusal.TheVariants.{Page, NotAList, Overflow, OverCapacity}
use Rattle.error.specs.Outcome.{answer, refused, when, first_of, sat}
use Rattle.error.specs.Lent.{left, leaving, over}
use Rattle.error.proofs.OutcomeLaws.{NoneHolds, first_answers, first_refuses, first_pass, refuses, passes}
use Rattle.error.proofs.OverLaws.{length_over, over-nil}
use Rattle.fields.specs.Ranges.{top}
use Rattle.pairs.specs.Pairs.{is_run}
use Rattle.pairs.proofs.PairLaws.{over-flat}
use Rattle.fsm_sections.specs.declared.FreeSection.{FreeSection}
use Rattle.fsm_sections.specs.Sections.{decode, flat}
use Rattle.fsm_sections.specs.Pages.{pieces, split}
use Rattle.fsm_blocks.specs.Reading.{into_run}
use Rattle.fsm_sections.specs.Runs.{ends_above}
use Rattle.fsm_pages.specs.Split.{split_tests, split_count, split_into}
use Rattle.fsm_sections.proofs.RunLaws.{above-found, above_step, fits-first}
use Rattle.fsm_pages.proofs.PieceLaws.{pieces_after, pieces_number, none_after, after-some}
use Rattle.fsm_sections.proofs.SectionsLaws.{section_form}

-- the pieces of a section in front of others
split-more : (page : ℕ) (l : List FreeSection) (x : FreeSection) (m : List FreeSection) → l ≡ x ∷ m → split page l ≡ pieces page x ++ split page m
unfolding split
split-more page l x m e = ap (split page) e

split-length : (page : ℕ) (l : List FreeSection) (x : FreeSection) (m : List FreeSection) → l ≡ x ∷ m → length (split page l) ≡ length (pieces page x) + length (split page m)
split-length page l x m e = ap length (split-more page l x m e) ∙ length-append (pieces page x) (split page m)

split-none : (page : ℕ) (l : List FreeSection) → l ≡ [] → split page l ≡ []
unfolding split
split-none page l e = ap (split page) e

-- ---- the pass that counts

decode-few : (n : ℕ) (xs : List ℕ) → length (decode n xs) ≤ n
decode-few zero xs = omega arith
decode-few (suc n) [] = omega arith
decode-few (suc n) (a ∷ []) = omega arith
decode-few (suc n) (a ∷ s ∷ xs) = omega (arith, decode-few n xs)

sat-low : (m : ℕ) → sat m ≤ 2 ^ 64 - 1
unfolding sat
sat-low m = omega arith

carried : (some more f b k : ℕ) → sat (some + f + sat (more + b) + k) ≡ sat (some + more + (f + b + k))
unfolding sat
carried some more f b k = omega arith

module _ (page n : ℕ) (xs : List ℕ) where
  -- at the head of the loop, where the sections of l are left: the sections before them that are not empty, and the pieces after their first ones
  pub record Counting (l : List FreeSection) (some more : ℕ) : Type 0 where
    pub above : ends_above l ≡ ends_above (decode n xs)
    pub few : some + length l ≤ n
    pub low : more ≤ 2 ^ 64 - 1
    pub number : sat (some + more + length (split page l)) ≡ sat (length (split page (decode n xs)))

  pub count-start : (l : List FreeSection) → l ≡ decode n xs → Counting l 0 0
  count-start l e =
      let z : 0 + 0 + length (split page (decode n xs)) ≡ length (split page (decode n xs)) = omega arith in
      rw e (record { above = refl; few = omega (arith, decode-few n xs); low = omega arith; number = ap sat z })

  module _ (l : List FreeSection) (some more : ℕ) (now : Counting l some more) where
    module _ (x : FreeSection) (m : List FreeSection) (e : l ≡ x ∷ m) where
      pub count-few : some < n
      count-few = omega (arith, ap length e, now.few)

      pub count_above : top - x.size < x.addr
          → refused Overflow ≡ first_of (when (ends_above (decode n xs)) Overflow ∷ []) (answer (sat (length (split page (decode n xs)))))
      count_above o = refuses (ends_above (decode n xs)) Overflow (answer (sat (length (split page (decode n xs))))) (sym now.above ∙ above-found l x m e o)

      module _ (p : 0 < page) where
        abbrev Added : ℕ → Type 0
        Added j = j ≡ sat (more + pieces_after page x.addr x.size)

        -- the pieces after the first are added where there are any
        module _ (space : ℕ) (f : space ≡ page - x.addr % page) where
          pub count_more : space < x.size → (q j : ℕ) → q ≡ (x.size - space - 1) / page → j ≡ sat (more + (1 + q)) → Added j
          count_more h q j g i =
              i ∙ ap (λ (k : ℕ). sat (more + (1 + k))) (g ∙ ap (λ (k : ℕ). (x.size - k - 1) / page) f)
              ∙ ap (λ (k : ℕ). sat (more + k)) (sym (after-some page x.addr x.size p (omega arith)))

          pub count_same : x.size ≤ space → (j : ℕ) → j ≡ more → Added j
          unfolding sat
          count_same h j g = omega (arith, now.low, none_after page x.addr x.size p (omega arith))

        pub count_step : (s j : ℕ) → s ≡ some + min x.size 1 → Added j → x.addr ≤ top - x.size → x.size ≤ top → Counting m s j
        count_step s j f g o b =
            let a = pieces_after page x.addr x.size in
            let q : length (split page l) ≡ min x.size 1 + a + length (split page m) =
            split-length page l x m e ∙ ap (λ (k : ℕ). k + length (split page m)) (pieces_number page x.addr x.size p) in
            record {
              above = sym (above_step l x m e o b) ∙ now.above;
              few = omega (arith, ap length e, now.few);
              low = rw g (sat-low (more + a));
              number = rw (f, g) (carried some more (min x.size 1) a (length (split page m))) ∙ ap (λ (k : ℕ). sat (some + more + k)) (sym q) ∙ now.number;
            }

    pub count-end : l ≡ [] → (j : ℕ) → j ≡ sat (some + more)
        → answer j ≡ first_of (when (ends_above (decode n xs)) Overflow ∷ []) (answer (sat (length (split page (decode n xs)))))
    count-end e j f =
        let z : some + more + length (split page l) ≡ some + more = omega (arith, ap length (split-none page l e)) in
        ap answer (f ∙ ap sat (sym z) ∙ now.number)
        ∙ passes (ends_above (decode n xs)) Overflow (answer (sat (length (split page (decode n xs))))) (sym now.above ∙ ap ends_above e)

-- ---- the pass that puts

module _ (page : ℕ) (all : List FreeSection) (out₀ : List ℕ) where
  -- at the head of the loop, where the pieces of l are still to be put, from k on
  pub record Putting (l : List FreeSection) (out : List ℕ) (k : ℕ) : Type 0 where
    pub fits : ends_above l ≡ false
    pub space : k + 2 * length (split page l) ≤ length out
    pub same_length : length out ≡ length out₀
    pub same : over k (flat (split page l)) out ≡ over 0 (flat (split page all)) out₀

  pub put-start : (l : List FreeSection) → l ≡ all → ends_above all ≡ false → 2 * length (split page all) ≤ length out₀ → Putting l out₀ 0
  put-start l e h r = rw e (record { fits = h; space = omega arith; same_length = refl; same = refl })

  module _ (l : List FreeSection) (out : List ℕ) (k : ℕ) (now : Putting l out k) where
    module _ (x : FreeSection) (m : List FreeSection) (e : l ≡ x ∷ m) where
      pub put_room : k + 2 * length (pieces page x) ≤ length out
      put_room = omega (arith, split-length page l x m e, now.space)

      pub put_step : (out' : List ℕ) (j : ℕ) → out' ≡ over k (flat (pieces page x)) out → j ≡ k + 2 * length (pieces page x) → Putting m out' j
      put_step out' j o f =
          let z : length out' ≡ length out = ap length o ∙ length_over k (flat (pieces page x)) out in
          record {
            fits = (fits-first l x m e now.fits).1;
            space = omega (arith, split-length page l x m e, now.space);
            same_length = z ∙ now.same_length;
            same =
                rw (f, o) (over-flat section_form k (pieces page x) (split page m) out)
                ∙ sym (ap (λ (i : List FreeSection). over k (flat i) out) (split-more page l x m e))
                ∙ now.same;
          }

    pub put-end : l ≡ [] → out ≡ over 0 (flat (split page all)) out₀
    put-end e = sym (over-nil k out) ∙ sym (ap (λ (i : List FreeSection). over k (flat i) out) (split-none page l e)) ∙ now.same

-- ---- the entries

module _ (xs : List ℕ) (n page : ℕ) where
  pub count-page : page ≡ 0 → refused Page ≡ split_count xs n page
  unfolding split_count first_of
  count-page z = rw (eq-eqb page 0 z)

  module _ (p : page ≡ 0 → ⊥) where
    pub count_no_run : not (is_run xs n) ≡ true → refused NotAList ≡ split_count xs n page
    unfolding split_count first_of
    count_no_run h = rw (ne_eqb page 0 p, h)

    pub count-run : not (is_run xs n) ≡ false → first_of (when (ends_above (decode n xs)) Overflow ∷ []) (answer (sat (length (split page (decode n xs))))) ≡ split_count xs n page
    unfolding split_count first_of
    count-run h = rw (ne_eqb page 0 p, h)

  -- what a number of pieces tells
  pub record Splits (m : ℕ) : Type 0 where
    pub fits : ends_above (decode n xs) ≡ false
    pub number : m ≡ sat (length (split page (decode n xs)))
    pub passed : NoneHolds (split_tests xs n page)

  pub split_told : (m : ℕ) → answer m ≡ split_count xs n page → Splits m
  unfolding split_count
  split_told m e =
      let q = first_answers (split_tests xs n page) (sat (length (split page (decode n xs)))) m (sym e) in
      record { fits = q.0.1.1.0; number = sym q.1; passed = q.0 }

module _ (xs : List ℕ) (n page : ℕ) (out : List ℕ) where
  pub split-page : page ≡ 0 → left (refused Page) out ≡ leaving out (split_into xs n page out)
  unfolding split_into first_of
  split-page z = rw (eq-eqb page 0 z)

  pub split_odd : (page ≡ 0 → ⊥) → (length out % 2 ≡ 0 → ⊥) → left (refused NotAList) out ≡ leaving out (split_into xs n page out)
  unfolding split_into first_of
  split_odd p h = rw (ne_eqb page 0 p, ne_eqb (length out % 2) 0 h) (pick (is_run xs n))
    where
      pick : (t : Bool) → left {A = ℕ} (refused NotAList) out ≡ leaving out (cond (not t) (refused NotAList) (refused NotAList))
      pick true = refl
      pick false = refl

  module _ (even : length out % 2 ≡ 0) where
    after_tests : split_into xs n page out ≡ first_of (split_tests xs n page) (into_run out (split page (decode n xs)))
    unfolding split_into first_of
    after_tests = rw (eq-eqb (length out % 2) 0 even)

    pub split-refused : (r : Refusal) → refused r ≡ split_count xs n page → left (refused r) out ≡ leaving out (split_into xs n page out)
    unfolding split_count
    split-refused r e =
        ap (leaving out) (first_refuses (split_tests xs n page) (sat (length (split page (decode n xs)))) r (into_run out (split page (decode n xs))) e ∙ sym after_tests)

    module _ (m : ℕ) (s : Splits xs n page m) where
      is-run : split_into xs n page out ≡ into_run out (split page (decode n xs))
      is-run = after_tests ∙ first_pass (split_tests xs n page) (into_run out (split page (decode n xs))) s.passed

      pub split-over : length out / 2 < m → left (refused (OverCapacity m (length out / 2))) out ≡ leaving out (split_into xs n page out)
      unfolding first_of sat
      split-over h =
          let k : length out / 2 < length (split page (decode n xs)) = omega (arith, s.number) in
          sym (ap (leaving out) is-run ∙ rw (lt-ltb (length out / 2) (length (split page (decode n xs))) k, s.number))

      module _ (h : m ≤ length out / 2) (b : length out / 2 < 2 ^ 64 - 1) where
        pub split_number : m ≡ length (split page (decode n xs))
        unfolding sat
        split_number = omega (arith, s.number)

        pub split-is : (out' : List ℕ) → out' ≡ over 0 (flat (split page (decode n xs))) out → left (answer m) out' ≡ leaving out (split_into xs n page out)
        unfolding first_of
        split-is out' o =
            let r : length (split page (decode n xs)) ≤ length out / 2 = omega (arith, split_number) in
            sym (ap (leaving out) is-run ∙ rw (le-ltb (length out / 2) (length (split page (decode n xs))) r, ← split_number, o))
