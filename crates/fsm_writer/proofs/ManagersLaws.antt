-- The blocks of a paged file's managers, written one after another. Assumes nothing.
use mathlib.Core.Path.{◌≡◌, sym, ap, ap₂, ◌∙◌, subst}
use Prim.Native.Nat.{ℕ, ◌+◌, ◌-◌, ◌≤◌, ◌<◌}
use native.Mathlib.Omega.{arith}
use mathlib.Core.List.{List, [], ◌∷◌, ◌++◌, append-nil}
use lib.Dec.{ltb}
use lib.ListN.{length, length-append, take, drop}
use borrow.Author.Tests.{lt-ltb, le-ltb, eq-eqb, ne_eqb}
use Rattle.error.specs.declared.Refusal.{Refusal}
use Rattle.error.specs.declared.Refusal.TheVariants.{OverCapacity}
use Rattle.error.specs.Outcome.{Outcome, answer, refused, when, first_of, and_then}
use Rattle.error.specs.Lent.{With, with, left, leaving, over}
use Rattle.error.proofs.OverLaws.{length_over, over-nil}
use Rattle.error.proofs.OutcomeLaws.{first-none, first_holds, first_passes}
use Rattle.checksum.specs.Lookup3.{lookup3}
use Rattle.fields.specs.Ranges.{top}
use Rattle.fsm_sections.specs.declared.FreeSection.{FreeSection}
use Rattle.fsm_sections.specs.declared.Source.{Source}
use Rattle.fsm_sections.specs.Chains.{sections_of}
use Rattle.fsm_sections.specs.Sources.{chains_of, small_source, Given}
use Rattle.fsm_sections.specs.Passes.{Numbers}
use Rattle.fsm_sections.specs.Sections.{by_size_then_addr, decode, space, distinct}
use Rattle.fsm_sections.specs.Pages.{slot0, slot2, slot6}
use Rattle.fsm_sections.proofs.SectionsLaws.{length-sorted}
use Rattle.fsm_sections.proofs.SizesLaws.{distinct-sorted}
use Rattle.fsm_sections.proofs.SlotLaws.{slot6-runs}
use Rattle.fsm_sections.proofs.SpaceLaws.{space-sorted}
use Rattle.fsm_blocks.specs.Fshd.{Header, fshd_bytes, fshd_size}
use Rattle.fsm_blocks.specs.Fsse.{fsse_bytes}
use Rattle.fsm_blocks.specs.Settings.{starting_set, header_of, header_for, fsse_for, fsse_used, blocks_size}
use Rattle.fsm_blocks.proofs.LengthLaws.{size-some, part_room, part_back}
use Rattle.fsm_blocks.proofs.WrittenLaws.{length_fshd}
use Rattle.fsm_plan.specs.declared.Counts.{Counts}
use Rattle.fsm_plan.specs.declared.chains.Paged.{Paged}
use Rattle.fsm_plan.specs.declared.measure.Measure.{Measure}
use Rattle.fsm_plan.specs.declared.blocks.BlocksPlan.{BlocksPlan}
use Rattle.fsm_plan.specs.Managers.{manager, managers_of, manager_bytes, size_of, blocks_from}
use Rattle.fsm_plan.specs.Order.{source_of}
use Rattle.fsm_plan.specs.Blocks.{paged, in_slot0, in_slot2, in_large, measure_of, planned_blocks}
use Rattle.fsm_plan.proofs.RunsLaws.{Tested, small_same, small_given, small_numbers, large_given, large_numbers}
use Rattle.fsm_plan.proofs.BlocksLaws.{Accepted, accepted}
use Rattle.fsm_plan.proofs.PlannedLaws.{bytes-long, plan_end, plan_bytes}
use Rattle.fsm_writer.specs.Writing.{Narrow}
use Rattle.fsm_writer.specs.Paged.{managers_in, managers_bytes, written_managers}
use Rattle.fsm_writer.proofs.RowLaws.{over-after}
use Rattle.fsm_writer.proofs.SerializeLaws.{sorted-narrow}

-- ---- both blocks of a slot

module _ (O : ℕ) (l : List FreeSection) (m : Measure) (me : m ≡ measure_of O l) (address class : ℕ) (d : List ℕ) where
  abbrev bytes : List ℕ
  bytes = manager_bytes O (starting_set O) lookup3 address (manager class l)

  pub count-is : m.count ≡ length l
  count-is = ap (λ (x : Measure). x.count) me

  pub none-put : m.count ≡ 0 → d ≡ over 0 bytes d
  none-put z = sym (over-nil 0 d) ∙ sym (rw (eq-eqb (length l) 0 (sym count-is ∙ z)))

  module _ (some : m.count ≡ 0 → ⊥) where
    some_l : length l ≡ 0 → ⊥
    some_l z = some (count-is ∙ z)

    pub used-of : m.len ≡ 74 + O + fsse_used O (starting_set O) l
    used-of = ap (λ (x : Measure). x.len) me ∙ size-some O l some_l

    module _ (used : ℕ) (ue : used ≡ m.len - (74 + O)) where
      pub list-long : used ≡ fsse_used O (starting_set O) l
      list-long = omega (arith, used-of)

      header_is : header_of (starting_set O) m.space m.count (address + (74 + O)) used ≡ header_for O (starting_set O) (address + fshd_size O) l
      header_is =
          ap (λ (x : ℕ). header_of (starting_set O) x m.count (address + (74 + O)) used) (ap (λ (x : Measure). x.space) me)
          ∙ ap₂ (λ (x y : ℕ). header_of (starting_set O) (space l) x (address + (74 + O)) y) count-is list-long

      module _ (x : List ℕ) (xe : x ≡ over 0 (fshd_bytes lookup3 O (header_of (starting_set O) m.space m.count (address + (74 + O)) used)) d) (room : m.len ≤ length d) where
        long : length x ≡ length d
        long = ap length xe ∙ length_over 0 _ d

        pub list-start : 74 + O ≤ length x
        list-start = omega (arith, long, used-of)

        pub list-room : used ≤ length (take (length x - (74 + O)) (drop (74 + O) x))
        list-room = part_room x (74 + O) used (omega (arith, long, used-of))

        pub both_put : (ys : List ℕ) → ys ≡ over 0 (fsse_for O (starting_set O) lookup3 address class l) (take (length x - (74 + O)) (drop (74 + O) x))
            → take (74 + O) x ++ (ys ++ drop (length x - (74 + O)) (drop (74 + O) x)) ≡ over 0 bytes d
        both_put ys yse =
            let f = fshd_bytes lookup3 O (header_for O (starting_set O) (address + fshd_size O) l) in
            let g = fsse_for O (starting_set O) lookup3 address class l in
            let n : 74 + O ≡ length f = sym (length_fshd lookup3 O (header_for O (starting_set O) (address + fshd_size O) l)) in
            let xf : x ≡ over 0 f d = xe ∙ ap (λ (q : Header). over 0 (fshd_bytes lookup3 O q) d) header_is in
            part_back x ys g (74 + O) yse ∙ ap₂ (λ (i : ℕ) (q : List ℕ). over i g q) n xf ∙ over-after f g d
            ∙ sym (rw (ne_eqb (length l) 0 some_l) (ap (λ (q : List ℕ). over 0 (f ++ q) d) (append-nil g)))

-- ---- sections in another order have the same blocks

module _ (O : ℕ) (l m : List FreeSection) (e : by_size_then_addr l ≡ by_size_then_addr m) where
  by : {A : Type 0} (F : List FreeSection → A) → ((k : List FreeSection) → F (by_size_then_addr k) ≡ F k) → F l ≡ F m
  by F h = sym (h l) ∙ ap F e ∙ h m

  pub same_measure : measure_of O l ≡ measure_of O m
  same_measure = rw (by space space-sorted, by length length-sorted, by distinct distinct-sorted)

  pub same_bytes : (address class : ℕ) → manager_bytes O (starting_set O) lookup3 address (manager class l) ≡ manager_bytes O (starting_set O) lookup3 address (manager class m)
  unfolding fsse_bytes
  same_bytes address class = rw (by space space-sorted, by length length-sorted, by distinct distinct-sorted, e)

-- ---- the blocks of the three slots, one after another

module _ (O start page : ℕ) (meta raw unclassified : List FreeSection) (out : List ℕ) where
  abbrev l0 : List FreeSection
  l0 = slot0 page meta

  abbrev l2 : List FreeSection
  l2 = slot2 page raw

  abbrev l6 : List FreeSection
  l6 = slot6 page meta raw unclassified

  abbrev of : ℕ → ℕ → List FreeSection → List ℕ
  of a class l = manager_bytes O (starting_set O) lookup3 a (manager class l)

  module _ (s0 s2 s6 : List FreeSection) (e0 : by_size_then_addr l0 ≡ by_size_then_addr s0) (e2 : by_size_then_addr l2 ≡ by_size_then_addr s2) (e6 : by_size_then_addr l6 ≡ by_size_then_addr s6)
      (k j : ℕ) (ke : k ≡ blocks_size O l0) (je : j ≡ k + blocks_size O l2) (room : blocks_size O l0 + blocks_size O l2 + blocks_size O l6 ≤ length out)
      (x : List ℕ) (xe : x ≡ over 0 (of start 1 s0) out) where
    x_length : length x ≡ length out
    x_length = ap length xe ∙ length_over 0 (of start 1 s0) out

    pub second-start : k ≤ length x
    second-start = omega (arith, x_length)

    pub second-room : blocks_size O l2 ≤ length (take (length x - k) (drop k x))
    second-room = part_room x k (blocks_size O l2) (omega (arith, x_length))

    module _ (ys : List ℕ) (ye : ys ≡ over 0 (of (start + k) 1 s2) (take (length x - k) (drop k x))) where
      abbrev y : List ℕ
      y = take k x ++ (ys ++ drop (length x - k) (drop k x))

      two : y ≡ over 0 (of start 1 l0 ++ of (start + blocks_size O l0) 1 l2) out
      two =
          part_back x ys (of (start + k) 1 s2) k ye
          ∙ ap₂ (λ (i : ℕ) (q : List ℕ). over i (of (start + i) 1 s2) q) ke xe
          ∙ ap₂ (λ (u v : List ℕ). over (blocks_size O l0) u (over 0 v out)) (sym (same_bytes O l2 s2 e2 (start + blocks_size O l0) 1)) (sym (same_bytes O l0 s0 e0 start 1))
          ∙ ap (λ (i : ℕ). over i (of (start + blocks_size O l0) 1 l2) (over 0 (of start 1 l0) out)) (sym (bytes-long O lookup3 start 1 l0))
          ∙ over-after (of start 1 l0) (of (start + blocks_size O l0) 1 l2) out

      y_length : length y ≡ length out
      y_length = ap length two ∙ length_over 0 _ out

      pub third_start : j ≤ length y
      third_start = omega (arith, y_length)

      pub third_room : blocks_size O l6 ≤ length (take (length y - j) (drop j y))
      third_room = part_room y j (blocks_size O l6) (omega (arith, y_length))

      pub all-put : (zs : List ℕ) → zs ≡ over 0 (of (start + j) 2 s6) (take (length y - j) (drop j y))
          → take j y ++ (zs ++ drop (length y - j) (drop j y)) ≡ over 0 (blocks_from O (starting_set O) lookup3 start (managers_of page meta raw unclassified)) out
      all-put zs ze =
          let B0 = of start 1 l0 in
          let B2 = of (start + blocks_size O l0) 1 l2 in
          let B6 = of (start + (blocks_size O l0 + blocks_size O l2)) 2 l6 in
          let n : j ≡ blocks_size O l0 + blocks_size O l2 = omega arith in
          let i : blocks_size O l0 + blocks_size O l2 ≡ length (B0 ++ B2) =
          omega (arith, length-append B0 B2, bytes-long O lookup3 start 1 l0, bytes-long O lookup3 (start + blocks_size O l0) 1 l2) in
          part_back y zs (of (start + j) 2 s6) j ze
          ∙ ap₂ (λ (m : ℕ) (q : List ℕ). over m (of (start + m) 2 s6) q) n two
          ∙ ap (λ (u : List ℕ). over (blocks_size O l0 + blocks_size O l2) u (over 0 (B0 ++ B2) out)) (sym (same_bytes O l6 s6 e6 (start + (blocks_size O l0 + blocks_size O l2)) 2))
          ∙ ap (λ (m : ℕ). over m B6 (over 0 (B0 ++ B2) out)) i
          ∙ over-after (B0 ++ B2) B6 out
          ∙ ap (λ (u : List ℕ). over 0 u out) (sym (plan_bytes O page meta raw unclassified start lookup3))

-- ---- `put_managers`: what is asked for each slot, and what is written

module _ (a b c : List ℕ) (n : Counts) (page start O : ℕ) (p : BlocksPlan) (e : planned_blocks a b c n page start O ≡ answer p) (out : List ℕ) where
  abbrev acc : Accepted a b c n page start O p
  acc = accepted a b c n page start O p e

  abbrev t : Tested a b c n page O
  t = acc.tested

  abbrev S : Paged
  S = paged n page

  len0 : p.measures.slot0.len ≡ blocks_size O (in_slot0 S a b c)
  len0 = ap (λ (q : BlocksPlan). q.measures.slot0.len) acc.plan

  len2 : p.measures.slot2.len ≡ blocks_size O (in_slot2 S a b c)
  len2 = ap (λ (q : BlocksPlan). q.measures.slot2.len) acc.plan

  len6 : p.measures.slot6.len ≡ blocks_size O (in_large S a b c)
  len6 = ap (λ (q : BlocksPlan). q.measures.slot6.len) acc.plan

  pub ends : start + p.measures.slot0.len + p.measures.slot2.len + p.measures.slot6.len ≤ top
  ends = omega (arith, acc.end, len0, len2, len6)

  abbrev Asked : List ℕ → List ℕ → List ℕ → Source → Measure → ℕ → ℕ → Type 0
  Asked u v w s m address k =
      Given s u v w
      × (Numbers (sections_of (chains_of s u v w))
      × (((1 ≤ O) × (O ≤ 8) × Narrow O (sections_of (chains_of s u v w))) × ((m ≡ measure_of O (sections_of (chains_of s u v w))) × ((address + m.len ≤ top) × (m.len ≤ k)))))

  order0 : (s : Source) → s ≡ small_source page n.meta → by_size_then_addr (in_slot0 S a b c) ≡ by_size_then_addr (sections_of (chains_of s a a a))
  order0 s e = small_same page n.meta a t.some ∙ ap (λ (x : Source). by_size_then_addr (sections_of (chains_of x a a a))) (sym e)

  order2 : (s : Source) → s ≡ small_source page n.raw → by_size_then_addr (in_slot2 S a b c) ≡ by_size_then_addr (sections_of (chains_of s b b b))
  order2 s e = small_same page n.raw b t.some ∙ ap (λ (x : Source). by_size_then_addr (sections_of (chains_of x b b b))) (sym e)

  order6 : (s : Source) → s ≡ source_of S → by_size_then_addr (in_large S a b c) ≡ by_size_then_addr (sections_of (chains_of s a b c))
  order6 s e =
      ap by_size_then_addr (slot6-runs page n.meta n.raw n.unclassified a b c t.some)
      ∙ ap (λ (x : Source). by_size_then_addr (sections_of (chains_of x a b c))) (sym e)

  all_room : p.managers.end_of_managers ≤ start + length out → blocks_size O (in_slot0 S a b c) + blocks_size O (in_slot2 S a b c) + blocks_size O (in_large S a b c) ≤ length out
  all_room h = omega (arith, ap (λ (q : BlocksPlan). q.managers.end_of_managers) acc.plan)

  pub first_asked : (s : Source) → s ≡ small_source page n.meta → p.managers.end_of_managers ≤ start + length out → Asked a a a s p.measures.slot0 start (length out)
  first_asked s e room = (
    subst (λ (x : Source). Given x a a a) (sym e) (small_given page n.meta a t.some t.ends_x),
    (
      subst (λ (x : Source). Numbers (sections_of (chains_of x a a a))) (sym e) (small_numbers page n.meta a t.some t.ends_x),
      ((t.low, t.high, sorted-narrow O _ _ (order0 s e) acc.narrow0), (ap (λ (q : BlocksPlan). q.measures.slot0) acc.plan ∙ same_measure O _ _ (order0 s e), (omega (arith, ends), omega (arith, len0, all_room room)))),
    ),
  )

  module _ (room : p.managers.end_of_managers ≤ start + length out) (S0 S2 S6 : Source)
      (f0 : S0 ≡ small_source page n.meta) (f2 : S2 ≡ small_source page n.raw) (f6 : S6 ≡ source_of S) (u : List ℕ)
      (ue : u ≡ over 0 (manager_bytes O (starting_set O) lookup3 start (manager 1 (sections_of (chains_of S0 a a a)))) out) where
    abbrev k : ℕ
    k = p.measures.slot0.len

    abbrev j : ℕ
    j = p.measures.slot0.len + p.measures.slot2.len

    pub second_asked : (k ≤ length u) × Asked b b b S2 p.measures.slot2 (start + k) (length (take (length u - k) (drop k u)))
    second_asked = (
      second-start O start page (decode n.meta a) (decode n.raw b) (decode n.unclassified c) out _ _ _ (order0 S0 f0) (order2 S2 f2) (order6 S6 f6) k j len0
          (omega (arith, len2)) (all_room room) u ue,
      (
        subst (λ (x : Source). Given x b b b) (sym f2) (small_given page n.raw b t.some t.ends_y),
        (
          subst (λ (x : Source). Numbers (sections_of (chains_of x b b b))) (sym f2) (small_numbers page n.raw b t.some t.ends_y),
          (
            (t.low, t.high, sorted-narrow O _ _ (order2 S2 f2) acc.narrow2),
            (
              ap (λ (q : BlocksPlan). q.measures.slot2) acc.plan ∙ same_measure O _ _ (order2 S2 f2),
              (
                omega (arith, ends),
                omega (
                  arith,
                  len2,
                  second-room O start page (decode n.meta a) (decode n.raw b) (decode n.unclassified c) out _ _ _ (order0 S0 f0) (order2 S2 f2) (order6 S6 f6) k j len0
                      (omega (arith, len2)) (all_room room) u ue,
                ),
              ),
            ),
          ),
        ),
      ),
    )

    module _ (ys : List ℕ)
        (ye : ys ≡ over 0 (manager_bytes O (starting_set O) lookup3 (start + k) (manager 1 (sections_of (chains_of S2 b b b)))) (take (length u - k) (drop k u))) where
      abbrev v : List ℕ
      v = take k u ++ (ys ++ drop (length u - k) (drop k u))

      pub third_asked : (j ≤ length v) × Asked a b c S6 p.measures.slot6 (start + j) (length (take (length v - j) (drop j v)))
      third_asked = (
        third_start O start page (decode n.meta a) (decode n.raw b) (decode n.unclassified c) out _ _ _ (order0 S0 f0) (order2 S2 f2) (order6 S6 f6) k j len0
            (omega (arith, len2)) (all_room room) u ue ys ye,
        (
          subst (λ (x : Source). Given x a b c) (sym f6) (large_given a b c n page O t),
          (
            subst (λ (x : Source). Numbers (sections_of (chains_of x a b c))) (sym f6) (large_numbers a b c n page O t),
            (
              (t.low, t.high, sorted-narrow O _ _ (order6 S6 f6) acc.narrow6),
              (
                ap (λ (q : BlocksPlan). q.measures.slot6) acc.plan ∙ same_measure O _ _ (order6 S6 f6),
                (
                  omega (arith, ends),
                  omega (
                    arith,
                    len6,
                    third_room O start page (decode n.meta a) (decode n.raw b) (decode n.unclassified c) out _ _ _ (order0 S0 f0) (order2 S2 f2) (order6 S6 f6) k j len0
                        (omega (arith, len2)) (all_room room) u ue ys ye,
                  ),
                ),
              ),
            ),
          ),
        ),
      )

      pub all-written : (zs : List ℕ)
          → zs ≡ over 0 (manager_bytes O (starting_set O) lookup3 (start + j) (manager 2 (sections_of (chains_of S6 a b c)))) (take (length v - j) (drop j v))
          → take j v ++ (zs ++ drop (length v - j) (drop j v)) ≡ over 0 (managers_bytes a b c n page start O) out
      all-written zs ze =
          all-put O start page (decode n.meta a) (decode n.raw b) (decode n.unclassified c) out _ _ _ (order0 S0 f0) (order2 S2 f2) (order6 S6 f6) k j len0
          (omega (arith, len2)) (all_room room) u ue ys ye zs ze

-- ---- `serialize_paged_managers`, by its branches

module _ (a b c : List ℕ) (n : Counts) (page start O : ℕ) (out : List ℕ) where
  abbrev len : ℕ
  len = size_of O (starting_set O) (managers_in a b c n page)

  abbrev after : BlocksPlan → Outcome (With BlocksPlan (List ℕ))
  after p =
      first_of (when (ltb (length out) len) (OverCapacity len (length out)) ∷ [])
      (answer (with p (over 0 (managers_bytes a b c n page start O) out)))

  pub written-refused : (r : Refusal) → refused r ≡ planned_blocks a b c n page start O → left (refused r) out ≡ leaving out (written_managers a b c n page start O out)
  unfolding and_then written_managers
  written-refused r h = ap (λ (z : Outcome BlocksPlan). leaving out (and_then z after)) h

  module _ (p : BlocksPlan) (h : answer p ≡ planned_blocks a b c n page start O) where
    after_is : after p ≡ written_managers a b c n page start O out
    unfolding and_then written_managers
    after_is = ap (λ (z : Outcome BlocksPlan). and_then z after) h

    ends_at : p.managers.end_of_managers ≡ start + len
    ends_at =
        ap (λ (q : BlocksPlan). q.managers.end_of_managers) (accepted a b c n page start O p (sym h)).plan
        ∙ sym (plan_end O page (decode n.meta a) (decode n.raw b) (decode n.unclassified c) start)

    pub plan_start : start ≤ p.managers.end_of_managers
    plan_start = omega (arith, ends_at)

    module _ (m : ℕ) (me : m ≡ p.managers.end_of_managers - start) where
      pub written-short : length out < m → left (refused (OverCapacity m (length out))) out ≡ leaving out (written_managers a b c n page start O out)
      written-short k =
          let e : m ≡ len = omega (arith, ends_at) in
          ap (λ (i : ℕ). left (refused (OverCapacity i (length out))) out) e
          ∙ ap (leaving out) (sym (first_holds _ (OverCapacity len (length out)) _ _ (lt-ltb (length out) len (omega arith))) ∙ after_is)

      module _ (k : m ≤ length out) where
        pub written-room : p.managers.end_of_managers ≤ start + length out
        written-room = omega (arith, ends_at)

        pub written_done : (z : List ℕ) → z ≡ over 0 (managers_bytes a b c n page start O) out → left (answer p) z ≡ leaving out (written_managers a b c n page start O out)
        written_done z e =
            ap (λ (l : List ℕ). left (answer p) l) e
            ∙ ap (leaving out) (sym (first_passes _ (OverCapacity len (length out)) _ _ (le-ltb (length out) len (omega (arith, ends_at))) ∙ first-none _) ∙ after_is)
