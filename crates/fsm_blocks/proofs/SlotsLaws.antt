-- The managers of all slots: the cases of `manager_count`, and the loops that count and put their sections. Assumes nothing.
use mathlib.Core.Path.{◌≡◌, refl, sym, ap, ap₂, ◌∙◌, subst}
use mathlib.Core.Bool.{false, not}
use mathlib.Core.List.{List, [], ◌∷◌}
use Prim.Native.Nat.{ℕ, ◌+◌, ◌*◌, ◌^◌, ◌≤◌, ◌<◌}
use native.Mathlib.Nat.{zero-add}
use native.Mathlib.Numerals.{add-one}
use native.Mathlib.Omega.{arith}
use lib.ListN.{length, drop, get_or, length-append, drop_of_length-le}
use lib.Seq.{drop-cons}
use Rattle.std.specs.Prelude.{Result, Option, Ok, Err, None, Some}
use Rattle.error.specs.Answers.{as_outcome}
use Rattle.fsm_blocks.specs.declared.manager.SectionList.{SectionList}
use Rattle.error.specs.declared.Refusal.{Refusal}
use Rattle.error.specs.Outcome.{Outcome, answer, refused, first_of, and_then, sat}
use Rattle.error.specs.Lent.{over}
use Rattle.error.proofs.OverLaws.{length_over, over-nil}
use Rattle.error.proofs.OutcomeLaws.{then_then, then_same}
use Rattle.fields.specs.Layout.{window}
use Rattle.fields.specs.Width.{valid_width}
use Rattle.pairs.proofs.PairLaws.{over-flat}
use Rattle.fsm_sections.specs.declared.FreeSection.{FreeSection}
use Rattle.fsm_sections.specs.Sections.{flat}
use Rattle.fsm_blocks.specs.declared.header.FsmHeader.{FsmHeader}
use Rattle.fsm_blocks.specs.declared.checks.Reading.{Reading}
use Rattle.fsm_blocks.specs.Reading.{read_manager, read_slots, joined}
use Rattle.fsm_blocks.specs.Parts.{got, Accepted, counted, sections_by}
use Rattle.fsm_blocks.specs.Named.{named_outcome, Inside, manager_count, slots_count}
use Rattle.fsm_blocks.proofs.ThenLaws.{then_refused, sized_is, not-refused, both_accepted}
use Rattle.fsm_blocks.proofs.FsseLaws.{read-total}
use Rattle.fsm_sections.proofs.SectionsLaws.{section_form}

-- ---- one manager

module _ (how : Reading) (O base slot : ℕ) (bytes : List ℕ) where
  module _ (v : not (valid_width O) ≡ false) where
    sized : manager_count how O base slot bytes ≡ counted (read_manager how O base slot bytes)
    unfolding manager_count first_of
    sized = rw v

    module _ (found : (Result (Option SectionList) Refusal)) (l : named_outcome O bytes found ≡ read_manager how O base slot bytes) where
      found-count : counted (named_outcome O bytes found) ≡ manager_count how O base slot bytes
      found-count = ap counted l ∙ sym sized

      pub count_none : found ≡ (Ok None) → answer 0 ≡ manager_count how O base slot bytes
      unfolding and_then
      count_none e = sym (ap (λ (f : (Result (Option SectionList) Refusal)). counted (named_outcome O bytes f)) e) ∙ found-count

      pub count-refused : (r : Refusal) → found ≡ Err r → refused r ≡ manager_count how O base slot bytes
      unfolding and_then
      count-refused r e = sym (ap (λ (f : (Result (Option SectionList) Refusal)). counted (named_outcome O bytes f)) e) ∙ found-count

      pub count_at : (start : ℕ) (h : FsmHeader) → found ≡ Ok (Some (record { start = start; header = h })) → (x : Outcome ℕ)
          → x ≡ counted (sections_by h O (window start h.fsse_used bytes)) → x ≡ manager_count how O base slot bytes
      count_at start h e x q =
          q ∙ sym (ap (λ (f : (Result (Option SectionList) Refusal)). counted (named_outcome O bytes f)) e) ∙ found-count

  -- ---- `put_manager`

  module _ (found : (Result (Option SectionList) Refusal)) (l : named_outcome O bytes found ≡ read_manager how O base slot bytes) where
    nothing_put : read_manager how O base slot bytes ≡ answer [] → (from : ℕ) (out : List ℕ)
        → (out ≡ over from (flat (got (read_manager how O base slot bytes))) out) × (from ≡ from + 2 * length (got (read_manager how O base slot bytes)))
    nothing_put e from out =
        let n : length (got (read_manager how O base slot bytes)) ≡ 0 = ap (λ (o : Outcome (List FreeSection)). length (got o)) e in
        (sym (ap (λ (o : Outcome (List FreeSection)). over from (flat (got o)) out) e ∙ over-nil from out), omega arith)

    pub put-none : found ≡ (Ok None) → (from : ℕ) (out : List ℕ)
        → (out ≡ over from (flat (got (read_manager how O base slot bytes))) out) × (from ≡ from + 2 * length (got (read_manager how O base slot bytes)))
    put-none e = nothing_put (sym l ∙ ap (named_outcome O bytes) e)

    pub put_refused : (r : Refusal) → found ≡ Err r → Accepted (read_manager how O base slot bytes) → (from : ℕ) (out : List ℕ)
        → (out ≡ over from (flat (got (read_manager how O base slot bytes))) out) × (from ≡ from + 2 * length (got (read_manager how O base slot bytes)))
    put_refused r e a from out = not-refused (read_manager how O base slot bytes) _ _ a (sym l ∙ ap (named_outcome O bytes) e)

    module _ (start : ℕ) (h : FsmHeader) (e : found ≡ Ok (Some (record { start = start; header = h }))) where
      pub list-is : sections_by h O (window start h.fsse_used bytes) ≡ read_manager how O base slot bytes
      list-is =
          sym (ap (named_outcome O bytes) e) ∙ l

      pub list-total : Accepted (read_manager how O base slot bytes) → length (got (read_manager how O base slot bytes)) ≡ h.total_sections
      list-total a =
          ap (λ (o : Outcome (List FreeSection)). length (got o)) (sym list-is)
          ∙ read-total O _ _ _ (window start h.fsse_used bytes) (subst Accepted (sym list-is) a)

-- a list that was found lies within the bytes
pub inside-at : (len : ℕ) (found : (Result (Option SectionList) Refusal)) (start : ℕ) (h : FsmHeader) → Inside len found → found ≡ Ok (Some (record { start = start; header = h })) → start + h.fsse_used ≤ len
inside-at len found start h i e = subst (Inside len) e i

sat-few : (n : ℕ) → sat n < 2 ^ 64
unfolding sat
sat-few n = omega arith

length-joined : (l : List FreeSection) (ls : List (List FreeSection)) → length (joined (l ∷ ls)) ≡ length l + length (joined ls)
unfolding joined
length-joined l ls = length-append l (joined ls)

-- one manager's count added, the sum is that of the managers after it
add-up : (needed n m : ℕ) (l : List FreeSection) (ls : List (List FreeSection)) → length l ≡ n → m ≡ sat (needed + n)
    → sat (needed + length (joined (l ∷ ls))) ≡ sat (m + length (joined ls))
unfolding sat
add-up needed n m l ls k s = omega (arith, length-joined l ls)

-- ---- the slots in order

module _ (how : Reading) (O base : ℕ) (bytes : List ℕ) where
  slots-cons : (a : ℕ) (rest : List ℕ) → read_slots how O base (a ∷ rest) bytes ≡ and_then (read_manager how O base a bytes) (λ x. and_then (read_slots how O base rest bytes) (λ y. answer (x ∷ y)))
  unfolding read_slots
  slots-cons a rest = refl

  -- how many sections there are, where so many are counted already
  abbrev after : ℕ → Outcome (List (List FreeSection)) → Outcome ℕ
  after n o = and_then o (λ ls. answer (sat (n + length (joined ls))))

  pub record Summing (slots : List ℕ) (needed i : ℕ) : Type 0 where
    pub within : i ≤ length slots
    pub few : needed < 2 ^ 64
    pub same : slots_count how O base slots bytes ≡ after needed (read_slots how O base (drop i slots) bytes)

  module _ (slots : List ℕ) where
    pub sum_start : Summing slots 0 0
    unfolding slots_count
    sum_start = record {
      within = omega arith;
      few = omega arith;
      same = then_same (read_slots how O base slots bytes) _ _ (λ ls. ap (λ (n : ℕ). answer (sat n)) (sym (zero-add (length (joined ls)))));
    }

    module _ (needed i : ℕ) (now : Summing slots needed i) where
      pub sum_end : length slots ≤ i → answer needed ≡ slots_count how O base slots bytes
      unfolding read_slots joined and_then sat
      sum_end h =
          let e : sat (needed + 0) ≡ needed = omega (arith, now.few) in
          sym (now.same ∙ ap (λ (s : List ℕ). after needed (read_slots how O base s bytes)) (drop_of_length-le slots h) ∙ ap answer e)

      module _ (l : i < length slots) where
        next : drop i slots ≡ get_or slots i 0 ∷ drop (i + 1) slots
        next = drop-cons slots i 0 l ∙ ap (λ (n : ℕ). get_or slots i 0 ∷ drop n slots) (sym (add-one i))

        here : slots_count how O base slots bytes
            ≡ after needed (and_then (read_manager how O base (get_or slots i 0) bytes) (λ x. and_then (read_slots how O base (drop (i + 1) slots) bytes) (λ y. answer (x ∷ y))))
        here = now.same ∙ ap (λ (s : List ℕ). after needed (read_slots how O base s bytes)) next ∙ ap (after needed) (slots-cons (get_or slots i 0) (drop (i + 1) slots))

        module _ (v : not (valid_width O) ≡ false) where
          pub sum_refused : {c : (Result ℕ Refusal)} (r : Refusal) → c ≡ Err r → as_outcome c ≡ manager_count how O base (get_or slots i 0) bytes → refused r ≡ slots_count how O base slots bytes
          unfolding and_then
          sum_refused r e q =
              sym (here ∙ ap (after needed) (then_refused (read_manager how O base (get_or slots i 0) bytes) length _ _ _ (sym (sized how O base (get_or slots i 0) bytes v) ∙ sym q ∙ ap as_outcome e)))

          pub sum_step : {c : (Result ℕ Refusal)} (n : ℕ) → c ≡ Ok n → as_outcome c ≡ manager_count how O base (get_or slots i 0) bytes → (m : ℕ) → m ≡ sat (needed + n) → Summing slots m (i + 1)
          unfolding and_then
          sum_step n e q m s =
              let o : Outcome (List FreeSection) = read_manager how O base (get_or slots i 0) bytes in
              let k = sized_is o length n (sym (sized how O base (get_or slots i 0) bytes v) ∙ sym q ∙ ap as_outcome e) in
              record {
                within = omega arith;
                few = rw s (sat-few (needed + n));
                same =
                    here
                    ∙ ap (λ (x : Outcome (List FreeSection)). after needed (and_then x (λ x. and_then (read_slots how O base (drop (i + 1) slots) bytes) (λ y. answer (x ∷ y))))) k.0
                    ∙ then_then (read_slots how O base (drop (i + 1) slots) bytes) _ _
                    ∙ then_same (read_slots how O base (drop (i + 1) slots) bytes) _ _ (λ ls. ap answer (add-up needed n m (got o) ls k.1 s));
              }

  -- ---- put into the run

  pub record Storing (slots out₀ out : List ℕ) (k i : ℕ) : Type 0 where
    pub within : i ≤ length slots
    pub accepted : Accepted (read_slots how O base (drop i slots) bytes)
    pub room : k + 2 * length (joined (got (read_slots how O base (drop i slots) bytes))) ≤ length out
    pub same_length : length out ≡ length out₀
    pub same : over 0 (flat (joined (got (read_slots how O base slots bytes)))) out₀ ≡ over k (flat (joined (got (read_slots how O base (drop i slots) bytes)))) out

  module _ (slots out₀ : List ℕ) where
    pub store_start : Accepted (read_slots how O base slots bytes) → 2 * length (joined (got (read_slots how O base slots bytes))) ≤ length out₀ → Storing slots out₀ out₀ 0 0
    store_start a r = record { within = omega arith; accepted = a; room = omega arith; same_length = refl; same = refl }

    module _ (out : List ℕ) (k i : ℕ) (now : Storing slots out₀ out k i) where
      pub store_end : length slots ≤ i → out ≡ over 0 (flat (joined (got (read_slots how O base slots bytes)))) out₀
      unfolding read_slots joined
      store_end h =
          sym
          (now.same
          ∙ ap (λ (s : List ℕ). over k (flat (joined (got (read_slots how O base s bytes)))) out) (drop_of_length-le slots h)
          ∙ over-nil k out)

      module _ (l : i < length slots) where
        one : Outcome (List FreeSection)
        one = read_manager how O base (get_or slots i 0) bytes

        others : Outcome (List (List FreeSection))
        others = read_slots how O base (drop (i + 1) slots) bytes

        split : read_slots how O base (drop i slots) bytes ≡ and_then one (λ x. and_then others (λ y. answer (x ∷ y)))
        unfolding one others
        split =
            ap (λ (s : List ℕ). read_slots how O base s bytes) (drop-cons slots i 0 l ∙ ap (λ (n : ℕ). get_or slots i 0 ∷ drop n slots) (sym (add-one i)))
            ∙ slots-cons (get_or slots i 0) (drop (i + 1) slots)

        parts : (Accepted one × Accepted others) × (got (read_slots how O base (drop i slots) bytes) ≡ got one ∷ got others)
        unfolding one others
        parts =
            let p = both_accepted one others (subst Accepted split now.accepted) in
            (p.0, ap got split ∙ p.1)

        pub slot_accepted : Accepted (read_manager how O base (get_or slots i 0) bytes)
        unfolding one others
        slot_accepted = parts.0.0

        lengths : length (joined (got (read_slots how O base (drop i slots) bytes))) ≡ length (got one) + length (joined (got others))
        lengths = ap (λ (ls : List (List FreeSection)). length (joined ls)) parts.1 ∙ length-joined (got one) (got others)

        pub slot_room : k + 2 * length (got (read_manager how O base (get_or slots i 0) bytes)) ≤ length out
        unfolding one others
        slot_room = omega (arith, lengths, now.room)

        pub store_step : (out' : List ℕ) (k' : ℕ) → out' ≡ over k (flat (got (read_manager how O base (get_or slots i 0) bytes))) out
            → k' ≡ k + 2 * length (got (read_manager how O base (get_or slots i 0) bytes)) → Storing slots out₀ out' k' (i + 1)
        unfolding one others joined
        store_step out' k' o e =
            let kept : length out' ≡ length out = ap length o ∙ length_over k (flat (got one)) out in
            record {
              within = omega arith;
              accepted = parts.0.1;
              room = omega (arith, lengths, now.room);
              same_length = kept ∙ now.same_length;
              same =
                  now.same
                  ∙ ap (λ (ls : List (List FreeSection)). over k (flat (joined ls)) out) parts.1
                  ∙ sym (over-flat section_form k (got one) (joined (got others)) out)
                  ∙ ap₂ (λ (n : ℕ) (x : List ℕ). over n (flat (joined (got others))) x) (sym e) (sym o);
            }
