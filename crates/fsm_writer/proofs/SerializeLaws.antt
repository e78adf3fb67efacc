-- Laws of the writer's public entries: which refusal is given, and what acceptance says. Assumes nothing.
use mathlib.Core.Path.{◌≡◌, refl, sym, ap, ap₂, ◌∙◌}
use mathlib.Core.Logic.{⊎_elim}
use Prim.Native.Nat.{ℕ, ◌+◌, ◌*◌, ◌/◌, ◌%◌, ◌^◌, ◌≤◌, ◌<◌}
use native.Mathlib.Nat.{mul-le-mul}
use native.Mathlib.Omega.{arith}
use mathlib.Core.Bool.{Bool, true, false, not, ◌||◌}
use mathlib.Core.List.{List, [], ◌∷◌}
use lib.Dec.{ltb, leb, eqb}
use lib.ListN.{length, get_or}
use borrow.Author.Tests.{ltb-false, leb-true, leb-false, lt-ltb, le-ltb, eq-eqb, ne_eqb}
use Rattle.std.specs.Prelude.{Result, Ok, Err}
use Rattle.std.specs.Result.{result_unwrap_or}
use Rattle.error.specs.Answers.{as_outcome}
use Rattle.error.specs.declared.Refusal.{Refusal}
use Rattle.error.specs.declared.Refusal.TheVariants.{Width, NotAList, Overflow, WideAddress, OverCapacity}
use Rattle.error.specs.Outcome.{Outcome, answer, nothing, refuse, refused, when, first_of, and_then, sat}
use Rattle.error.specs.Lent.{With, with, left, leaving, over}
use Rattle.error.proofs.TestLaws.{and_true, or_false, true_not_false}
use Rattle.error.proofs.OutcomeLaws.{first_holds, first_passes, first-none, first_answers}
use Rattle.fields.specs.Ranges.{top}
use Rattle.fields.specs.Width.{enc_size, valid_width}
use Rattle.pairs.proofs.PairLaws.{length-decode}
use Rattle.checksum.specs.Lookup3.{lookup3}
use Rattle.fsm_sections.specs.declared.FreeSection.{FreeSection}
use Rattle.fsm_sections.specs.declared.Source.{Source}
use Rattle.fsm_sections.specs.Sections.{section, decode, space, distinct, by_size_then_addr, All}
use Rattle.fsm_sections.specs.Chains.{sections_of}
use Rattle.fsm_sections.specs.Sources.{chains_of, plain_source, Given}
use Rattle.fsm_sections.specs.Passes.{storable, Numbers}
use Rattle.fsm_sections.specs.Runs.{wide, any_wide}
use Rattle.fsm_sections.proofs.AnyLaws.{any_sorted}
use Rattle.fsm_sections.proofs.StoredLaws.{refused_alike, too_great, great_enough, stored_is, stored-not}
use Rattle.fsm_sizes.specs.declared.totals.Sums.{Sums}
use Rattle.fsm_sizes.specs.Totals.{summed}
use Rattle.fsm_sizes.proofs.TotalLaws.{sum_over, summed-is, summed-not}
use Rattle.fsm_sections.proofs.SlotLaws.{plain_runs}
use Rattle.fsm_blocks.specs.Fshd.{Header, fshd_bytes, fshd_size}
use Rattle.fsm_blocks.specs.Settings.{starting_set, header_of, header_for, used_by, fsse_used, fsse_for, blocks_size}
use Rattle.fsm_writer.specs.Writing.{Narrow}
use Rattle.fsm_writer.specs.Serializing.{of_run, blocks_len, written_fshd, written_fsse}
use Rattle.fsm_sections.proofs.PassLaws.{run-numbers}
use Rattle.fsm_sections.proofs.SizesLaws.{distinct-few}
use Rattle.fsm_blocks.proofs.LengthLaws.{width_small, used_by_lem}

-- ---- a run of sections as a source

whole-fits : (l : List FreeSection) → All (λ s. Unit {0}) l
whole-fits [] = tt
whole-fits (x ∷ l) = (tt, whole-fits l)

module _ (n : ℕ) (run : List ℕ) where
  pub plain_given : Given (plain_source n) run run run
  plain_given = record {
    some = omega arith;
    fit_a = whole-fits (decode n run);
    fit_b = tt;
    fit_c = tt;
  }

  pub plain_all : sections_of (chains_of (plain_source n) run run run) ≡ decode n run
  plain_all = sym (plain_runs n run run run)

  -- the sum of the sizes, where the number of the sections fits
  module _ (room : 2 * n ≤ length run) (few : n ≤ top) (s : Source) (se : s ≡ plain_source n) where
    abbrev l : List FreeSection
    l = sections_of (chains_of (plain_source n) run run run)

    abbrev sums : Source → Outcome Sums
    sums x = summed (length (sections_of (chains_of x run run run))) (space (sections_of (chains_of x run run run)))

    long-is : length l ≤ top
    long-is = rw plain_all (omega (arith, length-decode section n run room))

    pub space-refused : (r : Refusal) → refused r ≡ sums s → refused r ≡ storable (space l)
    space-refused r h =
        let by_plain : refused r ≡ summed (length l) (space l) = h ∙ ap sums se in
        let z : top < space l = ⊎_elim (λ (p : top < space l). p) (λ (p : top < length l). absurd (omega (arith, long-is))) (summed-not (Err r) _ _ by_plain r refl) in
        refused_alike r Overflow (by_plain ∙ sym (sum_over (length l) (space l) z)) ∙ too_great (space l) z

    pub space-is : (t : Sums) → answer t ≡ sums s → answer t.space ≡ storable (space l)
    space-is t h = let q = summed-is (Ok t) _ _ (h ∙ ap sums se) t refl in great_enough t.space (space l) q.1 (omega (arith, q.1, q.3))

-- ---- what follows on a refusal and on an answer

then_refused : {A B : Type 0} (s : Outcome A) (r : Refusal) (g : A → Outcome B) → s ≡ refused r → refused r ≡ and_then s g
unfolding and_then
then_refused s r g e = rw e

-- a refusal of what gives a number is a refusal of what gives anything
refused-then : {A B : Type 0} (s : Outcome A) (f : A → ℕ) (n : ℕ) (vs : List ℕ) (g : A → Outcome B) → refuse n vs ≡ and_then s (λ x. answer (f x)) → refuse n vs ≡ and_then s g
unfolding and_then
refused-then (answer a) f n vs g e = let z : ◌≡◌ {A = ℕ} 0 1 = cc in absurd (omega arith)
refused-then nothing f n vs g e = let z : ◌≡◌ {A = ℕ} 0 1 = cc in absurd (omega arith)
refused-then (refuse m ws) f n vs g e = cc

answered : {A : Type 0} {R : Type 0} (s : Outcome A) (f : A → ℕ) (n : ℕ) → answer n ≡ and_then s (λ x. answer (f x)) → ((x : A) → s ≡ answer x → n ≡ f x → R) → R
unfolding and_then
answered (answer a) f n e k = k a refl cc
answered nothing f n e k = let z : ◌≡◌ {A = ℕ} 0 1 = cc in absurd (omega arith)
answered (refuse m ws) f n e k = let z : ◌≡◌ {A = ℕ} 0 1 = cc in absurd (omega arith)

one_then : {A B : Type 0} (t : Bool) (r : Refusal) (x : A) (g : A → Outcome B) → and_then (first_of (when t r ∷ []) (answer x)) g ≡ first_of (when t r ∷ []) (g x)
unfolding and_then first_of
one_then true r x g = refl
one_then false r x g = refl

not_false : (b : Bool) → not b ≡ false → b ≡ true
not_false true e = refl
not_false false e = true_not_false true refl e

-- ---- a run of sections: refusals 1, 3, 4

module _ (O : ℕ) (run : List ℕ) (n : ℕ) where
  pub record Accepted (sum : ℕ) : Type 0 where
    pub low : 1 ≤ O
    pub high : O ≤ 8
    pub room : 2 * n ≤ length run
    pub is_sum : sum ≡ space (decode n run)
    pub is : of_run O run n ≡ answer (decode n run)

  module _ {B : Type 0} (g : List FreeSection → Outcome B) where
    pub run_width : not (valid_width O) ≡ true → refused Width ≡ and_then (of_run O run n) g
    unfolding of_run
    run_width h = then_refused _ Width g (first_holds _ Width _ _ h)

    module _ (v : not (valid_width O) ≡ false) where
      pub run_unlisted : (not (eqb (length run % 2) 0) || ltb (length run / 2) n) ≡ true → refused NotAList ≡ and_then (of_run O run n) g
      unfolding of_run
      run_unlisted h = then_refused _ NotAList g (first_passes _ Width _ _ v ∙ first_holds _ NotAList _ _ h)

  pub run_space : not (valid_width O) ≡ false → length run % 2 ≡ 0 → n ≤ length run / 2 → (r : Outcome ℕ) → r ≡ storable (space (sections_of (chains_of (plain_source n) run run run)))
      → r ≡ and_then (of_run O run n) (λ l. answer (space l))
  unfolding of_run storable
  run_space v e h r p =
      p ∙ ap (λ (l : List FreeSection). storable (space l)) (plain_all n run)
      ∙ sym (ap (λ (s : Outcome (List FreeSection)). and_then s (λ l. answer (space l)))
      (first_passes _ Width _ _ v ∙ first_passes _ NotAList _ _ (rw (eq-eqb (length run % 2) 0 e, le-ltb (length run / 2) n h)))
      ∙ one_then (ltb top (space (decode n run))) Overflow (decode n run) (λ l. answer (space l)))

  pub taken_refused : {B : Type 0} (g : List FreeSection → Outcome B) (r : Refusal) → refused r ≡ and_then (of_run O run n) (λ l. answer (space l)) → refused r ≡ and_then (of_run O run n) g
  taken_refused g r e = refused-then (of_run O run n) space _ _ g e

  pub taken_is : (sum : ℕ) → answer sum ≡ and_then (of_run O run n) (λ l. answer (space l)) → Accepted sum
  unfolding of_run
  taken_is sum e = answered (of_run O run n) space sum e accept
    where
      accept : (l : List FreeSection) → of_run O run n ≡ answer l → sum ≡ space l → Accepted sum
      accept l i s =
          let q = first_answers _ (decode n run) l i in
          let v = and_true (leb 1 O) (leb O 8) (not_false (valid_width O) q.0.0) in
          let r = or_false (not (eqb (length run % 2) 0)) (ltb (length run / 2) n) q.0.1.0 in
          let m : n ≤ length run / 2 = ltb-false (length run / 2) n r.1 in
          record {
            low = leb-true 1 O v.0;
            high = leb-true O 8 v.1;
            room = omega arith;
            is_sum = s ∙ ap space (sym q.1);
            is = i ∙ ap (λ (k : List FreeSection). answer k) (sym q.1);
          }

pub accepted_then : {B : Type 0} (O : ℕ) (run : List ℕ) (n sum : ℕ) → Accepted O run n sum → (g : List FreeSection → Outcome B) → g (decode n run) ≡ and_then (of_run O run n) g
unfolding and_then
accepted_then O run n sum h g = rw h.is

-- ---- lengths

module _ (o n : ℕ) (run : List ℕ) (room : 2 * n ≤ length run) (fits : n < 2 ^ 64) where
  long : length (decode n run) ≡ n
  long = length-decode section n run room

  pub used-few : o ≤ 8 → fsse_used o (starting_set o) (decode n run) ≤ 17 + 25 * n
  used-few high =
      let d = distinct (decode n run) in
      let l = length (decode n run) in
      let f : d ≤ n = omega (arith, distinct-few (decode n run), long) in
      let w : enc_size l + 8 ≤ 16 = omega (arith, width_small l (omega (arith, long))) in
      let k : o + 1 ≤ 9 = omega arith in
      let r : l ≤ n = omega (arith, long) in
      omega (arith, used_by_lem o l d, mul-le-mul f w, mul-le-mul r k)

  module _ (d : ℕ) (de : d ≡ sat (distinct (sections_of (chains_of (plain_source n) run run run)))) where
    pub used-run : used_by o (starting_set o) n d ≡ fsse_used o (starting_set o) (decode n run)
    unfolding sat
    used-run =
        let e : d ≡ distinct (decode n run) = omega (arith, de, ap distinct (plain_all n run), distinct-few (decode n run), long) in
        sym (rw (long, ← e))

    -- it is a number, and is not refused
    module _ (high : o ≤ 8) (few : 17 + 25 * n ≤ top) where
      pub used_either : (c : Result ℕ Refusal) → as_outcome c ≡ storable (used_by o (starting_set o) n d) → result_unwrap_or c 0 ≡ fsse_used o (starting_set o) (decode n run)
      used_either (Ok m) e = (stored_is (Ok m) _ e m refl).0 ∙ used-run
      used_either (Err r) e = absurd (omega (arith, stored-not (Err r) _ e r refl, used-run, used-few high))

-- ---- the entries, by their branches

module _ (O : ℕ) (run : List ℕ) (n sum : ℕ) (h : Accepted O run n sum) where
  pub blocks_none : n ≡ 0 → answer 0 ≡ blocks_len O run n
  unfolding blocks_len
  blocks_none e =
      let z : length (decode n run) ≡ 0 = length-decode section n run h.room ∙ e in
      sym (rw (eq-eqb (length (decode n run)) 0 z)) ∙ accepted_then O run n sum h (λ l. answer (blocks_size O l))

  pub blocks_some : (n ≡ 0 → ⊥) → (used : ℕ) → used ≡ fsse_used O (starting_set O) (decode n run) → answer (74 + O + used) ≡ blocks_len O run n
  unfolding blocks_len
  blocks_some e used u =
      let z : length (decode n run) ≡ 0 → ⊥ = λ q. e (sym (length-decode section n run h.room) ∙ q) in
      ap (λ (m : ℕ). answer (74 + O + m)) u ∙ sym (rw (ne_eqb (length (decode n run)) 0 z))
      ∙ accepted_then O run n sum h (λ l. answer (blocks_size O l))

-- a refusal leaves the lent memory as it was
pub left-refused : (m : List ℕ) (r : Refusal) (x : Outcome (With ℕ (List ℕ))) → refused r ≡ x → left (refused r) m ≡ leaving m x
left-refused m r x e = ap (leaving m) e

pub left-answer : (m y : List ℕ) (n : ℕ) (x : Outcome (With ℕ (List ℕ))) → answer (with n y) ≡ x → left (answer n) y ≡ leaving m x
left-answer m y n x e = ap (leaving m) e

-- two conditions after those of the run
module _ (O : ℕ) (run : List ℕ) (n sum : ℕ) (h : Accepted O run n sum) (t u : List FreeSection → Bool) (r : Refusal) (x : List FreeSection → With ℕ (List ℕ))
    (need : List FreeSection → ℕ) (given : ℕ) where
  abbrev two : List FreeSection → Outcome (With ℕ (List ℕ))
  two l = first_of (when (t l) r ∷ when (u l) (OverCapacity (need l) given) ∷ []) (answer (x l))

  pub two-first : t (decode n run) ≡ true → refused r ≡ and_then (of_run O run n) two
  two-first e = sym (first_holds _ r _ _ e) ∙ accepted_then O run n sum h two

  pub two-second : t (decode n run) ≡ false → u (decode n run) ≡ true → (k : ℕ) → k ≡ need (decode n run) → refused (OverCapacity k given) ≡ and_then (of_run O run n) two
  two-second e f k q =
      ap (λ (m : ℕ). refused (OverCapacity m given)) q ∙ sym (first_passes _ r _ _ e ∙ first_holds _ (OverCapacity (need (decode n run)) given) _ _ f)
      ∙ accepted_then O run n sum h two

  pub two-answer : t (decode n run) ≡ false → u (decode n run) ≡ false → answer (x (decode n run)) ≡ and_then (of_run O run n) two
  two-answer e f =
      sym (first_passes _ r _ _ e ∙ first_passes _ (OverCapacity (need (decode n run)) given) _ _ f ∙ first-none _)
      ∙ accepted_then O run n sum h two

-- ---- `serialize_fshd`
module _ (O : ℕ) (run : List ℕ) (n sum : ℕ) (h : Accepted O run n sum) (fsse : ℕ) (out : List ℕ) where
  abbrev fshd_lent : List FreeSection → With ℕ (List ℕ)
  fshd_lent l = with (fshd_size O) (over 0 (fshd_bytes lookup3 O (header_for O (starting_set O) fsse l)) out)

  pub fshd_wide : wide O fsse ≡ true → left (refused WideAddress) out ≡ leaving out (written_fshd O run n fsse out)
  unfolding written_fshd
  fshd_wide e =
      left-refused out WideAddress _ (two-first O run n sum h (λ l. wide O fsse) (λ l. ltb (length out) (fshd_size O)) WideAddress fshd_lent (λ l. fshd_size O) (length out) e)

  pub fshd_short : wide O fsse ≡ false → length out < 74 + O → left (refused (OverCapacity (74 + O) (length out))) out ≡ leaving out (written_fshd O run n fsse out)
  unfolding written_fshd
  fshd_short e k =
      left-refused out (OverCapacity (74 + O) (length out)) _
      (two-second O run n sum h (λ l. wide O fsse) (λ l. ltb (length out) (fshd_size O)) WideAddress fshd_lent (λ l. fshd_size O) (length out) e (lt-ltb (length out) (74 + O) k) (74 + O) refl)

  pub fshd_done : wide O fsse ≡ false → 74 + O ≤ length out → (used : ℕ) → used ≡ fsse_used O (starting_set O) (decode n run) → (y : List ℕ)
      → y ≡ over 0 (fshd_bytes lookup3 O (header_of (starting_set O) sum n fsse used)) out → left (answer (74 + O)) y ≡ leaving out (written_fshd O run n fsse out)
  unfolding written_fshd
  fshd_done e k used u y p =
      let q : header_of (starting_set O) sum n fsse used ≡ header_for O (starting_set O) fsse (decode n run) =
      ap (λ (m : ℕ). header_of (starting_set O) m n fsse used) h.is_sum
      ∙ ap (λ (m : ℕ). header_of (starting_set O) (space (decode n run)) m fsse used) (sym (length-decode section n run h.room))
      ∙ ap (λ (m : ℕ). header_of (starting_set O) (space (decode n run)) (length (decode n run)) fsse m) u in
      let z : y ≡ over 0 (fshd_bytes lookup3 O (header_for O (starting_set O) fsse (decode n run))) out = p ∙ ap (λ (m : Header). over 0 (fshd_bytes lookup3 O m) out) q in
      ap (λ (m : List ℕ). left (answer (74 + O)) m) z
      ∙ left-answer out _ (74 + O) _
      (two-answer O run n sum h (λ l. wide O fsse) (λ l. ltb (length out) (fshd_size O)) WideAddress fshd_lent (λ l. fshd_size O) (length out) e (le-ltb (length out) (74 + O) k))

-- ---- `serialize_fsse`
module _ (O : ℕ) (run : List ℕ) (n sum : ℕ) (h : Accepted O run n sum) (fshd class : ℕ) (out : List ℕ) where
  abbrev used : List FreeSection → ℕ
  used l = fsse_used O (starting_set O) l

  abbrev fsse_lent : List FreeSection → With ℕ (List ℕ)
  fsse_lent l = with (used l) (over 0 (fsse_for O (starting_set O) lookup3 fshd class l) out)

  pub fsse-wide : (wide O fshd || any_wide O (decode n run)) ≡ true → left (refused WideAddress) out ≡ leaving out (written_fsse O run n fshd class out)
  unfolding written_fsse
  fsse-wide e =
      left-refused out WideAddress _ (two-first O run n sum h (λ l. wide O fshd || any_wide O l) (λ l. ltb (length out) (used l)) WideAddress fsse_lent used (length out) e)

  module _ (e : (wide O fshd || any_wide O (decode n run)) ≡ false) (m : ℕ) (u : m ≡ used (decode n run)) where
    pub fsse-short : length out < m → left (refused (OverCapacity m (length out))) out ≡ leaving out (written_fsse O run n fshd class out)
    unfolding written_fsse
    fsse-short k =
        left-refused out (OverCapacity m (length out)) _
        (two-second O run n sum h (λ l. wide O fshd || any_wide O l) (λ l. ltb (length out) (used l)) WideAddress fsse_lent used (length out) e
        (lt-ltb (length out) (used (decode n run)) (omega arith)) m u)

    pub fsse_done : m ≤ length out → (y : List ℕ) → y ≡ over 0 (fsse_for O (starting_set O) lookup3 fshd class (sections_of (chains_of (plain_source n) run run run))) out
        → left (answer m) y ≡ leaving out (written_fsse O run n fshd class out)
    unfolding written_fsse
    fsse_done k y p =
        let z : y ≡ over 0 (fsse_for O (starting_set O) lookup3 fshd class (decode n run)) out = p ∙ ap (λ (l : List FreeSection). over 0 (fsse_for O (starting_set O) lookup3 fshd class l) out) (plain_all n run) in
        ap₂ (λ (i : ℕ) (x : List ℕ). left (answer i) x) u z
        ∙ left-answer out _ (used (decode n run)) _
        (two-answer O run n sum h (λ l. wide O fshd || any_wide O l) (λ l. ltb (length out) (used l)) WideAddress fsse_lent used (length out) e
        (le-ltb (length out) (used (decode n run)) (omega arith)))

pub or_left : (a b : Bool) → a ≡ true → (a || b) ≡ true
or_left a b e = rw e

pub or_right : (a b : Bool) → a ≡ false → b ≡ true → (a || b) ≡ true
or_right a b e f = rw (e, f)

pub or_neither : (a b : Bool) → a ≡ false → b ≡ false → (a || b) ≡ false
or_neither a b e f = rw (e, f)

all-narrow : (O : ℕ) (l : List FreeSection) → any_wide O l ≡ false → Narrow O l
all-narrow O [] e = tt
all-narrow O (s ∷ l) e = let q = or_false (wide O s.addr) (any_wide O l) e in (leb-false (256 ^ O) s.addr q.0, all-narrow O l q.1)

-- the same of sections in another order
pub sorted-narrow : (O : ℕ) (l m : List FreeSection) → by_size_then_addr l ≡ by_size_then_addr m → any_wide O l ≡ false → Narrow O m
sorted-narrow O l m e n =
    let test : FreeSection → Bool = λ s. wide O s.addr in
    all-narrow O m (sym (any_sorted test m) ∙ ap (any_wide O) (sym e) ∙ any_sorted test l ∙ n)

-- what the list's writer asks, of a run of sections
pub run_asked : (O : ℕ) (run : List ℕ) (n sum : ℕ) → Accepted O run n sum → ((i : ℕ) → get_or run i 0 < 2 ^ 64) → (m : ℕ) → m ≡ fsse_used O (starting_set O) (decode n run) → (k : ℕ) → m ≤ k
    → (s : Source) → s ≡ plain_source n → any_wide O (decode n run) ≡ false
    → Given s run run run
    × (Numbers (sections_of (chains_of s run run run))
    × (Narrow O (sections_of (chains_of s run run run))
    × (((1 ≤ O) × (O ≤ 8))
    × ((n ≡ length (sections_of (chains_of s run run run)))
    × ((m ≡ fsse_used O (starting_set O) (sections_of (chains_of s run run run))) × (m ≤ k))))))
run_asked O run n sum h numbers m u k f s e w =
    rw e
    (rw (plain_all n run)
    (plain_given n run, (run-numbers n run numbers, (all-narrow O (decode n run) w, ((h.low, h.high), (sym (length-decode section n run h.room), (u, f)))))))
