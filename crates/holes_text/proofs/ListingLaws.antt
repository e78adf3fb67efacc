-- Laws of a listing: what stands next in a run of pairs, and in the runs of slots. Assumes nothing.
use mathlib.Core.Path.{◌≡◌, sym, ap, ap₂, ◌∙◌, subst}
use mathlib.Core.List.{List, ◌++◌}
use mathlib.Core.Logic.{⊎_elim}
use Prim.Native.Nat.{ℕ, ◌+◌, ◌-◌, ◌*◌, ◌/◌, ◌≤◌, ◌<◌, min}
use native.Mathlib.Nat.{min-eq_left}
use native.Mathlib.Numerals.{add-one}
use native.Mathlib.Omega.{arith}
use borrow.Author.Rules.{part_to_end}
use lib.ListN.{length, take, drop, get_or, drop_of_length-le}
use lib.Seq.{drop-cons, drop-drop}
use Rattle.error.specs.Lent.{With, with}
use Rattle.error.proofs.TestLaws.{le-or-lt}
use Rattle.pairs.proofs.PairLaws.{decode-drop, decode-end}
use Rattle.fsm_sections.specs.declared.FreeSection.{FreeSection}
use Rattle.fsm_sections.specs.Sections.{section, decode, section_at}
use Rattle.fsm_sections.proofs.RunStepLaws.{decode-present}
use Rattle.text.specs.Text.{written}
use Rattle.holes_text.specs.Listing.{row_text, slot_text, slots_text, slots_of}
use Rattle.text.proofs.TextLaws.{Printing, piece, printed}

-- ---- the loop that writes a slot's lines: those of the first i sections are written

module _ (slot n : ℕ) (run : List ℕ) where
  abbrev pub lines_from : ℕ → List ℕ
  lines_from i = slot_text slot (drop i (decode n run))

  pub lines_start : (count at : ℕ) (out : List ℕ) → at ≤ length out → n ≡ min count (length run / 2) → Printing (written at (slot_text slot (decode count run)) out) at (lines_from 0) out
  lines_start count at out h e =
      record { inside = h; same = ap (λ (l : List FreeSection). written at (slot_text slot l) out) (decode-present n count run e) }

  module _ {whole : With ℕ (List ℕ)} (room : 2 * n ≤ length run) (i to : ℕ) (out : List ℕ) (p : Printing whole to (lines_from i) out) where
    pub lines_step : {r : ℕ} {m : List ℕ} → i < n → with r m ≡ written to (row_text slot (section_at run i)) out → Printing whole r (lines_from (i + 1)) m
    unfolding slot_text
    lines_step h e =
        piece to (row_text slot (section_at run i)) (lines_from (i + 1)) out
        (subst (λ (l : List FreeSection). Printing whole to (slot_text slot l) out) (decode-drop section n i run h room) p) e

    pub lines_end : n ≤ i → with to out ≡ whole
    unfolding slot_text
    lines_end h = printed to out (subst (λ (l : List FreeSection). Printing whole to (slot_text slot l) out) (decode-end section n i run h room) p)

-- ---- the loop that writes the slots: those before slot i are written, and the pairs of the others begin at `from`

module _ (counts run : List ℕ) where
  abbrev pub slots_from : ℕ → ℕ → List ℕ
  slots_from i from = slots_text i (slots_of (drop i counts) (drop from run))

  -- past its end a run has nothing
  drop-least : (k : ℕ) → drop k run ≡ drop (min k (length run)) run
  drop-least k =
      ⊎_elim
      (λ (q : k ≤ length run). ap (λ (j : ℕ). drop j run) (sym (min-eq_left q)))
      (λ (q : length run < k).
      let s : length run ≤ min k (length run) = omega arith in
      let t : length run ≤ k = omega arith in
      drop_of_length-le run t ∙ sym (drop_of_length-le run s))
      (le-or-lt k (length run))

  slots_next : (i from : ℕ) → i < length counts
      → slots_from i from ≡ slot_text i (decode (get_or counts i 0) (drop from run)) ++ slots_from (i + 1) (min (from + 2 * get_or counts i 0) (length run))
  unfolding slots_text slots_of
  slots_next i from h =
      let n = get_or counts i 0 in
      ap (λ (l : List ℕ). slots_text i (slots_of l (drop from run))) (drop-cons counts i 0 h)
      ∙ ap₂ (λ (j : ℕ) (m : List ℕ). slot_text i (decode n (drop from run)) ++ slots_text j (slots_of (drop j counts) m)) (sym (add-one i))
      (drop-drop (2 * n) from run ∙ drop-least (from + 2 * n))

  pub slots_step : {whole : With ℕ (List ℕ)} (i from to : ℕ) (out : List ℕ) {r next : ℕ} {m : List ℕ} → i < length counts → Printing whole to (slots_from i from) out
      → with r m ≡ written to (slot_text i (decode (get_or counts i 0) (take (length run - from) (drop from run)))) out
      → next ≡ min (from + 2 * get_or counts i 0) (length run) → Printing whole r (slots_from (i + 1) next) m
  slots_step {whole} i from to out {r} {next} {m} h p e q =
      subst (λ (k : ℕ). Printing whole r (slots_from (i + 1) k) m) (sym q)
      (piece to (slot_text i (decode (get_or counts i 0) (drop from run))) (slots_from (i + 1) (min (from + 2 * get_or counts i 0) (length run))) out
      (subst (λ (t : List ℕ). Printing whole to t out) (slots_next i from h) p)
      (e ∙ ap (λ (t : List ℕ). written to (slot_text i (decode (get_or counts i 0) t)) out) (part_to_end run from)))

  pub slots_end : {whole : With ℕ (List ℕ)} (i from to : ℕ) (out : List ℕ) → length counts ≤ i → Printing whole to (slots_from i from) out → with to out ≡ whole
  unfolding slots_text slots_of
  slots_end {whole} i from to out h p =
      printed to out (subst (λ (l : List ℕ). Printing whole to (slots_text i (slots_of l (drop from run))) out) (drop_of_length-le counts h) p)
