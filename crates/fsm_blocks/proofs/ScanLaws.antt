-- The reading of groups on any bytes, as a loop goes through it: a group's entries at once. Assumes nothing.
use mathlib.Core.Path.{◌≡◌, refl, sym, ap, ◌∙◌}
use mathlib.Core.Bool.{Bool, true, false}
use mathlib.Core.List.{List, [], ◌∷◌}
use mathlib.Core.Logic.{◌⊎◌, inl, inr}
use Prim.Native.Nat.{ℕ, zero, suc, ◌+◌, ◌*◌, ◌-◌, ◌≤◌, ◌<◌}
use native.Mathlib.Nat.{zero-add, le_refl, le_trans, le_of_suc-le-suc, not-suc-le-zero, sub-zero, suc-sub-suc, zero-mul}
use native.Mathlib.Omega.{arith}
use borrow.Author.Tests.{lt-ltb, le-ltb, ltb-false}
use lib.Dec.{ltb}
use lib.ListN.{length, drop, length-append, length-drop}
use lib.Seq.{drop-drop}
use Rattle.error.specs.declared.Refusal.TheVariants.{InvalidManager}
use Rattle.error.specs.Outcome.{answer, refused, when, first_of, and_then}
use Rattle.fields.specs.Layout.{le_at}
use Rattle.fsm_sections.specs.declared.FreeSection.{FreeSection}
use Rattle.fsm_sections.specs.Sections.{with_size}
use Rattle.fsm_sections.proofs.SectionsLaws.{length-with_size}
use Rattle.fsm_blocks.specs.Groups.{Widths, Entries, entry_size, head_size, in_front, read_entries, read_more, read_groups, parse_groups}
use Rattle.fsm_blocks.specs.Parts.{addresses}
use Rattle.fsm_blocks.proofs.ThenLaws.{Holds, holds-when, holds_then, then_cong, when_cong}

module _ (w : Widths) where
  -- ---- the fuel does not matter

  pub read_groups_zero : (fuel : ℕ) (bs : List ℕ) → read_groups w fuel zero bs ≡ answer []
  unfolding read_groups
  read_groups_zero zero bs = refl
  read_groups_zero (suc fuel) bs = refl

  -- the last clause as an equation: proofs use it with `read_groups` shut
  pub read_groups_suc : (fuel left : ℕ) (bs : List ℕ) → read_groups w (suc fuel) (suc left) bs
      ≡ first_of (when (ltb (length bs) (head_size w)) InvalidManager ∷ [])
      (and_then (read_entries w (le_at 0 w.counts bs) (suc left) (drop (head_size w) bs))
      (λ e. read_more w (le_at w.counts w.sizes bs) e.found (read_groups w fuel e.left e.rest)))
  unfolding read_groups
  read_groups_suc fuel left bs = refl

  -- entries leave no more bytes than there were
  entries_shrink : (c left : ℕ) (bs : List ℕ) → Holds (λ (e : Entries). length e.rest ≤ length bs) (read_entries w c left bs)
  unfolding read_entries
  entries_shrink zero left bs = le_refl (length bs)
  entries_shrink (suc c) zero bs = tt
  entries_shrink (suc c) (suc left) bs =
      holds-when _ (ltb (length bs) (entry_size w)) InvalidManager _
      (holds_then (λ (e : Entries). length e.rest ≤ length bs) (read_entries w c left (drop (entry_size w) bs)) (in_front w (le_at 0 w.addresses bs))
      (entries_shrink c left (drop (entry_size w) bs)) (λ e h. le_trans h (rw (length-drop (entry_size w) bs) (omega arith))))

  -- ---- as many sections are read as are asked for

  entries_many : (c left : ℕ) (bs : List ℕ) → Holds (λ (e : Entries). length e.found + e.left ≡ left) (read_entries w c left bs)
  unfolding read_entries
  entries_many zero left bs = zero-add left
  entries_many (suc c) zero bs = tt
  entries_many (suc c) (suc left) bs =
      holds-when _ (ltb (length bs) (entry_size w)) InvalidManager _
      (holds_then (λ (e : Entries). length e.found + e.left ≡ suc left) (read_entries w c left (drop (entry_size w) bs)) (in_front w (le_at 0 w.addresses bs))
      (entries_many c left (drop (entry_size w) bs)) (λ e h. omega arith))

  pub groups_many : (fuel left : ℕ) (bs : List ℕ) → Holds (λ (l : List FreeSection). length l ≡ left) (read_groups w fuel left bs)
  unfolding read_groups
  groups_many zero zero bs = refl
  groups_many zero (suc left) bs = tt
  groups_many (suc fuel) zero bs = refl
  groups_many (suc fuel) (suc left) bs =
      holds-when _ (ltb (length bs) (head_size w)) InvalidManager _
      (holds_then (λ (l : List FreeSection). length l ≡ suc left) (read_entries w (le_at 0 w.counts bs) (suc left) (drop (head_size w) bs)) _
      (entries_many (le_at 0 w.counts bs) (suc left) (drop (head_size w) bs))
      (λ e h.
      holds_then (λ (l : List FreeSection). length l ≡ suc left) (read_groups w fuel e.left e.rest) _
      (groups_many fuel e.left e.rest)
      (λ l k. length-append (with_size (le_at w.counts w.sizes bs) e.found) l ∙ omega (arith, length-with_size (le_at w.counts w.sizes bs) e.found))))

  module _ (some : 0 < head_size w) where
    no_bytes : (g left : ℕ) (bs : List ℕ) → length bs ≤ 0 → read_groups w g left bs ≡ read_groups w zero left bs
    unfolding read_groups first_of
    no_bytes zero left bs h = refl
    no_bytes (suc g) zero bs h = refl
    no_bytes (suc g) (suc left) bs h = rw (lt-ltb (length bs) (head_size w) (omega arith))

    -- any fuel that is at least the number of bytes
    any_fuel : (f g left : ℕ) (bs : List ℕ) → length bs ≤ f → length bs ≤ g → read_groups w f left bs ≡ read_groups w g left bs
    any_fuel zero g left bs hf hg = sym (no_bytes g left bs hf)
    any_fuel (suc f) zero left bs hf hg = no_bytes (suc f) left bs hg
    any_fuel (suc f) (suc g) zero bs hf hg = read_groups_zero (suc f) bs ∙ sym (read_groups_zero (suc g) bs)
    any_fuel (suc f) (suc g) (suc left) bs hf hg =
        read_groups_suc f left bs
        ∙ when_cong (ltb (length bs) (head_size w)) InvalidManager _ _ (λ t.
        then_cong (read_entries w (le_at 0 w.counts bs) (suc left) (drop (head_size w) bs)) _ _ (entries_shrink (le_at 0 w.counts bs) (suc left) (drop (head_size w) bs))
        (λ e h.
        let n : length e.rest ≤ length bs - head_size w = rw length-drop at h in
        let m : head_size w ≤ length bs = ltb-false _ _ t in
        ap (read_more w (le_at w.counts w.sizes bs) e.found) (any_fuel f g e.left e.rest (omega arith) (omega arith))))
        ∙ sym (read_groups_suc g left bs)

    -- the reading of groups by its own recursive equation
    parse_suc : (left : ℕ) (bs : List ℕ) → parse_groups w (suc left) bs
        ≡ first_of (when (ltb (length bs) (head_size w)) InvalidManager ∷ [])
        (and_then (read_entries w (le_at 0 w.counts bs) (suc left) (drop (head_size w) bs))
        (λ e. read_more w (le_at w.counts w.sizes bs) e.found (parse_groups w e.left e.rest)))
    parse_suc left bs =
        any_fuel (length bs) (suc (length bs)) (suc left) bs (le_refl (length bs)) (omega arith)
        ∙ read_groups_suc (length bs) left bs
        ∙ when_cong (ltb (length bs) (head_size w)) InvalidManager _ _ (λ t.
        then_cong (read_entries w (le_at 0 w.counts bs) (suc left) (drop (head_size w) bs)) _ _ (entries_shrink (le_at 0 w.counts bs) (suc left) (drop (head_size w) bs))
        (λ e h.
        let n : length e.rest ≤ length bs - head_size w = rw length-drop at h in
        ap (read_more w (le_at w.counts w.sizes bs) e.found) (any_fuel (length bs) (length e.rest) e.left e.rest (omega arith) (le_refl (length e.rest)))))

  -- ---- a group's entries at once

  pub entries_fit : (c left : ℕ) (bs : List ℕ) → c ≤ left → c * entry_size w ≤ length bs
      → read_entries w c left bs ≡ answer (record { found = addresses w.addresses c bs; left = left - c; rest = drop (c * entry_size w) bs })
  unfolding read_entries addresses first_of and_then
  entries_fit zero left bs h l = rw (sub-zero, zero-mul)
  entries_fit (suc c) zero bs h l = absurd (not-suc-le-zero h)
  entries_fit (suc c) (suc left) bs h l =
      let m : suc c * entry_size w ≡ entry_size w + c * entry_size w = omega arith in
      let k : c * entry_size w ≤ length (drop (entry_size w) bs) = rw length-drop (omega arith) in
      rw (le-ltb (length bs) (entry_size w) (omega arith), entries_fit c left (drop (entry_size w) bs) (le_of_suc-le-suc h) k, drop-drop (c * entry_size w) (entry_size w) bs, suc-sub-suc, m)

  entries_beyond : (c left : ℕ) (bs : List ℕ) → left < c → read_entries w c left bs ≡ refused InvalidManager
  unfolding read_entries first_of and_then
  entries_beyond zero left bs h = absurd (not-suc-le-zero h)
  entries_beyond (suc c) zero bs h = refl
  entries_beyond (suc c) (suc left) bs h = pick (ltb (length bs) (entry_size w)) (entries_beyond c left (drop (entry_size w) bs) (le_of_suc-le-suc h))
    where
      pick : (b : Bool) → read_entries w c left (drop (entry_size w) bs) ≡ refused InvalidManager
          → first_of (when b InvalidManager ∷ []) (and_then (read_entries w c left (drop (entry_size w) bs)) (in_front w (le_at 0 w.addresses bs))) ≡ refused InvalidManager
      pick true e = refl
      pick false e = rw e

  entries_past : (c left : ℕ) (bs : List ℕ) → length bs < c * entry_size w → read_entries w c left bs ≡ refused InvalidManager
  unfolding read_entries first_of and_then
  entries_past zero left bs h = absurd (omega arith)
  entries_past (suc c) zero bs h = refl
  entries_past (suc c) (suc left) bs h =
      pick (ltb (length bs) (entry_size w)) (λ e. entries_past c left (drop (entry_size w) bs) (shorter (ltb-false (length bs) (entry_size w) e)))
    where
      shorter : entry_size w ≤ length bs → length (drop (entry_size w) bs) < c * entry_size w
      shorter l = rw length-drop (omega arith)

      pick : (b : Bool) → (b ≡ false → read_entries w c left (drop (entry_size w) bs) ≡ refused InvalidManager)
          → first_of (when b InvalidManager ∷ []) (and_then (read_entries w c left (drop (entry_size w) bs)) (in_front w (le_at 0 w.addresses bs))) ≡ refused InvalidManager
      pick true e = refl
      pick false e = rw (e refl)

  -- ---- one group

  module _ (some : 0 < head_size w) where
    pub scan_short : (left : ℕ) (bs : List ℕ) → 0 < left → length bs < head_size w → parse_groups w left bs ≡ refused InvalidManager
    unfolding first_of
    scan_short zero bs p l = absurd (not-suc-le-zero p)
    scan_short (suc left) bs p l = rw (parse_suc some left bs, lt-ltb (length bs) (head_size w) l)

    scan_head : (left : ℕ) (bs : List ℕ) → 0 < left → head_size w ≤ length bs
        → parse_groups w left bs
        ≡ and_then (read_entries w (le_at 0 w.counts bs) left (drop (head_size w) bs))
        (λ e. read_more w (le_at w.counts w.sizes bs) e.found (parse_groups w e.left e.rest))
    unfolding first_of
    scan_head zero bs p l = absurd (not-suc-le-zero p)
    scan_head (suc left) bs p l = rw (parse_suc some left bs, le-ltb (length bs) (head_size w) l)

    module _ (left : ℕ) (bs : List ℕ) (p : 0 < left) (f : head_size w ≤ length bs) where
      -- a group that holds too many sections, or more than the bytes there are
      pub scan_refused : (left < le_at 0 w.counts bs) ⊎ (length bs - head_size w < le_at 0 w.counts bs * entry_size w) → parse_groups w left bs ≡ refused InvalidManager
      unfolding and_then
      scan_refused (inl c) = rw (scan_head left bs p f, entries_beyond (le_at 0 w.counts bs) left (drop (head_size w) bs) c)
      scan_refused (inr c) = rw (scan_head left bs p f, entries_past (le_at 0 w.counts bs) left (drop (head_size w) bs) (rw (length-drop (head_size w) bs) c))

      -- one that is read, and what follows it
      pub scan_step : le_at 0 w.counts bs ≤ left → le_at 0 w.counts bs * entry_size w ≤ length bs - head_size w
          → parse_groups w left bs
          ≡ read_more w (le_at w.counts w.sizes bs) (addresses w.addresses (le_at 0 w.counts bs) (drop (head_size w) bs))
          (parse_groups w (left - le_at 0 w.counts bs) (drop (head_size w + le_at 0 w.counts bs * entry_size w) bs))
      unfolding and_then
      scan_step c e =
          let C : ℕ = le_at 0 w.counts bs in
          let rest : List ℕ = drop (head_size w) bs in
          let long : C * entry_size w ≤ length rest = rw (length-drop (head_size w) bs) e in
          rw (scan_head left bs p f, entries_fit C left rest c long, drop-drop (C * entry_size w) (head_size w) bs)
