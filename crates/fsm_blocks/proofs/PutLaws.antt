-- The loops that put sections into the lent run, as facts about numbers and lists. Assumes nothing.
use mathlib.Core.Path.{◌≡◌, refl, sym, ap, ap₂, ◌∙◌, subst}
use mathlib.Core.List.{List, [], ◌∷◌, ◌++◌}
use mathlib.Core.Logic.{inl, inr, ⊎_elim}
use Prim.Native.Nat.{ℕ, suc, ◌+◌, ◌*◌, ◌-◌, ◌≤◌, ◌<◌}
use native.Mathlib.Nat.{add-zero}
use native.Mathlib.Numerals.{add-one}
use native.Mathlib.Omega.{arith}
use lib.ListN.{length, drop}
use lib.Seq.{drop-drop}
use Rattle.error.specs.Outcome.{Outcome, and_then}
use Rattle.error.specs.Lent.{over}
use Rattle.error.proofs.TestLaws.{le-or-lt}
use Rattle.error.proofs.OverLaws.{length_over, over-nil, over_right}
use Rattle.fields.specs.Layout.{le_at}
use Rattle.pairs.proofs.PairLaws.{over-flat}
use Rattle.fsm_sections.specs.declared.FreeSection.{FreeSection}
use Rattle.fsm_sections.specs.Sections.{flat, with_size}
use Rattle.fsm_sections.proofs.SectionsLaws.{length-with_size, section_form}
use Rattle.fsm_blocks.specs.Groups.{Widths, head_size, read_more, parse_groups}
use Rattle.fsm_blocks.specs.Parts.{got, Accepted, addresses}
use Rattle.fsm_blocks.proofs.BytesLaws.{le_at-drop}
use Rattle.fsm_blocks.proofs.ThenLaws.{not-refused, first-accepted}
use Rattle.fsm_blocks.proofs.ScanLaws.{read_groups_zero}
use Rattle.fsm_blocks.proofs.CountLaws.{length-addresses, short-at, refused-at, group_at}

-- ---- `put_entries`

module _ (s : List ℕ) (width size : ℕ) where
  -- n entries at a place, as a run
  abbrev entries : ℕ → ℕ → List ℕ
  entries n p = flat (with_size size (addresses width n (drop p s)))

  entries_suc : (n p : ℕ) → entries (suc n) p ≡ le_at p width s ∷ size ∷ entries n (p + (width + 1))
  unfolding addresses with_size
  entries_suc n p =
      let e : le_at 0 width (drop p s) ≡ le_at p width s = le_at-drop p 0 width s ∙ ap (λ (k : ℕ). le_at k width s) (add-zero p) in
      rw (e, drop-drop (suc width) p s, add-one width)

  -- at the head of the loop: what is left to put gives the run that is to be
  module _ (out₀ : List ℕ) (at count from : ℕ) where
    abbrev pub entry : ℕ → ℕ
    entry i = at + i * (width + 1)

    -- at the head of the loop: what is left to put gives the run that is to be
    pub record Filling (out : List ℕ) (i : ℕ) : Type 0 where
      pub same_length : length out ≡ length out₀
      pub same : over from (entries count at) out₀ ≡ over (from + 2 * i) (entries (count - i) (entry i)) out

    pub fill_start : Filling out₀ 0
    fill_start =
        let k : from ≡ from + 2 * 0 = omega arith in
        let n : count ≡ count - 0 = omega arith in
        let p : at ≡ at + 0 * (width + 1) = omega arith in
        record { same_length = refl; same = ap₂ (λ (j : ℕ) (l : List ℕ). over j l out₀) k (ap₂ entries n p) }

    module _ (out : List ℕ) (i : ℕ) (now : Filling out i) where
      pub fill_step : i < count → (v : ℕ) → v ≡ le_at (entry i) width s → (out' : List ℕ) → out' ≡ over (from + 2 * i) (v ∷ size ∷ []) out → Filling out' (i + 1)
      fill_step h v e out' o =
          let left : ℕ = count - (i + 1) in
          let n : count - i ≡ suc left = omega arith in
          let k : from + 2 * i + 2 ≡ from + 2 * (i + 1) = omega arith in
          let p : entry i + (width + 1) ≡ entry (i + 1) = omega arith in
          record {
            same_length = ap length o ∙ length_over (from + 2 * i) (v ∷ size ∷ []) out ∙ now.same_length;
            same =
                now.same
                ∙ ap (λ (j : ℕ). over (from + 2 * i) (entries j (entry i)) out) n
                ∙ ap (λ (l : List ℕ). over (from + 2 * i) l out) (entries_suc left (entry i) ∙ ap (λ (j : ℕ). j ∷ size ∷ entries left (entry i + (width + 1))) (sym e))
                ∙ sym (over_right (from + 2 * i) (v ∷ size ∷ []) (entries left (entry i + (width + 1))) out)
                ∙ ap₂ (λ (j : ℕ) (l : List ℕ). over j (entries left (entry i + (width + 1))) l) k (sym o)
                ∙ ap (λ (q : ℕ). over (from + 2 * (i + 1)) (entries left q) out') p;
          }

      pub fill_end : count ≤ i → out ≡ over from (entries count at) out₀
      unfolding addresses with_size
      fill_end h =
          let z : count - i ≡ 0 = omega arith in
          sym (now.same ∙ ap (λ (j : ℕ). over (from + 2 * i) (entries j (entry i)) out) z ∙ over-nil (from + 2 * i) out)

-- ---- `put_groups`

-- at the head of the loop: what is left to read gives the run that is to be
pub record Putting (s : List ℕ) (w : Widths) (total from : ℕ) (out₀ out : List ℕ) (at left k : ℕ) : Type 0 where
  pub within : at ≤ length s
  pub accepted : Accepted (parse_groups w left (drop at s))
  pub room : k + 2 * left ≤ length out
  pub same_length : length out ≡ length out₀
  pub same : over from (flat (got (parse_groups w total s))) out₀ ≡ over k (flat (got (parse_groups w left (drop at s)))) out

more-got : (w : Widths) (size : ℕ) (found : List ℕ) (o : Outcome (List FreeSection)) → Accepted o → got (read_more w size found o) ≡ with_size size found ++ got o
unfolding and_then
more-got w size found o a = ap (λ (x : Outcome (List FreeSection)). got (read_more w size found x)) a

module _ (s : List ℕ) (w : Widths) (total from : ℕ) (out₀ : List ℕ) where
  pub put-start : Accepted (parse_groups w total s) → from + 2 * total ≤ length out₀ → Putting s w total from out₀ out₀ 0 total from
  put-start a r = record { within = omega arith; accepted = a; room = r; same_length = refl; same = refl }

  module _ (out : List ℕ) (at left k : ℕ) (now : Putting s w total from out₀ out at left k) where
    pub put-end : left ≤ 0 → out ≡ over from (flat (got (parse_groups w total s))) out₀
    put-end h =
        let z : left ≡ 0 = omega arith in
        sym
        (now.same
        ∙ ap (λ (n : ℕ). over k (flat (got (parse_groups w n (drop at s)))) out) z
        ∙ ap (λ (x : Outcome (List FreeSection)). over k (flat (got x)) out) (read_groups_zero w (length (drop at s)) (drop at s))
        ∙ over-nil k out)

    -- an accepted group lies within the groups
    module _ (some : 0 < head_size w) (p : 0 < left) where
      pub head_in : head_size w ≤ length s - at
      head_in = ⊎_elim (λ h. h) (λ h. not-refused (parse_groups w left (drop at s)) _ _ now.accepted (short-at s w some at left p h)) (le-or-lt (head_size w) (length s - at))

      module _ (count : ℕ) (read : count ≡ le_at at w.counts s) where
        pub count-few : count ≤ left
        count-few =
            ⊎_elim (λ h. h) (λ h. not-refused (parse_groups w left (drop at s)) _ _ now.accepted (refused-at s w some at left p head_in count read (inl h)))
            (le-or-lt count left)

        pub entries_in : count * (w.addresses + 1) ≤ length s - at - head_size w
        entries_in =
            ⊎_elim (λ h. h) (λ h. not-refused (parse_groups w left (drop at s)) _ _ now.accepted (refused-at s w some at left p head_in count read (inr (rw add-one at h))))
            (le-or-lt (count * (w.addresses + 1)) (length s - at - head_size w))

        pub put_step : (size : ℕ) → size ≡ le_at (at + w.counts) w.sizes s → (out' : List ℕ)
            → out' ≡ over k (flat (with_size size (addresses w.addresses count (drop (at + head_size w) s)))) out
            → Putting s w total from out₀ out' (at + head_size w + count * (w.addresses + 1)) (left - count) (k + 2 * count)
        put_step size e out' o =
            let found = addresses w.addresses count (drop (at + head_size w) s) in
            let far : List ℕ = drop (at + head_size w + count * (w.addresses + 1)) s in
            let n : length (with_size size found) ≡ count = length-with_size size found ∙ length-addresses w.addresses count (drop (at + head_size w) s) in
            let kept : length out' ≡ length out = ap length o ∙ length_over k (flat (with_size size found)) out in
            let g : parse_groups w left (drop at s) ≡ read_more w size found (parse_groups w (left - count) far) =
            rw (e, add-one w.addresses) (group_at s w some at left p head_in count read count-few (rw add-one at entries_in)) in
            let a : Accepted (parse_groups w (left - count) far) = first-accepted (parse_groups w (left - count) far) _ (subst Accepted g now.accepted) in
            record {
              within = omega (arith, now.within, head_in, entries_in);
              accepted = a;
              room = omega (arith, now.room, count-few);
              same_length = kept ∙ now.same_length;
              same =
                  now.same
                  ∙ ap (λ (x : Outcome (List FreeSection)). over k (flat (got x)) out) g
                  ∙ ap (λ (l : List FreeSection). over k (flat l) out) (more-got w size found (parse_groups w (left - count) far) a)
                  ∙ sym (over-flat section_form k (with_size size found) (got (parse_groups w (left - count) far)) out)
                  ∙ ap₂ (λ (i : ℕ) (l : List ℕ). over (k + 2 * i) (flat (got (parse_groups w (left - count) far))) l) n (sym o);
            }
