-- What is written as groups is read back. Assumes nothing.
use mathlib.Core.Path.{◌≡◌, refl, sym, ap, ◌∙◌}
use mathlib.Core.Bool.{Bool, true, false, cond}
use mathlib.Core.List.{List, [], ◌∷◌, ◌++◌, append_assoc}
use Prim.Native.Nat.{ℕ, zero, suc, ◌+◌, ◌*◌, ◌^◌, ◌≤◌, ◌<◌, zero-le}
use native.Mathlib.Nat.{le_of_eq, zero-add, suc-add, not-suc-le-zero, le_of_suc-le-suc}
use native.Mathlib.Omega.{arith}
use borrow.Author.Tests.{le-ltb}
use lib.Dec.{eqb}
use lib.ListN.{length, drop, length-append}
use lib.Seq.{drop_at, append_snoc, drop-drop}
use Rattle.error.specs.Outcome.{answer, first_of, and_then}
use Rattle.fields.specs.Le.{le_bytes}
use Rattle.fields.proofs.LeLaws.{length-le}
use Rattle.fsm_sections.specs.declared.FreeSection.{FreeSection}
use Rattle.fsm_sections.specs.Sections.{by_size_then_addr, Group, addrs, count, push, groups_of, with_size, ungroup, All}
use Rattle.fsm_sections.proofs.SectionsLaws.{all-sorted, length-sorted, ungroup-groups_of, length-with_size}
use Rattle.fsm_blocks.specs.Groups.{Widths, SectionFits, entry_bytes, group_bytes, entry_size, head_size, in_front, read_entries, read_more, read_groups, parse_groups}
use Rattle.fields.proofs.LayoutLaws.{le_at-le}
use Rattle.fsm_blocks.proofs.ScanLaws.{read_groups_zero, read_groups_suc}

drop_past : (n : ℕ) (p : List ℕ) (x : ℕ) (q : List ℕ) → length p ≡ n → drop (suc n) (p ++ x ∷ q) ≡ q
drop_past n p x q h =
    ap (drop (suc n)) (sym (append_snoc p x q))
    ∙ drop_at (p ++ (x ∷ [])) q (suc n) (length-append p (x ∷ []) ∙ omega arith)

drop-two : (m n : ℕ) (a b c : List ℕ) → length a ≡ m → length b ≡ n → drop (m + n) (a ++ (b ++ c)) ≡ c
drop-two m n a b c ha hb = sym (drop-drop n m (a ++ (b ++ c))) ∙ ap (drop n) (drop_at a (b ++ c) m ha) ∙ drop_at b c n hb

length-ungroup : (g : Group) (gs : List Group) → length (ungroup (g ∷ gs)) ≡ count g + length (ungroup gs)
unfolding ungroup
length-ungroup g gs = length-append (with_size g.size (addrs g)) (ungroup gs) ∙ ap (λ (n : ℕ). n + length (ungroup gs)) (length-with_size g.size (addrs g))

none_ungrouped : length (ungroup []) ≡ 0
unfolding ungroup
none_ungrouped = refl

module _ (w : Widths) where
  -- the group's numbers fit their fields
  record GroupFits (g : Group) : Type 0 where
    pub count_fits : count g < 256 ^ w.counts
    pub size_fits : g.size < 256 ^ w.sizes
    pub addrs_fit : All (λ a. a < 256 ^ w.addresses) (addrs g)

  -- ---- reading back

  entry_read : (class a c left : ℕ) (rest : List ℕ) → a < 256 ^ w.addresses
      → read_entries w (suc c) (suc left) (le_bytes w.addresses a ++ class ∷ rest) ≡ and_then (read_entries w c left rest) (in_front w a)
  unfolding read_entries first_of
  entry_read class a c left rest h =
      let fits : entry_size w ≤ length (le_bytes w.addresses a ++ class ∷ rest) = simp (length-append, length-le) (omega arith) in
      rw (le-ltb _ _ fits, drop_past w.addresses (le_bytes w.addresses a) class rest (length-le w.addresses a), le_at-le 0 w.addresses a [] (class ∷ rest) refl h)

  entries_read : (class : ℕ) (l : List ℕ) (n : ℕ) (rest : List ℕ) → All (λ a. a < 256 ^ w.addresses) l
      → read_entries w (length l) (length l + n) (entry_bytes w class l ++ rest) ≡ answer (record { found = l; left = n; rest = rest })
  unfolding read_entries entry_bytes and_then
  entries_read class [] n rest h = rw zero-add
  entries_read class (a ∷ l) n rest h =
      rw (suc-add, append_assoc)
      (rw (entry_read class a (length l) (length l + n) (entry_bytes w class l ++ rest) h.0, entries_read class l n rest h.1))

  group_read : (class : ℕ) (g : Group) (fuel n : ℕ) (rest : List ℕ) → GroupFits g
      → read_groups w (suc fuel) (count g + n) (le_bytes w.counts (count g) ++ (le_bytes w.sizes g.size ++ (entry_bytes w class (addrs g) ++ rest)))
      ≡ read_more w g.size (addrs g) (read_groups w fuel n rest)
  unfolding first_of and_then
  group_read class g fuel n rest h =
      let tail : List ℕ = entry_bytes w class (addrs g) ++ rest in
      let fits : head_size w ≤ length (le_bytes w.counts (count g) ++ (le_bytes w.sizes g.size ++ tail)) = simp (length-append, length-le) (omega arith) in
      rw (suc-add (length g.more) n, read_groups_suc w)
      (rw (
        le-ltb _ _ fits,
        le_at-le 0 w.counts (count g) [] (le_bytes w.sizes g.size ++ tail) refl h.count_fits,
        le_at-le w.counts w.sizes g.size (le_bytes w.counts (count g)) tail (length-le w.counts (count g)) h.size_fits,
        drop-two w.counts w.sizes (le_bytes w.counts (count g)) (le_bytes w.sizes g.size) tail (length-le w.counts (count g)) (length-le w.sizes g.size),
        ← suc-add (length g.more) n,
      )
      (rw (entries_read class (addrs g) n rest h.addrs_fit)))

  -- any fuel that is at least the number of groups
  groups_read : (class : ℕ) (gs : List Group) (fuel n : ℕ) (rest : List ℕ) → length gs ≤ fuel → n ≡ length (ungroup gs) → All GroupFits gs
      → read_groups w fuel n (group_bytes w class gs ++ rest) ≡ answer (ungroup gs)
  unfolding group_bytes ungroup and_then
  groups_read class [] fuel n rest e k h = rw k (read_groups_zero w fuel rest)
  groups_read class (g ∷ gs) zero n rest e k h = absurd (not-suc-le-zero e)
  groups_read class (g ∷ gs) (suc fuel) n rest e k h =
      let m : n ≡ count g + length (ungroup gs) = k ∙ length-ungroup g gs in
      rw m
      (simp append_assoc
      (rw (group_read class g fuel (length (ungroup gs)) (group_bytes w class gs ++ rest) h.0, groups_read class gs fuel (length (ungroup gs)) rest (le_of_suc-le-suc e) refl h.1)))

  -- ---- lengths

  length_entries : (class : ℕ) (l : List ℕ) → length (entry_bytes w class l) ≡ length l * (w.addresses + 1)
  unfolding entry_bytes
  length_entries class [] = omega arith
  length_entries class (a ∷ l) =
      simp (length-append, length-le) (let e : length (entry_bytes w class l) ≡ length l * (w.addresses + 1) = length_entries class l in omega arith)

  pub length_groups : (class : ℕ) (gs : List Group)
      → length (group_bytes w class gs) ≡ length gs * (w.counts + w.sizes) + length (ungroup gs) * (w.addresses + 1)
  unfolding group_bytes
  length_groups class [] = rw none_ungrouped (omega arith)
  length_groups class (g ∷ gs) =
      simp (length-append, length-le)
      (let e : length (group_bytes w class gs) ≡ length gs * (w.counts + w.sizes) + length (ungroup gs) * (w.addresses + 1) = length_groups class gs in
      let k : length (entry_bytes w class (addrs g)) ≡ count g * (w.addresses + 1) = length_entries class (addrs g) in
      let n : length (ungroup (g ∷ gs)) ≡ count g + length (ungroup gs) = length-ungroup g gs in
      rw n (omega arith))

  -- ---- the groups of sections that fit

  abbrev Fits : Group → Type 0
  Fits g = (g.size < 256 ^ w.sizes) × All (λ a. a < 256 ^ w.addresses) (addrs g)

  fit_push : (s : FreeSection) (gs : List Group) → SectionFits w s → All Fits gs → All Fits (push s gs)
  unfolding push
  fit_push s [] p h = ((p.size_fits, (p.addr_fits, tt)), tt)
  fit_push s (g ∷ gs) p h = pick (eqb s.size g.size)
    where
      pick : (b : Bool)
          → All Fits (cond b (record { size = g.size; first = s.addr; more = g.first ∷ g.more } ∷ gs) (record { size = s.size; first = s.addr; more = [] } ∷ g ∷ gs))
      pick true = ((h.0.0, (p.addr_fits, h.0.1)), h.1)
      pick false = ((p.size_fits, (p.addr_fits, tt)), h)

  fit_groups : (l : List FreeSection) → All (SectionFits w) l → All Fits (groups_of l)
  unfolding groups_of
  fit_groups [] h = tt
  fit_groups (s ∷ l) h = fit_push s (groups_of l) h.0 (fit_groups l h.1)

  -- a group's count is at most the number of sections
  fit_all : (N : ℕ) (gs : List Group) → length (ungroup gs) ≤ N → N < 256 ^ w.counts → All Fits gs → All GroupFits gs
  fit_all N [] t n h = tt
  fit_all N (g ∷ gs) t n h =
      let k : length (ungroup (g ∷ gs)) ≡ count g + length (ungroup gs) = length-ungroup g gs in
      (record { count_fits = omega arith; size_fits = h.0.0; addrs_fit = h.0.1 }, fit_all N gs (omega arith) n h.1)

  groups_of_fit : (l : List FreeSection) → length l < 256 ^ w.counts → All (SectionFits w) l → All GroupFits (groups_of l)
  groups_of_fit l n h = fit_all (length l) (groups_of l) (le_of_eq (ap length (ungroup-groups_of l))) n (fit_groups l h)

  fewer_groups : (gs : List Group) → length gs ≤ length (ungroup gs)
  fewer_groups [] = zero-le
  fewer_groups (g ∷ gs) =
      let h : length gs ≤ length (ungroup gs) = fewer_groups gs in
      let k : length (ungroup (g ∷ gs)) ≡ count g + length (ungroup gs) = length-ungroup g gs in
      omega arith

  -- what is written of sections is read as these sections by size and then address, whatever bytes follow
  pub parse_written : (class : ℕ) (l : List FreeSection) (rest : List ℕ) → length l < 256 ^ w.counts → All (SectionFits w) l
      → parse_groups w (length l) (group_bytes w class (groups_of (by_size_then_addr l)) ++ rest) ≡ answer (by_size_then_addr l)
  parse_written class l rest n h =
      let gs : List Group = groups_of (by_size_then_addr l) in
      let u : ungroup gs ≡ by_size_then_addr l = ungroup-groups_of (by_size_then_addr l) in
      let t : length l ≡ length (ungroup gs) = sym (ap length u ∙ length-sorted l) in
      let n' : length (by_size_then_addr l) < 256 ^ w.counts = rw length-sorted n in
      let fuel : length gs ≤ length (group_bytes w class gs ++ rest) =
      simp (length-append, length_groups) (let k : length gs ≤ length (ungroup gs) = fewer_groups gs in omega arith) in
      groups_read class gs _ (length l) rest fuel t (groups_of_fit (by_size_then_addr l) n' (all-sorted (SectionFits w) l h)) ∙ ap answer u
