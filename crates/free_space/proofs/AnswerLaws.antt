-- The cases of what each call answers. Assumes nothing.
use Rattle.std.proofs.Common.{◌≡◌, ℕ, suc, ◌+◌, ◌-◌, ◌*◌, ◌<◌, ◌≤◌, true, false, cond, not, ◌&&◌, eqb, List, [], length, get_or, sym, refl, ap, ◌∙◌, ap₂, add-one, arith, le-ltb, eq-eqb, ne_eqb}
use Rattle.error.specs.declared.Refusal.TheVariants.{SharedAddress}
use Rattle.error.specs.Outcome.{Outcome, answer, nothing, refused}
use Rattle.error.specs.Lent.{With, with}
use Rattle.error.proofs.OutcomeLaws.{first-none, first_holds, first_passes, passes}
use Rattle.fields.specs.Ranges.{top}
use Rattle.free_regions.specs.declared.FreeRegion.{FreeRegion}
use Rattle.free_regions.specs.Regions.{region, end, around, spliced, shares, insert, Found, at, best}
use Rattle.free_regions.specs.Units.{interior_start, interior_span}
use Rattle.free_regions.proofs.ShareLaws.{shares_empty}
use Rattle.pairs.proofs.PairLaws.{length-decode, decode-at}
use Rattle.free_space.specs.declared.list.FreeList.{FreeList}
use Rattle.free_space.specs.Runs.{region_at, regions, is_list}
use Rattle.free_space.specs.declared.list.Given.{Given}
use Rattle.free_space.specs.Calls.{giving, placed, without, serve, keeping, freed_regions, left_regions, allocated, allocated_units, freed, range_taken, trailing_taken, part_unit}
use Rattle.free_space.proofs.ListLaws.{listed}
use Rattle.free_space.proofs.SpliceLaws.{kept_same}

-- ---- allocations

-- what the change of one region leaves, from what is left around the range
pub without_is : (xs : List ℕ) (l : FreeList) (i : ℕ) (r : FreeRegion) (start len : ℕ) (p : List FreeRegion) → i < l.count → 2 * l.count ≤ length xs
    → r ≡ region_at xs i → p ≡ around r start len
    → placed (giving start) xs l (spliced (regions xs l) i (i + 1) p) ≡ placed (giving start) xs l (without (regions xs l) i start len)
without_is xs l i r start len p h room got e =
    let d : r ≡ get_or (regions xs l) i (region 0 0) = got ∙ sym (decode-at region l.count i xs (region 0 0) h room) in
    ap (placed (giving start) xs l)
    (ap₂ (λ (j : ℕ) (q : List FreeRegion). spliced (regions xs l) i j q) (add-one i) (e ∙ ap (λ (q : FreeRegion). around q start len) d))

-- the region that was found serves
pub serve-at : (start : FreeRegion → ℕ) (xs : List ℕ) (l : FreeList) (len i s : ℕ) (f : Found) (r : FreeRegion) → i < l.count → 2 * l.count ≤ length xs
    → r ≡ region_at xs i → f ≡ at i s → placed (giving (start r)) xs l (without (regions xs l) i (start r) len) ≡ serve start xs l len f
serve-at start xs l len i s f r h room got e =
    let d : r ≡ get_or (regions xs l) i (region 0 0) = got ∙ sym (decode-at region l.count i xs (region 0 0) h room) in
    ap (λ (q : FreeRegion). placed (giving (start q)) xs l (without (regions xs l) i (start q) len)) d ∙ sym (ap (serve start xs l len) e)

module _ (xs : List ℕ) (l : FreeList) (len : ℕ) where
  pub alloc_else : is_list xs l ≡ true → (len ≡ 0 → ⊥) → serve (λ r. r.addr) xs l len (best (λ r. r.len) len 0 (regions xs l)) ≡ allocated xs l len
  unfolding allocated
  alloc_else e n = sym (rw (ne_eqb len 0 n)) ∙ passes _ _ _ (ap not e)

-- ---- `alloc_whole_units`

module _ (xs : List ℕ) (l : FreeList) (len unit : ℕ) where
  module _ (whole : part_unit len unit ≡ false) where
    pub units_else : is_list xs l ≡ true → (len ≡ 0 → ⊥)
        → serve (interior_start unit) xs l len (best (interior_span unit) len 0 (regions xs l)) ≡ allocated_units xs l len unit
    unfolding allocated_units
    units_else e n = sym (rw (ne_eqb len 0 n)) ∙ sym (first_passes _ _ _ _ (ap not e) ∙ first_passes _ _ _ _ whole ∙ first-none _)

-- ---- `free`

module _ (xs : List ℕ) (l : FreeList) (a len : ℕ) where
  module _ (fits : a + len ≤ top) where
    pub free-shared : is_list xs l ≡ true → shares (region a len) (regions xs l) ≡ true → refused SharedAddress ≡ freed xs l a len
    unfolding freed
    free-shared ok e = sym (first_passes _ _ _ _ (ap not ok) ∙ first_passes _ _ _ _ (le-ltb top (a + len) fits) ∙ first_holds _ _ _ _ e)

    accepted : (rs : List FreeRegion) → is_list xs l ≡ true → shares (region a len) (regions xs l) ≡ false → freed_regions (regions xs l) a len ≡ rs
        → placed keeping xs l rs ≡ freed xs l a len
    unfolding freed
    accepted rs ok s e =
        ap (placed keeping xs l) (sym e)
        ∙ sym (first_passes _ _ _ _ (ap not ok) ∙ first_passes _ _ _ _ (le-ltb top (a + len) fits) ∙ first_passes _ _ _ _ s ∙ first-none _)

    pub free-zero : is_list xs l ≡ true → len ≡ 0 → answer (with l xs) ≡ freed xs l a len
    free-zero ok z =
        kept_same xs l (regions xs l) ok refl
        ∙ accepted (regions xs l) ok (shares_empty (region a len) (regions xs l) z) (rw (eq-eqb len 0 z))

    pub free_else : is_list xs l ≡ true → (len ≡ 0 → ⊥) → shares (region a len) (regions xs l) ≡ false
        → placed keeping xs l (insert (region a len) (regions xs l)) ≡ freed xs l a len
    free_else ok z s = accepted (insert (region a len) (regions xs l)) ok s (rw (ne_eqb len 0 z))

-- ---- `take_range`

module _ (xs : List ℕ) (l : FreeList) (a len : ℕ) where
  module _ (fits : a + len ≤ top) where
    passed : (rs : List FreeRegion) → is_list xs l ≡ true → left_regions (regions xs l) a len ≡ rs → placed keeping xs l rs ≡ range_taken xs l a len
    unfolding range_taken
    passed rs ok e = ap (placed keeping xs l) (sym e) ∙ sym (first_passes _ _ _ _ (ap not ok) ∙ first_passes _ _ _ _ (le-ltb top (a + len) fits) ∙ first-none _)

    pub range-zero : is_list xs l ≡ true → len ≡ 0 → answer (with l xs) ≡ range_taken xs l a len
    range-zero ok z = kept_same xs l (regions xs l) ok refl ∙ passed (regions xs l) ok (rw (eq-eqb len 0 z))

-- ---- `take_trailing`

module _ (xs : List ℕ) (l : FreeList) (eof : ℕ) where
  -- with m for the count of the regions
  trail : ℕ → Outcome (With Given (List ℕ))
  trail m =
      let rs = regions xs l in
      cond (not (eqb m 0) && eqb (end (get_or rs (m - 1) (region 0 0))) eof)
      (placed (giving (get_or rs (m - 1) (region 0 0)).addr) xs l (spliced rs (m - 1) (suc (m - 1)) [])) nothing

  module _ (ok : is_list xs l ≡ true) where
    trail_is : trail l.count ≡ trailing_taken xs l eof
    unfolding trailing_taken trail
    trail_is = ap trail (sym (length-decode region l.count xs (listed xs l ok).room)) ∙ passes _ _ _ (ap not ok)

    module _ (some : l.count ≡ 0 → ⊥) (r : FreeRegion) (got : r ≡ region_at xs (l.count - 1)) where
      last : get_or (regions xs l) (l.count - 1) (region 0 0) ≡ r
      last = decode-at region l.count (l.count - 1) xs (region 0 0) (omega arith) (listed xs l ok).room ∙ sym got

      pub trailing-other : (end r ≡ eof → ⊥) → nothing ≡ trailing_taken xs l eof
      unfolding trail
      trailing-other h =
          let n : (end (get_or (regions xs l) (l.count - 1) (region 0 0)) ≡ eof → ⊥) = λ e. h (ap end (sym last) ∙ e) in
          sym (rw (ne_eqb l.count 0 some, ne_eqb (end (get_or (regions xs l) (l.count - 1) (region 0 0))) eof n)) ∙ trail_is

      pub trailing-last : end r ≡ eof → placed (giving r.addr) xs l (spliced (regions xs l) (l.count - 1) l.count []) ≡ trailing_taken xs l eof
      unfolding trail
      trailing-last h =
          let s : l.count ≡ suc (l.count - 1) = omega arith in
          let e : end (get_or (regions xs l) (l.count - 1) (region 0 0)) ≡ eof = ap end last ∙ h in
          ap (λ (j : ℕ). placed (giving r.addr) xs l (spliced (regions xs l) (l.count - 1) j [])) s
          ∙ ap (λ (q : FreeRegion). placed (giving q.addr) xs l (spliced (regions xs l) (l.count - 1) (suc (l.count - 1)) [])) (sym last)
          ∙ sym (rw (ne_eqb l.count 0 some, eq-eqb (end (get_or (regions xs l) (l.count - 1) (region 0 0))) eof e)) ∙ trail_is
