-- The plan of lists fits its blocks and its message, where no sum of sizes and no planned address is too large. Assumes nothing.
--   Ends    a section ends at or before a place
--   Small   what refusals 3 and 4 leave of a manager's sections: their sizes add up within 64 bits, and each ends there
use mathlib.Core.Path.{◌≡◌, refl}
use Prim.Native.Nat.{ℕ, zero, suc, ◌+◌, ◌-◌, ◌^◌, ◌≤◌, ◌<◌}
use native.Mathlib.Omega.{arith}
use mathlib.Core.Bool.{Bool, true, false, cond}
use mathlib.Core.List.{List, [], ◌∷◌, ◌++◌, map}
use borrow.Author.Tests.{ltb-true, lt-leb, eqb-true}
use lib.Dec.{lit<, lit≤, ltb, eqb}
use lib.ListN.{length}
use Rattle.fields.specs.Ranges.{top, undefined_addr}
use Rattle.fields.specs.Layout.{AllFit}
use Rattle.free_regions.specs.declared.FreeRegion.{FreeRegion}
use Rattle.free_regions.specs.Regions.{end as end_of}
use Rattle.free_regions.proofs.OkLaws.{Within}
use Rattle.free_lists.specs.declared.calls.Which.{Which}
use Rattle.free_lists.specs.declared.calls.Which.TheVariants.{Metadata, Raw, Unclassified}
use Rattle.free_lists.specs.Lists.{Regions}
use Rattle.fsm_sections.specs.declared.FreeSection.{FreeSection}
use Rattle.fsm_sections.specs.Sections.{section, space, All}
use Rattle.fsm_sections.specs.Pages.{end, cut_at, pieces_from, pieces, split, below_page, from_page}
use Rattle.fsm_sections.specs.Runs.{any_wide}
use Rattle.fsm_sections.proofs.AllLaws.{all_append, all_map}
use Rattle.fsm_blocks.specs.Fshd.{fshd_size}
use Rattle.fsm_blocks.specs.Settings.{Settings, starting_set, fsse_used}
use Rattle.fsm_plan.specs.Managers.{Manager, manager_size, size_of, slots_from}
use Rattle.file_space_info.specs.Message.{address_row}
use Rattle.save.specs.Saving.{as_sections, small, small_raw, large, plan}
use Rattle.stored_managers.proofs.SlotsLaws.{ManagerFits, PlanFits}
use Rattle.stored_managers.proofs.StoredLaws.{pair_fits}

-- ---- where sections end

abbrev pub Ends : ℕ → FreeSection → Type 0
Ends e s = end s ≤ e

pieces_end : (page e fuel a : ℕ) → All (Ends e) (pieces_from fuel page a e)
unfolding pieces_from
pieces_end page e zero a = tt
pieces_end page e (suc fuel) a = pick (ltb a e) (ltb-true a e) (pieces_end page e fuel (cut_at page a e))
  where
    pick : (t : Bool) → (t ≡ true → a < e) → All (Ends e) (pieces_from fuel page (cut_at page a e) e)
        → All (Ends e) (cond t (section a (cut_at page a e - a) ∷ pieces_from fuel page (cut_at page a e) e) [])
    pick true f ih = let l : a < e = f refl in (omega arith, ih)
    pick false f ih = tt

split-end : (page f : ℕ) (rs : List FreeSection) → All (Ends f) rs → All (Ends f) (split page rs)
unfolding split pieces
split-end page f [] h = tt
split-end page f (r ∷ rs) h =
    all_append (Ends f) (pieces page r) (split page rs)
    (all_map {P = Ends (end r)} {Q = Ends f} (λ s k. omega (arith, h.0)) (pieces page r) (pieces_end page (end r) r.size r.addr))
    (split-end page f rs h.1)

module _ (P : FreeSection → Type 0) (page : ℕ) where
  below_all : (l : List FreeSection) → All P l → All P (below_page page l)
  unfolding below_page
  below_all [] h = tt
  below_all (s ∷ l) h = pick (ltb s.size page) (below_all l h.1)
    where
      pick : (t : Bool) → All P (below_page page l) → All P (cond t (s ∷ below_page page l) (below_page page l))
      pick true ih = (h.0, ih)
      pick false ih = ih

  from_all : (l : List FreeSection) → All P l → All P (from_page page l)
  unfolding from_page
  from_all [] h = tt
  from_all (s ∷ l) h = pick (ltb s.size page) (from_all l h.1)
    where
      pick : (t : Bool) → All P (from_page page l) → All P (cond t (from_page page l) (s ∷ from_page page l))
      pick true ih = ih
      pick false ih = (h.0, ih)

pub list-ends : (low high : ℕ) (rs : List FreeRegion) → Within low high rs → All (Ends high) (map (λ r. section r.addr r.len) rs)
list-ends low high [] w = tt
list-ends low high (r ∷ rs) w = (w.1, list-ends (suc (end_of r)) high rs w.3)

-- ---- blocks at offset size 8, with the starting set

abbrev pub Small : Manager → Type 0
Small m = (space m.sections ≤ top) × All (Ends top) m.sections

abbrev set8 : Settings
set8 = starting_set 8

-- 8 bytes hold every address
pub narrow-all : (l : List FreeSection) → All (Ends top) l → any_wide 8 l ≡ false
narrow-all [] h = refl
narrow-all (s ∷ l) h = rw (lt-leb (256 ^ 8) s.addr (omega (arith, h.0))) (narrow-all l h.1)

pub plan_fits : (ms : List Manager) (a : ℕ) → a + size_of 8 set8 ms ≤ top → All Small ms → PlanFits 8 set8 0 a ms
unfolding size_of
plan_fits [] a h s = tt
plan_fits (m ∷ ms) a h s = (fit (eqb (length m.sections) 0) (eqb-true (length m.sections) 0) (omega arith), plan_fits ms (a + manager_size 8 set8 m) (omega arith) s.1)
  where
    fit : (t : Bool) → (t ≡ true → length m.sections ≡ 0) → a + cond t 0 (fshd_size 8 + (fsse_used 8 set8 m.sections + 0)) ≤ top
        → 0 < length m.sections → ManagerFits 8 set8 0 a m.sections
    fit true f k n = let z : length m.sections ≡ 0 = f refl in absurd (omega arith)
    fit false f k n = pair_fits 8 0 a m.sections (lit≤ tt) (lit≤ tt) (omega arith) (omega arith) s.0.0 (narrow-all m.sections s.0.1)

pub slots-fit : (ms : List Manager) (a : ℕ) → a + size_of 8 set8 ms ≤ top → AllFit (address_row 8 (slots_from 8 set8 a ms))
unfolding size_of slots_from
slots-fit [] a h = tt
slots-fit (m ∷ ms) a h = (fit (eqb (length m.sections) 0), slots-fit ms (a + manager_size 8 set8 m) (omega arith))
  where
    fit : (t : Bool) → cond t (undefined_addr 8) a < 256 ^ 8
    fit true = lit< tt
    fit false = omega arith

-- ---- the plan of three lists

module _ (page : ℕ) (rs : Regions) (ends : (i : Which) → All (Ends top) (as_sections (rs i))) where
  abbrev M : List FreeSection
  M = as_sections (rs Metadata)

  abbrev R : List FreeSection
  R = as_sections (rs Raw)

  abbrev U : List FreeSection
  U = as_sections (rs Unclassified)

  pub small_plan : space (small page rs) ≤ top → space (small_raw page rs) ≤ top → space (large page rs) ≤ top → All Small (plan page rs)
  unfolding space
  small_plan a b c =
      let m : All (Ends top) (split page M) = split-end page top M (ends Metadata) in
      let r : All (Ends top) (split page R) = split-end page top R (ends Raw) in
      let u : All (Ends top) (from_page page (split page R) ++ U) = all_append (Ends top) (from_page page (split page R)) U (from_all (Ends top) page (split page R) r) (ends Unclassified) in
      let g : All (Ends top) (large page rs) = all_append (Ends top) (from_page page (split page M)) (from_page page (split page R) ++ U) (from_all (Ends top) page (split page M) m) u in
      let s0 = below_all (Ends top) page (split page M) m in
      let s2 = below_all (Ends top) page (split page R) r in
      ((a, s0), (none, ((b, s2), (none, (none, (none, ((c, g), (none, (none, (none, (none, (none, tt))))))))))))
    where
      none : (0 ≤ top) × Unit {0}
      none = (lit≤ tt, tt)
