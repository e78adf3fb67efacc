-- Lists that share no byte have no two sections of slot 6 at one address. Assumes nothing.
use mathlib.Core.Path.{◌≡◌, refl, ap₂, ◌∙◌}
use Prim.Native.Nat.{ℕ, suc, ◌+◌, ◌≤◌, ◌<◌}
use native.Mathlib.Omega.{arith}
use mathlib.Core.Bool.{Bool, true, false, cond}
use mathlib.Core.List.{List, [], ◌∷◌, ◌++◌}
use borrow.Author.Tests.{eqb-true, ltb-false, le-ltb}
use lib.Dec.{ltb, eqb}
use Rattle.error.proofs.TestLaws.{or_false}
use Rattle.fields.specs.Ranges.{top}
use Rattle.free_regions.specs.declared.FreeRegion.{FreeRegion}
use Rattle.free_regions.specs.Regions.{end as end_of, ok_from, share_bytes}
use Rattle.free_regions.proofs.OkLaws.{Within, ok_prop}
use Rattle.free_lists.specs.declared.calls.Which.{Which}
use Rattle.free_lists.specs.declared.calls.Which.TheVariants.{Metadata, Raw, Unclassified}
use Rattle.free_lists.specs.Lists.{Regions, shared_byte}
use Rattle.fsm_sections.specs.declared.FreeSection.{FreeSection}
use Rattle.fsm_sections.specs.Sections.{All}
use Rattle.fsm_sections.specs.Pages.{end, from_page, split, among, holding}
use Rattle.fsm_sections.proofs.AllLaws.{all_append}
use Rattle.fsm_sections.proofs.PagesLaws.{among_in, slots_hold}
use Rattle.fsm_plan.specs.Order.{at_addr, repeats}
use Rattle.save.specs.Saving.{as_sections, large}
use Rattle.save.specs.EveryCut.{in_list, free_in}
use Rattle.save.proofs.EveryCutLaws.{in_list_lem}
use Rattle.save.proofs.HoldingLaws.{holding-list, in_both, one_of}

-- ---- sections that are not empty, of which no two hold one byte

abbrev NotEmpty : FreeSection → Type 0
NotEmpty s = 0 < s.size

at_held : (a : ℕ) (l : List FreeSection) → All NotEmpty l → at_addr a l ≤ holding a l
unfolding at_addr holding
at_held a [] h = omega arith
at_held a (s ∷ l) h = pick (eqb a s.addr) (eqb-true a s.addr) (at_held a l h.1)
  where
    pick : (t : Bool) → (t ≡ true → a ≡ s.addr) → at_addr a l ≤ holding a l → cond t 1 0 + at_addr a l ≤ among s.addr (end s) a + holding a l
    pick true f ih = let e : a ≡ s.addr = f refl in omega (arith, among_in s.addr (end s) a (omega arith) (omega (arith, h.0)))
    pick false f ih = omega arith

once : (l : List FreeSection) → All NotEmpty l → ((b : ℕ) → holding b l ≤ 1) → repeats l ≡ false
unfolding repeats holding
once [] h k = refl
once (s ∷ l) h k =
    let i : among s.addr (end s) s.addr ≡ 1 = among_in s.addr (end s) s.addr (omega arith) (omega (arith, h.0)) in
    let z : at_addr s.addr l ≤ 0 = omega (arith, at_held s.addr l h.1, k s.addr) in
    let more : (b : ℕ) → holding b l ≤ 1 = λ b. omega (arith, k b) in
    rw (le-ltb 0 (at_addr s.addr l) z) (once l h.1 more)

from_some : (page : ℕ) (l : List FreeSection) → 0 < page → All NotEmpty (from_page page l)
unfolding from_page
from_some page [] p = tt
from_some page (s ∷ l) p = pick (ltb s.size page) (ltb-false s.size page) (from_some page l p)
  where
    pick : (t : Bool) → (t ≡ false → page ≤ s.size) → All NotEmpty (from_page page l) → All NotEmpty (cond t (from_page page l) (s ∷ from_page page l))
    pick true f ih = ih
    pick false f ih = (omega (arith, f refl), ih)

list-some : (low high : ℕ) (rs : List FreeRegion) → Within low high rs → All NotEmpty (as_sections rs)
list-some low high [] w = tt
list-some low high (r ∷ rs) w = (w.0, list-some (suc (end_of r)) high rs w.3)

-- ---- three lists

module _ (page : ℕ) (rs : Regions) (some : 0 < page) (valid : (i : Which) → ok_from 0 (rs i) ≡ true) (apart : shared_byte rs ≡ false) where
  within : (i : Which) → Within 0 top (rs i)
  within i = (ok_prop 0 (rs i)).0 (valid i)

  held_in : (i : Which) (b : ℕ) → holding b (as_sections (rs i)) ≡ cond (in_list (rs i) b) 1 0
  held_in i b = holding-list 0 top b (rs i) (in_list (rs i) b) (within i) (in_list_lem (rs i) b)

  held_few : (b : ℕ) → holding b (large page rs) ≤ 1
  held_few b =
      let s0 = or_false (share_bytes (rs Metadata) (rs Raw)) _ apart in
      let s1 = or_false (share_bytes (rs Metadata) (rs Unclassified)) (share_bytes (rs Raw) (rs Unclassified)) s0.1 in
      let e : holding b (as_sections (rs Metadata)) + (holding b (as_sections (rs Raw)) + holding b (as_sections (rs Unclassified))) ≡ cond (free_in rs b) 1 0 =
      ap₂ (λ (m n : ℕ). m + n) (held_in Metadata b) (ap₂ (λ (m n : ℕ). m + n) (held_in Raw b) (held_in Unclassified b))
      ∙ one_of (in_list (rs Metadata) b) (in_list (rs Raw) b) (in_list (rs Unclassified) b)
      (λ p q. in_both (rs Metadata) (rs Raw) b s0.0 ((in_list_lem (rs Metadata) b).1 p) ((in_list_lem (rs Raw) b).1 q))
      (λ p q. in_both (rs Metadata) (rs Unclassified) b s1.0 ((in_list_lem (rs Metadata) b).1 p) ((in_list_lem (rs Unclassified) b).1 q))
      (λ p q. in_both (rs Raw) (rs Unclassified) b s1.1 ((in_list_lem (rs Raw) b).1 p) ((in_list_lem (rs Unclassified) b).1 q)) in
      omega (arith, slots_hold page (as_sections (rs Metadata)) (as_sections (rs Raw)) (as_sections (rs Unclassified)) b some, e, one (free_in rs b))
    where
      one : (t : Bool) → cond t 1 0 ≤ 1
      one true = omega arith
      one false = omega arith

  pub slot6-once : repeats (large page rs) ≡ false
  slot6-once =
      let m = from_page page (split page (as_sections (rs Metadata))) in
      let r = from_page page (split page (as_sections (rs Raw))) in
      let u = as_sections (rs Unclassified) in
      once (large page rs)
      (all_append NotEmpty m (r ++ u) (from_some page (split page (as_sections (rs Metadata))) some)
      (all_append NotEmpty r u (from_some page (split page (as_sections (rs Raw))) some) (list-some 0 top (rs Unclassified) (within Unclassified))))
      held_few
