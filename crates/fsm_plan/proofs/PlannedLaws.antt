-- What a plan says: its blocks side by side as the managers of a paged file have them, how long they are, and its sections. Assumes nothing.
use mathlib.Core.Path.{◌≡◌, refl, sym, ap, ap₂, ◌∙◌}
use Prim.Native.Nat.{ℕ, suc, ◌+◌, ◌<◌}
use native.Mathlib.Nat.{add-zero}
use native.Mathlib.Omega.{arith}
use mathlib.Core.Bool.{false, cond}
use mathlib.Core.List.{List, [], ◌∷◌, ◌++◌, map, append-nil, append_assoc}
use lib.Dec.{eqb}
use lib.ListN.{length, replicate, length-append, length-replicate}
use borrow.Author.Tests.{ne_eqb}
use Rattle.fields.specs.Ranges.{undefined_addr}
use Rattle.fsm_sections.specs.declared.FreeSection.{FreeSection}
use Rattle.fsm_sections.specs.Sections.{times, by_size_then_addr}
use Rattle.fsm_sections.specs.Pages.{end, slot0, slot2, slot6, among, holding}
use Rattle.fsm_sections.proofs.PagesLaws.{holding-append, slots_hold}
use Rattle.fsm_sections.proofs.PassLaws.{by_order}
use Rattle.fsm_sections.proofs.SlotLaws.{same-order}
use Rattle.fsm_sections.proofs.SortLaws.{sorted-sorted, times-sorted}
use Rattle.fsm_blocks.specs.Fshd.{fshd_bytes, fshd_size}
use Rattle.fsm_blocks.specs.Settings.{Settings, starting_set, widths_for, header_for, fsse_for, fsse_used, blocks_size}
use Rattle.fsm_blocks.proofs.WrittenLaws.{length_fshd, length-fsse}
use Rattle.fsm_plan.specs.declared.blocks.Measures.{Measures}
use Rattle.fsm_plan.specs.Managers.{Manager, manager, managers_of, manager_size, manager_bytes, size_of, slots_from, blocks_from}
use Rattle.fsm_plan.specs.Order.{turned, by_addr, InOrder}
use Rattle.fsm_plan.specs.Blocks.{measure_of, end_at}
use Rattle.fsm_plan.proofs.OrderLaws.{turned_twice, times-turned}

-- ---- the order by address: sections stand in it, each as often as before (`by_addr_lem`: there is no other such list)

pub in_order : (l : List FreeSection) → InOrder (by_addr l)
in_order l = rw (turned_twice (by_size_then_addr (map turned l))) (sorted-sorted (map turned l))

pub times-by_addr : (x : FreeSection) (l : List FreeSection) → times x (by_addr l) ≡ times x l
times-by_addr x l = times-turned (turned x) (by_size_then_addr (map turned l)) ∙ times-sorted (turned x) (map turned l) ∙ times-turned x l

-- ---- a byte is in as many sections of the run that is written as there are regions that hold it

pub holding-sorted : (b : ℕ) (l : List FreeSection) → holding b (by_size_then_addr l) ≡ holding b l
unfolding holding
holding-sorted b = by_order (holding b) (λ s l m e. ap (λ (n : ℕ). among s.addr (end s) b + n) e) (λ s t l. omega arith)

holding-by_addr : (b : ℕ) (l : List FreeSection) → holding b (by_addr l) ≡ holding b l
holding-by_addr b l = sym (holding-sorted b (by_addr l)) ∙ ap (holding b) (same-order (by_addr l) l (λ x. times-by_addr x l)) ∙ holding-sorted b l

pub plan_holds : (page : ℕ) (meta raw unclassified : List FreeSection) (b : ℕ) → 0 < page
    → holding b (slot0 page meta ++ (slot2 page raw ++ by_addr (slot6 page meta raw unclassified))) ≡ holding b meta + (holding b raw + holding b unclassified)
plan_holds page meta raw unclassified b p =
    let l0 = slot0 page meta in
    let l2 = slot2 page raw in
    let l6 = slot6 page meta raw unclassified in
    omega (arith, holding-append b l0 (l2 ++ by_addr l6), holding-append b l2 (by_addr l6), holding-by_addr b l6, slots_hold page meta raw unclassified b p)

-- ---- how long blocks are, with any settings

pub filled : (s : FreeSection) (l : List FreeSection) → eqb (length (s ∷ l)) 0 ≡ false
filled s l = ne_eqb (length (s ∷ l)) 0 (λ e. omega arith)

module _ (O : ℕ) (set : Settings) where
  pub length-slots : (ms : List Manager) (a : ℕ) → length (slots_from O set a ms) ≡ length ms
  unfolding slots_from
  length-slots [] a = refl
  length-slots (m ∷ ms) a = ap suc (length-slots ms (a + manager_size O set m))

  abbrev pub pair_size : List FreeSection → ℕ
  pair_size l = fshd_size O + (fsse_used O set l + set.surplus)

  module _ (sum : List ℕ → ℕ) where
    -- the blocks of sections, of which there is one at least
    abbrev pub pair_bytes : ℕ → ℕ → List FreeSection → List ℕ
    pair_bytes a class l = fshd_bytes sum O (header_for O set (a + fshd_size O) l) ++ (fsse_for O set sum a class l ++ replicate set.surplus 0)

    pub length-list : (a class : ℕ) (l : List FreeSection) → length (fsse_for O set sum a class l) ≡ fsse_used O set l
    length-list a class l = length-fsse sum (widths_for O set (length l)) O a class l

    pub length_both : (a class : ℕ) (l : List FreeSection) → length (fsse_for O set sum a class l ++ replicate set.surplus 0) ≡ fsse_used O set l + set.surplus
    length_both a class l =
        length-append (fsse_for O set sum a class l) (replicate set.surplus 0) ∙ ap₂ (λ (x y : ℕ). x + y) (length-list a class l) (length-replicate set.surplus 0)

    length-pair : (a class : ℕ) (l : List FreeSection) → length (pair_bytes a class l) ≡ pair_size l
    length-pair a class l =
        length-append (fshd_bytes sum O (header_for O set (a + fshd_size O) l)) (fsse_for O set sum a class l ++ replicate set.surplus 0)
        ∙ ap₂ (λ (x y : ℕ). x + y) (length_fshd sum O (header_for O set (a + fshd_size O) l)) (length_both a class l)

    pub length-manager : (a class : ℕ) (l : List FreeSection) → length (manager_bytes O set sum a (manager class l)) ≡ manager_size O set (manager class l)
    length-manager a class [] = refl
    length-manager a class (s ∷ l) = rw (filled s l) (length-pair a class (s ∷ l))

    pub length_blocks : (ms : List Manager) (a : ℕ) → length (blocks_from O set sum a ms) ≡ size_of O set ms
    unfolding blocks_from size_of
    length_blocks [] a = refl
    length_blocks (m ∷ ms) a =
        length-append (manager_bytes O set sum a m) (blocks_from O set sum (a + manager_size O set m) ms)
        ∙ ap₂ (λ (x y : ℕ). x + y) (length-manager a m.class m.sections) (length_blocks ms (a + manager_size O set m))

-- ---- blocks side by side, with the starting settings

module _ (O : ℕ) where
  pub size_is : (class : ℕ) (l : List FreeSection) → manager_size O (starting_set O) (manager class l) ≡ blocks_size O l
  size_is class l = ap (λ (n : ℕ). cond (eqb (length l) 0) 0 (fshd_size O + n)) (add-zero (fsse_used O (starting_set O) l))

  pub bytes-long : (sum : List ℕ → ℕ) (a class : ℕ) (l : List FreeSection) → length (manager_bytes O (starting_set O) sum a (manager class l)) ≡ blocks_size O l
  bytes-long sum a class l = length-manager O (starting_set O) sum a class l ∙ size_is class l

module _ (O page : ℕ) (meta raw unclassified : List FreeSection) where
  abbrev l0 : List FreeSection
  l0 = slot0 page meta

  abbrev l2 : List FreeSection
  l2 = slot2 page raw

  abbrev l6 : List FreeSection
  l6 = slot6 page meta raw unclassified

  abbrev measures : Measures
  measures = record { slot0 = measure_of O l0; slot2 = measure_of O l2; slot6 = measure_of O l6 }

  -- the lengths add up
  pub plan_size : size_of O (starting_set O) (managers_of page meta raw unclassified) ≡ blocks_size O l0 + blocks_size O l2 + blocks_size O l6
  unfolding size_of
  plan_size = rw (size_is O 1 l0, size_is O 1 l2, size_is O 2 l6) (omega arith)

  module _ (start : ℕ) where
    -- and end where the plan says
    pub plan_end : start + size_of O (starting_set O) (managers_of page meta raw unclassified) ≡ end_at start measures
    plan_end = omega (arith, plan_size)

    -- each slot with sections has its FSHD where the blocks of those before it end, from `start` on
    abbrev head_at : List FreeSection → ℕ → ℕ
    head_at l a = cond (eqb (length l) 0) (undefined_addr O) a

    pub plan_slots : slots_from O (starting_set O) start (managers_of page meta raw unclassified)
        ≡ head_at l0 start ∷ undefined_addr O ∷ head_at l2 (start + blocks_size O l0) ∷ undefined_addr O ∷ undefined_addr O ∷ undefined_addr O
        ∷ head_at l6 (start + blocks_size O l0 + blocks_size O l2) ∷ undefined_addr O ∷ undefined_addr O ∷ undefined_addr O ∷ undefined_addr O ∷ undefined_addr O ∷ []
    unfolding slots_from
    plan_slots =
        let b = start + blocks_size O l0 in
        let d : b + 0 ≡ b = omega arith in
        let e : b + blocks_size O l2 + 0 + 0 + 0 ≡ b + blocks_size O l2 = omega arith in
        rw (size_is O 1 l0, size_is O 1 l2, d, e)

    -- and its blocks there
    module _ (sum : List ℕ → ℕ) where
      abbrev bytes : ℕ → ℕ → List FreeSection → List ℕ
      bytes a class l = manager_bytes O (starting_set O) sum a (manager class l)

      pub plan_bytes : blocks_from O (starting_set O) sum start (managers_of page meta raw unclassified)
          ≡ (bytes start 1 l0 ++ bytes (start + blocks_size O l0) 1 l2) ++ bytes (start + (blocks_size O l0 + blocks_size O l2)) 2 l6
      unfolding blocks_from
      plan_bytes =
          let x = manager_size O (starting_set O) (manager 1 l0) in
          let y = manager_size O (starting_set O) (manager 1 l2) in
          let p : start + x + 0 ≡ start + blocks_size O l0 = omega (arith, size_is O 1 l0) in
          let q : start + x + 0 + y + 0 + 0 + 0 ≡ start + (blocks_size O l0 + blocks_size O l2) = omega (arith, size_is O 1 l0, size_is O 1 l2) in
          ap₂ (λ (u v : List ℕ). bytes start 1 l0 ++ (u ++ v)) (ap (λ (a : ℕ). bytes a 1 l2) p) (append-nil _ ∙ ap (λ (a : ℕ). bytes a 2 l6) q)
          ∙ sym (append_assoc (bytes start 1 l0) (bytes (start + blocks_size O l0) 1 l2) (bytes (start + (blocks_size O l0 + blocks_size O l2)) 2 l6))
