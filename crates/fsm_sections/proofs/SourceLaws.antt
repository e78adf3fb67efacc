-- A source's chains by their place, and the parts of a region as the code makes them. Assumes nothing.
use Rattle.std.proofs.Common.{◌≡◌, ℕ, ◌+◌, ◌-◌, ◌*◌, ◌/◌, ◌%◌, ◌^◌, ◌<◌, ◌≤◌, min, Bool, true, false, cond, eqb, List, ◌++◌, sym, ap, ◌∙◌, subst, ap₂, div-add-mod', div-mul-le_self, arith, eq-eqb, ne_eqb}
use Rattle.fsm_sections.specs.declared.FreeSection.{FreeSection}
use Rattle.fsm_sections.specs.Sections.{section, decode, by_size_then_addr}
use Rattle.fsm_sections.specs.Chains.{link, sections_of, ChainFits}
use Rattle.fsm_sections.specs.Sources.{one, head_size, body_size, part_of, chains_of, PartFits, PartIs, chains_in}
use Rattle.fsm_sections.specs.declared.Chain.{Chain}
use Rattle.fsm_sections.specs.declared.Part.{Part}
use Rattle.fsm_sections.specs.declared.Part.TheVariants.{Head, Pages, Tail, Whole}
use Rattle.fsm_sections.specs.declared.Source.{Source}
use Rattle.fsm_sections.proofs.SlotLaws.{times-append, sections-append, same-order}

-- ---- how much of a region stands before its first page multiple
pub head_no_page : (page : ℕ) (r : FreeSection) → page ≡ 0 → 0 ≡ head_size page r
head_no_page page r e = pick (eqb (r.addr % page) 0)
  where
    pick : (t : Bool) → 0 ≡ min r.size (cond t 0 (page - r.addr % page))
    pick true = omega arith
    pick false = omega arith

module _ (page : ℕ) (r : FreeSection) (past : ℕ) (e : past ≡ r.addr % page) where
  pub head_none : past ≡ 0 → 0 ≡ head_size page r
  head_none z = rw (eq-eqb (r.addr % page) 0 (sym e ∙ z)) (omega arith)

  pub head_some : (past ≡ 0 → ⊥) → (n : ℕ) → n ≡ min r.size (page - past) → n ≡ head_size page r
  head_some z n q = rw (ne_eqb (r.addr % page) 0 (λ h. z (e ∙ h))) (q ∙ ap (λ (k : ℕ). min r.size (page - k)) e)

-- ---- a link fits
pub part_fits : (q : Part) (page : ℕ) (r : FreeSection) → PartFits q r → ChainFits (part_of q page r)
unfolding part_of
part_fits Head page r f = few (eqb (head_size page r) 0)
  where
    few : (t : Bool) → 1 < cond t 0 1 → r.addr + cond t 0 1 * head_size page r < 2 ^ 64
    few true h = absurd (omega arith)
    few false h = absurd (omega arith)
part_fits Pages page r f = λ h. omega (arith, f, div-mul-le_self (body_size page r) page)
part_fits Tail page r f = few (eqb (body_size page r % page) 0)
  where
    few : (t : Bool) → 1 < cond t 0 1 → r.addr + head_size page r + body_size page r / page * page + cond t 0 1 * (body_size page r % page) < 2 ^ 64
    few true h = absurd (omega arith)
    few false h = absurd (omega arith)
part_fits Whole page r f = λ h. absurd (omega arith)

pub swap : (l m n : List FreeSection) → by_size_then_addr (l ++ (m ++ n)) ≡ by_size_then_addr (m ++ (l ++ n))
swap l m n =
    same-order (l ++ (m ++ n)) (m ++ (l ++ n))
    (λ x. omega (arith, times-append x l (m ++ n), times-append x m n, times-append x m (l ++ n), times-append x l n))

-- ---- a part is no longer than its region

module _ (q : Part) (page : ℕ) where
  pub part_within : (r : FreeSection) → (part_of q page r).count * (part_of q page r).size ≤ r.size
  unfolding part_of
  part_within r = by q
    where
      few : (t : Bool) (z : ℕ) → cond t 0 1 * z ≤ z
      few true z = omega arith
      few false z = omega arith

      by : (p : Part) → (part_of p page r).count * (part_of p page r).size ≤ r.size
      by Head = omega (arith, few (eqb (head_size page r) 0) (head_size page r))
      by Pages = omega (arith, div-mul-le_self (body_size page r) page)
      by Tail = omega (arith, few (eqb (body_size page r % page) 0) (body_size page r % page), div-add-mod' (body_size page r) page)
      by Whole = omega arith

-- ---- sums over the three runs

module _ (F : List FreeSection → ℕ) (add : (l m : List FreeSection) → F (l ++ m) ≡ F l + F m) (s : Source) (a b c : List ℕ) where
  pub three : F (sections_of (chains_of s a b c))
      ≡ F (sections_of (chains_in s.pa s.page (decode s.na a)))
      + (F (sections_of (chains_in s.pb s.page (decode s.nb b))) + F (sections_of (chains_in s.pc s.page (decode s.nc c))))
  unfolding chains_of
  three =
      let p = chains_in s.pa s.page (decode s.na a) in
      let q = chains_in s.pb s.page (decode s.nb b) in
      let r = chains_in s.pc s.page (decode s.nc c) in
      ap F (sections-append p (q ++ r)) ∙ add (sections_of p) (sections_of (q ++ r))
      ∙ ap (λ (n : ℕ). F (sections_of p) + n) (ap F (sections-append q r) ∙ add (sections_of q) (sections_of r))

-- ---- a part, as the code makes it

pub part_is : (q : Part) (page : ℕ) (s : FreeSection) (r : Chain) → r ≡ part_of q page s → PartIs q page s r
part_is q page s r e = record { part_size = ap (λ (x : Chain). x.size) e; as_many = ap (λ (x : Chain). x.count) e; from = λ f. ap (λ (x : Chain). x.addr) e }

pub part_all : (q : Part) (page : ℕ) (s : FreeSection) (r : Chain) → PartIs q page s r → PartFits q s → r ≡ part_of q page s
part_all q page s r i f =
    let p = part_of q page s in
    ap (λ (a : ℕ). link a r.size r.count) (i.from f) ∙ ap₂ (λ (z n : ℕ). link p.addr z n) i.part_size i.as_many

module _ (q : Part) (page a z : ℕ) where
  pub head_chain : (h : ℕ) (r : Chain) → q ≡ Head → h ≡ head_size page (section a z) → r ≡ one a h → r ≡ part_of q page (section a z)
  unfolding part_of
  head_chain h r e i f = f ∙ ap (one a) i ∙ ap (λ (p : Part). part_of p page (section a z)) (sym e)

  pub pages-chain : (h n : ℕ) → q ≡ Pages → h ≡ head_size page (section a z) → n ≡ (z - h) / page → link (a + h) page n ≡ part_of q page (section a z)
  unfolding part_of
  pages-chain h n e i f = ap (link (a + h) page) f ∙ ap (λ (k : ℕ). link (a + k) page ((z - k) / page)) i ∙ ap (λ (p : Part). part_of p page (section a z)) (sym e)

  tail_chain : (h : ℕ) → q ≡ Tail → h ≡ head_size page (section a z) → one (a + h + (z - h) / page * page) ((z - h) % page) ≡ part_of q page (section a z)
  unfolding part_of
  tail_chain h e i = ap (λ (x : ℕ). one (a + x + (z - x) / page * page) ((z - x) % page)) i ∙ ap (λ (p : Part). part_of p page (section a z)) (sym e)

  -- the tail begins within the region, or where it ends
  pub tail_from : (h n : ℕ) → h ≡ head_size page (section a z) → n ≡ (z - h) / page → a + h + n * page ≤ a + z
  tail_from h n i f = omega (arith, ap (λ (k : ℕ). k * page) f, div-mul-le_self (z - h) page)

  pub whole-chain : q ≡ Whole → link a z 1 ≡ part_of q page (section a z)
  unfolding part_of
  whole-chain e = ap (λ (p : Part). part_of p page (section a z)) (sym e)

  -- a sum that wraps is the sum where the region ends within 64 bits
  pub pages-is : (h n w : ℕ) → q ≡ Pages → h ≡ head_size page (section a z) → n ≡ (z - h) / page → w ≡ (a + h) % 2 ^ 64
      → PartIs q page (section a z) (link w page n)
  pages-is h n w e i f g =
      let s = part_is q page (section a z) (link (a + h) page n) (pages-chain h n e i f) in
      record { part_size = s.part_size; as_many = s.as_many; from = λ fit. small fit ∙ s.from fit }
    where
      small : PartFits q (section a z) → w ≡ a + h
      small fit = let l : a + z < 2 ^ 64 = subst (λ (p : Part). PartFits p (section a z)) e fit in omega arith

  pub left_within : (h m : ℕ) → m ≡ (z - h) % page → m ≤ z
  left_within h m f = omega (arith, div-add-mod' (z - h) page)

  pub tail_is : (h m w : ℕ) (r : Chain) → q ≡ Tail → h ≡ head_size page (section a z) → m ≡ (z - h) % page → w ≡ (a + (z - m)) % 2 ^ 64 → r ≡ one w m
      → PartIs q page (section a z) r
  tail_is h m w r e i f g k =
      let t = k ∙ ap (one w) f in
      let s = part_is q page (section a z) _ (tail_chain h e i) in
      record {
        part_size = ap (λ (x : Chain). x.size) t ∙ s.part_size;
        as_many = ap (λ (x : Chain). x.count) t ∙ s.as_many;
        from = λ fit. ap (λ (x : Chain). x.addr) t ∙ small fit ∙ s.from fit;
      }
    where
      small : PartFits q (section a z) → w ≡ a + h + (z - h) / page * page
      small fit = let l : a + z < 2 ^ 64 = subst (λ (p : Part). PartFits p (section a z)) e fit in omega (arith, div-add-mod' (z - h) page)
