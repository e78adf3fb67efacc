-- A step of a pass: the chain of the region that comes next, and what it takes of the sections that are left. Assumes nothing.
use Rattle.std.proofs.Common.{◌≡◌, ℕ, ◌+◌, ◌%◌, ◌<◌, Bool, true, false, cond, eqb, List, [], ◌∷◌, ◌++◌, length, sym, refl, ap, ◌∙◌, subst, ap₂, append_assoc, arith, length-append}
use Rattle.std.specs.Prelude.{None, Some}
use Rattle.fsm_sections.specs.declared.FreeSection.{FreeSection}
use Rattle.fsm_sections.specs.declared.Chain.{Chain}
use Rattle.fsm_sections.specs.declared.Part.{Part}
use Rattle.fsm_sections.specs.declared.Part.TheVariants.{Head, Pages, Tail, Whole}
use Rattle.fsm_sections.specs.declared.Source.{Source}
use Rattle.fsm_sections.specs.declared.next.Run.{Run}
use Rattle.fsm_sections.specs.declared.next.Run.TheVariants.{A, B, C}
use Rattle.fsm_sections.specs.declared.next.Region.{Region}
use Rattle.fsm_sections.specs.declared.next.Merged.{Merged}
use Rattle.fsm_sections.specs.declared.next.Chains.{Chains}
use Rattle.fsm_sections.specs.Sections.{by_size_then_addr, times, of_size, All}
use Rattle.fsm_sections.specs.Chains.{sections_in, sections_of, ChainFits}
use Rattle.fsm_sections.specs.Sources.{head_size, body_size, part_of, chains_in, chains_of, part_in, Given, PartFits, PartIs}
use Rattle.fsm_sections.specs.Nexts.{Rests, rests, rests_of, regions_count, NextIs}
use Rattle.fsm_sections.specs.Steps.{sections, rest, CanGo, Began, Taking}
use Rattle.fsm_sections.proofs.SectionsLaws.{length-sorted}
use Rattle.fsm_sections.proofs.SortLaws.{times-sorted}
use Rattle.fsm_sections.proofs.SizesLaws.{of_size-append, length-chain, of_size-chain, of_size-sorted}
use Rattle.fsm_sections.proofs.SlotLaws.{times-append, sections-append}
use Rattle.fsm_sections.proofs.SourceLaws.{part_fits, part_all, swap}
use Rattle.fsm_sections.proofs.NextLaws.{next_a, next_b, next_c, next-none}

-- ---- a chain of more than one section

part_pages : (q : Part) (page : ℕ) (x : FreeSection) → 1 < (part_of q page x).count → (part_of q page x).size ≡ page
unfolding part_of
part_pages Head page x h = few (eqb (head_size page x) 0) h
  where
    few : (t : Bool) → 1 < cond t 0 1 → head_size page x ≡ page
    few true l = absurd (omega arith)
    few false l = absurd (omega arith)
part_pages Pages page x h = refl
part_pages Tail page x h = few (eqb (body_size page x % page) 0) h
  where
    few : (t : Bool) → 1 < cond t 0 1 → body_size page x % page ≡ page
    few true l = absurd (omega arith)
    few false l = absurd (omega arith)
part_pages Whole page x h = absurd (omega arith)

-- ---- the chain is taken of what is left

front : (r : Chain) (l m : List Chain) → by_size_then_addr (sections_of (l ++ (r ∷ m))) ≡ by_size_then_addr (sections_in r ++ sections_of (l ++ m))
unfolding sections_of
front r l m = rw (sections-append l (r ∷ m), sections-append l m) (swap (sections_of l) (sections_in r) (sections_of m))

module _ (c : Chains) where
  pub rest-is : rest c ≡ sections c.source (rests_of c.regions)
  unfolding rest
  rest-is = refl

pub step_end : (c : Chains) (m : Merged) → NextIs c.regions None m → rest c ≡ []
unfolding sections_of
step_end c m h = rest-is c ∙ ap (sections c.source) (next-none c.regions m h)

module _ (c : Chains) (r : Region) (m : Merged) (h : NextIs c.regions (Some r) m) (t : Chain) where
  abbrev X : Rests
  X = rests_of c.regions

  abbrev Y : Rests
  Y = rests_of m

  abbrev x : FreeSection
  x = r.section

  abbrev s : Source
  s = c.source

  abbrev d : Chains
  d = record { regions = m; source = c.source }

  -- a chain is a part of the region
  module _ (q : Part) (p : PartIs q s.page x t) where
    many : 1 < t.count → t.size ≡ s.page
    many l = p.part_size ∙ part_pages q s.page x (omega (arith, p.as_many))

    whole : PartFits q x → t ≡ part_of q s.page x
    whole = part_all q s.page x t p

    ends : PartFits q x → by_size_then_addr (sections_in (part_of q s.page x) ++ sections s Y) ≡ by_size_then_addr (sections_in t ++ rest d)
    ends f = sym (ap₂ (λ (v : Chain) (l : List FreeSection). by_size_then_addr (sections_in v ++ l)) (whole f) (rest-is d))

    fit : PartFits q x → ChainFits t
    fit f = subst ChainFits (sym (whole f)) (part_fits q s.page x f)

  begins : {l : Rests} → X ≡ l → by_size_then_addr (rest c) ≡ by_size_then_addr (sections s l)
  begins e = ap by_size_then_addr (rest-is c ∙ ap (sections s) e)

  before : (l : Rests) → X ≡ l → regions_count X ≡ regions_count l
  before l e = ap regions_count e

  fits-by : {l : Rests} → X ≡ l → CanGo c → All (PartFits s.pa) l.of_a × All (PartFits s.pb) l.of_b × All (PartFits s.pc) l.of_c
  fits-by e g = subst (λ (l : Rests). All (PartFits s.pa) l.of_a × All (PartFits s.pb) l.of_b × All (PartFits s.pc) l.of_c) e (g.fit_a, g.fit_b, g.fit_c)

  take_a : r.run ≡ A → PartIs s.pa s.page x t → Taking c t d
  unfolding sections_of
  take_a e p =
      let X-is : X ≡ rests (x ∷ Y.of_a) Y.of_b Y.of_c = next_a c.regions r m h e in
      record {
        source = refl;
        less = omega (arith, before _ X-is);
        pages = many s.pa p;
        fits = λ g. fit s.pa p (fits-by X-is g).0.0;
        goes = λ g. let f = fits-by X-is g in record { some = g.some; fit_a = f.0.1; fit_b = f.1; fit_c = f.2 };
        same = λ g. begins X-is ∙ ends s.pa p (fits-by X-is g).0.0;
      }

  take_b : r.run ≡ B → PartIs s.pb s.page x t → Taking c t d
  take_b e p =
      let X-is : X ≡ rests Y.of_a (x ∷ Y.of_b) Y.of_c = next_b c.regions r m h e in
      record {
        source = refl;
        less = omega (arith, before _ X-is);
        pages = many s.pb p;
        fits = λ g. fit s.pb p (fits-by X-is g).1.0;
        goes = λ g. let f = fits-by X-is g in record { some = g.some; fit_a = f.0; fit_b = f.1.1; fit_c = f.2 };
        same = λ g. begins X-is ∙ front (part_of s.pb s.page x) (chains_in s.pa s.page Y.of_a) _ ∙ ends s.pb p (fits-by X-is g).1.0;
      }

  take_c : r.run ≡ C → PartIs s.pc s.page x t → Taking c t d
  take_c e p =
      let X-is : X ≡ rests Y.of_a Y.of_b (x ∷ Y.of_c) = next_c c.regions r m h e in
      let us = chains_in s.pa s.page Y.of_a in
      let bs = chains_in s.pb s.page Y.of_b in
      let cs = chains_in s.pc s.page Y.of_c in
      let v = part_of s.pc s.page x in
      record {
        source = refl;
        less = omega (arith, before _ X-is);
        pages = many s.pc p;
        fits = λ g. fit s.pc p (fits-by X-is g).2.0;
        goes = λ g. let f = fits-by X-is g in record { some = g.some; fit_a = f.0; fit_b = f.1; fit_c = f.2.1 };
        same = λ g. begins X-is ∙ rw (← append_assoc us bs (v ∷ cs), ← append_assoc us bs cs) (front v (us ++ bs) cs) ∙ ends s.pc p (fits-by X-is g).2.0;
      }

  pub step_taking : PartIs (part_in s r.run) s.page x t → Taking c t d
  step_taking p = by r.run refl
    where
      by : (w : Run) → r.run ≡ w → Taking c t d
      by A e = take_a e (subst (λ (w : Run). PartIs (part_in s w) s.page x t) e p)
      by B e = take_b e (subst (λ (w : Run). PartIs (part_in s w) s.page x t) e p)
      by C e = take_c e (subst (λ (w : Run). PartIs (part_in s w) s.page x t) e p)

-- ---- before the first step

module _ (s : Source) (a b c : List ℕ) (d : Chains) (h : Began s a b c d) where
  pub rest_all : rest d ≡ sections_of (chains_of s a b c)
  unfolding chains_of
  rest_all = rest-is d ∙ ap₂ sections h.source h.all

  pub can_go : Given s a b c → CanGo d
  can_go g = record {
    some = rw h.source g.some;
    fit_a = rw (h.source, ap (λ (l : Rests). l.of_a) h.all) g.fit_a;
    fit_b = rw (h.source, ap (λ (l : Rests). l.of_b) h.all) g.fit_b;
    fit_c = rw (h.source, ap (λ (l : Rests). l.of_c) h.all) g.fit_c;
  }

-- ---- the iterations of a pass

module _ (c : Chains) (t : Chain) (d : Chains) (h : Taking c t d) (g : CanGo c) where
  abbrev taken : List FreeSection
  taken = sections_in t

  pub take_by : {X : Type 0} (F : List FreeSection → X) → ((l : List FreeSection) → F (by_size_then_addr l) ≡ F l) → F (rest c) ≡ F (taken ++ rest d)
  take_by F e = sym (e (rest c)) ∙ ap F (h.same g) ∙ e (taken ++ rest d)

  pub take-length : length (rest c) ≡ t.count + length (rest d)
  take-length = take_by length length-sorted ∙ length-append taken (rest d) ∙ rw (length-chain t.addr t.size t.count)

  pub take-times : (x : FreeSection) → times x (rest c) ≡ times x taken + times x (rest d)
  take-times x = take_by (times x) (times-sorted x) ∙ times-append x taken (rest d)

  pub take-size : (z : ℕ) → of_size z (rest c) ≡ cond (eqb z t.size) t.count 0 + of_size z (rest d)
  take-size z = take_by (of_size z) (of_size-sorted z) ∙ of_size-append z taken (rest d) ∙ rw (of_size-chain z t.addr t.size t.count)
