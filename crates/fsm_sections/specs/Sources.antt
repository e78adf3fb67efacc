-- Sources: three lent runs of regions with a part for each, and the chains that they give: the writer's passes go over them. Assumes nothing.
-- In quotes: document 01's words, from "Pages and slots".
--   pad            from an address to the first page multiple at or after it
--   head_size      how much of a region stands before its first page multiple ("cuts at every page multiple"); body_size what is left
--   one            the chain of one section, or of none where it would be empty
--   part_of        a part of a region as a chain, in closed form: its head, its whole pages, its tail or all of it
--   chains_in      the chains of regions
--   chains_of      the chains of a source, run by run
--   sections_from  the sections of a source
--   part_in        the part that is meant of the regions of a run
--   PartFits       what is cut ends within 64 bits
--   PartIs         `part_chain`: the size and the number of a part's sections, and where they begin if what is cut ends within 64 bits
--   Given          a source that can be gone through, as refusals 2 and 4 leave it: the page is not 0, what is cut ends within 64 bits
--   small_source   the sections of slot 0 or 2, a run's "pieces below a page": the run stands at a and at b
--   large_source   the sections of slot 6: the whole pages of two runs, and the regions of a third uncut
--   plain_source   a run of sections as they are
use Rattle.std.specs.Prelude.{◌≡◌, ℕ, ◌+◌, ◌-◌, ◌*◌, ◌/◌, ◌%◌, ◌^◌, ◌<◌, min, cond, List, ◌++◌, map, ◌==◌}
use Rattle.fsm_sections.specs.declared.FreeSection.{FreeSection}
use Rattle.fsm_sections.specs.declared.Chain.{Chain}
use Rattle.fsm_sections.specs.declared.Part.{Part}
use Rattle.fsm_sections.specs.declared.Part.TheVariants.{Head, Pages, Tail, Whole}
use Rattle.fsm_sections.specs.declared.Source.{Source}
use Rattle.fsm_sections.specs.declared.next.Run.{Run}
use Rattle.fsm_sections.specs.declared.next.Run.TheVariants.{A, B, C}
use Rattle.fsm_sections.specs.Sections.{decode, All}
use Rattle.fsm_sections.specs.Chains.{link, sections_of}

abbrev pub pad : ℕ → ℕ → ℕ
pad page a = cond (a % page == 0) 0 (page - a % page)

abbrev pub head_size : ℕ → FreeSection → ℕ
head_size page r = min r.size (pad page r.addr)

abbrev pub body_size : ℕ → FreeSection → ℕ
body_size page r = r.size - head_size page r

abbrev pub one : ℕ → ℕ → Chain
one a z = link a z (cond (z == 0) 0 1)

unfoldable pub part_of : Part → ℕ → FreeSection → Chain
part_of Head page r = one r.addr (head_size page r)
part_of Pages page r = link (r.addr + head_size page r) page (body_size page r / page)
part_of Tail page r = one (r.addr + head_size page r + body_size page r / page * page) (body_size page r % page)
part_of Whole page r = link r.addr r.size 1

abbrev pub chains_in : Part → ℕ → List FreeSection → List Chain
chains_in q page rs = map (part_of q page) rs

unfoldable pub chains_of : Source → List ℕ → List ℕ → List ℕ → List Chain
chains_of s a b c =
    chains_in s.pa s.page (decode s.na a)
    ++ (chains_in s.pb s.page (decode s.nb b) ++ chains_in s.pc s.page (decode s.nc c))

abbrev pub sections_from : Source → List ℕ → List ℕ → List ℕ → List FreeSection
sections_from s a b c = sections_of (chains_of s a b c)

abbrev pub PartFits : Part → FreeSection → Type 0
PartFits Head r = r.addr + r.size < 2 ^ 64
PartFits Pages r = r.addr + r.size < 2 ^ 64
PartFits Tail r = r.addr + r.size < 2 ^ 64
PartFits Whole r = Unit {0}

pub record PartIs (q : Part) (page : ℕ) (s : FreeSection) (r : Chain) : Type 0 where
  pub part_size : r.size ≡ (part_of q page s).size
  pub as_many : r.count ≡ (part_of q page s).count
  pub from : PartFits q s → r.addr ≡ (part_of q page s).addr

pub record Given (s : Source) (a b c : List ℕ) : Type 0 where
  pub some : 0 < s.page
  pub fit_a : All (PartFits s.pa) (decode s.na a)
  pub fit_b : All (PartFits s.pb) (decode s.nb b)
  pub fit_c : All (PartFits s.pc) (decode s.nc c)

abbrev pub part_in : Source → Run → Part
part_in s A = s.pa
part_in s B = s.pb
part_in s C = s.pc

abbrev pub small_source : ℕ → ℕ → Source
small_source page n = record { na = n; pa = Head; nb = n; pb = Tail; nc = 0; pc = Whole; page = page }

abbrev pub large_source : ℕ → ℕ → ℕ → ℕ → Source
large_source page n m k = record { na = n; pa = Pages; nb = m; pb = Pages; nc = k; pc = Whole; page = page }

abbrev pub plain_source : ℕ → Source
plain_source n = record { na = n; pa = Whole; nb = 0; pb = Whole; nc = 0; pc = Whole; page = 1 }
