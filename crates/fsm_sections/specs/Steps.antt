-- A pass over the sections of a source, chain by chain: what a step of it takes, and what is left then. Assumes nothing.
--   rest        the sections that are left
--   CanGo       what is left can be gone through: the page is not 0, what is cut ends within 64 bits
--   Began       what `Chains` is before its first step: all regions of the source are left
--   Taking      a chain is taken of those that are left: of a source that can be gone through, the chain's sections and those that are left then are
--               those that were left, and can be gone through; a chain of more than one section is whole pages
--   Stepped     what a step of `Chains` gives: a chain is taken; or, at the end, no section is left
use Rattle.std.specs.Prelude.{◌≡◌, ℕ, ◌<◌, List, [], ◌++◌, Option, None, Some}
use Rattle.fsm_sections.specs.declared.FreeSection.{FreeSection}
use Rattle.fsm_sections.specs.declared.Chain.{Chain}
use Rattle.fsm_sections.specs.declared.Source.{Source}
use Rattle.fsm_sections.specs.declared.next.Chains.{Chains}
use Rattle.fsm_sections.specs.Sections.{decode, by_size_then_addr, All}
use Rattle.fsm_sections.specs.Chains.{sections_in, sections_of, ChainFits}
use Rattle.fsm_sections.specs.Sources.{chains_in, PartFits}
use Rattle.fsm_sections.specs.Nexts.{Rests, rests, rests_of, regions_count}

abbrev pub sections : Source → Rests → List FreeSection
sections s l = sections_of (chains_in s.pa s.page l.of_a ++ (chains_in s.pb s.page l.of_b ++ chains_in s.pc s.page l.of_c))

unfoldable pub rest : Chains → List FreeSection
rest c = sections c.source (rests_of c.regions)

abbrev pub left : Chains → ℕ
left c = regions_count (rests_of c.regions)

pub record CanGo (c : Chains) : Type 0 where
  pub some : 0 < c.source.page
  pub fit_a : All (PartFits c.source.pa) (rests_of c.regions).of_a
  pub fit_b : All (PartFits c.source.pb) (rests_of c.regions).of_b
  pub fit_c : All (PartFits c.source.pc) (rests_of c.regions).of_c

pub record Began (s : Source) (a b c : List ℕ) (d : Chains) : Type 0 where
  pub source : d.source ≡ s
  pub all : rests_of d.regions ≡ rests (decode s.na a) (decode s.nb b) (decode s.nc c)

pub record Taking (c : Chains) (t : Chain) (d : Chains) : Type 0 where
  pub source : d.source ≡ c.source
  pub less : left d < left c
  pub pages : 1 < t.count → t.size ≡ c.source.page
  pub fits : CanGo c → ChainFits t
  pub goes : CanGo c → CanGo d
  pub same : CanGo c → by_size_then_addr (rest c) ≡ by_size_then_addr (sections_in t ++ rest d)

abbrev pub Stepped : Chains → Option Chain → Chains → Type 0
Stepped c None d = rest c ≡ []
Stepped c (Some t) d = Taking c t d
