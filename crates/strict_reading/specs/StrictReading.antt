-- DOCUMENT 02's P5, "Reading that checks for itself", one claim about the strict reading beside the loose one. Assumes nothing.
-- In quotes: P5's words. What a strict reading tests, in its order, stands in fsm_blocks, specs/Checks.antt.
--   WholeList    what a caller of the loose reading had to test of the section list that a header at `slot` names
--   WholeManager the same of a header, and of its list where it names one ("Callers had to run `verify_trailing` and compare the back address
--                themselves")
--   Alike        of a strict and a loose reading into two runs: where the strict one answers and the runs were alike, the loose one answers the
--                same and leaves the same
--   StrictReading
--     exact        a strict reading of a manager answers exactly if the loose one answers that, and the caller's tests are passed ("A strict
--                  read does it")
--     slots-alike, persisted-alike, image-alike   "where both accept, they answer alike", of all slots, of `read_persisted_sections_strict` and of
--                  `read_image_strict`, at every offset size, base, slot and run, over any bytes: a strict answer is the loose one
--     written      what the serializers write is read back strictly: their claim, whose readings are loose and strict ones
--     stored       so are the blocks of a plan, each by its slot
--     saved        and what a save leaves, with the plan's sections: demand 3, whose readings are loose and strict ones
use Rattle.std.specs.Prelude.{ℕ, ◌+◌, ◌≡◌, List, drop}
use Rattle.error.specs.Outcome.{Outcome, answer}
use Rattle.error.specs.Lent.{With}
use Rattle.fields.specs.Layout.{window, le_at}
use Rattle.fields.specs.Ranges.{undefined_addr}
use Rattle.checksum.specs.Trailing.{trailing}
use Rattle.fsm_sections.specs.declared.FreeSection.{FreeSection}
use Rattle.fsm_blocks.specs.declared.checks.Reading.TheVariants.{Loose, Strict}
use Rattle.fsm_blocks.specs.Fshd.{Header, fshd_size, header_at}
use Rattle.fsm_blocks.specs.Reading.{read_manager, read_slots, persisted}
use Rattle.fsm_plan.specs.declared.Counts.{Counts}
use Rattle.fsm_plan.specs.declared.blocks.BlocksPlan.{BlocksPlan}
use Rattle.fsm_plan.specs.Blocks.{planned_blocks}
use Rattle.fsm_writer.specs.RoundTrip.{RoundTrip}
use Rattle.stored_managers.specs.AllOnes.{StoredPlan}
use Rattle.image.specs.Reading.{image_into}
use Rattle.save.specs.EveryCut.{EveryCutAfterCalls}

-- ---- what a caller had to test

pub record WholeList (O slot : ℕ) (list : List ℕ) : Type 0 where
  pub version : le_at 4 1 list ≡ 0
  pub sum : trailing list ≡ answer tt
  pub back : le_at 5 O list ≡ slot

module _ (O base slot : ℕ) (bytes : List ℕ) where
  abbrev pub header : Header
  header = header_at O (drop (slot + base) bytes)

  pub record WholeManager : Type 0 where
    pub version : header.version ≡ 0
    pub client : header.client ≡ 1
    pub sum : trailing (window (slot + base) (fshd_size O) bytes) ≡ answer tt
    pub list : (header.fsse ≡ undefined_addr O → ⊥) → WholeList O slot (window (header.fsse + base) header.used bytes)

-- ---- two readings

-- of outcomes, and of the runs before and after
abbrev pub Alike : {A : Type 0} → Outcome A → List ℕ → List ℕ → Outcome A → List ℕ → List ℕ → Type 0
Alike {A} strict first first' loose second second' = (a : A) → strict ≡ answer a → first ≡ second → (loose ≡ answer a) × (second' ≡ first')

pub record StrictReading : Type 0 where
  pub exact : (O base slot : ℕ) (bytes : List ℕ) (l : List FreeSection) → (slot ≡ undefined_addr O → ⊥)
      → (read_manager Strict O base slot bytes ≡ answer l → (read_manager Loose O base slot bytes ≡ answer l) × WholeManager O base slot bytes)
      × ((read_manager Loose O base slot bytes ≡ answer l) × WholeManager O base slot bytes → read_manager Strict O base slot bytes ≡ answer l)
  pub slots-alike : (O base : ℕ) (slots bytes : List ℕ) (ls : List (List FreeSection)) → read_slots Strict O base slots bytes ≡ answer ls
      → read_slots Loose O base slots bytes ≡ answer ls
  pub persisted-alike : (slots : List ℕ) (base O : ℕ) (bytes out : List ℕ) (w : With ℕ (List ℕ)) → persisted Strict slots base O bytes out ≡ answer w
      → persisted Loose slots base O bytes out ≡ answer w
  pub image-alike : (place : ℕ) (image out : List ℕ) (w : With (List ℕ) (List ℕ)) → image_into Strict place image out ≡ answer w
      → image_into Loose place image out ≡ answer w
  pub written : RoundTrip
  pub stored : (a b c : List ℕ) (n : Counts) (page start O : ℕ) (p : BlocksPlan) → planned_blocks a b c n page start O ≡ answer p
      → StoredPlan a b c n page start O p
  pub saved : EveryCutAfterCalls
