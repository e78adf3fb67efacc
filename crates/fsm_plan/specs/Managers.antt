-- The managers of a paged file: which sections each slot has, the blocks they give and where these stand. Assumes nothing.
-- In quotes: document 01's words, from "Pages and slots" or from the heading named.
--   Manager        a slot's sections, and the class that its entries carry
--   manager, unused   a manager of a class and sections; a slot that is not used
--   managers_of    the twelve slots of three runs of sections: "metadata pieces below a page go to slot 0, raw ones to slot 2, whole pages of
--                  either to slot 6 with unclassified sections unsplit"; "Class 1 for slots 0 and 2, class 2 for slot 6"
--   manager_size   how many bytes a manager's blocks occupy: FSHD, then FSSE at its allocated length; none without sections
--   manager_bytes  a manager's blocks at an address: "Non-empty slots get FSHD then FSSE"
--   size_of        how many bytes the blocks of managers occupy ("The save": "L block bytes")
--   blocks_from    the blocks of managers "from `start` on, in order 0, 2, 6"
--   slots_from     where each manager's FSHD then stands, as O bytes hold it; one without sections has the undefined address ("The save": "unused
--                  ones all one bits")
use Rattle.std.specs.Prelude.{ℕ, ◌+◌, cond, List, [], ◌∷◌, ◌++◌, eqb, length, replicate}
use Rattle.fields.specs.Ranges.{undefined_addr}
use Rattle.fsm_sections.specs.declared.FreeSection.{FreeSection}
use Rattle.fsm_sections.specs.Pages.{slot0, slot2, slot6}
use Rattle.fsm_blocks.specs.Fshd.{fshd_bytes, fshd_size}
use Rattle.fsm_blocks.specs.Settings.{Settings, header_for, fsse_for, fsse_used}

pub record Manager : Type 0 where
  pub class : ℕ
  pub sections : List FreeSection

abbrev pub manager : ℕ → List FreeSection → Manager
manager class l = record { class = class; sections = l }

abbrev pub unused : Manager
unused = manager 0 []

abbrev pub managers_of : ℕ → List FreeSection → List FreeSection → List FreeSection → List Manager
managers_of page meta raw unclassified =
    manager 1 (slot0 page meta) ∷ unused ∷ manager 1 (slot2 page raw) ∷ unused ∷ unused ∷ unused
    ∷ manager 2 (slot6 page meta raw unclassified) ∷ unused ∷ unused ∷ unused ∷ unused ∷ unused ∷ []

module _ (O : ℕ) (set : Settings) where
  abbrev pub manager_size : Manager → ℕ
  manager_size m = cond (eqb (length m.sections) 0) 0 (fshd_size O + (fsse_used O set m.sections + set.surplus))

  unfoldable pub size_of : List Manager → ℕ
  size_of [] = 0
  size_of (m ∷ ms) = manager_size m + size_of ms

  unfoldable pub slots_from : ℕ → List Manager → List ℕ
  slots_from a [] = []
  slots_from a (m ∷ ms) = cond (eqb (length m.sections) 0) (undefined_addr O) a ∷ slots_from (a + manager_size m) ms

  module _ (sum : List ℕ → ℕ) where
    abbrev pub manager_bytes : ℕ → Manager → List ℕ
    manager_bytes a m =
        cond (eqb (length m.sections) 0) []
        (fshd_bytes sum O (header_for O set (a + fshd_size O) m.sections)
        ++ (fsse_for O set sum a m.class m.sections ++ replicate set.surplus 0))

    unfoldable pub blocks_from : ℕ → List Manager → List ℕ
    blocks_from a [] = []
    blocks_from a (m ∷ ms) = manager_bytes a m ++ blocks_from (a + manager_size m) ms
