-- The messages that the library makes, those of the four constructors of `file_space_info.rs`. Assumes nothing.
--   slot_count                how many slots a persisting message has (document 01, "The message": "twelve slots"; HDF5 File Format
--                             Specification, IV.A.2, File Space Info: twelve manager addresses)
--   made                      a message with page_end threshold 0 and the given other values
--   non_persistent            `non_persistent`: no manager, and the undefined address as the end before managers
--   persistent_managers       `persistent_managers`: the given slots and end before managers
--   persistent_empty          `persistent_empty`: the same with every slot and that end undefined (document 01, "The save": "unused ones all
--                             one bits")
--   persistent_single_manager `persistent_single_manager`: the same with one address in slot 0 and the others undefined
use Rattle.std.specs.Prelude.{ℕ, ◌-◌, Bool, true, false, List, ◌∷◌, replicate}
use Rattle.fields.specs.Ranges.{undefined_addr}
use Rattle.file_space_info.specs.declared.FileSpaceStrategy.{FileSpaceStrategy}
use Rattle.file_space_info.specs.declared.FileSpaceInfo.{FileSpaceInfo}
use Rattle.file_space_info.specs.declared.WithSlots.{WithSlots}

abbrev pub slot_count : ℕ
slot_count = 12

abbrev pub made : Bool → FileSpaceStrategy → ℕ → ℕ → ℕ → FileSpaceInfo
made persist s t p e = record {
  strategy = s;
  persist = persist;
  threshold = t;
  page_size = p;
  page_end_meta_threshold = 0;
  eoa_pre_fsm = e;
}

abbrev pub non_persistent : FileSpaceStrategy → ℕ → ℕ → FileSpaceInfo
non_persistent s t p = made false s t p (undefined_addr 8)

abbrev pub persistent_managers : FileSpaceStrategy → ℕ → ℕ → List ℕ → ℕ → WithSlots
persistent_managers s t p slots e = record { info = made true s t p e; slots = slots }

abbrev pub persistent_empty : FileSpaceStrategy → ℕ → ℕ → WithSlots
persistent_empty s t p = persistent_managers s t p (replicate slot_count (undefined_addr 8)) (undefined_addr 8)

abbrev pub persistent_single_manager : FileSpaceStrategy → ℕ → ℕ → ℕ → ℕ → WithSlots
persistent_single_manager s t p a e = persistent_managers s t p (a ∷ replicate (slot_count - 1) (undefined_addr 8)) e
