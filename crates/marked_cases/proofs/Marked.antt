-- The table of the marked cases, by computation from the definitions. Assumes nothing.
use mathlib.Core.Path.{refl}
use Rattle.error.specs.Outcome.{first_of}
use Rattle.fields.specs.Le.{le_bytes, le_value}
use Rattle.fields.specs.Layout.{layout}
use Rattle.fields.specs.Ranges.{first_multiple}
use Rattle.fields.specs.Width.{least_from, enc_size, fshd_len}
use Rattle.free_regions.specs.Units.{last_multiple}
use Rattle.free_space.specs.Runs.{is_list, stored}
use Rattle.free_space.specs.Calls.{freed, allocated, allocated_units, range_taken}
use Rattle.free_lists.specs.History.{lists_after}
use Rattle.fsm_sections.specs.Sections.{space, of_size, distinct}
use Rattle.fsm_sections.specs.Pages.{pieces_from, pieces, split, below_page, from_page}
use Rattle.fsm_lengths.specs.Lengths.{fsse_len}
use Rattle.fsm_pages.specs.Split.{split_into}
use Rattle.fsm_plan.specs.Managers.{size_of, slots_from}
use Rattle.file_space_info.specs.Message.{present, numbers_at, parsed}
use Rattle.marked_cases.specs.Marked.{Marked}

pub marked : Marked
unfolding enc_size least_from fshd_len first_of fsse_len space of_size distinct lists_after freed allocated allocated_units last_multiple first_multiple range_taken is_list stored split_into split pieces pieces_from below_page from_page size_of slots_from parsed present numbers_at layout le_bytes le_value
marked = record {
  m1 = refl;
  m2 = refl;
  m3 = refl;
  m4 = refl;
  m5 = refl;
  m5_front = refl;
  m6 = refl;
  m7 = refl;
  m8 = refl;
  m9_sections = refl;
  m9_slots = refl;
  m9_end = refl;
  m9_stores = refl;
  m10 = refl;
}
