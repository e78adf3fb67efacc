-- The cases (specs/Cases.antt), by computation from the definitions. Assumes nothing.
use mathlib.Core.Path.{refl}
use Rattle.error.specs.Outcome.{first_of, and_then}
use Rattle.fields.specs.Ranges.{first_multiple}
use Rattle.free_regions.specs.Units.{last_multiple}
use Rattle.free_space.specs.Runs.{is_list, stored}
use Rattle.free_space.specs.Calls.{freed, allocated, allocated_units, range_taken}
use Rattle.free_lists.specs.History.{lists_after}
use Rattle.paged_lists.specs.PagedCalls.{own_bytes, new_pages, paged_alloc, returned, paged_free}
use Rattle.paged_lists.specs.PagedHistory.{paged_after}
use Rattle.paged_lists.specs.Cases.{Cases}

pub cases : Cases
unfolding first_of and_then first_multiple last_multiple is_list stored freed allocated allocated_units range_taken lists_after own_bytes new_pages paged_alloc returned paged_free paged_after
cases = record {
  given_answers = refl;
  given_stands = refl;
  used_answers = refl;
  used_stands = refl;
  back_answers = refl;
  back_stands = refl;
  all_back = refl;
  part_stays = refl;
  other_later = refl;
  held_later = refl;
  full_take = refl;
  full_rest = refl;
  full_shared = refl;
  over_four = refl;
  mark_three = refl;
  short_marks = refl;
  page_zero = refl;
  free-none = refl;
}
