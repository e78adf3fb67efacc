-- Demand 3's premises can be met: a `free` of (200, 50) on the metadata list, and a save at page 100 and `start` 260 with its message at 0, over an image
-- of 377 bytes, are accepted. So the demand says something. Assumes nothing.
use mathlib.Core.Path.{◌≡◌, refl}
use Prim.Native.Nat.{ℕ}
use mathlib.Core.List.{List, [], ◌∷◌}
use lib.Dec.{lit<, lit≤}
use lib.ListN.{replicate}
use Rattle.error.specs.Outcome.{answer, first_of}
use Rattle.error.specs.Lent.{with}
use Rattle.fields.specs.Width.{enc_size, least_from}
use Rattle.free_space.specs.Runs.{is_list, stored}
use Rattle.free_space.specs.Calls.{freed}
use Rattle.free_lists.specs.declared.calls.Which.{Which}
use Rattle.free_lists.specs.declared.calls.Which.TheVariants.{Metadata, Raw, Unclassified}
use Rattle.free_lists.specs.declared.calls.ListCall.TheVariants.{Free}
use Rattle.free_lists.specs.Lists.{Lists, regions_in}
use Rattle.free_lists.specs.History.{CallOn, on, lists_after, empty_lists, free_by_history}
use Rattle.fsm_sections.specs.Sections.{space, of_size, distinct, insert, by_size_then_addr}
use Rattle.fsm_blocks.specs.declared.checks.Reading.{Reading}
use Rattle.fsm_sections.specs.Pages.{pieces_from, pieces, split, below_page, from_page}
use Rattle.fsm_plan.specs.Managers.{size_of}
use Rattle.save_step.specs.declared.Save.{Save}
use Rattle.save.specs.Saving.{filled, begun_of, begun}
use Rattle.save.specs.EveryCut.{OneSave, one_save, store_count, image_after, EveryCut}
use Rattle.image.specs.Reading.{image_into}
use Rattle.save.proofs.AfterCallsLaws.{every-cut-after-calls}

pub runs : Which → List ℕ
runs Metadata = 7 ∷ 7 ∷ []
runs Raw = []
runs Unclassified = []

pub calls : List CallOn
calls = on Metadata (Free 200 50) ∷ []

abbrev lists : Lists
lists = lists_after calls (empty_lists runs)

-- version 1 and strategy 1 of the old message
abbrev image : List ℕ
image = 1 ∷ 1 ∷ replicate 375 0

abbrev scratch : List ℕ
scratch = replicate 242 0

-- a header of 82 bytes and a section list of 35
abbrev save : Save
save = record { start = 260; place = 0; len = 117; done = 0 }

abbrev lent : List ℕ
lent = filled 100 260 (regions_in lists) scratch

accepted : begun lists 100 260 0 image scratch ≡ answer (with save lent)
unfolding begun begun_of lists_after calls runs freed first_of is_list stored pieces_from pieces split below_page from_page size_of distinct of_size enc_size least_from space
accepted = refl

abbrev pub one : OneSave
one = one_save (regions_in lists) 100 260 0 image save lent

met : EveryCut one (free_by_history calls (empty_lists runs)) (begun lists 100 260 0)
met = every-cut-after-calls runs calls 100 260 0 image scratch save lent (lit< tt) (lit< tt) accepted

-- and what the saved image reads as, into a run of one pair
abbrev pub counts : List ℕ
counts = 1 ∷ 0 ∷ 0 ∷ 0 ∷ 0 ∷ 0 ∷ 0 ∷ 0 ∷ 0 ∷ 0 ∷ 0 ∷ 0 ∷ []

pub read : (how : Reading) → image_into how 0 (image_after one (store_count one)) (7 ∷ 7 ∷ []) ≡ answer (with counts (200 ∷ 50 ∷ []))
unfolding lists_after calls runs freed first_of is_list stored pieces_from pieces split below_page from_page insert by_size_then_addr
read how = met.into.after_last how (7 ∷ 7 ∷ []) (refl, lit≤ tt)
