-- What pins the tests over pages, whatever marks and regions (document 02, P4). Assumes nothing.
--   Meets        a page meets a range: some byte of the range lies in it
--   PagesSay     refusal 15's condition, and the pages that go back, byte by byte
--     other-kind   15 is given exactly where "a freed byte lies in a page not marked with the stated kind"; a page without a mark has none
--     whole        where the bytes of a range are free, the pages that go back are exactly those that it meets and "that are then all free"
use Rattle.std.specs.Prelude.{ℕ, ◌+◌, ◌/◌, ◌<◌, ◌≡◌, ◌↔◌, true, List}
use Rattle.free_regions.specs.declared.FreeRegion.{FreeRegion}
use Rattle.free_regions.specs.Regions.{Free, ok_from}
use Rattle.free_regions.specs.Sets.{Between}
use Rattle.paged_lists.specs.Pages.{mark_at, other_kind, whole_from, whole_up_to}

module _ (page : ℕ) where
  abbrev pub Meets : ℕ → ℕ → ℕ → Type 0
  Meets a len q = (x : ℕ) × Between a (a + len) x × (x / page ≡ q)

  pub record PagesSay : Type 0 where
    pub other-kind : (mark a len : ℕ) (ms : List ℕ) → (other_kind page mark a len ms ≡ true) ↔ ((x : ℕ) × Between a (a + len) x × (mark_at page ms x ≡ mark → ⊥))
    pub whole : (rs : List FreeRegion) (a len q : ℕ) → ok_from 0 rs ≡ true → 0 < len → ((x : ℕ) → Between a (a + len) x → Free rs x)
        → Between (whole_from page rs a) (whole_up_to page rs a len) q ↔ (Meets a len q × ((x : ℕ) → x / page ≡ q → Free rs x))
