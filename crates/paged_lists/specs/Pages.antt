-- Pages of a file and their marks. Page q has the bytes from q * page up to q * page + page. Assumes nothing.
-- In quotes: document 02's words, from P4.
--   mark_at     the mark of a byte's page ("a lent mark per page"); 0 where the page has none
--   marks_fit   no mark is above 2 ("a greater mark .. is 3")
--   pages_fit   each region lies in pages that have a mark ("or a listed page without one")
--   last_page   the page of a range's last byte
--   all_marked  a number of pages in a row have this mark
--   other_kind  refusal 15: "a freed byte lies in a page not marked with the stated kind"
--   covers      one region has all bytes of a range
--   whole_page  one region has all bytes of a page
--   whole_from, whole_up_to  the "pages of a freed range that are then all free": the first of them, and one past the last
--   marked      marks, of which those of a number of pages in a row are set
use Rattle.std.specs.Prelude.{ℕ, zero, suc, ◌+◌, ◌-◌, ◌*◌, ◌/◌, Bool, true, false, cond, ◌&&◌, ◌||◌, not, List, [], ◌∷◌, leb, ltb, eqb, get_or, replicate}
use Rattle.error.specs.Lent.{over}
use Rattle.free_regions.specs.declared.FreeRegion.{FreeRegion}
use Rattle.free_regions.specs.Regions.{end}

abbrev pub mark_at : ℕ → List ℕ → ℕ → ℕ
mark_at page ms x = get_or ms (x / page) 0

-- ---- refusal 3

abbrev pub marks_fit : List ℕ → Bool
marks_fit [] = true
marks_fit (m ∷ ms) = leb m 2 && marks_fit ms

-- n is the number of marks
abbrev pub pages_fit : ℕ → ℕ → List FreeRegion → Bool
pages_fit page n [] = true
pages_fit page n (r ∷ rs) = ltb ((end r - 1) / page) n && pages_fit page n rs

-- ---- refusal 15

abbrev pub last_page : ℕ → ℕ → ℕ → ℕ
last_page page a len = (a + len - 1) / page

-- n pages from q on
abbrev pub all_marked : ℕ → ℕ → ℕ → List ℕ → Bool
all_marked mark zero q ms = true
all_marked mark (suc n) q ms = eqb (get_or ms q 0) mark && all_marked mark n (suc q) ms

-- a range of no bytes meets no page
abbrev pub other_kind : ℕ → ℕ → ℕ → ℕ → List ℕ → Bool
other_kind page mark a len ms = cond (eqb len 0) false (not (all_marked mark (suc (last_page page a len - a / page)) (a / page) ms))

-- ---- pages that are all free

abbrev pub covers : ℕ → ℕ → List FreeRegion → Bool
covers a e [] = false
covers a e (r ∷ rs) = (leb r.addr a && leb e (end r)) || covers a e rs

abbrev pub whole_page : ℕ → List FreeRegion → ℕ → Bool
whole_page page rs q = covers (q * page) (q * page + page) rs

-- a page between the first and the last one that a range meets lies within the range, so these two alone are tested
abbrev pub whole_from : ℕ → List FreeRegion → ℕ → ℕ
whole_from page rs a = cond (whole_page page rs (a / page)) (a / page) (suc (a / page))

abbrev pub whole_up_to : ℕ → List FreeRegion → ℕ → ℕ → ℕ
whole_up_to page rs a len = cond (whole_page page rs (last_page page a len)) (suc (last_page page a len)) (last_page page a len)

-- ---- marks

-- n pages from q on
abbrev pub marked : ℕ → ℕ → ℕ → List ℕ → List ℕ
marked q n mark ms = over q (replicate n mark) ms
