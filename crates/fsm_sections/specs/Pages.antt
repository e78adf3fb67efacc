-- Regions cut at every page multiple, and the sections of the slots. Assumes nothing.
-- In quotes: document 01's words, from "Pages and slots".
--   end           one past a region's last byte
--   page_end      the first page multiple above an address
--   cut_at        where the piece that begins at a ends, of bytes up to e
--   pieces_from   the bytes from a up to e, cut at every page multiple
--   pieces        a region cut at every page multiple: "empty sections vanish"
--   split         "`split_at_pages` cuts at every page multiple": the pieces of regions, in order
--   below_page    the "pieces below a page"; from_page the others, "whole pages"
--   slot0, slot2, slot6   "metadata pieces below a page go to slot 0, raw ones to slot 2, whole pages of either to slot 6 with unclassified
--                 sections unsplit"; an FSSE puts them into its own order
--   among         1 if the byte at b is among those from a up to e, else 0
--   holding       how many sections hold the byte at b: for `addresses` of demand 3
use Rattle.std.specs.Prelude.{ℕ, zero, suc, ◌+◌, ◌-◌, ◌*◌, ◌/◌, min, cond, ◌&&◌, List, [], ◌∷◌, ◌++◌, nat_le, nat_lt}
use Rattle.fsm_sections.specs.declared.FreeSection.{FreeSection}
use Rattle.fsm_sections.specs.Sections.{section}

abbrev pub end : FreeSection → ℕ
end s = s.addr + s.size

abbrev pub page_end : ℕ → ℕ → ℕ
page_end page a = suc (a / page) * page

abbrev pub cut_at : ℕ → ℕ → ℕ → ℕ
cut_at page a e = min e (page_end page a)

-- the fuel is at least the number of bytes: each piece takes one of them at least
unfoldable pub pieces_from : ℕ → ℕ → ℕ → ℕ → List FreeSection
pieces_from zero page a e = []
pieces_from (suc fuel) page a e = cond (nat_lt a e) (section a (cut_at page a e - a) ∷ pieces_from fuel page (cut_at page a e) e) []

unfoldable pub pieces : ℕ → FreeSection → List FreeSection
pieces page r = pieces_from r.size page r.addr (end r)

unfoldable pub split : ℕ → List FreeSection → List FreeSection
split page [] = []
split page (r ∷ rs) = pieces page r ++ split page rs

unfoldable pub below_page : ℕ → List FreeSection → List FreeSection
below_page page [] = []
below_page page (s ∷ l) = cond (nat_lt s.size page) (s ∷ below_page page l) (below_page page l)

unfoldable pub from_page : ℕ → List FreeSection → List FreeSection
from_page page [] = []
from_page page (s ∷ l) = cond (nat_lt s.size page) (from_page page l) (s ∷ from_page page l)

abbrev pub slot0 : ℕ → List FreeSection → List FreeSection
slot0 page meta = below_page page (split page meta)

abbrev pub slot2 : ℕ → List FreeSection → List FreeSection
slot2 page raw = below_page page (split page raw)

abbrev pub slot6 : ℕ → List FreeSection → List FreeSection → List FreeSection → List FreeSection
slot6 page meta raw uncl = from_page page (split page meta) ++ (from_page page (split page raw) ++ uncl)

unfoldable pub among : ℕ → ℕ → ℕ → ℕ
among a e b = cond (nat_le a b && nat_lt b e) 1 0

unfoldable pub holding : ℕ → List FreeSection → ℕ
holding b [] = 0
holding b (s ∷ l) = among s.addr (end s) b + holding b l
