-- What is tested of the sections of a lent run. Assumes nothing.
--   ends_above   some section ends above 2^64 - 1 (document 01, refusal 4: "address plus length")
--   wide         an address does not fit O bytes (document 01, refusal 12: "a written address doesn't fit the offset size")
--   any_of       a test holds of some section
--   any_wide     some section's address does not fit O bytes
use Rattle.std.specs.Prelude.{ℕ, ◌^◌, Bool, false, ◌||◌, List, [], ◌∷◌, nat_le, nat_lt}
use Rattle.std.specs.List.{list_any}
use Rattle.fields.specs.Ranges.{top}
use Rattle.fsm_sections.specs.declared.FreeSection.{FreeSection}
use Rattle.fsm_sections.specs.Pages.{end}

abbrev pub ends_above : List FreeSection → Bool
ends_above [] = false
ends_above (s ∷ l) = nat_lt top (end s) || ends_above l

abbrev pub wide : ℕ → ℕ → Bool
wide O a = nat_le (256 ^ O) a

abbrev pub any_of : (FreeSection → Bool) → List FreeSection → Bool
any_of test l = list_any test l

abbrev pub any_wide : ℕ → List FreeSection → Bool
any_wide O l = any_of (λ s. wide O s.addr) l
