-- The test of the ends of a run's sections, one by one. Assumes nothing.
use Rattle.std.proofs.Common.{◌≡◌, ◌+◌, ◌-◌, ◌^◌, ◌<◌, ◌≤◌, true, false, ltb, List, ◌∷◌, sym, ap, ◌∙◌, arith, ltb-false, le-ltb, lt-ltb}
use Rattle.error.proofs.TestLaws.{or_false}
use Rattle.fields.specs.Ranges.{top}
use Rattle.fsm_sections.specs.declared.FreeSection.{FreeSection}
use Rattle.fsm_sections.specs.Pages.{end}
use Rattle.fsm_sections.specs.Runs.{ends_above}

-- a section and those after it
module _ (l : List FreeSection) (x : FreeSection) (m : List FreeSection) (e : l ≡ x ∷ m) where
  pub above-found : top - x.size < x.addr → ends_above l ≡ true
  above-found o = ap ends_above e ∙ rw (lt-ltb top (end x) (omega arith))

  pub above_step : x.addr ≤ top - x.size → x.size ≤ top → ends_above l ≡ ends_above m
  above_step o b = ap ends_above e ∙ rw (le-ltb top (end x) (omega arith))

  -- where none ends above, the first does not
  pub fits-first : ends_above l ≡ false → (x.addr + x.size < 2 ^ 64) × (ends_above m ≡ false)
  fits-first f = let q = or_false (ltb top (end x)) (ends_above m) (sym (ap ends_above e) ∙ f) in (omega (arith, ltb-false top (end x) q.0), q.1)
