-- Laws of a decision that is carried out. Assumes nothing.
--   after         the record and the run after it
use Rattle.std.proofs.Common.{◌≡◌, ℕ, ◌+◌, ◌-◌, true, false, List, length, sym, refl, ap, ◌∙◌, ap₂, arith, le-leb}
use Rattle.std.specs.Prelude.{Ok, Err, Some, None}
use Rattle.free_space.specs.Splices.{Decision, change}
use Rattle.error.specs.Outcome.{Outcome}
use Rattle.error.specs.Lent.{With, with, leaving}
use Rattle.free_regions.specs.Regions.{spliced}
use Rattle.pairs.specs.Pairs.{capacity}
use Rattle.pairs.proofs.PairLaws.{length-spliced}
use Rattle.free_space.specs.declared.list.FreeList.{FreeList}
use Rattle.free_space.specs.declared.run.Patch.{Patch}
use Rattle.free_space.specs.Runs.{record_of, regions, stored}
use Rattle.free_space.specs.declared.list.Given.{Given}
use Rattle.free_space.specs.Calls.{record_after, keeping}
use Rattle.free_space.specs.Splices.{patch}
use Rattle.free_space.specs.Decisions.{Applicable, Gives, Keeps, given_by, kept_by, fits, carried_out}
use Rattle.free_space.proofs.DecodeLaws.{region_form}

-- the two cases of a change
module _ (xs : List ℕ) (l : FreeList) (a lo hi total : ℕ) (p : Patch) where
  pub unfit : fits xs l lo hi (patch p) ≡ false → carried_out xs l (change a lo hi total p) ≡ with l xs
  unfit e = rw e

  pub fit : fits xs l lo hi (patch p) ≡ true → carried_out xs l (change a lo hi total p)
      ≡ with (record { count = lo + length (patch p) + (l.count - hi); total = total }) (stored xs l.count (spliced (regions xs l) lo hi (patch p)))
  fit e = rw e

module _ (xs : List ℕ) (l : FreeList) (a lo hi total : ℕ) (p : Patch) (can : Applicable xs l (change a lo hi total p)) where
  -- the record that is made is that of the regions left
  pub record_left : record { count = lo + length (patch p) + (l.count - hi); total = total } ≡ record_of (spliced (regions xs l) lo hi (patch p))
  record_left =
      ap₂ (λ (n k : ℕ). record { count = n; total = k })
      (sym (length-spliced region_form xs l.count lo hi (patch p) can.0 can.1 can.2))
      can.4

  fits_true : fits xs l lo hi (patch p) ≡ true
  fits_true =
      let n = l.count in
      rw (le-leb lo hi can.0, le-leb hi n can.1, le-leb n (capacity xs) (omega (arith, can.2)))
      (le-leb (lo + length (patch p) + (n - hi)) (capacity xs) (omega (arith, can.3)))

  -- a change that can be carried out is
  pub carried : let rs = spliced (regions xs l) lo hi (patch p) in carried_out xs l (change a lo hi total p) ≡ with (record_of rs) (stored xs l.count rs)
  carried =
      let ys = stored xs l.count (spliced (regions xs l) lo hi (patch p)) in
      fit xs l a lo hi total p fits_true ∙ ap (λ (r : FreeList). with r ys) record_left

-- ---- from the outcome of the call

abbrev pub after : {A : Type 0} → (A → FreeList) → List ℕ → FreeList → Outcome (With A (List ℕ)) → With FreeList (List ℕ)
after list xs l o = with (record_after list l (leaving xs o).outcome) (leaving xs o).memory

pub kept-carried : (xs : List ℕ) (l : FreeList) (d : Decision) (o : Outcome (With FreeList (List ℕ))) → Keeps xs l o d → carried_out xs l d ≡ after keeping xs l o
kept-carried xs l d o k = go d k.1 ∙ ap (after keeping xs l) k.0
  where
    go : (d : Decision) → Applicable xs l d → carried_out xs l d ≡ after keeping xs l (kept_by xs l d)
    go (Err r) can = refl
    go (Ok None) can = refl
    go (Ok (Some c)) can = carried xs l c.addr c.lo c.hi c.total c.patch can

pub gave-carried : (xs : List ℕ) (l : FreeList) (d : Decision) (o : Outcome (With Given (List ℕ))) → Gives xs l o d → carried_out xs l d ≡ after (λ g. g.list) xs l o
gave-carried xs l d o k = go d k.1 ∙ ap (after (λ g. g.list) xs l) k.0
  where
    go : (d : Decision) → Applicable xs l d → carried_out xs l d ≡ after (λ g. g.list) xs l (given_by xs l d)
    go (Err r) can = refl
    go (Ok None) can = refl
    go (Ok (Some c)) can = carried xs l c.addr c.lo c.hi c.total c.patch can
