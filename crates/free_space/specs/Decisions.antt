-- What a decision stands for: a call decides first, and then carries its decision out. A call that is made of several, on one list or on more,
-- decides all of them before it carries any out (document 02, P4: "if one of these is refused, the whole call is"). Assumes nothing.
--   number_in  the number of the refusal that a decision is, 0 where it is none (`refusal_number`)
--   fitted     a change, where the run has room for the regions that it leaves; else refusal 14
--   given_by   the outcome of a decision, for a call that gives an address out
--   kept_by    the same for one that gives nothing out
--   Applicable a decision that can be carried out
--   Gives      a decision with this outcome that can be carried out, for a call that gives an address out
--   Keeps      the same for one that gives nothing out
--   InOne      what is freed lies in the one region of a patch
--   Folds      a decision of `free`: nothing changes for length 0 alone; else what is freed lies in the one region that takes the place of those
--              that it touches
--   fits       the regions to be replaced are some of the list, and the run has room for those that are left
--   carried_out the record and the run after a decision is carried out (`carry_out`); one that does not fit the list changes nothing
use Rattle.std.specs.Prelude.{◌≡◌, ℕ, ◌+◌, ◌-◌, ◌*◌, ◌≤◌, Bool, cond, ◌&&◌, List, length, nat_le, nat_lt, Ok, Err, Some, None}
use Rattle.free_space.specs.Splices.{Decision, change}
use Rattle.error.specs.declared.Refusal.TheVariants.{OverCapacity}
use Rattle.error.specs.Refusals.{number_of}
use Rattle.error.specs.Outcome.{Outcome, answer, nothing, refused}
use Rattle.error.specs.Lent.{With, with}
use Rattle.free_regions.specs.declared.FreeRegion.{FreeRegion}
use Rattle.free_regions.specs.Regions.{end, sum_of_lengths, spliced}
use Rattle.pairs.specs.Pairs.{capacity}
use Rattle.free_space.specs.declared.list.FreeList.{FreeList}
use Rattle.free_space.specs.declared.run.Patch.{Patch}
use Rattle.free_space.specs.declared.run.Patch.TheVariants.{Empty, One, Two}
use Rattle.free_space.specs.Runs.{regions, stored}
use Rattle.free_space.specs.declared.list.Given.{Given}
use Rattle.free_space.specs.Calls.{giving, keeping, leave}
use Rattle.free_space.specs.Splices.{patch}

abbrev pub number_in : Decision → ℕ
number_in (Err r) = number_of r
number_in (Ok None) = 0
number_in (Ok (Some c)) = 0

abbrev pub fitted : ℕ → ℕ → ℕ → ℕ → ℕ → ℕ → Patch → Decision
fitted given n a lo hi total p =
    let needed = lo + length (patch p) + (n - hi) in
    cond (nat_lt given needed) (Err (OverCapacity needed given)) (change a lo hi total p)

abbrev pub given_by : List ℕ → FreeList → Decision → Outcome (With Given (List ℕ))
given_by xs l (Err r) = refused r
given_by xs l (Ok None) = nothing
given_by xs l (Ok (Some c)) = leave (giving c.addr) xs l (spliced (regions xs l) c.lo c.hi (patch c.patch))

abbrev pub kept_by : List ℕ → FreeList → Decision → Outcome (With FreeList (List ℕ))
kept_by xs l (Err r) = refused r
kept_by xs l (Ok None) = answer (with l xs)
kept_by xs l (Ok (Some c)) = leave keeping xs l (spliced (regions xs l) c.lo c.hi (patch c.patch))

abbrev pub Applicable : List ℕ → FreeList → Decision → Type 0
Applicable xs l (Err r) = Unit {0}
Applicable xs l (Ok None) = Unit {0}
Applicable xs l (Ok (Some c)) =
    (c.lo ≤ c.hi) × (c.hi ≤ l.count) × (2 * l.count ≤ length xs) × (2 * (c.lo + length (patch c.patch) + (l.count - c.hi)) ≤ length xs)
    × (c.total ≡ sum_of_lengths (spliced (regions xs l) c.lo c.hi (patch c.patch)))

abbrev pub Gives : List ℕ → FreeList → Outcome (With Given (List ℕ)) → Decision → Type 0
Gives xs l o d = (given_by xs l d ≡ o) × Applicable xs l d

abbrev pub Keeps : List ℕ → FreeList → Outcome (With FreeList (List ℕ)) → Decision → Type 0
Keeps xs l o d = (kept_by xs l d ≡ o) × Applicable xs l d

abbrev pub InOne : ℕ → ℕ → Patch → Type 0
InOne a len Empty = ⊥
InOne a len (One r) = (r.addr ≤ a) × (a + len ≤ end r)
InOne a len (Two r s) = ⊥

abbrev pub Folds : ℕ → ℕ → Decision → Type 0
Folds a len (Err r) = Unit {0}
Folds a len (Ok None) = len ≡ 0
Folds a len (Ok (Some c)) = InOne a len c.patch

-- ---- carrying out

abbrev pub fits : List ℕ → FreeList → ℕ → ℕ → List FreeRegion → Bool
fits xs l lo hi p = nat_le lo hi && (nat_le hi l.count && (nat_le l.count (capacity xs) && nat_le (lo + length p + (l.count - hi)) (capacity xs)))

abbrev pub carried_out : List ℕ → FreeList → Decision → With FreeList (List ℕ)
carried_out xs l (Err r) = with l xs
carried_out xs l (Ok None) = with l xs
carried_out xs l (Ok (Some c)) =
    cond (fits xs l c.lo c.hi (patch c.patch))
    (with (record { count = c.lo + length (patch c.patch) + (l.count - c.hi); total = c.total })
    (stored xs l.count (spliced (regions xs l) c.lo c.hi (patch c.patch))))
    (with l xs)
