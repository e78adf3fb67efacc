-- The two forms of `split_at_pages` say the same: records laid flat are the pairs. Assumes nothing.
use mathlib.Core.Path.{◌≡◌, refl, ap}
use Prim.Native.Nat.{ℕ, ◌*◌, ◌/◌, ◌%◌, ◌≤◌}
use native.Mathlib.Omega.{arith}
use mathlib.Core.Bool.{Bool, true, false, cond, not}
use mathlib.Core.List.{List, [], ◌∷◌}
use lib.Dec.{ltb, eqb}
use lib.ListN.{length}
use borrow.Author.Tests.{eq-eqb, ltb-false}
use Rattle.error.specs.Outcome.{Outcome, answer, nothing, refuse, first_of, sat}
use Rattle.error.specs.Lent.{With, with, over}
use Rattle.pairs.specs.Pairs.{is_run}
use Rattle.pairs.proofs.PairLaws.{length-flat}
use Rattle.fsm_sections.specs.declared.FreeSection.{FreeSection}
use Rattle.fsm_sections.specs.Sections.{decode, flat}
use Rattle.fsm_sections.specs.Pages.{split}
use Rattle.fsm_sections.specs.Runs.{ends_above}
use Rattle.fsm_sections.proofs.SectionsLaws.{section_form}
use Rattle.fsm_pages.specs.Split.{split_into}
use Rattle.split_records.specs.Records.{at_front, split_records}

-- written over pairs, or put at the front of records
flat-front : (l out : List FreeSection) → length l ≤ length out → over 0 (flat l) (flat out) ≡ flat (at_front l out)
flat-front [] [] h = refl
flat-front [] (r ∷ out) h = refl
flat-front (s ∷ l) [] h = absurd (omega arith)
flat-front (s ∷ l) (r ∷ out) h = ap (λ (m : List ℕ). s.addr ∷ s.size ∷ m) (flat-front l out (omega arith))

-- an outcome with its records laid flat
abbrev pub flattened : Outcome (With ℕ (List FreeSection)) → Outcome (With ℕ (List ℕ))
flattened (answer a) = answer (with a.value (flat a.memory))
flattened nothing = nothing
flattened (refuse n vs) = refuse n vs

pub records_are_pairs : (xs : List ℕ) (n page : ℕ) (out : List FreeSection) → split_into xs n page (flat out) ≡ flattened (split_records xs n page out)
unfolding split_into split_records first_of
records_are_pairs xs n page out =
    rw (eq-eqb (length (flat out) % 2) 0 even, half) (tests (eqb page 0) (not (is_run xs n)) (ends_above (decode n xs)) (ltb (length out) (length all)) refl)
  where
    all : List FreeSection
    all = split page (decode n xs)

    even : length (flat out) % 2 ≡ 0
    even = let e : length (flat out) ≡ 2 * length out = length-flat section_form out in omega arith

    half : length (flat out) / 2 ≡ length out
    half = let e : length (flat out) ≡ 2 * length out = length-flat section_form out in omega arith

    tests : (a b c t : Bool) → ltb (length out) (length all) ≡ t
        → cond a (refuse 2 []) (cond b (refuse 3 []) (cond c (refuse 4 []) (cond t (refuse 14 (sat (length all) ∷ length out ∷ [])) (answer (with (length all) (over 0 (flat all) (flat out)))))))
        ≡ flattened (cond a (refuse 2 []) (cond b (refuse 3 []) (cond c (refuse 4 []) (cond t (refuse 14 (sat (length all) ∷ length out ∷ [])) (answer (with (length all) (at_front all out)))))))
    tests true b c t e = refl
    tests false true c t e = refl
    tests false false true t e = refl
    tests false false false true e = refl
    tests false false false false e = ap (λ (m : List ℕ). answer (with (length all) m)) (flat-front all out (ltb-false (length out) (length all) e))
