-- A reading of managers ends in an answer or a refusal, never in Nothing. Assumes nothing.
--   NotNothing   an outcome that is not Nothing
use mathlib.Core.Bool.{Bool, true, false, cond}
use mathlib.Core.List.{List, [], ◌∷◌}
use Prim.Native.Nat.{ℕ, zero, suc, ◌+◌}
use lib.Dec.{eqb}
use lib.ListN.{drop}
use Rattle.error.specs.Outcome.{Outcome, answer, nothing, refuse, refused, Condition, first_of, and_then}
use Rattle.fields.specs.Ranges.{undefined_addr}
use Rattle.fsm_blocks.specs.Fshd.{Header, parse_fshd}
use Rattle.fsm_blocks.specs.Groups.{Widths, entry_size, read_entries, read_groups}
use Rattle.fsm_blocks.specs.Fsse.{parse_fsse}
use Rattle.fsm_blocks.specs.declared.checks.Reading.{Reading}
use Rattle.fsm_blocks.specs.Reading.{read_named, read_manager, read_slots}

abbrev pub NotNothing : {A : Type 0} → Outcome A → Type 0
NotNothing (answer a) = Unit {0}
NotNothing nothing = ⊥
NotNothing (refuse n vs) = Unit {0}

pub first_ends : {A : Type 0} (cs : List Condition) (x : Outcome A) → NotNothing x → NotNothing (first_of cs x)
unfolding first_of
first_ends [] x h = h
first_ends (c ∷ cs) x h = pick c.holds (first_ends cs x h)
  where
    pick : (t : Bool) → NotNothing (first_of cs x) → NotNothing (cond t (refused c.refusal) (first_of cs x))
    pick true g = tt
    pick false g = g

pub then_ends : {A B : Type 0} (x : Outcome A) (f : A → Outcome B) → NotNothing x → ((a : A) → NotNothing (f a)) → NotNothing (and_then x f)
unfolding and_then
then_ends (answer a) f h g = g a
then_ends nothing f h g = absurd h
then_ends (refuse n vs) f h g = tt

skip_ends : {A : Type 0} (t : Bool) (a : A) (x : Outcome A) → NotNothing x → NotNothing (cond t (answer a) x)
skip_ends true a x h = tt
skip_ends false a x h = h

module _ (w : Widths) where
  entries_end : (c left : ℕ) (bs : List ℕ) → NotNothing (read_entries w c left bs)
  unfolding read_entries
  entries_end zero left bs = tt
  entries_end (suc c) zero bs = tt
  entries_end (suc c) (suc left) bs = first_ends _ _ (then_ends _ _ (entries_end c left (drop (entry_size w) bs)) (λ e. tt))

  groups_end : (fuel left : ℕ) (bs : List ℕ) → NotNothing (read_groups w fuel left bs)
  unfolding read_groups
  groups_end zero zero bs = tt
  groups_end zero (suc left) bs = tt
  groups_end (suc fuel) zero bs = tt
  groups_end (suc fuel) (suc left) bs =
      first_ends _ _ (then_ends _ _ (entries_end _ _ _) (λ e. then_ends _ _ (groups_end fuel e.left e.rest) (λ l. tt)))

module _ (how : Reading) (O base : ℕ) where
  header-ends : (bs : List ℕ) → NotNothing (parse_fshd O bs)
  header-ends bs = first_ends _ _ tt

  list-ends : (bits greatest n : ℕ) (bs : List ℕ) → NotNothing (parse_fsse O bits greatest n bs)
  unfolding parse_fsse
  list-ends bits greatest n bs = first_ends _ _ (groups_end _ _ _ _)

  named_ends : (slot : ℕ) (h : Header) (bytes : List ℕ) → NotNothing (read_named how O base slot h bytes)
  unfolding read_named
  named_ends slot h bytes = skip_ends (eqb h.fsse (undefined_addr O)) [] _ (first_ends _ _ (list-ends _ _ _ _))

  manager-ends : (slot : ℕ) (bytes : List ℕ) → NotNothing (read_manager how O base slot bytes)
  unfolding read_manager
  manager-ends slot bytes = skip_ends (eqb slot (undefined_addr O)) [] _ (first_ends _ _ (then_ends _ _ (header-ends (drop (slot + base) bytes)) (λ h. named_ends slot h bytes)))

  pub slots_end : (slots bytes : List ℕ) → NotNothing (read_slots how O base slots bytes)
  unfolding read_slots
  slots_end [] bytes = tt
  slots_end (a ∷ slots) bytes = then_ends _ _ (manager-ends a bytes) (λ x. then_ends _ _ (slots_end slots bytes) (λ y. tt))
