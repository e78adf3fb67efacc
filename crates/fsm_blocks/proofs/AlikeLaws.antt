-- What is read is read loosely alike: a reading's checks only refuse. Assumes nothing.
use mathlib.Core.Path.{◌≡◌, sym, ap, ap₂, ◌∙◌}
use mathlib.Core.Bool.{Bool, true, false, cond}
use mathlib.Core.List.{List, [], ◌∷◌}
use Prim.Native.Nat.{ℕ, ◌+◌}
use lib.Dec.{eqb}
use lib.ListN.{drop}
use Rattle.error.specs.Outcome.{Outcome, answer, and_then}
use Rattle.error.proofs.OutcomeLaws.{first_pass, first_shows, then_answers}
use Rattle.fields.specs.Ranges.{undefined_addr}
use Rattle.fsm_sections.specs.declared.FreeSection.{FreeSection}
use Rattle.fsm_blocks.specs.declared.checks.Reading.{Reading}
use Rattle.fsm_blocks.specs.declared.checks.Reading.TheVariants.{Loose}
use Rattle.fsm_blocks.specs.Fshd.{Header, parse_fshd}
use Rattle.fsm_blocks.specs.Reading.{list_at, read_named, manager_at, read_manager, read_slots}
use Rattle.fsm_blocks.specs.Parts.{got, Accepted}

-- no sections, or what follows
skip_alike : {A : Type 0} (t : Bool) (x y : Outcome A) (e l : A) → (x ≡ answer l → y ≡ answer l) → cond t (answer e) x ≡ answer l → cond t (answer e) y ≡ answer l
skip_alike true x y e l f h = h
skip_alike false x y e l f h = f h

module _ (how : Reading) (O base : ℕ) (bytes : List ℕ) where
  list-alike : (slot : ℕ) (h : Header) (l : List FreeSection) → list_at how O base slot h bytes ≡ answer l → list_at Loose O base slot h bytes ≡ answer l
  list-alike slot h l e =
      let q = first_shows _ _ l e in
      first_pass _ _ (q.0.0, (q.0.1.0, tt)) ∙ q.1

  named_alike : (slot : ℕ) (h : Header) (l : List FreeSection) → read_named how O base slot h bytes ≡ answer l → read_named Loose O base slot h bytes ≡ answer l
  unfolding read_named
  named_alike slot h l = skip_alike (eqb h.fsse (undefined_addr O)) _ _ [] l (list-alike slot h l)

  at-alike : (slot : ℕ) (l : List FreeSection) → manager_at how O base slot bytes ≡ answer l → manager_at Loose O base slot bytes ≡ answer l
  unfolding and_then
  at-alike slot l e =
      let q = first_shows _ _ l e in
      let o = parse_fshd O (drop (slot + base) bytes) in
      let r = then_answers o (λ h. read_named how O base slot h bytes) l q.1 in
      first_pass _ _ (q.0.0, (q.0.1.0, tt))
      ∙ ap (λ (x : Outcome Header). and_then x (λ h. read_named Loose O base slot h bytes)) r.1
      ∙ named_alike slot r.0 l r.2

  pub manager-alike : (slot : ℕ) (l : List FreeSection) → read_manager how O base slot bytes ≡ answer l → read_manager Loose O base slot bytes ≡ answer l
  unfolding read_manager
  manager-alike slot l = skip_alike (eqb slot (undefined_addr O)) _ _ [] l (at-alike slot l)

  pub slots-alike : (slots : List ℕ) (ls : List (List FreeSection)) → read_slots how O base slots bytes ≡ answer ls → read_slots Loose O base slots bytes ≡ answer ls
  unfolding read_slots and_then
  slots-alike [] ls e = e
  slots-alike (a ∷ slots) ls e =
      let q = then_answers (read_manager how O base a bytes) _ ls e in
      let r = then_answers (read_slots how O base slots bytes) _ ls q.2 in
      ap₂ (λ (x : Outcome (List FreeSection)) (y : Outcome (List (List FreeSection))). and_then x (λ l. and_then y (λ k. answer (l ∷ k))))
      (manager-alike a q.0 q.1) (slots-alike slots r.0 r.1)
      ∙ r.2

  -- the same of a reading that is accepted
  pub accepted-alike : (slots : List ℕ) → Accepted (read_slots how O base slots bytes) → read_slots Loose O base slots bytes ≡ read_slots how O base slots bytes
  accepted-alike slots a = slots-alike slots (got (read_slots how O base slots bytes)) a ∙ sym a
