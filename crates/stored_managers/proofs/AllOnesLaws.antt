-- The claim of document 02's P2: what is skipped, what is not, and plans at every offset size. Assumes nothing.
use mathlib.Core.Path.{◌≡◌, refl, sym, ◌∙◌}
use Prim.Native.Nat.{ℕ, ◌+◌, ◌^◌, ◌≤◌, ◌<◌}
use native.Mathlib.Nat.{pow-le-pow_right}
use native.Mathlib.Omega.{arith}
use mathlib.Core.Bool.{Bool, true, false, cond}
use mathlib.Core.List.{List, [], ◌∷◌}
use lib.Dec.{ltb, eqb, lit≤}
use lib.ListN.{length, drop, length-drop}
use borrow.Author.Tests.{ltb-false, lt-ltb, eq-eqb, ne_eqb}
use Rattle.error.specs.declared.Refusal.TheVariants.{InvalidManager}
use Rattle.error.specs.Outcome.{Outcome, answer, refused, when, first_of}
use Rattle.error.proofs.OutcomeLaws.{first_holds, first_passes, first_shows, then_answers}
use Rattle.fields.specs.Ranges.{top, undefined_addr}
use Rattle.fsm_sections.specs.declared.FreeSection.{FreeSection}
use Rattle.fsm_blocks.specs.Fshd.{Header, fshd_size, parse_fshd}
use Rattle.fsm_blocks.specs.Checks.{fshd_checks}
use Rattle.fsm_blocks.specs.declared.checks.Reading.{Reading}
use Rattle.fsm_blocks.specs.Reading.{list_at, read_named, manager_at, read_manager}
use Rattle.fsm_plan.proofs.LimitLaws.{same-at_8}
use Rattle.stored_managers.specs.AllOnes.{AllOnes}
use Rattle.stored_managers.proofs.PlanLaws.{plan_is}
use Rattle.stored_managers.proofs.StoredLaws.{stored_plan}

module _ (how : Reading) (O base : ℕ) (bytes : List ℕ) where
  slot_skipped : read_manager how O base (undefined_addr O) bytes ≡ answer []
  unfolding read_manager
  slot_skipped = rw (eq-eqb (undefined_addr O) (undefined_addr O) refl)

  list_skipped : (slot : ℕ) (h : Header) → h.fsse ≡ undefined_addr O → read_named how O base slot h bytes ≡ answer []
  unfolding read_named
  list_skipped slot h e = rw (eq-eqb h.fsse (undefined_addr O) e)

  slot-other : (slot : ℕ) → (slot ≡ undefined_addr O → ⊥) → read_manager how O base slot bytes ≡ manager_at how O base slot bytes
  unfolding read_manager
  slot-other slot d = rw (ne_eqb slot (undefined_addr O) d)

  list-other : (slot : ℕ) (h : Header) → (h.fsse ≡ undefined_addr O → ⊥) → read_named how O base slot h bytes ≡ list_at how O base slot h bytes
  unfolding read_named
  list-other slot h d = rw (ne_eqb h.fsse (undefined_addr O) d)

  list-there : (slot : ℕ) (h : Header) (l : List FreeSection) → (h.fsse ≡ undefined_addr O → ⊥) → read_named how O base slot h bytes ≡ answer l → h.fsse + base + h.used ≤ length bytes
  list-there slot h l d e =
      let q = first_shows _ _ l (sym (list-other slot h d) ∙ e) in
      ltb-false (length bytes) (h.fsse + base + h.used) q.0.1.0

  slot-there : (slot : ℕ) (l : List FreeSection) → (slot ≡ undefined_addr O → ⊥) → read_manager how O base slot bytes ≡ answer l → slot + base + fshd_size O ≤ length bytes
  slot-there slot l d e =
      let q = first_shows _ _ l (sym (slot-other slot d) ∙ e) in
      let r = then_answers (parse_fshd O (drop (slot + base) bytes)) (λ h. read_named how O base slot h bytes) l q.1 in
      let t = first_shows _ _ r.0 r.1 in
      let k : fshd_size O ≤ length (drop (slot + base) bytes) = ltb-false (length (drop (slot + base) bytes)) (fshd_size O) t.0.0 in
      let i : slot + base ≤ length bytes = ltb-false (length bytes) (slot + base) q.0.1.0 in
      omega (arith, length-drop (slot + base) bytes)

  -- 2^64 - 1 lies past all bytes
  greatest-refused : O < 8 → length bytes < top → read_manager how O base top bytes ≡ refused InvalidManager
  greatest-refused o short =
      let m : O ≤ 7 = omega arith in
      let p : 256 ^ O ≤ 256 ^ 7 = pow-le-pow_right (lit≤ tt) m in
      slot-other top (λ e. omega arith) ∙ past (ltb top (top + base)) _
    where
      past : (t : Bool) (x : Outcome (List FreeSection))
          → first_of (when t InvalidManager ∷ when (ltb (length bytes) (top + base)) InvalidManager ∷ fshd_checks how O (drop (top + base) bytes)) x ≡ refused InvalidManager
      past true x = first_holds _ InvalidManager _ x refl
      past false x = first_passes _ InvalidManager _ x refl ∙ first_holds _ InvalidManager _ x (lt-ltb (length bytes) (top + base) (omega arith))

-- at 8 bytes, by computation
slot-at_8 : (how : Reading) (base slot : ℕ) (bytes : List ℕ) → read_manager how 8 base slot bytes ≡ cond (eqb slot top) (answer []) (manager_at how 8 base slot bytes)
unfolding read_manager
slot-at_8 how base slot bytes = refl

list-at_8 : (how : Reading) (base slot : ℕ) (h : Header) (bytes : List ℕ) → read_named how 8 base slot h bytes ≡ cond (eqb h.fsse top) (answer []) (list_at how 8 base slot h bytes)
unfolding read_named
list-at_8 how base slot h bytes = refl

pub all_ones : AllOnes
all_ones = record {
  slot_skipped = slot_skipped;
  slot-other = λ how O base slot bytes. slot-other how O base bytes slot;
  slot-there = λ how O base slot bytes. slot-there how O base bytes slot;
  list_skipped = λ how O base slot h bytes. list_skipped how O base bytes slot h;
  list-other = λ how O base slot h bytes. list-other how O base bytes slot h;
  list-there = λ how O base slot h bytes. list-there how O base bytes slot h;
  greatest-refused = λ how O base bytes o short. greatest-refused how O base bytes (omega arith) short;
  stored = stored_plan;
  plan_is = λ a b c n page start O. plan_is a b c start O n page;
  slot-at_8 = slot-at_8;
  list-at_8 = list-at_8;
  plan_at_8 = λ a b c n page start. same-at_8 _ (lit≤ tt) a b c n page start;
}
