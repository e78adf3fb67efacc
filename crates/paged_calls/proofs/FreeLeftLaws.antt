-- A paged `free` by what its tests told, and what freeing by the decision of the code leaves, in three lists. Assumes nothing.
use mathlib.Core.Path.{◌≡◌, refl, sym, ap, ◌∙◌, subst}
use mathlib.Core.List.{List}
use Prim.Native.Nat.{ℕ}
use Rattle.std.specs.Prelude.{Result}
use Rattle.error.specs.declared.Refusal.{Refusal}
use Rattle.error.specs.Outcome.{Outcome, and_then}
use Rattle.free_lists.specs.declared.FileLists.{FileLists}
use Rattle.free_lists.specs.declared.calls.ListCall.TheVariants as list
use Rattle.free_lists.specs.declared.calls.Which.TheVariants.{Unclassified}
use Rattle.free_lists.specs.Lists.{LentList, list_in, regions_of}
use Rattle.paged_lists.specs.declared.PageType.{PageType}
use Rattle.paged_lists.specs.declared.PageType.TheVariants.{Meta, Raw}
use Rattle.paged_lists.specs.declared.PagedCall.TheVariants.{Free}
use Rattle.paged_lists.specs.Kinds.{list_of}
use Rattle.paged_lists.specs.Pages.{whole_from, whole_up_to}
use Rattle.paged_lists.specs.PagedCalls.{PagedLists, paged_in, Made, outcome_of, left_by, returned, paged_free, performed}
use Rattle.paged_calls.specs.declared.free_pages.Freed.{Freed}
use Rattle.paged_calls.specs.declared.records.Step.{Step}
use Rattle.paged_calls.specs.declared.records.Called.{Called}
use Rattle.paged_calls.specs.Decisions.{leaves, left_of, step_outcome, PagedDecision, stands_for, effect_of, GivesBack, rejoined, BacksTo}
use Rattle.paged_calls.proofs.CarryLaws.{in-metadata, in-raw, called-metadata, called-raw, own-metadata, put-metadata, own-raw, put-raw}

-- ---- by the tests

module _ (page : ℕ) (k : PageType) (a len : ℕ) (s : PagedLists) where
  pub free_as : {o : Outcome Made} → paged_free page k a len s ≡ o → effect_of (Free k a len) o s ≡ performed page (Free k a len) s
  free_as e = sym (ap (λ (o : Outcome Made). effect_of (Free k a len) o s) e)

-- ---- in three lists

module _ (page : ℕ) (k : PageType) (fr : Freed) (xs ys zs ms : List ℕ) (f : FileLists) where
  abbrev s : PagedLists
  s = paged_in xs ys zs ms f

  abbrev Leaves : (FileLists → PagedLists) → Result Called Refusal → Type 0
  Leaves in_runs c = leaves in_runs f c ≡ effect_of (Free k fr.addr fr.len) (rejoined page k fr.addr fr.len s) s

  abbrev with-list : LentList → Outcome Made
  with-list l =
      and_then (outcome_of (list.Free fr.addr fr.len) l)
      (λ freed. returned page k fr.addr fr.len (whole_from page (regions_of (left_by (list.Free fr.addr fr.len) l)) fr.addr)
      (whole_up_to page (regions_of (left_by (list.Free fr.addr fr.len) l)) fr.addr fr.len) s)

  by_decision : (own shared : LentList) (d : PagedDecision) → s.lists (list_of k) ≡ own → s.lists Unclassified ≡ shared → GivesBack page fr own shared d
      → stands_for (Free k fr.addr fr.len) d s ≡ effect_of (Free k fr.addr fr.len) (rejoined page k fr.addr fr.len s) s
  by_decision own shared d e g gives = gives k s e g ∙ ap (λ (x : LentList). effect_of (Free k fr.addr fr.len) (with-list x) s) (sym e)

  module _ (ps rs ns : List ℕ) (step : Result Step Refusal) where
    pub leaves-metadata : k ≡ Meta
        → BacksTo page fr (list_in xs f.metadata) (list_in zs f.unclassified) ms (step_outcome step) (list_in ps (left_of (in-metadata f) step).own) (list_in rs (left_of (in-metadata f) step).shared) ns
        → {t : Result Step Refusal} → step ≡ t → Leaves (paged_in ps ys rs ns) (called-metadata f t)
    leaves-metadata kind backs is =
        subst (λ (t : Result Step Refusal). Leaves (paged_in ps ys rs ns) (called-metadata f t)) is
        (put-metadata xs ys zs ms f (Free k fr.addr fr.len) backs.0 ps rs ns kind step (backs.2 k).0 (backs.2 k).1
        ∙ by_decision (list_in xs f.metadata) (list_in zs f.unclassified) backs.0 (own-metadata xs ys zs ms f k kind) refl backs.1)

    pub leaves-raw : k ≡ Raw
        → BacksTo page fr (list_in ys f.raw) (list_in zs f.unclassified) ms (step_outcome step) (list_in ps (left_of (in-raw f) step).own) (list_in rs (left_of (in-raw f) step).shared) ns
        → {t : Result Step Refusal} → step ≡ t → Leaves (paged_in xs ps rs ns) (called-raw f t)
    leaves-raw kind backs is =
        subst (λ (t : Result Step Refusal). Leaves (paged_in xs ps rs ns) (called-raw f t)) is
        (put-raw xs ys zs ms f (Free k fr.addr fr.len) backs.0 ps rs ns kind step (backs.2 k).0 (backs.2 k).1
        ∙ by_decision (list_in ys f.raw) (list_in zs f.unclassified) backs.0 (own-raw xs ys zs ms f k kind) refl backs.1)
