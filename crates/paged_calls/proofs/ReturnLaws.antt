-- What the code that gives pages back answers and leaves. Assumes nothing.
use mathlib.Core.Path.{◌≡◌, refl, sym, ap, ◌∙◌, subst}
use mathlib.Core.List.{List, []}
use Prim.Native.Nat.{ℕ, ◌+◌, ◌-◌, ◌*◌, ◌≤◌, ◌<◌}
use native.Mathlib.Nat.{add-mul}
use native.Mathlib.Omega.{arith}
use Rattle.std.specs.Prelude.{Option, Ok, Err}
use Rattle.free_space.specs.Splices.{Decision}
use Rattle.error.specs.declared.Refusal.{Refusal}
use Rattle.error.specs.Outcome.{Outcome, answer, refused}
use Rattle.error.specs.Lent.{with}
use Rattle.fields.specs.Ranges.{top}
use Rattle.free_space.specs.declared.list.FreeList.{FreeList}
use Rattle.free_space.specs.declared.decide.Replacement.{Replacement}
use Rattle.free_space.specs.Calls.{freed}
use Rattle.free_space.specs.Decisions.{Keeps, carried_out}
use Rattle.free_lists.specs.declared.calls.ListCall.TheVariants.{TakeRange}
use Rattle.free_lists.specs.Lists.{LentList, list_in}
use Rattle.paged_lists.specs.declared.PageType.{PageType}
use Rattle.paged_lists.specs.declared.PagedCall.TheVariants as call
use Rattle.paged_lists.specs.Pages.{marked}
use Rattle.paged_lists.specs.PagedCalls.{left_by}
use Rattle.paged_calls.specs.declared.free_pages.Freed.{Freed}
use Rattle.paged_calls.specs.Decisions.{PagedDecision, Refused, Nothing, Own, Drawn, Returned, answer_of, returned_with, GivesBack, ReturnsTo, BacksTo}
use Rattle.paged_calls.proofs.CarryLaws.{in_list_lem}

pub pages-fit : (p e page : ℕ) → p < e → e * page ≤ top → (p * page ≤ top) × ((e - p) * page ≤ top)
pages-fit p e page h k =
    let s : p + (e - p) ≡ e = omega arith in
    let t : p * page + (e - p) * page ≡ e * page = sym (add-mul p (e - p) page) ∙ ap (λ (n : ℕ). n * page) s in
    (omega arith, omega arith)

-- xs and l are the kind's list before, us and u the shared one
module _ (page : ℕ) (d : Decision) (p e : ℕ) (xs us ms : List ℕ) (l u : FreeList) (pages : Decision)
    (keeps : Keeps us u (freed us u (p * page) ((e - p) * page)) pages) where
  abbrev To : Outcome (List ℕ) → LentList → LentList → List ℕ → Type 0
  To = ReturnsTo page d p e (list_in xs l) (list_in us u) ms

  pub return_refused : (r : Refusal) → pages ≡ Err r → To (refused r) (list_in xs l) (list_in us u) ms
  return_refused r is = (Err r, subst (Keeps us u (freed us u (p * page) ((e - p) * page))) is keeps, λ k. (refl, (refl, (refl, refl))))

  pub return_done : (c : Option Replacement) → pages ≡ Ok c → (ws : List ℕ) (w : FreeList) → with w ws ≡ carried_out xs l d
      → (ys : List ℕ) (r : FreeList) → list_in ys r ≡ left_by (TakeRange (p * page) ((e - p) * page)) (list_in ws w)
      → (vs : List ℕ) (v : FreeList) → with v vs ≡ carried_out us u pages → (ns : List ℕ) → ns ≡ marked p (e - p) 0 ms
      → To (answer []) (list_in ys r) (list_in vs v) ns
  return_done c is ws w f ys r t vs v g ns n = (
    Ok c,
    subst (Keeps us u (freed us u (p * page) ((e - p) * page))) is keeps,
    λ k. (refl, (t ∙ ap (left_by (TakeRange (p * page) ((e - p) * page))) (in_list_lem xs ws l w d f), (in_list_lem us vs u v (Ok c) (g ∙ ap (carried_out us u) is), n))),
  )

-- freeing gives no address out
same_answer : (k : PageType) (a n b m : ℕ) (x : PagedDecision) → answer_of (call.Free k a n) x ≡ answer_of (call.Free k b m) x
same_answer k a n b m (Refused r) = refl
same_answer k a n b m Nothing = refl
same_answer k a n b m (Own c d) = refl
same_answer k a n b m (Drawn c d e f g) = refl
same_answer k a n b m (Returned c d e f g h) = refl

module _ (page : ℕ) (f : Freed) (xs us ms : List ℕ) (l u : FreeList) where
  pub back_no : (r : Refusal) → GivesBack page f (list_in xs l) (list_in us u) (Refused r) → BacksTo page f (list_in xs l) (list_in us u) ms (refused r) (list_in xs l) (list_in us u) ms
  back_no r g = (Refused r, g, λ k. (refl, (refl, (refl, refl))))

  pub back-own : (a : ℕ) (d : Decision) → GivesBack page f (list_in xs l) (list_in us u) (Own a d) → (ys : List ℕ) (r : FreeList) → with r ys ≡ carried_out xs l d
      → BacksTo page f (list_in xs l) (list_in us u) ms (answer []) (list_in ys r) (list_in us u) ms
  back-own a d g ys r e = (Own a d, g, λ k. (refl, (in_list_lem xs ys l r d e, (refl, refl))))

  pub back-pages : (d : Decision) (p e : ℕ) (ans : Outcome (List ℕ)) (o s : LentList) (m : List ℕ)
      → ((pages : Decision) → Keeps us u (freed us u (p * page) ((e - p) * page)) pages
      → GivesBack page f (list_in xs l) (list_in us u) (returned_with d (p * page) ((e - p) * page) p (e - p) pages))
      → ReturnsTo page d p e (list_in xs l) (list_in us u) ms ans o s m → BacksTo page f (list_in xs l) (list_in us u) ms ans o s m
  back-pages d p e ans o s m g t =
      let x = returned_with d (p * page) ((e - p) * page) p (e - p) t.0 in
      (x, g t.0 t.1, λ k. ((t.2 k).0 ∙ same_answer k 0 0 f.addr f.len x, (t.2 k).1))
