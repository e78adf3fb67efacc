-- Frees and paged calls that numbers encode, made one after another, and P4's claim of what they leave. Assumes nothing.
use mathlib.Core.Path.{◌≡◌, refl, sym, ap, ap₂, ◌∙◌, subst}
use Prim.Native.Nat.{ℕ, ◌+◌, ◌<◌}
use native.Mathlib.Omega.{arith}
use mathlib.Core.List.{List, [], ◌∷◌}
use lib.ListN.{length, get_or, replicate}
use Rattle.std.specs.Prelude.{◌++◌}
use Rattle.error.specs.Outcome.{Outcome}
use Rattle.error.specs.Lent.{Left, left}
use Rattle.free_lists.specs.declared.calls.Which.{Which}
use Rattle.free_lists.specs.declared.calls.Which.TheVariants.{Unclassified}
use Rattle.free_lists.specs.declared.calls.ListCall.{ListCall}
use Rattle.free_lists.specs.declared.calls.ListCall.TheVariants.{Free}
use Rattle.free_lists.specs.Lists.{Lists}
use Rattle.free_lists.specs.History.{on, next, lists_after, empty_lists}
use Rattle.paged_lists.specs.declared.PageType.{PageType}
use Rattle.paged_lists.specs.declared.PagedCall.{PagedCall}
use Rattle.paged_lists.specs.PagedCalls.{PagedLists, performed}
use Rattle.paged_lists.specs.PagedHistory.{on_shared, next_paged, paged_after, begun_paged}
use Rattle.paged_lists.proofs.PagedLaws.{paged-begun}
use Rattle.paged_calls.specs.Encoding.{frees_of, type_of, paged_call_of, paged_calls_of, runs_of}
use Rattle.paged_calls.specs.Shown.{Shown}

-- ---- frees

-- the free of two numbers stands before those of the numbers that follow
pub free_step : (x rest : List ℕ) (ls ls₂ : Lists) → length x ≡ 2 → ls₂ ≡ next (on Unclassified (Free (get_or x 0 0) (get_or x 1 0))) ls
    → lists_after (on_shared (frees_of (x ++ rest))) ls ≡ lists_after (on_shared (frees_of rest)) ls₂
unfolding lists_after frees_of
free_step [] rest ls ls₂ h e = absurd (omega arith)
free_step (a ∷ []) rest ls ls₂ h e = absurd (omega arith)
free_step (a ∷ n ∷ []) rest ls ls₂ h e = sym (ap (lists_after (on_shared (frees_of rest))) e)
free_step (a ∷ n ∷ b ∷ x) rest ls ls₂ h e = absurd (omega arith)

pub free-end : (l : List ℕ) (ls : Lists) → length l < 2 → lists_after (on_shared (frees_of l)) ls ≡ ls
unfolding lists_after frees_of
free-end [] ls h = refl
free-end (a ∷ []) ls h = refl
free-end (a ∷ n ∷ l) ls h = absurd (omega arith)

-- ---- paged calls

-- the call of four numbers, by the contract of `perform`
pub call_step : (x rest : List ℕ) (page : ℕ) (s s₂ : PagedLists) (k : PageType) (c : PagedCall) (o : Outcome (List ℕ)) → length x ≡ 4
    → k ≡ type_of (get_or x 1 0) → c ≡ paged_call_of (get_or x 0 0) k (get_or x 2 0) (get_or x 3 0) → left o s₂ ≡ performed page c s
    → paged_after page (paged_calls_of (x ++ rest)) s ≡ paged_after page (paged_calls_of rest) s₂
unfolding paged_after paged_calls_of
call_step [] rest page s s₂ k c o h ke ce e = absurd (omega arith)
call_step (n ∷ []) rest page s s₂ k c o h ke ce e = absurd (omega arith)
call_step (n ∷ t ∷ []) rest page s s₂ k c o h ke ce e = absurd (omega arith)
call_step (n ∷ t ∷ a ∷ []) rest page s s₂ k c o h ke ce e = absurd (omega arith)
call_step (n ∷ t ∷ a ∷ b ∷ []) rest page s s₂ k c o h ke ce e =
    let f : c ≡ paged_call_of n (type_of t) a b = ce ∙ ap (λ (j : PageType). paged_call_of n j a b) ke in
    let m : s₂ ≡ next_paged page c s = ap (λ (x : Left (List ℕ) PagedLists). x.memory) e in
    sym (ap (paged_after page (paged_calls_of rest)) (m ∙ ap (λ (d : PagedCall). next_paged page d s) f))
call_step (n ∷ t ∷ a ∷ b ∷ d ∷ x) rest page s s₂ k c o h ke ce e = absurd (omega arith)

pub call_end : (l : List ℕ) (page : ℕ) (s : PagedLists) → length l < 4 → paged_after page (paged_calls_of l) s ≡ s
unfolding paged_after paged_calls_of
call_end [] page s h = refl
call_end (n ∷ []) page s h = refl
call_end (n ∷ t ∷ []) page s h = refl
call_end (n ∷ t ∷ a ∷ []) page s h = refl
call_end (n ∷ t ∷ a ∷ b ∷ l) page s h = absurd (omega arith)

-- ---- what they begin with, and what they leave

pub begun-is : (m r u : List ℕ) (frees ms : List ℕ) (ls : Lists) (ns : List ℕ) → ls ≡ lists_after (on_shared (frees_of frees)) (empty_lists (runs_of m r u))
    → ns ≡ replicate (length ms) 0 → record { lists = ls; marks = ns } ≡ begun_paged (runs_of m r u) (length ms) (frees_of frees)
begun-is m r u frees ms ls ns e f = ap₂ (λ (l : Lists) (n : List ℕ). record { lists = l; marks = n }) e f

pub shown : (page : ℕ) (runs : Which → List ℕ) (n : ℕ) (cs : List ListCall) (ds : List PagedCall) (s₀ s : PagedLists)
    → s₀ ≡ begun_paged runs n cs → s ≡ paged_after page ds s₀ → Shown page runs n cs ds s
shown page runs n cs ds s₀ s b e = subst (λ (t : PagedLists). Shown page runs n cs ds t) (sym all) of-claim
  where
    all : s ≡ paged_after page ds (begun_paged runs n cs)
    all = e ∙ ap (paged_after page ds) b

    of-claim : Shown page runs n cs ds (paged_after page ds (begun_paged runs n cs))
    of-claim = let c = paged-begun page runs n cs ds in record { claim = c; left_is = refl; tells = c.by_kind.tells; apart = c.by_kind.apart }
