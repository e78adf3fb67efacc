-- Paged calls in a row: the marks tell the kind of every byte, and what follows. Assumes nothing.
--   After   lists and marks after a call with this outcome
use mathlib.Core.Path.{◌≡◌, refl, sym, ap, ◌∙◌, subst}
use mathlib.Core.Bool.{true}
use mathlib.Core.List.{List, [], ◌∷◌, ◌++◌}
use mathlib.Core.Logic.{◌⊎◌, inl, inr, ⊎_elim, ◌↔◌}
use Prim.Native.Nat.{ℕ, zero, suc, ◌+◌, ◌*◌, ◌/◌, ◌≤◌, ◌<◌}
use native.Mathlib.Nat.{mul-div_cancel}
use native.Mathlib.Omega.{arith}
use lib.ListN.{get_or, replicate}
use Rattle.error.specs.Outcome.{Outcome, answer, nothing, refuse}
use Rattle.error.specs.Lent.{with, leaving}
use Rattle.fields.specs.Ranges.{top}
use Rattle.free_regions.specs.Regions.{region, Free}
use Rattle.free_regions.specs.Sets.{Between}
use Rattle.free_regions.proofs.SetLaws.{in_or-out}
use Rattle.free_space.specs.Runs.{is_list}
use Rattle.free_space.specs.Questions.{free_bytes}
use Rattle.free_lists.specs.declared.calls.Which.{Which}
use Rattle.free_lists.specs.declared.calls.Which.TheVariants.{Unclassified}
use Rattle.free_lists.specs.declared.calls.ListCall.{ListCall}
use Rattle.free_lists.specs.Lists.{LentList, regions_of, Lists}
use Rattle.free_lists.specs.History.{mapped, CallOn, on, next, lists_after, empty_lists}
use Rattle.free_lists.proofs.FreeBytesLaws.{adds_up}
use Rattle.free_lists.proofs.HistoryLaws.{history}
use Rattle.paged_lists.specs.declared.PageType.{PageType}
use Rattle.paged_lists.specs.declared.PageType.TheVariants.{Meta, Raw}
use Rattle.paged_lists.specs.declared.PagedCall.{PagedCall}
use Rattle.paged_lists.specs.declared.PagedCall.TheVariants as paging
use Rattle.paged_lists.specs.Kinds.{mark_of, list_of}
use Rattle.paged_lists.specs.PagedCalls.{PagedLists, Made, paged, given_out, left_after}
use Rattle.paged_lists.specs.PagedHistory.{next_paged, paged_after, LastPaged, never, was, later_of, goes_over, last_paged, InUse, FreeIn, NoneHandedOut, calls_made, all_calls, Drawn, Before, PagedByKind, on_shared, begun_paged, PagedBegun}
use Rattle.paged_lists.specs.Steps.{Step, on_list, in_pages, stepped, calls_of, steps_after, all_calls_of, CountsAsCalls}
use Rattle.paged_lists.proofs.AcceptLaws.{Accepts}
use Rattle.paged_lists.proofs.ByteLaws.{now_shared, as_before, kind-tells, shared-free, shared-unused, listed-unused}
use Rattle.paged_lists.proofs.TotalLaws.{sum-le}
use Rattle.paged_lists.proofs.StepLaws.{Now, Kept, From, Drew, Good, paged_good}

abbrev After : PagedCall → PagedLists → Outcome Made → PagedLists
After c s o = (leaving s (mapped (λ m. with (given_out c m) (left_after s m)) o)).memory

-- ---- calls in a row

now_later : (k : PageType) (x y : LastPaged) (F : Type 0) → Now k (later_of x y) F ↔ Now k x (Now k y F)
now_later k never y F = (λ f. f, λ f. f)
now_later k (was c) y F = (λ f. f, λ f. f)

now_empty : (k : PageType) (x : LastPaged) → Now k x ⊥ ↔ InUse k x
now_empty k never = (λ f. f, λ f. f)
now_empty k (was c) = (λ f. f, λ f. f)

kept_as_lem : (page : ℕ) (ls : Lists) (ms : List ℕ) (U W : PageType → ℕ → Type 0) → ((k : PageType) (x : ℕ) → W k x ↔ U k x) → Kept page ls ms U → Kept page ls ms W
kept_as_lem page ls ms U W e h x = as_before (h x) refl (λ j. (λ f. f, λ f. f)) (λ j. e j x) (λ f. f)

module _ (page : ℕ) where
  one : (c : PagedCall) (s : PagedLists) (U : PageType → ℕ → Type 0) → Kept page s.lists s.marks U
      → Kept page (next_paged page c s).lists (next_paged page c s).marks (λ k x. Now k (goes_over c (paged page c s) x) (U k x))
  one c s U h = go (paged page c s) (paged_good page s U c)
    where
      go : (o : Outcome Made) → Accepts (Good page c s U) o → Kept page (After c s o).lists (After c s o).marks (λ k x. Now k (goes_over c o x) (U k x))
      go (answer m) a = a.says.kept h
      go nothing a = h
      go (refuse n vs) a = h

  rows : (ds : List PagedCall) (s : PagedLists) (U : PageType → ℕ → Type 0) → Kept page s.lists s.marks U
      → Kept page (paged_after page ds s).lists (paged_after page ds s).marks (λ k x. Now k (last_paged page x ds s) (U k x))
  unfolding paged_after last_paged
  rows [] s U h = h
  rows (c ∷ cs) s U h =
      let t = next_paged page c s in
      kept_as_lem page (paged_after page cs t).lists (paged_after page cs t).marks _ _ (λ k x. now_later k (last_paged page x cs t) (goes_over c (paged page c s) x) (U k x))
      (rows cs t (λ k x. Now k (goes_over c (paged page c s) x) (U k x)) (one c s U h))

-- ---- the list calls that they come to

after-append : (xs ys : List CallOn) (ls : Lists) → lists_after (xs ++ ys) ls ≡ lists_after ys (lists_after xs ls)
unfolding lists_after
after-append [] ys ls = refl
after-append (c ∷ xs) ys ls = after-append xs ys (next c ls)

called : (c : PagedCall) (s : PagedLists) (o : Outcome Made) → (After c s o).lists ≡ lists_after (calls_made o) s.lists
unfolding lists_after
called c s (answer m) = refl
called c s nothing = refl
called c s (refuse n vs) = refl

-- calls xs, and then ys
further : (ls zs ms : Lists) (xs ys : List CallOn) → ls ≡ lists_after ys zs → zs ≡ lists_after xs ms → ls ≡ lists_after (xs ++ ys) ms
further ls zs ms xs ys e f = e ∙ ap (lists_after ys) f ∙ sym (after-append xs ys ms)

all_called : (page : ℕ) (ds : List PagedCall) (s : PagedLists) → (paged_after page ds s).lists ≡ lists_after (all_calls page ds s) s.lists
unfolding paged_after all_calls lists_after
all_called page [] s = refl
all_called page (c ∷ cs) s =
    let t = next_paged page c s in
    further _ t.lists _ (calls_made (paged page c s)) (all_calls page cs t) (all_called page cs t) (called c s (paged page c s))

one_step : (x : Step) (s : PagedLists) → (stepped x s).lists ≡ lists_after (calls_of x s) s.lists
unfolding lists_after
one_step (on_list c) s = refl
one_step (in_pages page c) s = called c s (paged page c s)

pub counts_as_calls : CountsAsCalls
unfolding steps_after all_calls_of lists_after
counts_as_calls [] s = refl
counts_as_calls (x ∷ xs) s = further _ (stepped x s).lists _ (calls_of x s) (all_calls_of xs (stepped x s)) (counts_as_calls xs (stepped x s)) (one_step x s)

-- ---- one more call

-- where the bytes that it goes over were
module _ (page : ℕ) (ds : List PagedCall) (s : PagedLists) (h : Kept page (paged_after page ds s).lists (paged_after page ds s).marks (λ k x. InUse k (last_paged page x ds s))) where
  were : (c : PagedCall) (b : ℕ) → From c page (paged_after page ds s) b → Before page ds s c b
  were (paging.Alloc k len) b (inl f) = (inl f, listed-unused (h b) k f)
  were (paging.Alloc k len) b (inr f) = (inr f, shared-unused (h b) f)
  were (paging.Free k a len) b f = ⊎_elim (λ t. absurd (f.1 t)) (λ t. t) ((h b).held k f.0)

  gone_over : (c : PagedCall) (o : Outcome Made) → Accepts (Good page c (paged_after page ds s) (λ k x. ⊥)) o → (m : Made) → o ≡ answer m → (b : ℕ) → m.over.start ≤ b → b < m.over.end → Before page ds s c b
  gone_over c o a m e b i j = were c b (go (subst (λ (o : Outcome Made). Accepts (Good page c (paged_after page ds s) (λ k x. ⊥)) o) e a))
    where
      go : Accepts (Good page c (paged_after page ds s) (λ k x. ⊥)) (answer m) → From c page (paged_after page ds s) b
      go a = a.says.from b (i, j)

-- how much it draws
same_total : (l m : LentList) → l ≡ m → free_bytes l.list ≡ free_bytes m.list
same_total l m e = ap (λ (i : LentList). free_bytes i.list) e

-- two lists of which one has what the other has, but for w bytes from p on
less-total : (l m : LentList) (p w : ℕ) → is_list l.run l.list ≡ true → is_list m.run m.list ≡ true
    → ((x : ℕ) → Free (regions_of l) x → Between p (p + w) x ⊎ Free (regions_of m) x) → free_bytes l.list ≤ free_bytes m.list + w
less-total l m p w i j h =
    let a = adds_up l.run l.list i in
    let b = adds_up m.run m.list j in
    omega (arith, a.total, b.total, sum-le top p w (regions_of l) (regions_of m) a.order b.order h)

drew_total : (page : ℕ) (c : PagedCall) (l m : LentList) → Drew c page l m → Drawn page c (free_bytes l.list) (free_bytes m.list)
drew_total page (paging.Alloc k len) l m d = ⊎_elim
    (λ e. omega (arith, d.fewer, same_total l m e))
    (λ p. omega (
      arith,
      d.fewer,
      less-total l m d.at d.count p.given p.left (λ x f. ⊎_elim inl (λ n. inr ((p.bytes x).1 (f, n))) (in_or-out (region d.at d.count) x)),
    )) d.removes
drew_total page (paging.Free k a len) l m (inl e) = omega (arith, same_total l m e)
drew_total page (paging.Free k a len) l m (inr (p, e, q)) = omega (arith, less-total l m 0 0 q.given q.left (λ x f. inr ((q.bytes x).1 (inr f))))

drawn_by : (page : ℕ) (c : PagedCall) (s : PagedLists) (o : Outcome Made) → Accepts (Good page c s (λ k x. ⊥)) o → (m : Made) → o ≡ answer m
    → Drawn page c (free_bytes (s.lists Unclassified).list) (free_bytes ((After c s o).lists Unclassified).list)
drawn_by page c s o a m e = rw e (go (subst (λ (o : Outcome Made). Accepts (Good page c s (λ k x. ⊥)) o) e a))
  where
    go : Accepts (Good page c s (λ k x. ⊥)) (answer m) → Drawn page c (free_bytes (s.lists Unclassified).list) (free_bytes ((After c s (answer m)).lists Unclassified).list)
    go a = drew_total page c _ _ a.says.drew

left_alone : (c : PagedCall) (s : PagedLists) (o : Outcome Made) → ((m : Made) → o ≡ answer m → ⊥) → After c s o ≡ s
left_alone c s (answer m) f = absurd (f m refl)
left_alone c s nothing f = refl
left_alone c s (refuse n vs) f = refl

pub by_kind_lem : PagedByKind
by_kind_lem page ds s none =
    let first : Kept page s.lists s.marks (λ k x. ⊥) = λ x. now_shared (none.marks (x / page)) (λ j f. none.bytes j x f) (λ j f. f) in
    let h : Kept page (paged_after page ds s).lists (paged_after page ds s).marks (λ k x. InUse k (last_paged page x ds s)) =
    kept_as_lem page (paged_after page ds s).lists (paged_after page ds s).marks _ _ (λ k x. let e = now_empty k (last_paged page x ds s) in (e.1, e.0)) (rows page ds s (λ k x. ⊥) first) in
    record {
      tells = λ k b. kind-tells (h b) k;
      marked = λ pos k q. let e = mul-div_cancel q pos in (
        λ t. (q * page, e, (kind-tells (h (q * page)) k).1 (ap (λ (i : ℕ). get_or (paged_after page ds s).marks i 0) e ∙ t)),
        λ t. ap (λ (i : ℕ). get_or (paged_after page ds s).marks i 0) (sym t.1) ∙ (kind-tells (h t.0) k).0 t.2,
      );
      apart = λ b c e p q.
          let z : mark_of Meta ≡ mark_of Raw = sym ((kind-tells (h b) Meta).0 p) ∙ ap (λ (i : ℕ). get_or (paged_after page ds s).marks i 0) e ∙ (kind-tells (h c) Raw).0 q in
          omega arith;
      once = λ k b. (h b).once k;
      shared = λ k b f. ⊎_elim (shared-free (h b) f k) (shared-unused (h b) f k);
      over = λ c m e b i j. gone_over page ds s h c _ (paged_good page (paged_after page ds s) (λ k x. ⊥) c) m e b i j;
      drawn = λ c m. drawn_by page c (paged_after page ds s) _ (paged_good page (paged_after page ds s) (λ k x. ⊥) c) m;
      unmade = λ c. left_alone c (paged_after page ds s) (paged page c (paged_after page ds s));
      calls = all_called page ds s;
    }

-- ---- lists begun empty

zero-at : (n q : ℕ) → get_or {A = ℕ} (replicate n 0) q 0 ≡ 0
zero-at zero q = refl
zero-at (suc n) zero = refl
zero-at (suc n) (suc q) = zero-at n q

-- calls on the shared list leave the kinds' lists
kinds_stay : (cs : List ListCall) (ls : Lists) (k : PageType) → lists_after (on_shared cs) ls (list_of k) ≡ ls (list_of k)
unfolding lists_after
kinds_stay [] ls k = refl
kinds_stay (c ∷ cs) ls Meta = kinds_stay cs (next (on Unclassified c) ls) Meta
kinds_stay (c ∷ cs) ls Raw = kinds_stay cs (next (on Unclassified c) ls) Raw

module _ (page : ℕ) (runs : Which → List ℕ) (n : ℕ) (cs : List ListCall) where
  none_handed_out : NoneHandedOut (begun_paged runs n cs)
  none_handed_out = record { bytes = λ k b f. none k b (rw (kinds_stay cs (empty_lists runs) k) at f); marks = zero-at n }
    where
      none : (k : PageType) (b : ℕ) → FreeIn (empty_lists runs) (list_of k) b → ⊥
      none Meta b f = f
      none Raw b f = f

  pub paged-begun : (ds : List PagedCall) → PagedBegun page runs n cs ds
  paged-begun ds =
      let s = begun_paged runs n cs in
      let k = by_kind_lem page ds s none_handed_out in
      let e : (paged_after page ds s).lists ≡ lists_after (on_shared cs ++ all_calls page ds s) (empty_lists runs) = k.calls ∙ sym (after-append (on_shared cs) (all_calls page ds s) (empty_lists runs)) in
      record { by_kind = k; lists = e; by_history = history runs (on_shared cs ++ all_calls page ds s) }
