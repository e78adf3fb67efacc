-- Why a paged call is refused (specs/RefusalsSay.antt), proved: along the conditions of its definition, and then of its list calls, which are refused
-- with 14 alone. Assumes nothing.
--   NotFull     no list call of a paged call is refused since its list is full
--   Says        what RefusalsSay says of an outcome
use mathlib.Core.Path.{◌≡◌, refl, sym, subst}
use mathlib.Core.Bool.{Bool, true, false, ◌||◌}
use mathlib.Core.List.{List}
use mathlib.Core.Logic.{inl, inr, ⊎_elim}
use Prim.Native.Nat.{ℕ, ◌+◌, ◌-◌, ◌*◌, ◌<◌}
use native.Mathlib.Nat.{mul-pos}
use native.Mathlib.Omega.{arith}
use borrow.Author.Tests.{eqb-true, eqb-false, leb-true, leb-false, ltb-true, ltb-false}
use lib.Dec.{leb, ltb, eqb}
use Rattle.error.specs.Outcome.{Outcome, answer, nothing, refuse}
use Rattle.error.specs.Ends.{Ends}
use Rattle.error.proofs.TestLaws.{true_not_false, or_false}
use Rattle.error.proofs.EndsLaws.{answers, says_nothing, chosen, untested, tested}
use Rattle.fields.specs.Ranges.{Range, top, first_multiple}
use Rattle.free_regions.specs.Regions.{Free}
use Rattle.free_regions.specs.Sets.{Between, Adds}
use Rattle.free_regions.proofs.SetLaws.{free-between}
use Rattle.free_regions.proofs.InteriorLaws.{first-multiple}
use Rattle.free_space.specs.Runs.{is_list}
use Rattle.free_lists.specs.declared.calls.Which.TheVariants.{Unclassified}
use Rattle.free_lists.specs.declared.calls.ListCall.{ListCall}
use Rattle.free_lists.specs.declared.calls.ListCall.TheVariants as call
use Rattle.free_lists.specs.Lists.{LentList, regions_of, same, regions_in, are_lists, shared_byte}
use Rattle.free_lists.specs.Decided.{is_held}
use Rattle.free_lists.specs.CallsSay.{Refuses}
use Rattle.free_lists.specs.CallsSay as calls
use Rattle.free_lists.proofs.FreeBytesLaws.{adds_up}
use Rattle.free_lists.proofs.RunLaws.{shared, none-shared}
use Rattle.paged_lists.specs.declared.PageType.{PageType}
use Rattle.paged_lists.specs.declared.PageType.TheVariants.{Meta, Raw}
use Rattle.paged_lists.specs.declared.PagedCall.{PagedCall}
use Rattle.paged_lists.specs.declared.PagedCall.TheVariants as paging
use Rattle.paged_lists.specs.Kinds.{mark_of, list_of}
use Rattle.paged_lists.specs.Pages.{whole_from, whole_up_to}
use Rattle.paged_lists.specs.PagedCalls.{PagedLists, Made, outcome_of, left_by, own_bytes, new_pages, paged_alloc, returned, paged_free}
use Rattle.paged_lists.specs.RefusalsSay.{Held, PassesAll, Full, NoneOwn, FullCall, Unserved, RefusedBy, two, three, four, five, fifteen, fourteen, RefusalsSay}
use Rattle.paged_lists.proofs.AcceptLaws.{Leaving, then_ends, or_else_lem, free_does, take_does, alloc_does, units_does}
use Rattle.paged_lists.proofs.PageLaws.{in_pages, whole-pages}
use Rattle.paged_lists.proofs.PagesSayLaws.{pages_say}
use Rattle.paged_lists.proofs.TestedLaws.{lists-ok, sound-lists, sound-says, unsound-says, none_held, held_says}

-- ---- two outcomes of one call

module _ {A B : Type 0} {o : Outcome A} {n : ℕ} {vs : List ℕ} (e : o ≡ refuse n vs) where
  not_answer : {a : A} → o ≡ answer a → B
  not_answer f = let z : ◌≡◌ {A = ℕ} 0 1 = cc in absurd (omega arith)

  not-nothing : o ≡ nothing → B
  not-nothing f = let z : ◌≡◌ {A = ℕ} 0 1 = cc in absurd (omega arith)

module _ {A : Type 0} {o : Outcome A} {a : A} (e : o ≡ answer a) where
  answer-nothing : {B : Type 0} → o ≡ nothing → B
  answer-nothing f = let z : ◌≡◌ {A = ℕ} 0 1 = cc in absurd (omega arith)

  same_answer : {b : A} → o ≡ answer b → b ≡ a
  same_answer f = cc

-- ---- a list call is refused with 14 alone, where the conditions of the others do not hold

module _ (R : ℕ → List ℕ → Type 0) (c : ListCall) (l : LentList) {over part_of part full : Type 0} (ok : is_list l.run l.list ≡ true)
    (o : over → ⊥) (s : part_of → ⊥) (p : part → ⊥) (k : (vs : List ℕ) → full → Full c l vs → R 14 vs) where
  full_only : (n : ℕ) (vs : List ℕ) → outcome_of c l ≡ refuse n vs → Refuses l.run l.list over part_of part full n vs → R n vs
  full_only n vs e (calls.three t) = true_not_false (is_list l.run l.list) ok t
  full_only n vs e (calls.four q t) = absurd (o t)
  full_only n vs e (calls.five q u t) = absurd (s t)
  full_only n vs e (calls.six q u v t) = absurd (p t)
  full_only n vs e (calls.fourteen q t f) = k _ f (record { refused = e; full = t; values = refl })

-- a range of free bytes ends within 64 bits
range-within : (l : LentList) (a n : ℕ) → is_list l.run l.list ≡ true → 0 < n → ((x : ℕ) → Between a (a + n) x → Free (regions_of l) x) → top < a + n → ⊥
range-within l a n ok some f h =
    omega (arith, free-between 0 top (a + n - 1) (regions_of l) (adds_up l.run l.list ok).order (f (a + n - 1) (omega arith, omega arith)))

-- ---- past the tests

module _ (page : ℕ) (c : PagedCall) (s : PagedLists) where
  abbrev NotFull : Type 0
  NotFull = (vs : List ℕ) → FullCall page c s vs → ⊥

  abbrev Says : Outcome Made → Type 0
  Says o = Ends (λ m. PassesAll page c s × NotFull) ((PassesAll page c s × NotFull) × Unserved page c s) (RefusedBy page c s) o

module _ (page : ℕ) (k : PageType) (s : PagedLists) (pos : 0 < page) (ok : are_lists s.lists ≡ true) (apart : shared_byte (regions_in s.lists) ≡ false) where
  abbrev own : LentList
  own = s.lists (list_of k)

  abbrev pool : LentList
  pool = s.lists Unclassified

  not_both : (x : ℕ) → Free (regions_of own) x → Free (regions_of pool) x → ⊥
  not_both x f g = none-shared s.lists apart (list_of k, Unclassified, differ k, (x, f, g))
    where
      differ : (k : PageType) → same (list_of k) Unclassified ≡ false
      differ Meta = refl
      differ Raw = refl

  module _ (len : ℕ) (p : PassesAll page (paging.Alloc k len) s) (some : 0 < len) where
    own-says : len < page → Ends (λ m. PassesAll page (paging.Alloc k len) s × NotFull page (paging.Alloc k len) s) (outcome_of (call.Alloc len) own ≡ nothing)
        (RefusedBy page (paging.Alloc k len) s) (own_bytes k len s)
    unfolding own_bytes
    own-says h =
        then_ends _ _ (alloc_does own len) (λ r e q. answers (p, λ vs f. answer-nothing e (f.1 h))) (λ e m. e)
        (full_only (RefusedBy page (paging.Alloc k len) s) (call.Alloc len) own (lists-ok s.lists ok (list_of k)) (λ t. t) (λ t. t) (λ t. t) (λ vs f q. absurd f))

    new_says : NoneOwn page k len s → Says page (paging.Alloc k len) s (new_pages page k len (first_multiple len page) s)
    unfolding new_pages
    new_says none =
        let w = first_multiple len page in
        let m = first-multiple page pos len in
        then_ends _ _ (units_does pool w page)
        (λ r e q. then_ends _ _ (free_does own (r.start + len) (w - len))
        (λ rest d u. answers (p, λ vs f. ⊎_elim (λ g. not_answer g.refused e) (λ g. other r rest e d g.0 g.1 vs g.2) f.2))
        (λ d u. absurd u.1)
        (full_only (RefusedBy page (paging.Alloc k len) s) (call.Free (r.start + len) (w - len)) own (lists-ok s.lists ok (list_of k))
        (λ t. range-within pool r.start w (lists-ok s.lists ok Unclassified) (omega (arith, m.above)) q.took.were (omega (arith, m.above)))
        (λ t. not_both t.0 t.2 (q.took.were t.0 (omega (arith, t.1.0), omega (arith, t.1.1, m.above)))) (λ t. t)
        (λ vs f g. fourteen p (some, none, inr (r, e, g)))))
        (λ e u. ((p, λ vs f. ⊎_elim (λ g. not-nothing g.refused e) (λ g. answer-nothing g.1 e) f.2), inr (none, e)))
        (full_only (RefusedBy page (paging.Alloc k len) s) (call.AllocWholeUnits w page) pool (lists-ok s.lists ok Unclassified) (λ t. t) (λ t. t) (λ t. t.1 m.multiple)
        (λ vs f g. fourteen p (some, none, inl g)))
      where
        -- the pages that were given are those that were given
        other : (r rest : Range) → outcome_of (call.AllocWholeUnits (first_multiple len page) page) pool ≡ answer r
            → outcome_of (call.Free (r.start + len) (first_multiple len page - len)) own ≡ answer rest → (q : Range)
            → outcome_of (call.AllocWholeUnits (first_multiple len page) page) pool ≡ answer q → (vs : List ℕ) → Full (call.Free (q.start + len) (first_multiple len page - len)) own vs → ⊥
        other r rest e d q f vs g =
            let z : q ≡ r = same_answer e f in
            not_answer g.refused (subst (λ (i : Range). outcome_of (call.Free (i.start + len) (first_multiple len page - len)) own ≡ answer rest) (sym z) d)

  module _ (a len : ℕ) (p : PassesAll page (paging.Free k a len) s) (some : 0 < len) (held : is_held a len s.lists ≡ false) where
    abbrev freed : LentList
    freed = left_by (call.Free a len) own

    -- what is left of the kind's list, and which bytes of it are pages that are all free
    module _ (first : Range) (was : outcome_of (call.Free a len) own ≡ answer first) (d : Leaving (Adds a (a + len)) own freed) where
      abbrev from : ℕ
      from = whole_from page (regions_of freed) a

      abbrev to : ℕ
      to = whole_up_to page (regions_of freed) a len

      in_own : (x : ℕ) → from < to → Between (from * page) (from * page + (to - from) * page) x → Free (regions_of freed) x
      in_own x h b =
          let z = (in_pages page pos from (to - from) x).0 b in
          whole-pages page pos (regions_of freed) a len x some (λ y i. (d.bytes y).1 (inl i)) z.0 (omega (arith, z.1, h))

      back-says : Says page (paging.Free k a len) s (returned page k a len from to s)
      unfolding returned
      back-says =
          chosen (leb to from)
          (λ t. answers (p, λ vs f. ⊎_elim (λ g. not_answer g.refused was) (λ g. omega (arith, leb-true to from t, g.1)) f.1))
          (λ t.
          let h : from < to = leb-false to from t in
          let n = (to - from) * page in
          let more : 0 < n = mul-pos {m = to - from} {n = page} (omega arith) pos in
          let fits = range-within freed (from * page) n d.left more (λ x b. in_own x h b) in
          then_ends _ _ (take_does freed (from * page) n)
          (λ r e u. then_ends _ _ (free_does pool (from * page) n)
          (λ q f v. answers (
            p,
            λ vs g. ⊎_elim (λ i. not_answer i.refused was)
                (λ i. ⊎_elim (λ j. not_answer j.refused e) (λ j. not_answer j.1.refused f) i.2) g.1,
          ))
          (λ f v. absurd v.1)
          (full_only (RefusedBy page (paging.Free k a len) s) (call.Free (from * page) n) pool (lists-ok s.lists ok Unclassified) fits
          (λ g. ⊎_elim (λ b. none_held a len s.lists held Unclassified g.0 b g.2) (λ b. not_both g.0 b g.2) ((d.bytes g.0).0 (in_own g.0 h g.1)))
          (λ v. v) (λ vs v g. fourteen p (some, inr ((first, was), h, inr ((r, e), g))))))
          (λ e u. absurd u.1)
          (full_only (RefusedBy page (paging.Free k a len) s) (call.TakeRange (from * page) n) freed d.left fits (λ v. v) (λ v. v)
          (λ vs v g. fourteen p (some, inr ((first, was), h, inl g)))))

-- ---- both calls

some_of : (n : ℕ) → eqb n 0 ≡ false → 0 < n
some_of n e = omega (arith, eqb-false n 0 e)

not-over : (n : ℕ) → ltb top n ≡ false → top < n → ⊥
not-over n e h = omega (arith, ltb-false top n e)

module _ (page : ℕ) (s : PagedLists) where
  alloc-says : (k : PageType) (len : ℕ) → Says page (paging.Alloc k len) s (paged_alloc page k len s)
  unfolding paged_alloc
  alloc-says k len =
      let w = first_multiple len page in
      tested _ _ _ (λ t. two (eqb-true page 0 t)) (λ t.
      let pos = some_of page t in
      tested _ _ _ (λ u. three pos (unsound-says page s u)) (λ u.
      let sound = sound-says page s u pos in
      tested _ _ _ (λ o. four pos sound (ltb-true top w o)) (λ o.
      let fits = not-over w o in
      tested _ _ _ (λ h. five pos sound fits (shared s.lists h)) (λ h.
      let p : PassesAll page (paging.Alloc k len) s = record { some = pos; sound = sound; fits = fits; fresh = none-shared s.lists h; kind = λ v. v } in
      let new = new_says page k s pos (sound-lists page s u) h len p in
      untested _ (chosen (eqb len 0) (λ z. says_nothing ((p, λ vs f. omega (arith, eqb-true len 0 z, f.0)), inl (eqb-true len 0 z)))
      (λ z. let some = some_of len z in
      chosen (ltb len page) (λ l. or_else_lem _ _ (own-says page k s pos (sound-lists page s u) h len p some (ltb-true len page l)) (λ e. new some (λ v. e)))
      (λ l. new some (λ v. absurd (omega (arith, ltb-false len page l, v))))))))))

  held : (a len : ℕ) → (shared_byte (regions_in s.lists) || is_held a len s.lists) ≡ true → Held (paging.Free Meta a len) s
  held a len e = go (shared_byte (regions_in s.lists)) refl e
    where
      go : (t : Bool) → shared_byte (regions_in s.lists) ≡ t → (t || is_held a len s.lists) ≡ true → Held (paging.Free Meta a len) s
      go true t e = inl (shared s.lists t)
      go false t e = inr (held_says a len s.lists e)

  free-says : (k : PageType) (a len : ℕ) → Says page (paging.Free k a len) s (paged_free page k a len s)
  unfolding paged_free
  free-says k a len =
      tested _ _ _ (λ t. two (eqb-true page 0 t)) (λ t.
      let pos = some_of page t in
      tested _ _ _ (λ u. three pos (unsound-says page s u)) (λ u.
      let sound = sound-says page s u pos in
      let ok = sound-lists page s u in
      tested _ _ _ (λ o. four pos sound (ltb-true top (a + len) o)) (λ o.
      let fits = not-over (a + len) o in
      tested _ _ _ (λ h. five pos sound fits (held a len h)) (λ h.
      let apart = or_false (shared_byte (regions_in s.lists)) (is_held a len s.lists) h in
      let fresh : Held (paging.Free k a len) s → ⊥ = ⊎_elim (none-shared s.lists apart.0) (λ q. none_held a len s.lists apart.1 q.2.0 q.0 q.1 q.2.1) in
      let kinds = (pages_say page pos).other-kind (mark_of k) a len s.marks in
      tested _ _ _ (λ y. fifteen pos sound fits fresh (kinds.0 y)) (λ y.
      let p : PassesAll page (paging.Free k a len) s = record { some = pos; sound = sound; fits = fits; fresh = fresh; kind = λ v. true_not_false _ (kinds.1 v) y } in
      untested _ (chosen (eqb len 0) (λ z. says_nothing ((p, λ vs f. omega (arith, eqb-true len 0 z, f.0)), eqb-true len 0 z))
      (λ z. let some = some_of len z in
      then_ends _ _ (free_does (s.lists (list_of k)) a len)
      (λ r e d. back-says page k s pos ok apart.0 a len p some apart.1 r e d)
      (λ e u. absurd u.1)
      (full_only (RefusedBy page (paging.Free k a len) s) (call.Free a len) (s.lists (list_of k)) (lists-ok s.lists ok (list_of k)) fits
      (λ g. none_held a len s.lists apart.1 (list_of k) g.0 g.1 g.2) (λ v. v) (λ vs v g. fourteen p (some, inl g))))))))))

  pub refusals_say : (c : PagedCall) → RefusalsSay page c s
  refusals_say (paging.Alloc k len) = record { says = alloc-says k len }
  refusals_say (paging.Free k a len) = record { says = free-says k a len }
