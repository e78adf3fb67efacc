-- Laws of what a call on one of three lists that are given together is decided to do: what a decision tells of its own list, the refusals of
-- all three in their order, and that it does not matter in which order the lists are looked at. Assumes nothing.
--   Turns   a statement on three lists and the first of them holds of the same lists in their own order
use mathlib.Core.Path.{◌≡◌, refl, sym, ap, ap₂, ◌∙◌, subst}
use mathlib.Core.List.{List, [], ◌∷◌}
use mathlib.Core.Bool.{Bool, true, false, ◌&&◌, ◌||◌, not}
use Prim.Native.Nat.{ℕ, ◌+◌, ◌≤◌}
use native.Mathlib.Omega.{arith}
use borrow.Author.Tests.{lt-ltb, le-ltb}
use lib.Dec.{eqb}
use Rattle.std.specs.Prelude.{Result, Ok, Err, Some, None}
use Rattle.error.specs.declared.Refusal.{Refusal}
use Rattle.free_space.specs.Splices.{Decision}
use Rattle.error.specs.declared.Refusal.TheVariants.{NotAList, SharedAddress}
use Rattle.error.specs.Outcome.{when, refused, first_of}
use Rattle.error.proofs.OutcomeLaws.{first_holds, first_passes, first_pass}
use Rattle.error.proofs.TestLaws.{true_not_false, and_true}
use Rattle.fields.specs.Ranges.{top}
use Rattle.free_regions.specs.declared.FreeRegion.{FreeRegion}
use Rattle.free_regions.specs.Regions.{region, shares, share_bytes}
use Rattle.free_regions.proofs.ShareLaws.{shares_empty, lists_byte}
use Rattle.free_space.specs.declared.list.FreeList.{FreeList}
use Rattle.free_space.specs.Runs.{is_list}
use Rattle.free_space.specs.Calls.{overflows, freed, allocated}
use Rattle.free_space.specs.Decisions.{number_in, given_by, kept_by, Gives, Keeps, Folds}
use Rattle.free_space.proofs.AnswerLaws.{free-shared}
use Rattle.free_space.proofs.CheckLaws.{same_test}
use Rattle.free_lists.specs.declared.FileLists.{FileLists}
use Rattle.free_lists.specs.declared.calls.Which.{Which}
use Rattle.free_lists.specs.declared.calls.Which.TheVariants.{Metadata, Raw, Unclassified}
use Rattle.free_lists.specs.Lists.{LentList, regions_of, Lists, lists_of, lists_in, regions_in, are_lists, shared_byte, apart}
use Rattle.free_lists.specs.Decided.{is_held, freed_together, allocated_together}
use Rattle.free_lists.specs.Walks.{Turned, Due, no_lists, too_long, shared, fine, refused_or}
use Rattle.free_lists.specs.CallsSay.{Refuses, three, four, five, six, fourteen, FreeSays, AllocSays}
use Rattle.free_lists.proofs.CallLaws.{calls_say}

-- ---- what a decision tells of its own list: it is refusal 3 where that is none, and only there

by_number : {xs : List ℕ} {l : FreeList} {over shared part full : Type 0} {n : ℕ} {vs : List ℕ} → Refuses xs l over shared part full n vs → not (eqb n 3) ≡ is_list xs l
by_number (three e) = sym e
by_number (four e o) = sym e
by_number (five e o s) = sym e
by_number (six e o s p) = sym e
by_number (fourteen p c f) = sym p.list

pub tells-free : (xs : List ℕ) (l : FreeList) (a len : ℕ) (d : Decision) → Keeps xs l (freed xs l a len) d → not (eqb (number_in d) 3) ≡ is_list xs l
tells-free xs l a len d k = go d (subst (FreeSays xs l a len) (sym k.0) ((calls_say xs l).free a len))
  where
    go : (d : Decision) → FreeSays xs l a len (kept_by xs l d) → not (eqb (number_in d) 3) ≡ is_list xs l
    go (Err r) s = by_number s.says
    go (Ok None) s = sym s.says.0.list
    go (Ok (Some c)) s = sym s.says.0.list

pub tells-alloc : (xs : List ℕ) (l : FreeList) (len : ℕ) (d : Decision) → Gives xs l (allocated xs l len) d → not (eqb (number_in d) 3) ≡ is_list xs l
tells-alloc xs l len d k = go d (subst (AllocSays xs l len) (sym k.0) ((calls_say xs l).alloc len))
  where
    go : (d : Decision) → AllocSays xs l len (given_by xs l d) → not (eqb (number_in d) 3) ≡ is_list xs l
    go (Err r) s = by_number s.says
    go (Ok None) s = sym s.says.0.list
    go (Ok (Some c)) s = sym s.says.0.list

-- ---- the refusal that is due; s, r and u are the flags of the code: two lists share a byte, the second or the third holds one of the range

or_right : (a b : Bool) → b ≡ true → (a || b) ≡ true
or_right true b e = refl
or_right false b e = e

module _ (ls : Lists) (a len : ℕ) where
  abbrev held_by : Which → Bool
  held_by i = shares (region a len) (regions_of (ls i))

  module _ (ok : are_lists ls ≡ true) (fits : a + len ≤ top) where
    pub due_second : {r : Bool} → r ≡ held_by Raw → r ≡ true → Due ls a len (Err SharedAddress)
    due_second e h =
        shared ok fits (or_right (shared_byte (regions_in ls)) _ (or_right (held_by Metadata) _ (ap (λ (t : Bool). t || held_by Unclassified) (sym e ∙ h))))

    pub due_third : {u : Bool} → u ≡ held_by Unclassified → u ≡ true → Due ls a len (Err SharedAddress)
    due_third e h = shared ok fits (or_right (shared_byte (regions_in ls)) _ (or_right (held_by Metadata) _ (or_right (held_by Raw) _ (sym e ∙ h))))

    pub due_together : {s : Bool} → s ≡ shared_byte (regions_in ls) → s ≡ true → Due ls a len (Err SharedAddress)
    due_together e h = shared ok fits (ap (λ (t : Bool). t || is_held a len ls) (sym e ∙ h))

    pub due_none : {s r u : Bool} → s ≡ shared_byte (regions_in ls) → r ≡ held_by Raw → u ≡ held_by Unclassified → s ≡ false → r ≡ false → u ≡ false → Due ls a len (Ok tt)
    due_none is-s is-r is-u no-s no-r no-u = fine ok fits (sym is-s ∙ no-s) (sym is-r ∙ no-r) (sym is-u ∙ no-u)

  -- ---- `free` by it

  free-five : are_lists ls ≡ true → a + len ≤ top → (shared_byte (regions_in ls) || is_held a len ls) ≡ true → refused SharedAddress ≡ freed_together ls Metadata a len
  unfolding freed_together
  free-five ok fits h = sym (first_passes _ _ _ _ (ap not ok) ∙ first_passes _ _ _ _ (le-ltb top (a + len) fits) ∙ first_holds _ _ _ _ h)

  -- where nothing is shared and the others hold no byte of the range, the call on the one list has the rest of the refusals
  free_own : are_lists ls ≡ true → a + len ≤ top → shared_byte (regions_in ls) ≡ false → held_by Raw ≡ false → held_by Unclassified ≡ false
      → (t : Bool) → held_by Metadata ≡ t → freed (ls Metadata).run (ls Metadata).list a len ≡ freed_together ls Metadata a len
  unfolding freed_together
  free_own ok fits no-s no-r no-u true m =
      sym (free-shared (ls Metadata).run (ls Metadata).list a len fits (and_true _ _ ok).0 m)
      ∙ free-five ok fits (or_right (shared_byte (regions_in ls)) _ (ap (λ (t : Bool). t || (held_by Raw || held_by Unclassified)) m))
  free_own ok fits no-s no-r no-u false m =
      let none : (shared_byte (regions_in ls) || is_held a len ls) ≡ false = rw (no-s, m, no-r, no-u) refl in
      sym (first_pass _ (freed (ls Metadata).run (ls Metadata).list a len) (ap not ok, (le-ltb top (a + len) fits, (none, tt))))

  pub free_due : {n : Result (Unit {0}) Refusal} → Due ls a len n → (d : Decision) → Keeps (ls Metadata).run (ls Metadata).list (freed (ls Metadata).run (ls Metadata).list a len) d → Folds a len d
      → Keeps (ls Metadata).run (ls Metadata).list (freed_together ls Metadata a len) (refused_or n d) × Folds a len (refused_or n d)
  unfolding freed_together
  free_due (no_lists e) d k f = ((sym (first_holds _ _ _ _ (ap not e)), tt), tt)
  free_due (too_long ok h) d k f = ((sym (first_passes _ _ _ _ (ap not ok) ∙ first_holds _ _ _ _ (lt-ltb top (a + len) h)), tt), tt)
  free_due (shared ok fits h) d k f = ((free-five ok fits h, tt), tt)
  free_due (fine ok fits no-s no-r no-u) d k f = ((k.0 ∙ free_own ok fits no-s no-r no-u (held_by Metadata) refl, k.1), f)

-- ---- `alloc` by it, with an empty range

module _ (ls : Lists) (len : ℕ) where
  none : (i : Which) → shares (region 0 0) (regions_of (ls i)) ≡ false
  none i = shares_empty (region 0 0) (regions_of (ls i)) refl

  none_held : is_held 0 0 ls ≡ false
  none_held = rw (none Metadata, none Raw, none Unclassified) refl

  alloc-five : (s : Bool) → shared_byte (regions_in ls) ≡ s → (s || is_held 0 0 ls) ≡ true → are_lists ls ≡ true → refused SharedAddress ≡ allocated_together ls Metadata len
  unfolding allocated_together
  alloc-five true e h ok = sym (first_passes _ _ _ _ (ap not ok) ∙ first_holds _ _ _ _ e)
  alloc-five false e h ok = true_not_false (is_held 0 0 ls) h none_held

  pub alloc_due : {n : Result (Unit {0}) Refusal} → Due ls 0 0 n → (d : Decision) → Gives (ls Metadata).run (ls Metadata).list (allocated (ls Metadata).run (ls Metadata).list len) d
      → Gives (ls Metadata).run (ls Metadata).list (allocated_together ls Metadata len) (refused_or n d)
  unfolding allocated_together
  alloc_due (no_lists e) d k = (sym (first_holds _ _ _ _ (ap not e)), tt)
  alloc_due (too_long ok h) d k = absurd (omega arith)
  alloc_due (shared ok fits h) d k = (alloc-five (shared_byte (regions_in ls)) refl h ok, tt)
  alloc_due (fine ok fits no-s no-r no-u) d k = (k.0 ∙ sym (first_pass (apart ls) _ (ap not ok, (no-s, tt))), k.1)

-- ---- the lists in another order

share_swap : (rs ss : List FreeRegion) → share_bytes rs ss ≡ share_bytes ss rs
share_swap rs ss = same_test (share_bytes rs ss) (share_bytes ss rs) (one rs ss) (one ss rs)
  where
    one : (rs ss : List FreeRegion) → share_bytes rs ss ≡ true → share_bytes ss rs ≡ true
    one rs ss e = let q = (lists_byte rs ss).0 e in (lists_byte ss rs).1 (q.0, q.2, q.1)

and_second : (a b c : Bool) → (b && (a && c)) ≡ (a && (b && c))
and_second true b c = refl
and_second false true c = refl
and_second false false c = refl

and_third : (a b c : Bool) → (c && (a && b)) ≡ (a && (b && c))
and_third a b c = and_second a c b ∙ ap (λ (t : Bool). a && t) (swap c b)
  where
    swap : (a b : Bool) → (a && b) ≡ (b && a)
    swap true true = refl
    swap true false = refl
    swap false true = refl
    swap false false = refl

or_swap : (a b : Bool) → (a || b) ≡ (b || a)
or_swap true true = refl
or_swap true false = refl
or_swap false true = refl
or_swap false false = refl

or-second : (a b c : Bool) → (b || (a || c)) ≡ (a || (b || c))
or-second true true c = refl
or-second true false c = refl
or-second false b c = refl

or_third : (a b c : Bool) → (c || (a || b)) ≡ (a || (b || c))
or_third a b c = or-second a c b ∙ ap (λ (t : Bool). a || t) (or_swap c b)

module _ (m r u : LentList) where
  abbrev two : LentList → LentList → Bool
  two x y = share_bytes (regions_of x) (regions_of y)

  abbrev swapped : (x y : LentList) → two x y ≡ two y x
  swapped x y = share_swap (regions_of x) (regions_of y)

  shared_second : shared_byte (regions_in (lists_of r m u)) ≡ shared_byte (regions_in (lists_of m r u))
  shared_second = ap₂ (λ (s t : Bool). s || t) (swapped r m) (or_swap (two r u) (two m u))

  shared_third : shared_byte (regions_in (lists_of u m r)) ≡ shared_byte (regions_in (lists_of m r u))
  shared_third =
      ap₂ (λ (s t : Bool). s || (t || two m r)) (swapped u m) (swapped u r)
      ∙ sym (or_third (two m u) (two r u) (two m r))

pub record Turns (P : Lists → Which → Type 0) : Type 0 where
  pub second : (m r u : LentList) → P (lists_of r m u) Metadata → P (lists_of m r u) Raw
  pub third : (m r u : LentList) → P (lists_of u m r) Metadata → P (lists_of m r u) Unclassified

abbrev listed : LentList → Bool
listed l = is_list l.run l.list

module _ (a len : ℕ) where
  free_like : (ls ms : Lists) (i j : Which) → ls i ≡ ms j → are_lists ls ≡ are_lists ms → shared_byte (regions_in ls) ≡ shared_byte (regions_in ms) → is_held a len ls ≡ is_held a len ms
      → freed_together ls i a len ≡ freed_together ms j a len
  unfolding freed_together
  free_like ls ms i j l p s h =
      ap₂ first_of
      (ap₂ (λ (t u : Bool). when (not t) NotAList ∷ overflows a len ∷ when u SharedAddress ∷ []) p (ap₂ (λ (t u : Bool). t || u) s h))
      (ap (λ (x : LentList). freed x.run x.list a len) l)

  abbrev holds : LentList → Bool
  holds l = shares (region a len) (regions_of l)

  pub free_turns : (d : Decision) → Turns (λ ls i. Keeps (ls i).run (ls i).list (freed_together ls i a len) d)
  free_turns d = record {
    second = λ m r u k. (
      k.0
          ∙ free_like (lists_of r m u) (lists_of m r u) Metadata Raw refl (and_second (listed m) (listed r) (listed u)) (shared_second m r u) (or-second (holds m) (holds r) (holds u)),
      k.1,
    );
    third = λ m r u k. (
      k.0
          ∙ free_like (lists_of u m r) (lists_of m r u) Metadata Unclassified refl (and_third (listed m) (listed r) (listed u)) (shared_third m r u)
          (or_third (holds m) (holds r) (holds u)),
      k.1,
    );
  }

module _ (len : ℕ) where
  alloc_like : (ls ms : Lists) (i j : Which) → ls i ≡ ms j → are_lists ls ≡ are_lists ms → shared_byte (regions_in ls) ≡ shared_byte (regions_in ms)
      → allocated_together ls i len ≡ allocated_together ms j len
  unfolding allocated_together
  alloc_like ls ms i j l p s =
      ap₂ first_of (ap₂ (λ (t u : Bool). when (not t) NotAList ∷ when u SharedAddress ∷ []) p s) (ap (λ (x : LentList). allocated x.run x.list len) l)

  pub alloc_turns : (d : Decision) → Turns (λ ls i. Gives (ls i).run (ls i).list (allocated_together ls i len) d)
  alloc_turns d = record {
    second = λ m r u k.
        (k.0 ∙ alloc_like (lists_of r m u) (lists_of m r u) Metadata Raw refl (and_second (listed m) (listed r) (listed u)) (shared_second m r u), k.1);
    third = λ m r u k.
        (k.0 ∙ alloc_like (lists_of u m r) (lists_of m r u) Metadata Unclassified refl (and_third (listed m) (listed r) (listed u)) (shared_third m r u), k.1);
  }

-- by the list that the call is on
module _ (xs ys zs : List ℕ) (f : FileLists) (P : Lists → Which → Type 0) (t : Turns P) where
  abbrev all : Lists
  all = lists_in xs ys zs f

  pub by_turns : (i : Which) (ms : Lists) → Turned i all ms → P ms Metadata → P all i
  by_turns Metadata ms e k = subst (λ (l : Lists). P l Metadata) e k
  by_turns Raw ms e k = t.second (all Metadata) (all Raw) (all Unclassified) (subst (λ (l : Lists). P l Metadata) e k)
  by_turns Unclassified ms e k = t.third (all Metadata) (all Raw) (all Unclassified) (subst (λ (l : Lists). P l Metadata) e k)
