-- DEMAND 3, proved: every cut of a save of any three lists, of those that calls leave, and the history of these calls. Assumes nothing.
use mathlib.Core.Path.{◌≡◌, refl, sym, ap, ◌∙◌}
use mathlib.Core.Logic.{◌↔◌}
use Prim.Native.Nat.{ℕ}
use mathlib.Core.Bool.{Bool, true, false, cond, ◌||◌}
use mathlib.Core.List.{List}
use Rattle.free_lists.specs.declared.calls.Which.{Which}
use Rattle.free_lists.specs.declared.calls.Which.TheVariants.{Metadata, Raw, Unclassified}
use Rattle.free_lists.specs.Lists.{regions_of, regions_in}
use Rattle.free_lists.specs.History.{CallOn, lists_after, empty_lists, last_over, was_free, free_by_history}
use Rattle.free_lists.proofs.HistoryLaws.{history}
use Rattle.save.specs.EveryCut.{in_list, free_in, EveryCutAfterCalls}
use Rattle.save.proofs.BeginLaws.{listed-lists}
use Rattle.save.proofs.EveryCutLaws.{in_list_lem, every-cut-of-lists}

-- two tests of one fact
same_test : {P : Type 0} (x y : Bool) → P ↔ (x ≡ true) → P ↔ (y ≡ true) → x ≡ y
same_test true true p q = refl
same_test true false p q = sym (q.0 (p.1 refl))
same_test false true p q = p.0 (q.1 refl)
same_test false false p q = refl

-- free in one of the lists that calls leave is free by history
free-by_history : (runs : Which → List ℕ) (calls : List CallOn) (b : ℕ) → free_in (regions_in (lists_after calls (empty_lists runs))) b ≡ free_by_history calls (empty_lists runs) b
free-by_history runs calls b = λ j. each Metadata j || (each Raw j || each Unclassified j)
  where
    each : (i : Which) → in_list (regions_of (lists_after calls (empty_lists runs) i)) b ≡ was_free (last_over i b calls (empty_lists runs))
    each i = same_test _ _ (in_list_lem (regions_of (lists_after calls (empty_lists runs) i)) b) ((history runs calls).in_one i b)

pub every-cut-after-calls : EveryCutAfterCalls
every-cut-after-calls runs calls page start place image scratch save lent p64 s64 e =
    let ls = lists_after calls (empty_lists runs) in
    let l = listed-lists ls page start place image scratch _ e in
    let s = every-cut-of-lists (regions_in ls) page start place image scratch save lent p64 s64 l.some l.valid (sym (l.passes start place image scratch) ∙ e) in
    record {
      nothing_stored = s.nothing_stored;
      in_between = s.in_between;
      after_last = s.after_last;
      each_once = λ b. s.each_once b ∙ ap (λ (t : Bool). cond t 1 0) (free-by_history runs calls b);
      outside = s.outside;
      fresh_begins = s.fresh_begins;
      fresh_ends = λ k h scratch₂ r.
          let q = s.fresh_ends k h scratch₂ r in
          (q.0, l.passes start place _ scratch₂ ∙ q.1, q.2);
      into = s.into;
      bookkeeping = s.bookkeeping;
    }
