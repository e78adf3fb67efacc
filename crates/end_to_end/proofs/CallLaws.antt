-- Calls that numbers encode, made one after another on three lists, and the free bytes after them. Assumes nothing.
use mathlib.Core.Path.{◌≡◌, refl, sym, ap, ap₂, ◌∙◌}
use Prim.Native.Nat.{ℕ, ◌-◌, ◌^◌, ◌≤◌, ◌<◌}
use native.Mathlib.Omega.{arith}
use mathlib.Core.List.{List, [], ◌∷◌}
use lib.ListN.{length, get_or, take, drop, length-drop}
use Rattle.std.proofs.lemmas.List.{take_all}
use Rattle.free_regions.specs.Sets.{how_many}
use Rattle.free_space.specs.declared.list.FreeList.{FreeList}
use Rattle.free_space.specs.Runs.{record_of}
use Rattle.free_space.specs.Questions.{free_bytes}
use Rattle.free_lists.specs.declared.FileLists.{FileLists}
use Rattle.free_lists.specs.declared.calls.Which.{Which}
use Rattle.free_lists.specs.declared.calls.Which.TheVariants.{Metadata, Raw, Unclassified}
use Rattle.free_lists.specs.declared.calls.ListCall.{ListCall}
use Rattle.free_lists.specs.Lists.{Lists, lists_in}
use Rattle.free_lists.specs.History.{CallOn, on, next, lists_after, empty_lists, last_over, was_free}
use Rattle.free_lists.proofs.DropLaws.{drop-four}
use Rattle.free_lists.proofs.HistoryLaws.{history}
use Rattle.end_to_end.specs.Encoding.{which_of, call_of, call_on_of, calls_of, runs_of, after_calls, runs_after}

pub empty_three : (m r u : List ℕ) (x y z : FreeList) → x ≡ record_of [] → y ≡ record_of [] → z ≡ record_of []
    → empty_lists (runs_of m r u) ≡ lists_in m r u (record { metadata = x; raw = y; unclassified = z })
empty_three m r u x y z e f g = λ j i. all i j
  where
    all : (i : Which) → empty_lists (runs_of m r u) i ≡ lists_in m r u (record { metadata = x; raw = y; unclassified = z }) i
    all Metadata = rw e
    all Raw = rw f
    all Unclassified = rw g

module _ (calls : List ℕ) where
  abbrev number : ℕ → ℕ
  number j = get_or calls j 0

  abbrev first : CallOn
  first = call_on_of (number 0) (number 1) (number 2) (number 3)

  -- the first call stands before those that follow it
  first_on : 4 ≤ length calls → calls_of calls ≡ first ∷ calls_of (drop 4 calls)
  unfolding calls_of
  first_on h = ap calls_of (drop-four calls 0 h)

  pub after_step : (n : ℕ) (ls ls₂ : Lists) (i : Which) (c : ListCall) → i ≡ which_of (number 0) → c ≡ call_of (number 1) (number 2) (number 3)
      → 4 ≤ length calls → n ≡ length calls - 4 → ls₂ ≡ next (on i c) ls
      → lists_after (calls_of calls) ls ≡ lists_after (calls_of (take n (drop 4 calls))) ls₂
  unfolding lists_after
  after_step n ls ls₂ i c ie ce h k e =
      ap (λ (cs : List CallOn). lists_after cs ls) (first_on h)
      ∙ sym (ap (lists_after (calls_of (drop 4 calls))) (e ∙ ap₂ (λ (j : Which) (d : ListCall). next (on j d) ls) ie ce))
      ∙ ap (λ (l : List ℕ). lists_after (calls_of l) ls₂) (sym (take_all n (drop 4 calls) (omega (arith, k, length-drop 4 calls))))

none-on : (l : List ℕ) → length l < 4 → calls_of l ≡ []
unfolding calls_of
none-on [] h = refl
none-on (w ∷ []) h = refl
none-on (w ∷ n ∷ []) h = refl
none-on (w ∷ n ∷ a ∷ []) h = refl
none-on (w ∷ n ∷ a ∷ b ∷ l) h = absurd (omega arith)

pub after-end : (calls : List ℕ) (ls : Lists) → length calls < 4 → lists_after (calls_of calls) ls ≡ ls
unfolding lists_after
after-end calls ls h = ap (λ (cs : List CallOn). lists_after cs ls) (none-on calls h)

-- ---- the free bytes of a list after the calls

module _ (calls m r u : List ℕ) (ls : Lists) (e : ls ≡ after_calls calls m r u) where
  pub counted-after : (i : Which) (number n : ℕ) → which_of number ≡ i → n ≡ free_bytes (ls i).list
      → n ≡ how_many (2 ^ 64) (λ b. was_free (last_over (which_of number) b (calls_of calls) (empty_lists (runs_of m r u))))
  counted-after i number n is answer =
      answer
      ∙ ap (λ (l : Lists). free_bytes (l i).list) e
      ∙ (history (runs_of m r u) (calls_of calls)).counted i
      ∙ ap (λ (j : Which). how_many (2 ^ 64) (λ b. was_free (last_over j b (calls_of calls) (empty_lists (runs_of m r u))))) (sym is)

  pub runs_after_lem : (xs ys zs : List ℕ) (f : FileLists) → ls ≡ lists_in xs ys zs f → runs_of xs ys zs ≡ runs_after calls m r u
  runs_after_lem xs ys zs f is = let runs : Lists → Which → List ℕ = λ l i. (l i).run in (λ j i. all i j) ∙ ap runs (sym is ∙ e)
    where
      all : (i : Which) → runs_of xs ys zs i ≡ (lists_in xs ys zs f i).run
      all Metadata = refl
      all Raw = refl
      all Unclassified = refl
