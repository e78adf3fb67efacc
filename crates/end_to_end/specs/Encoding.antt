-- List calls as numbers in a lent run, four to a call: the list, the call, two arguments. Every row of calls has such numbers, so what is
-- proved of the numbers is proved of calls "with any arguments" (document 01, "The save"). Assumes nothing.
--   which_of       the list of a number: 0 metadata, 1 raw, any other unclassified
--   call_of        the call of a number and two arguments: 0 `free`, 1 `alloc`, 2 `alloc_whole_units`, 3 `take_range`, any other `take_trailing`;
--                  `alloc` and `take_trailing` have one argument and leave the second out
--   call_on_of     the call that four numbers are, with its list
--   calls_of       the calls of a run, in order; fewer than four numbers at its end are none
--   runs_of        three lent runs by list
--   after_calls    `make_calls`: "three lists, each begun empty", after the calls of a run, each of which "gets its list as the last call on it
--                  left it"
--   runs_after     the runs of the three lists then
--   numbers_of     the numbers of a call and its arguments, in front of others
--   encoded        the numbers of calls in a row
--   InWord         all numbers are below 2^64, as those of a lent run are
--   Fits, AllFit   all arguments of a call, of calls, are below 2^64
--   Encodes        calls in a row have an encoding: its calls are these again, and its numbers are below 2^64 where the arguments are
use Rattle.std.specs.Prelude.{ℕ, ◌^◌, ◌<◌, ◌≡◌, cond, List, [], ◌∷◌, eqb}
use Rattle.free_lists.specs.declared.calls.Which.{Which}
use Rattle.free_lists.specs.declared.calls.Which.TheVariants.{Metadata, Raw, Unclassified}
use Rattle.free_lists.specs.declared.calls.ListCall.{ListCall}
use Rattle.free_lists.specs.declared.calls.ListCall.TheVariants.{Free, Alloc, AllocWholeUnits, TakeRange, TakeTrailing}
use Rattle.free_lists.specs.History.{CallOn, lists_after, empty_lists}
use Rattle.free_lists.specs.Lists.{index, Lists}

-- ---- numbers to calls

unfoldable pub which_of : ℕ → Which
which_of w = cond (eqb w 0) Metadata (cond (eqb w 1) Raw Unclassified)

unfoldable pub call_of : ℕ → ℕ → ℕ → ListCall
call_of n a b =
    cond (eqb n 0) (Free a b) (cond (eqb n 1) (Alloc a) (cond (eqb n 2) (AllocWholeUnits a b) (cond (eqb n 3) (TakeRange a b) (TakeTrailing a))))

abbrev pub call_on_of : ℕ → ℕ → ℕ → ℕ → CallOn
call_on_of w n a b = record { list = which_of w; what = call_of n a b }

unfoldable pub calls_of : List ℕ → List CallOn
calls_of [] = []
calls_of (w ∷ []) = []
calls_of (w ∷ n ∷ []) = []
calls_of (w ∷ n ∷ a ∷ []) = []
calls_of (w ∷ n ∷ a ∷ b ∷ rest) = call_on_of w n a b ∷ calls_of rest

abbrev pub runs_of : List ℕ → List ℕ → List ℕ → Which → List ℕ
runs_of m r u Metadata = m
runs_of m r u Raw = r
runs_of m r u Unclassified = u

abbrev pub after_calls : List ℕ → List ℕ → List ℕ → List ℕ → Lists
after_calls calls m r u = lists_after (calls_of calls) (empty_lists (runs_of m r u))

abbrev pub runs_after : List ℕ → List ℕ → List ℕ → List ℕ → Which → List ℕ
runs_after calls m r u i = (after_calls calls m r u i).run

-- ---- calls to numbers

abbrev pub numbers_of : ListCall → List ℕ → List ℕ
numbers_of (Free a n) rest = 0 ∷ a ∷ n ∷ rest
numbers_of (Alloc n) rest = 1 ∷ n ∷ 0 ∷ rest
numbers_of (AllocWholeUnits n u) rest = 2 ∷ n ∷ u ∷ rest
numbers_of (TakeRange a n) rest = 3 ∷ a ∷ n ∷ rest
numbers_of (TakeTrailing e) rest = 4 ∷ e ∷ 0 ∷ rest

abbrev pub encoded : List CallOn → List ℕ
encoded [] = []
encoded (c ∷ cs) = index c.list ∷ numbers_of c.what (encoded cs)

abbrev pub InWord : List ℕ → Type 0
InWord [] = Unit {0}
InWord (x ∷ xs) = (x < 2 ^ 64) × InWord xs

abbrev pub Fits : ListCall → Type 0
Fits (Free a n) = (a < 2 ^ 64) × (n < 2 ^ 64)
Fits (Alloc n) = n < 2 ^ 64
Fits (AllocWholeUnits n u) = (n < 2 ^ 64) × (u < 2 ^ 64)
Fits (TakeRange a n) = (a < 2 ^ 64) × (n < 2 ^ 64)
Fits (TakeTrailing e) = e < 2 ^ 64

abbrev pub AllFit : List CallOn → Type 0
AllFit [] = Unit {0}
AllFit (c ∷ cs) = Fits c.what × AllFit cs

pub record Encodes (cs : List CallOn) : Type 0 where
  pub again : calls_of (encoded cs) ≡ cs
  pub lendable : AllFit cs → InWord (encoded cs)
