-- List calls in a row on three lists, and what their history leaves free. Assumes nothing.
-- In quotes: document 01's words, from "The save". The calls are "`free`, `alloc`, `alloc_whole_units`, `take_range` and `take_trailing`, with any
-- arguments": the enum `ListCall` of the code.
--   Effect          what a call comes to: its outcome, an accepted call's with the bytes that it goes over, and the list that it leaves
--   mapped          an outcome with another answer
--   effect, kept, gave   what a call comes to by its outcome: of any call; of one that gives nothing out; of one that gives an address out
--   bytes           the places from one up to another
--   perform         a call on a list, by the definition that the contract of the call cites: acceptance and address are "those that the rules
--                   above yield for the list as the calls before leave it"; the bytes that it goes over stand at the definition
--   given_out       the address that an accepted call gives out, where it gives one
--   answered_outcome  the outcome that an answer of the code stands for
--   CallOn, on      a call, and the list that it is made on; these two together
--   next            the lists after a call: its own as the call leaves it, the others as they were
--   lists_after     the lists after calls in a row: each call "gets its list as the last call on it left it"
--   empty_lists     "three lists, each begun empty": any lent runs, with the record of no regions
--   Last, later     the last accepted call over a byte, if there was one; the later of two
--   holds, goes_over  a range holds a byte; an accepted call goes over it
--   last_over       "the last accepted call over that byte made on that list"
--   was_free        that call "was a `free`"
--   free_by_history "Free by history"
--   ByHistory       what calls in a row on lists begun empty leave: lists, which hold what is free by history, and whose totals are its count
--                   (the law `history`)
use Rattle.std.specs.Prelude.{ℕ, ◌+◌, ◌%◌, ◌^◌, ◌≡◌, ◌↔◌, Bool, true, false, cond, ◌&&◌, ◌||◌, List, [], ◌∷◌, leb, ltb, eqb, length, Result, Ok, Err}
use Rattle.error.specs.declared.Refusal.{Refusal}
use Rattle.free_lists.specs.declared.calls.Answer.{Answer}
use Rattle.free_lists.specs.declared.calls.Answer.TheVariants.{Done, At, Nothing}
use Rattle.error.specs.Outcome.{Outcome, answer, nothing, refuse, refused}
use Rattle.error.specs.Lent.{With, Left, leaving}
use Rattle.fields.specs.Ranges.{Range}
use Rattle.free_regions.specs.Regions.{Free, sum_of_lengths}
use Rattle.free_regions.specs.Sets.{how_many}
use Rattle.free_space.specs.declared.list.FreeList.{FreeList}
use Rattle.free_space.specs.Runs.{record_of, is_list}
use Rattle.free_space.specs.Questions.{free_bytes}
use Rattle.free_space.specs.declared.list.Given.{Given}
use Rattle.free_space.specs.Calls.{record_after, keeping, freed, allocated, allocated_units, range_taken, trailing_taken}
use Rattle.free_lists.specs.declared.calls.Which.{Which}
use Rattle.free_lists.specs.declared.calls.Which.TheVariants.{Metadata, Raw, Unclassified}
use Rattle.free_lists.specs.declared.calls.ListCall.{ListCall}
use Rattle.free_lists.specs.declared.calls.ListCall.TheVariants as call
use Rattle.free_lists.specs.Lists.{LentList, list_in, regions_of, same, Lists}

-- ---- one call on one list

pub record Effect : Type 0 where
  pub outcome : Outcome Range
  pub left : LentList

abbrev pub mapped : {A B : Type 0} → (A → B) → Outcome A → Outcome B
mapped f (answer a) = answer (f a)
mapped f nothing = nothing
mapped f (refuse n vs) = refuse n vs

-- list and over give the record of an answer, and the bytes that it goes over
abbrev pub effect : {A : Type 0} → (A → FreeList) → (A → Range) → FreeList → Left A (List ℕ) → Effect
effect list over l d = record { outcome = mapped over d.outcome; left = list_in d.memory (record_after list l d.outcome) }

abbrev pub kept : Range → LentList → Outcome (With FreeList (List ℕ)) → Effect
kept over l o = effect keeping (λ m. over) l.list (leaving l.run o)

abbrev pub gave : (ℕ → Range) → LentList → Outcome (With Given (List ℕ)) → Effect
gave over l o = effect (λ g. g.list) (λ g. over g.addr) l.list (leaving l.run o)

abbrev pub bytes : ℕ → ℕ → Range
bytes s e = record { start = s; end = e }

-- `free` and `take_range` go over their range, an allocation over its length from the address it gave, `take_trailing` from the one it gave
-- to the end of file
abbrev pub perform : ListCall → LentList → Effect
perform (call.Free a n) l = kept (bytes a (a + n)) l (freed l.run l.list a n)
perform (call.Alloc n) l = gave (λ p. bytes p (p + n)) l (allocated l.run l.list n)
perform (call.AllocWholeUnits n u) l = gave (λ p. bytes p (p + n)) l (allocated_units l.run l.list n u)
perform (call.TakeRange a n) l = kept (bytes a (a + n)) l (range_taken l.run l.list a n)
perform (call.TakeTrailing e) l = gave (λ p. bytes p e) l (trailing_taken l.run l.list e)

-- of the bytes that it goes over the first; `free` and `take_range` give nothing out
abbrev pub given_out : ListCall → Range → List ℕ
given_out (call.Free a n) r = []
given_out (call.Alloc n) r = r.start ∷ []
given_out (call.AllocWholeUnits n u) r = r.start ∷ []
given_out (call.TakeRange a n) r = []
given_out (call.TakeTrailing e) r = r.start ∷ []

abbrev pub answered_outcome : Result Answer Refusal → Outcome (List ℕ)
answered_outcome (Ok Done) = answer []
answered_outcome (Ok (At p)) = answer (p ∷ [])
answered_outcome (Ok Nothing) = nothing
answered_outcome (Err r) = refused r

-- ---- calls in a row on three lists

pub record CallOn : Type 0 where
  pub list : Which
  pub what : ListCall

abbrev pub on : Which → ListCall → CallOn
on i c = record { list = i; what = c }

abbrev pub next : CallOn → Lists → Lists
next c ls i = cond (same i c.list) (perform c.what (ls i)).left (ls i)

unfoldable pub lists_after : List CallOn → Lists → Lists
lists_after [] ls = ls
lists_after (c ∷ cs) ls = lists_after cs (next c ls)

abbrev pub empty_lists : (Which → List ℕ) → Lists
empty_lists runs i = list_in (runs i) (record_of [])

-- ---- the last accepted call over a byte

pub data Last : Type 0 where
  never : Last
  was : ListCall → Last

abbrev pub holds : Range → ℕ → Bool
holds r b = leb r.start b && ltb b r.end

-- a call that goes over the byte at b; a refusal or Nothing goes over none
abbrev pub goes_over : ListCall → Outcome Range → ℕ → Last
goes_over c (answer r) b = cond (holds r b) (was c) never
goes_over c nothing b = never
goes_over c (refuse n vs) b = never

abbrev pub later : Last → Last → Last
later never x = x
later (was c) x = was c

unfoldable pub last_over : Which → ℕ → List CallOn → Lists → Last
last_over i b [] ls = never
last_over i b (c ∷ cs) ls =
    later (last_over i b cs (next c ls)) (cond (same i c.list) (goes_over c.what (perform c.what (ls i)).outcome b) never)

abbrev pub was_free : Last → Bool
was_free never = false
was_free (was (call.Free a n)) = true
was_free (was (call.Alloc n)) = false
was_free (was (call.AllocWholeUnits n u)) = false
was_free (was (call.TakeRange a n)) = false
was_free (was (call.TakeTrailing e)) = false

-- in one of the three lists
abbrev pub free_by_history : List CallOn → Lists → ℕ → Bool
free_by_history cs ls b = was_free (last_over Metadata b cs ls) || (was_free (last_over Raw b cs ls) || was_free (last_over Unclassified b cs ls))

-- any runs, also odd ones, which refuse every call; any calls, also such as are refused or answer Nothing
pub record ByHistory (runs : Which → List ℕ) (cs : List CallOn) : Type 0 where
  -- refusal 3's test then fails for an odd run alone
  pub lists : (i : Which) → is_list (lists_after cs (empty_lists runs) i).run (lists_after cs (empty_lists runs) i).list ≡ eqb (length (runs i) % 2) 0
  pub in_one : (i : Which) (b : ℕ) → Free (regions_of (lists_after cs (empty_lists runs) i)) b ↔ (was_free (last_over i b cs (empty_lists runs)) ≡ true)
  -- document 02, P1: the total that `free_bytes` reads "is what adding all lengths would give", and the number of addresses free by history
  pub total : (i : Which) → free_bytes (lists_after cs (empty_lists runs) i).list ≡ sum_of_lengths (regions_of (lists_after cs (empty_lists runs) i))
  pub counted : (i : Which) → free_bytes (lists_after cs (empty_lists runs) i).list ≡ how_many (2 ^ 64) (λ b. was_free (last_over i b cs (empty_lists runs)))
  pub in_any : (b : ℕ) → ((i : Which) × Free (regions_of (lists_after cs (empty_lists runs) i)) b) ↔ (free_by_history cs (empty_lists runs) b ≡ true)
