-- The three returns of `holes_text`. Assumes nothing.
use mathlib.Core.Path.{◌≡◌, refl, sym, ap, ap₂, ◌∙◌}
use mathlib.Core.Bool.{Bool, true, false, cond, not}
use mathlib.Core.List.{List, [], ◌∷◌}
use mathlib.Core.Logic.{⊎_elim}
use Prim.Native.Nat.{ℕ, ◌+◌, ◌*◌, ◌/◌, ◌%◌, ◌≤◌, ◌<◌}
use native.Mathlib.Omega.{arith}
use borrow.Author.Tests.{ltb-false, lt-ltb, le-ltb}
use lib.Dec.{ltb, eqb}
use lib.ListN.{length, take}
use lib.Seq.{take_all, length-take-le}
use Rattle.std.specs.Prelude.{Result, Ok, Err}
use Rattle.error.specs.declared.Refusal.{Refusal}
use Rattle.error.specs.declared.Refusal.TheVariants.{NotAList, OverCapacity}
use Rattle.error.specs.Refusals.{number_of}
use Rattle.error.specs.Outcome.{Outcome, answer, nothing, refuse, refused, when, first_of, and_then, sat}
use Rattle.error.specs.Lent.{With, with, Left, left, leaving, over}
use Rattle.error.proofs.TestLaws.{le-or-lt}
use Rattle.error.proofs.OutcomeLaws.{passes, first_holds, then_first}
use Rattle.fsm_sections.specs.declared.FreeSection.{FreeSection}
use Rattle.fsm_sections.specs.Sections.{flat}
use Rattle.fsm_blocks.specs.Reading.{joined}
use Rattle.fsm_blocks.proofs.ThenLaws.{Holds}
use Rattle.image.specs.declared.ImageRead.{ImageRead}
use Rattle.image.specs.Answers.{outcome_with, image_outcome}
use Rattle.fsm_blocks.specs.declared.checks.Reading.TheVariants.{Loose}
use Rattle.image.specs.Reading.{read_image, counts_of, read_into, image_into}
use Rattle.text.specs.Text.{written}
use Rattle.holes_text.specs.Listing.{slots_of, listing_text, refused_text}
use Rattle.holes_text.specs.Holes.{image_limit, section_limit, at_most, holes_read, text_of, holes_text}
use Rattle.holes_text.proofs.BackLaws.{listing_back}

-- the text that was printed is the one that was to be
pub printed_as : {text text' : List ℕ} (out : List ℕ) {w : With ℕ (List ℕ)} → w ≡ written 0 text out → text ≡ text' → w ≡ written 0 text' out
printed_as out e q = e ∙ ap (λ (t : List ℕ). written 0 t out) q

-- ---- a longer image

pub text_longer : (image : List ℕ) → image_limit < length image → refused_text 14 ≡ holes_text image
unfolding holes_read
text_longer image h = ap text_of (sym (first_holds _ (OverCapacity (length image) image_limit) [] _ (lt-ltb image_limit (length image) h)))

-- one byte more than the limit decides it
pub prefix_text : (image : List ℕ) → holes_text (take (image_limit + 1) image) ≡ holes_text image
prefix_text image =
    ⊎_elim
    (λ (h : length image ≤ image_limit). ap holes_text (take_all (image_limit + 1) image (omega arith)))
    (λ (h : image_limit < length image).
    let n : length (take (image_limit + 1) image) ≡ image_limit + 1 = length-take-le (image_limit + 1) image (omega arith) in
    sym (text_longer (take (image_limit + 1) image) (omega arith)) ∙ text_longer image h)
    (le-or-lt (length image) image_limit)

-- ---- the sections that are listed

abbrev pub Few : List (List FreeSection) → Type 0
Few ls = length (joined ls) ≤ section_limit

pub few : (o : Outcome (List (List FreeSection))) → Holds Few (and_then o (at_most section_limit))
unfolding and_then first_of
few (answer ls) = pick (ltb section_limit (length (joined ls))) (ltb-false section_limit (length (joined ls)))
  where
    pick : (t : Bool) → (t ≡ false → Few ls) → Holds Few (cond t (refused (OverCapacity (sat (length (joined ls))) section_limit)) (answer ls))
    pick true h = tt
    pick false h = h refl
few nothing = tt
few (refuse n vs) = tt

module _ (run : List ℕ) (size : 2 * section_limit ≡ length run) where
  -- what the run holds after the reading, with the counts
  abbrev filled : List (List FreeSection) → Outcome (With (List ℕ) (List ℕ))
  filled ls = answer (with (counts_of ls) (over 0 (flat (joined ls)) run))

  even : not (eqb (length run % 2) 0) ≡ false
  even = ap (λ (k : ℕ). not (eqb (k % 2) 0)) (sym size)

  -- the run holds as many sections as are listed at the most
  into : (o : Outcome (List (List FreeSection))) → read_into run o ≡ and_then (and_then o (at_most section_limit)) filled
  unfolding and_then
  into (answer ls) =
      let n = length (joined ls) in
      let half : length run / 2 ≡ section_limit = omega arith in
      sym (passes _ NotAList _ even)
      ∙ then_first (when (ltb (length run / 2) n) (OverCapacity (sat n) (length run / 2)) ∷ []) (answer (with n (over 0 (flat (joined ls)) run)))
      (λ w. answer (with (counts_of ls) w.memory))
      ∙ ap (λ (h : ℕ). first_of (when (ltb h n) (OverCapacity (sat n) h) ∷ []) (filled ls)) half
      ∙ sym (then_first (when (ltb section_limit n) (OverCapacity (sat n) section_limit) ∷ []) (answer ls) filled)
  into nothing = sym (passes _ NotAList _ even)
  into (refuse n vs) = sym (passes _ NotAList _ even)

  -- ---- the two answers of the reading

  text_of-refused : (q : Outcome (List (List FreeSection))) (x : Refusal) → refused x ≡ (leaving run (and_then q filled)).outcome → refused_text (number_of x) ≡ text_of q
  unfolding and_then
  text_of-refused (answer ls) x e = let z : ◌≡◌ {A = ℕ} 0 1 = cc in absurd (omega arith)
  text_of-refused nothing x e = let z : ◌≡◌ {A = ℕ} 0 1 = cc in absurd (omega arith)
  text_of-refused (refuse n vs) x e = let p : number_of x ≡ n = cc in ap refused_text p

  listed_text : (q : Outcome (List (List FreeSection))) (counts run' : List ℕ) → Holds Few q → answer counts ≡ (leaving run (and_then q filled)).outcome
      → run' ≡ (leaving run (and_then q filled)).memory → listing_text (slots_of counts run') ≡ text_of q
  unfolding and_then
  listed_text (answer ls) counts run' h e m =
      let c : counts ≡ counts_of ls = cc in
      ap₂ (λ (a : List ℕ) (b : List ℕ). listing_text (slots_of a b)) c m ∙ listing_back ls run (omega arith)
  listed_text nothing counts run' h e m = let z : ◌≡◌ {A = ℕ} 0 1 = cc in absurd (omega arith)
  listed_text (refuse n vs) counts run' h e m = let z : ◌≡◌ {A = ℕ} 0 1 = cc in absurd (omega arith)

  module _ (image : List ℕ) (short : length image ≤ image_limit) (r : ImageRead) (run' : List ℕ) (e : left (image_outcome r) run' ≡ leaving run (image_into Loose 0 image run)) where
    abbrev listed : Outcome (List (List FreeSection))
    listed = and_then (read_image Loose 0 image) (at_most section_limit)

    read : left (image_outcome r) run' ≡ leaving run (and_then listed filled)
    unfolding image_into
    read = e ∙ ap (leaving run) (into (read_image Loose 0 image))

    answered : (a : (Result (Unit {0}) Refusal)) → r.answer ≡ a → outcome_with r.counts a ≡ (leaving run (and_then listed filled)).outcome
    answered a q = sym (ap (outcome_with r.counts) q) ∙ ap (λ (l : Left (List ℕ) (List ℕ)). l.outcome) read

    text_is : text_of listed ≡ holes_text image
    unfolding holes_read
    text_is = ap text_of (passes _ (OverCapacity (length image) image_limit) _ (le-ltb image_limit (length image) short))

    pub text_refused : (x : Refusal) → r.answer ≡ Err x → refused_text (number_of x) ≡ holes_text image
    text_refused x q = text_of-refused listed x (answered (Err x) q) ∙ text_is

    pub text_listed : r.answer ≡ (Ok tt) → listing_text (slots_of r.counts run') ≡ holes_text image
    text_listed q =
        listed_text listed r.counts run' (few (read_image Loose 0 image)) (answered (Ok tt) q) (ap (λ (l : Left (List ℕ) (List ℕ)). l.memory) read) ∙ text_is
