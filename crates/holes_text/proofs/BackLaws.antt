-- The sections of slots, read back from the counts and the run that the reading of an image leaves. Assumes nothing.
use mathlib.Core.Path.{◌≡◌, refl, ap, ap₂, ◌∙◌}
use mathlib.Core.List.{List, [], ◌∷◌, ◌++◌, map, append_assoc}
use Prim.Native.Nat.{ℕ, zero, suc, ◌-◌, ◌*◌, ◌≤◌}
use native.Mathlib.Omega.{arith}
use lib.ListN.{length, drop, replicate}
use lib.Seq.{drop_at}
use Rattle.error.specs.Lent.{over}
use Rattle.error.proofs.OverLaws.{over-is}
use Rattle.pairs.proofs.PairLaws.{length-flat, flat_append, decode-flat}
use Rattle.fsm_sections.specs.declared.FreeSection.{FreeSection}
use Rattle.fsm_sections.specs.Sections.{flat}
use Rattle.fsm_blocks.specs.Reading.{joined}
use Rattle.image.specs.Reading.{counts_of}
use Rattle.fsm_sections.proofs.SectionsLaws.{section_form}
use Rattle.holes_text.specs.Listing.{header, slot_text, slots_text, slots_of, listing_text}

-- a slot with no section has no line
no_lines : (i k : ℕ) (run : List ℕ) → slots_text i (slots_of (replicate k 0) run) ≡ []
unfolding slot_text slots_text slots_of
no_lines i zero run = refl
no_lines i (suc k) run = no_lines (suc i) k run

slots-back : (i k : ℕ) (ls : List (List FreeSection)) (rest : List ℕ)
    → slots_text i (slots_of (map length ls ++ replicate k 0) (flat (joined ls) ++ rest)) ≡ slots_text i ls
unfolding slots_text slots_of joined
slots-back i k [] rest = no_lines i k rest
slots-back i k (l ∷ ls) rest =
    let more = flat (joined ls) ++ rest in
    let counts = map length ls ++ replicate k 0 in
    ap (λ (s : List ℕ). slots_text i (slots_of (length l ∷ counts) s)) (ap (λ (s : List ℕ). s ++ rest) (flat_append section_form l (joined ls)) ∙ append_assoc (flat l) (flat (joined ls)) rest)
    ∙ ap₂ (λ (a : List FreeSection) (b : List ℕ). slot_text i a ++ slots_text (suc i) (slots_of counts b)) (decode-flat section_form l more) (drop_at (flat l) more (2 * length l) (length-flat section_form l))
    ∙ ap (λ (t : List ℕ). slot_text i l ++ t) (slots-back (suc i) k ls rest)

pub listing_back : (ls : List (List FreeSection)) (run : List ℕ) → 2 * length (joined ls) ≤ length run
    → listing_text (slots_of (counts_of ls) (over 0 (flat (joined ls)) run)) ≡ listing_text ls
unfolding listing_text
listing_back ls run h =
    ap (λ (t : List ℕ). header ++ t)
    (ap (λ (s : List ℕ). slots_text 0 (slots_of (counts_of ls) s)) (over-is (flat (joined ls)) run (omega (arith, length-flat section_form (joined ls))))
    ∙ slots-back 0 (12 - length ls) ls (drop (length (flat (joined ls))) run))
