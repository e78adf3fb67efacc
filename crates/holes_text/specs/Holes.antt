-- The text that the program `holes` prints for an image that begins with its message. Assumes nothing.
-- In quotes: document 01's words, from "Checked by hand".
--   image_limit     the bytes of the longest image that is read: "at most 65,536 bytes"
--   section_limit   the sections that are listed: "at most 2,048 sections"
--   text_limit      the bytes of the longest text: 18 of names and 45 for each section listed (the law `text_fits`)
--   at_most         each slot's sections, if there are no more than that; else refusal 14
--   holes_read      each slot's sections, with the refusals of their reading: "above either, 14, the image's length first"
--   text_of         the text of an outcome: the listing, or the refusal; Nothing, which `read_image` cannot answer, has none
--   holes_text      the text for an image
--   holes_written   `holes_text`: the text at the front of the lent bytes, and its length; refusal 14 where they are fewer than it has
use Rattle.std.specs.Prelude.{ℕ, ◌+◌, ◌*◌, List, [], ◌∷◌, ltb, length}
use Rattle.error.specs.declared.Refusal.TheVariants.{OverCapacity}
use Rattle.error.specs.Outcome.{Outcome, answer, nothing, refuse, when, first_of, and_then, sat}
use Rattle.error.specs.Lent.{With, with, over}
use Rattle.fsm_sections.specs.declared.FreeSection.{FreeSection}
use Rattle.fsm_blocks.specs.Reading.{joined}
use Rattle.fsm_blocks.specs.declared.checks.Reading.TheVariants.{Loose}
use Rattle.image.specs.Reading.{read_image}
use Rattle.holes_text.specs.Listing.{listing_text, refused_text}

abbrev pub image_limit : ℕ
image_limit = 65536

abbrev pub section_limit : ℕ
section_limit = 2048

abbrev pub text_limit : ℕ
text_limit = 18 + 45 * section_limit

abbrev pub at_most : ℕ → List (List FreeSection) → Outcome (List (List FreeSection))
at_most limit ls =
    first_of (when (ltb limit (length (joined ls))) (OverCapacity (sat (length (joined ls))) limit) ∷ []) (answer ls)

unfoldable pub holes_read : List ℕ → Outcome (List (List FreeSection))
holes_read image =
    first_of (when (ltb image_limit (length image)) (OverCapacity (length image) image_limit) ∷ [])
    (and_then (read_image Loose 0 image) (at_most section_limit))

abbrev pub text_of : Outcome (List (List FreeSection)) → List ℕ
text_of (answer ls) = listing_text ls
text_of nothing = []
text_of (refuse n vs) = refused_text n

abbrev pub holes_text : List ℕ → List ℕ
holes_text image = text_of (holes_read image)

unfoldable pub holes_written : List ℕ → List ℕ → Outcome (With ℕ (List ℕ))
holes_written image out =
    let text = holes_text image in
    first_of (when (ltb (length out) (length text)) (OverCapacity (length text) (length out)) ∷ [])
    (answer (with (length text) (over 0 text out)))
