-- Stores of single bytes into an image, and the stores of a save in their order. Assumes nothing.
-- In quotes: document 01's words, from "The save" or from the heading named.
--   Store, store a byte and the place in the image that it goes to; the store of a place and a byte
--   no_store     what stands for a store where a list has none
--   make         the image with a store made ("a byte being stored is old or new, never junk")
--   make_all     the image with stores made, one after another
--   after        what a cut leaves: the image with "the first k stores" made "and nothing of the others"
--   ascending    the stores of bytes one after another, from a place up
--   but          stores without number i of them
--   persist      which of them is the persist byte: number 2, after version and strategy ("The message")
--   save_stores  the stores of a save: "0 to the persist byte; blocks ascending; message bytes but persist ascending; 1 to persist"
use Rattle.std.specs.Prelude.{ℕ, suc, ◌+◌, List, [], ◌∷◌, ◌++◌, take, drop, set}
use Rattle.save_step.specs.declared.Store.{Store}

abbrev pub store : ℕ → ℕ → Store
store p b = record { place = p; byte = b }

abbrev pub no_store : Store
no_store = store 0 0

abbrev pub make : Store → List ℕ → List ℕ
make s image = set image s.place s.byte

unfoldable pub make_all : List ℕ → List Store → List ℕ
make_all image [] = image
make_all image (s ∷ ss) = make_all (make s image) ss

abbrev pub after : ℕ → List ℕ → List Store → List ℕ
after k image ss = make_all image (take k ss)

unfoldable pub ascending : ℕ → List ℕ → List Store
ascending p [] = []
ascending p (b ∷ bs) = store p b ∷ ascending (suc p) bs

abbrev pub but : ℕ → List Store → List Store
but i ss = take i ss ++ drop (suc i) ss

abbrev pub persist : ℕ
persist = 2

unfoldable pub save_stores : ℕ → ℕ → List ℕ → List ℕ → List Store
save_stores place start blocks message =
    (store (place + persist) 0 ∷ [])
    ++ (ascending start blocks
    ++ (but persist (ascending place message)
    ++ (store (place + persist) 1 ∷ [])))
