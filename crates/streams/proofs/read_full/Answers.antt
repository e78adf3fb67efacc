-- What was read into the rest of the memory stands after its filled front.
use Rattle.std.proofs.Common.{◌≡◌, ℕ, ◌+◌, ◌-◌, ◌≤◌, List, ◌++◌, rules, arith, length, take, slice_range, sym, ap, ◌∙◌, subst, le_refl, drop_at, length-take-le}
use Rattle.std.proofs.lemmas.Slice.{take-put_mid_below}
use Rattle.std.specs.Io.KnownBytes.{Consumes}
use Rattle.std.proofs.KnownBytes.{Consumes-trans}
use Rattle.std.specs.declared.option.Option.{Option}
use borrow.Rule.Slice.PartMut.{put_mid, post_of}
use lib.Seq.{take-add, take-append-le}
use Rattle.streams.proofs.read_full.Goals as goal

take_split : (a b : ℕ) (old new : List ℕ) → a ≤ b → take a new ≡ take a old → take a old ++ slice_range new a b ≡ take b new
take_split a b old new h front =
    let same : a + (b - a) ≡ b = omega arith in
    ap (λ l. l ++ slice_range new a b) (sym front) ∙ sym (take-add a (b - a) new) ∙ ap (λ n. take n new) same

slice_range-put_mid : (a k n : ℕ) (xs ys : List ℕ) → a ≤ length xs → n ≤ length ys → slice_range (put_mid a k xs ys) a (a + n) ≡ take n ys
slice_range-put_mid a k n xs ys within fits =
    let same : (a + n) - a ≡ n = omega arith in
    let after = post_of a k xs in
    ap (take ((a + n) - a)) (drop_at (take a xs) (ys ++ after) a (length-take-le a xs within)) ∙ ap (λ m. take m (ys ++ after)) same ∙ take-append-le n ys after fits

-- a front of `at` bytes and the n bytes that a read put after it
filled : (a b c : Option (List ℕ)) (at n : ℕ) (xs ys : List ℕ) → at ≤ length xs → n ≤ length ys → Consumes a b (take at xs) → Consumes b c (take n ys)
    → Consumes a c (take (at + n) (put_mid at (length xs - at) xs ys))
filled a b c at n xs ys within fits before read =
    let room = length xs - at in
    let part = slice_range-put_mid at room n xs ys within fits in
    let joined = take_split at (at + n) xs (put_mid at room xs ys) (omega arith) (take-put_mid_below _ _ _ _ _ (le_refl _) within) in
    subst (Consumes a c) (ap (λ l. take at xs ++ l) (sym part) ∙ joined) (Consumes-trans a b c _ _ before read)

-- a read that gave no byte leaves the front
filled-none : (a b c : Option (List ℕ)) (at n : ℕ) (xs ys : List ℕ) → n ≡ 0 → at ≤ length xs → n ≤ length ys → Consumes a b (take at xs) → Consumes b c (take n ys)
    → Consumes a c (take at (put_mid at (length xs - at) xs ys))
filled-none a b c at n xs ys none within fits before read =
    let same : at + n ≡ at = omega arith in
    subst (λ k. Consumes a c (take k (put_mid at (length xs - at) xs ys))) same (filled a b c at n xs ys within fits before read)

pub loop-done-preserved : goal.loop-done-preserved
loop-done-preserved g c =
    (search rules, filled _ _ _ c.loop-done.done c.in_ok-n.n c.loop-done.memory c.read.new.buf c.loop-done.invariant.0 c.in_ok-n.ensures.bound.0 c.loop-done.invariant.1 c.in_ok-n.ensures.bytes.0)

pub returns-after-loop-done-clause-bytes : goal.returns-after-loop-done-clause-bytes
returns-after-loop-done-clause-bytes g c = c.loop-done.invariant.1

pub returns-then-n-eq0-clause-bytes : goal.returns-then-n-eq0-clause-bytes
returns-then-n-eq0-clause-bytes g c =
    filled-none _ _ _ c.loop-done.done c.in_ok-n.n c.loop-done.memory c.read.new.buf c.if-n-eq0.true c.loop-done.invariant.0 c.in_ok-n.ensures.bound.0 c.loop-done.invariant.1 c.in_ok-n.ensures.bytes.0
